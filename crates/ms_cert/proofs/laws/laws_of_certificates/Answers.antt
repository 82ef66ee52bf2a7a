use Rattle.ms_dfa.specs.Files.{content_of_file}
use Rattle.ms_cert.proofs.FewestLemmas.{fewest-states}
use Rattle.ms_cert.proofs.PartsLemmas.{one_cert}
use Rattle.ms_cert.proofs.ShortestLemmas.{word-shortest}
use Rattle.ms_cert.proofs.laws.laws_of_certificates.Goals as goal

pub returns-clause-fewest : goal.returns-clause-fewest
returns-clause-fewest c = fewest-states

pub returns-clause-shortest : goal.returns-clause-shortest
returns-clause-shortest c = λ plain cert file certified state word other held over last.
    word-shortest (content_of_file plain) file.content cert.words certified.words certified.lengths state word other held over last

pub returns-clause-one : goal.returns-clause-one
returns-clause-one c = one_cert
