use Rattle.ms_cert.proofs.ListLemmas.{all-held}
use Rattle.ms_cert.proofs.WholeLemmas.{certified-whole}
use Rattle.ms_cert.proofs.certifying.certificate.Goals as goal

pub returns-clause-certified : goal.returns-clause-certified
returns-clause-certified c = record {
  words = c.in_ok-words.ensures.words;
  lengths = c.in_ok-words.ensures.lengths;
  letters = all-held _ c.in_ok-tree.tree c.in_ok-tree.ensures.over;
  tree = c.in_ok-tree.ensures.apart;
}

pub returns-clause-whole : goal.returns-clause-whole
returns-clause-whole c = certified-whole c.args.plain.now _ c.requires.file (returns-clause-certified c)
