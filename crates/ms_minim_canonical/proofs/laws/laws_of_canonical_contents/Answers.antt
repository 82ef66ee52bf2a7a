use Rattle.ms_minim_canonical.proofs.EqualityLemmas.{canonical_equal}
use Rattle.ms_minim_canonical.proofs.FewestLemmas.{canonical_fewest}
use Rattle.ms_minim_canonical.proofs.laws.laws_of_canonical_contents.Goals as goal

pub returns-clause-equal : goal.returns-clause-equal
returns-clause-equal g c = canonical_equal _

pub returns-clause-fewest : goal.returns-clause-fewest
returns-clause-fewest g c = canonical_fewest _
