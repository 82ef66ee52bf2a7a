use Rattle.std.proofs.Common.{◌≡◌, [], ◌∷◌, refl, ◌∙◌, arith}
use Rattle.ms_arena.specs.declared.node.Ref.TheVariants.{Inner}
use Rattle.ms_diagram.specs.Hash.{hash_of, mixed}
use Rattle.ms_diagram.specs.inner.Listed.{bucket_of}
use Rattle.ms_diagram.proofs.examples.worked_lists.Goals as goal

pub returns-clause-hash_of_one : goal.returns-clause-hash_of_one
unfolding mixed
returns-clause-hash_of_one c = refl

pub returns-clause-hash_of_two : goal.returns-clause-hash_of_two
unfolding mixed
returns-clause-hash_of_two c = refl

pub returns-clause-listed : goal.returns-clause-listed
unfolding mixed
returns-clause-listed c = record { ordered = omega arith; within = omega arith; hashed = refl }

its_own : hash_of (Inner 7 ∷ []) ≡ 331187378
unfolding mixed
its_own = refl

pub returns-clause-wrong_hash : goal.returns-clause-wrong_hash
returns-clause-wrong_hash c is = let same = is.hashed ∙ its_own in omega (arith, same)

pub returns-clause-bucket : goal.returns-clause-bucket
unfolding bucket_of
returns-clause-bucket c = refl

pub returns-clause-behind : goal.returns-clause-behind
unfolding mixed
returns-clause-behind c = refl
