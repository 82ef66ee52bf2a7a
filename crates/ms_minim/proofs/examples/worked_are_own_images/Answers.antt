use Rattle.std.proofs.Common.{◌≡◌, [], ◌∷◌, refl, ap, arith}
use Rattle.ms_arena.specs.declared.node.Ref.TheVariants.{Inner}
use Rattle.ms_arena.specs.Halves.{size_of}
use Rattle.ms_minim.proofs.DiscreteLemmas.{AreOwnImages-none, AreOwnImages-more}
use Rattle.ms_minim.proofs.examples.worked_are_own_images.Goals as goal

pub returns-clause-none : goal.returns-clause-none
returns-clause-none c = AreOwnImages-none

pub returns-clause-own : goal.returns-clause-own
returns-clause-own c = AreOwnImages-more (Inner 0 ∷ []) 1 (AreOwnImages-more [] 0 AreOwnImages-none)

pub returns-clause-turned_round : goal.returns-clause-turned_round
returns-clause-turned_round c are = let never : 2 ≡ 1 = ap size_of (are.own 0 (Inner 1) refl) in omega (arith, never)

pub returns-clause-too_few : goal.returns-clause-too_few
returns-clause-too_few c are = let never : 1 ≡ 2 = are.long in omega (arith, never)
