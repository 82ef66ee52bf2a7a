-- The examples that are worked by hand.
use Rattle.std.proofs.Common.{◌≡◌, ℕ, inl, inr, List, Some, None, refl, arith}
use Rattle.std.specs.Prelude.{codes}
use Rattle.ms_edge.specs.Counts.{Rose}
use Rattle.ms_edge.specs.Files.{Holding, between}
use Rattle.ms_edge.specs.declared.refusal.Refusal.TheVariants.{FileMissing, Memory, ReadFault}
use Rattle.ms_include_laws.specs.inner.loads.Examples.{empty_after, silent}
use Rattle.ms_include_laws.specs.Told.{IsFromOutside, TellSame}

pub same : TellSame (between (empty_after 0) (empty_after 3)) (between (empty_after 3) (empty_after 3))
same = record { holding = λ name. None; one_told = refl; other_told = refl }

nothing_told : (holding : Holding) → None ≡ Some holding → ⊥
nothing_told holding told = cc

pub told_by_none : TellSame (between silent silent) (between silent silent) → ⊥
told_by_none is = nothing_told is.holding is.one_told

pub failed : IsFromOutside (between (empty_after 2) (empty_after 3)) (ReadFault (codes "a"))
failed = inr (codes "a", refl, inl (omega arith))

did_not_rise : Rose 2 2 → ⊥
did_not_rise (inl less) = omega (arith, less)
did_not_rise (inr last) = omega (arith, last)

no_memory : (name : List ℕ) → ReadFault name ≡ Memory → ⊥
no_memory name is = cc

not_missing_memory : FileMissing None (codes "a") ≡ Memory → ⊥
not_missing_memory is = cc

not_missing_fault : (name : List ℕ) → FileMissing None (codes "a") ≡ ReadFault name → ⊥
not_missing_fault name is = cc

pub no_failure : IsFromOutside (between (empty_after 2) (empty_after 2)) (ReadFault (codes "a")) → ⊥
no_failure (inl memory) = no_memory (codes "a") memory
no_failure (inr (name, is, rose)) = did_not_rise rose

pub missing : IsFromOutside (between (empty_after 2) (empty_after 3)) (FileMissing None (codes "a")) → ⊥
missing (inl memory) = not_missing_memory memory
missing (inr (name, is, rose)) = not_missing_fault name is
