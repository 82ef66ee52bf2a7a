use Rattle.std.proofs.Common.{zero, suc, ◌<◌, [], ◌∷◌, refl, inl, inr, arith}
use Rattle.std.proofs.lemmas.List.Elements.{All-cons, All-nil}
use Rattle.std.specs.List.Sorted.{IsStrictlyIncreasing}
use Rattle.ms_logic_core.specs.declared.core_formula.Basic.TheVariants.{Less}
use Rattle.ms_dag_steps.proofs.examples.worked_occurrences.Goals as goal

names_rise : IsStrictlyIncreasing (5 ∷ 9 ∷ [])
names_rise zero below = omega arith
names_rise (suc k) below = absurd (omega (arith, below))

pub returns-clause-occurs : goal.returns-clause-occurs
returns-clause-occurs c = record {
  subformula = inr (inr (inl refl));
  rising = names_rise;
  own = refl;
  unfolds = (Less 0 1, refl, All-cons (λ j. j < 2) 0 (1 ∷ []) (omega arith) (All-cons (λ j. j < 2) 1 [] (omega arith) (All-nil (λ j. j < 2))), refl);
}
