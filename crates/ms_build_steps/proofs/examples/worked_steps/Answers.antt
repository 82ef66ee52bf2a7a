use Rattle.std.proofs.Common.{zero, suc, [], ◌∷◌, Contains, refl, sym, subst, arith}
use Rattle.ms_logic.specs.declared.mode.Mode.TheVariants.{Ws1s}
use Rattle.ms_logic_core.specs.declared.core_formula.Basic.TheVariants.{Sub}
use Rattle.ms_logic_measures.specs.Steps.{Step, relation}
use Rattle.ms_build_steps.specs.Kinds.{IsBelowKind}
use Rattle.ms_build_steps.proofs.SmallBudgets.{relation_below, relation_not_below}
use Rattle.ms_build_steps.proofs.examples.worked_steps.Goals as goal

pub returns-clause-below : goal.returns-clause-below
returns-clause-below c = (relation (Sub 0 1), (0, omega arith, refl), relation_below)

not_below : (step : Step) → Contains (relation (Sub 0 1) ∷ []) step → IsBelowKind [] Ws1s step 9216 → ⊥
not_below step (zero, within, same) is = relation_not_below (subst (λ s. IsBelowKind [] Ws1s s 9216) (sym same) is)
not_below step (suc k, within, same) is = absurd (omega (arith, within))

pub returns-clause-not_below : goal.returns-clause-not_below
returns-clause-not_below c is = not_below is.0 is.1 is.2
