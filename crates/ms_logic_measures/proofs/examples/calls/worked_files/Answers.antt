use Rattle.std.proofs.Common.{◌≡◌, zero, suc, [], ◌∷◌, slice_get, unwrap_or, None, false, Contains, refl, arith}
use Rattle.ms_arena.specs.Diagram.{leaf_of}
use Rattle.ms_logic.specs.Assignment.{Variable}
use Rattle.ms_logic.specs.inner.Examples.{set_P_and_Q}
use Rattle.ms_logic.specs.Truth.{answer_yes, answer_no}
use Rattle.ms_logic.specs.declared.assignment.Value.TheVariants.{Truth, Set}
use Rattle.ms_logic_measures.specs.inner.MeasureExamples.{set_Q_and_P}
use Rattle.ms_logic_measures.proofs.SameRuns.{answer-turned}
use Rattle.ms_logic_measures.proofs.examples.calls.worked_files.Goals as goal

-- the same two variables in both orders
turned_has : (v : Variable) → Contains set_P_and_Q v → Contains set_Q_and_P v
turned_has v (zero, below, same) = (1, omega arith, same)
turned_has v (suc zero, below, same) = (0, omega arith, same)
turned_has v (suc (suc place), below, same) = absurd (omega (arith, below))

straight_has : (v : Variable) → Contains set_Q_and_P v → Contains set_P_and_Q v
straight_has v (zero, below, same) = (1, omega arith, same)
straight_has v (suc zero, below, same) = (0, omega arith, same)
straight_has v (suc (suc place), below, same) = absurd (omega (arith, below))

pub returns-clause-file : goal.returns-clause-file
returns-clause-file c = record {
  same_mode = refl;
  variables = λ v. (straight_has v, turned_has v);
  count = refl;
  answers = λ universe values is are. answer-turned universe (unwrap_or (slice_get values 1) (Truth false)) (unwrap_or (slice_get values 0) (Truth false));
}

pub returns-clause-other_order : goal.returns-clause-other_order
unfolding leaf_of
returns-clause-other_order c =
    λ is. let same : answer_yes ≡ answer_no = is.answers None (Set (0 ∷ []) ∷ Set [] ∷ []) refl (((tt, tt), (tt, tt)), ((tt, tt), tt)) in grind (arith, same)
