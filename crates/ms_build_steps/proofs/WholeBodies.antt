-- The body of a quantifier, over all its variables and the bound one, is measured by the full content of the body's formula.
use Rattle.std.proofs.Common.{◌≡◌, ℕ, ⊎_elim, List, length, slice_get, Some, sym, subst}
use Rattle.std.specs.List.Sorted.{IsStrictlyIncreasing}
use Rattle.ms_build.specs.Built.{child_meaning}
use Rattle.ms_build.specs.Short.{IsLeastBody}
use Rattle.ms_build.specs.Built.{IsBodyOf}
use Rattle.ms_build.specs.declared.plan.Plan.{Plan}
use Rattle.ms_build_parts.specs.Laws.{IsMeasuredBy}
use Rattle.ms_build_parts.specs.SaySame.{SaySame}
use Rattle.ms_dag.specs.Dag.{IsChild}
use Rattle.ms_dag.specs.Unfolds.{ReadAs, Unfolds}
use Rattle.ms_dag.specs.declared.node.Child.{Child}
use Rattle.ms_dag_steps.specs.NodeSteps.{ChildOccurs}
use Rattle.ms_dag_steps.specs.Occurrences.{variables_named, whole_formula}
use Rattle.ms_dfa.specs.Automaton.{IsAutomaton}
use Rattle.ms_dfa.specs.Values.{HasValues}
use Rattle.ms_logic.specs.Truth.{Import}
use Rattle.ms_logic.specs.declared.mode.Order.{Order}
use Rattle.ms_logic_core.specs.Calls.{Calls}
use Rattle.ms_logic_core.specs.CoreForm.{CoreForm}
use Rattle.ms_logic_core.specs.declared.core_formula.Lowered.{Lowered}
use Rattle.ms_logic_core.specs.declared.core_formula.Root.{Root}
use Rattle.ms_logic_measures.specs.FullContent.{IsFullContent}
use Rattle.ms_logic_starts.specs.ContentStarts.{HaveDistinctNumbers}
use Rattle.ms_logic_starts.proofs.RisingLemmas.{rising_distinct}
use Rattle.ms_logic_words.specs.Content.{Content}
use Rattle.ms_logic_words.specs.declared.sign.Sign.{Sign}
use Rattle.ms_logic_words.specs.Residual.{AreReached, HaveDifferentResiduals}
use Rattle.ms_build_steps.specs.Laws.{IsPlanned}
use Rattle.ms_build_steps.proofs.ManyMeanings.{child_means}
use Rattle.ms_build_steps.proofs.NodeSigns.{say_same}
use Rattle.ms_build_steps.proofs.Operands.{child_orders, named_rising}
use Rattle.ms_build_steps.proofs.Ordered.{ordered_in_root}
use Rattle.ms_rename.proofs.LeastLemmas.{parts_differ, parts_reached}

module _ (imports : List Import) (calls : Calls) (lowered : Lowered) (plan : Plan) (is : IsPlanned imports calls lowered plan) (number : ℕ) (root : Root) (is_root : slice_get lowered.roots number ≡ Some root) (names : List ℕ)
    (child : Child) (f : CoreForm) (at : ChildOccurs (whole_formula calls root) plan.dag.now.entries names f child) (i : ℕ) (outer : List Order) (is_child : IsChild plan.dag.now.entries i outer child)
    (reads : ReadAs (λ given j. Unfolds plan.dag.now.entries f given j) names i child) (rising : IsStrictlyIncreasing names) (long : length names ≡ length outer)
    (whole : Content Sign) (automaton : IsAutomaton whole) (is_least : IsLeastBody plan child whole) (is_body : IsBodyOf plan outer child whole)
    (content : Content Sign) (full : IsFullContent imports plan.mode (variables_named names outer) f content) where
  part_reached : AreReached is_least.0
  part_reached = parts_reached is_least.0 is_least.1.least is_least.1.parts
      (child_orders imports calls lowered plan is number root is_root names child f at i outer is_child is_least.0 is_least.1) is_least.1.is_least.2.reached

  part_differ : HaveDifferentResiduals is_least.0
  part_differ = parts_differ is_least.0 is_least.1.least is_least.1.parts
      (child_orders imports calls lowered plan is number root is_root names child f at i outer is_child is_least.0 is_least.1) is_least.1.is_least.2.differ

  whole_says : SaySame whole content
  whole_says =
      say_same imports plan.mode f outer names long rising whole content (child_meaning imports plan.dag.now.entries child) is_body.mode_is is_body.variables_are
      (subst (λ us. HasValues (child_meaning us plan.dag.now.entries child) whole) is.imports_are is_body.values) full
      (child_means imports plan.dag.now.entries lowered.orders names i f child (ordered_in_root imports calls lowered is.lowered_is number root is_root f at.subformula) reads)

  pub whole_measured : IsMeasuredBy whole content
  whole_measured = record {
    ordered = automaton.ordered;
    closed = automaton.closed;
    own = rising_distinct whole.variables automaton.rising;
    reached = ⊎_elim (λ same. subst AreReached (sym same) part_reached) (λ few. few.reached) is_least.2;
    differ = ⊎_elim (λ same. subst HaveDifferentResiduals (sym same) part_differ) (λ few. few.differ) is_least.2;
    is_canonical = full.canonical;
    distinct = subst HaveDistinctNumbers (sym full.same_variables) (rising_distinct (variables_named names outer) (named_rising names outer rising));
    same = whole_says;
  }
