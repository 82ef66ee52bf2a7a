-- A root lacks nodes only below each budget of its step.
use Rattle.std.proofs.Common.{◌≡◌, ℕ, ◌<◌, inl, inr, Contains, List, [], ◌∷◌, length, slice_get, Some, refl, sym, ap, subst, ◌∙◌}
use Rattle.std.specs.Option.{option_map}
use Rattle.std.proofs.lemmas.List.{length-map}
use Rattle.std.proofs.lemmas.Option.{same_Some}
use Rattle.ms_build.specs.Roots.{named}
use Rattle.ms_build.specs.Short.{ChildLacks}
use Rattle.ms_build.specs.declared.plan.Plan.{Plan}
use Rattle.ms_build.proofs.RootLemmas.{named-rising, orders_for, read_at_first, root-among, roots_read}
use Rattle.ms_build.specs.Built.{child_meaning, entries_of, imports_for}
use Rattle.ms_dag.specs.Share.{IsRootOf}
use Rattle.ms_dag.specs.declared.dag.SharedRoot.{SharedRoot}
use Rattle.ms_dag.specs.declared.node.Entry.{Entry}
use Rattle.ms_dag_steps.specs.Occurrences.{Occurs, whole_formula}
use Rattle.ms_dag_steps.proofs.SubformulaLemmas.{itself}
use Rattle.ms_diagram.proofs.ListLemmas.{Contains-first, Contains-rest}
use Rattle.ms_logic.specs.Assignment.{Variable}
use Rattle.ms_logic.specs.Lists.{IsAmong}
use Rattle.ms_logic.specs.Truth.{Import}
use Rattle.ms_logic_core.specs.Calls.{Calls}
use Rattle.ms_logic_core.specs.Orders.{order_at}
use Rattle.ms_logic_core.specs.declared.core_formula.Lowered.{Lowered}
use Rattle.ms_logic_core.specs.declared.core_formula.Root.{Root}
use Rattle.ms_logic_measures.specs.Budgets.{IsWideningMeasure, budget}
use Rattle.ms_rename.specs.Renamed.{renamed}
use Rattle.ms_build_steps.specs.Kinds.{widening}
use Rattle.ms_build_steps.specs.Laws.{IsPlanned, RootsAreBelowTheirSteps}
use Rattle.ms_build_steps.proofs.Lists.{zip_at}
use Rattle.ms_build_steps.proofs.Operands.{named_side, variables_are}
use Rattle.ms_build_steps.proofs.Widenings.{lacking_widenings_are_below}

-- the numbers of renamed variables are those of the map
renamed_only : (names : List ℕ) (vs : List Variable) (v : Variable) → IsAmong (renamed names vs) v → Contains names v.name
renamed_only [] vs v among = absurd among
renamed_only (x ∷ names) [] v among = absurd among
renamed_only (x ∷ names) (w ∷ vs) v (inl same) = subst (Contains (x ∷ names)) (ap (λ (u : Variable). u.name) same) (Contains-first x names)
renamed_only (x ∷ names) (w ∷ vs) v (inr there) = Contains-rest x names v.name (renamed_only names vs v there)

module _ (imports : List Import) (calls : Calls) (lowered : Lowered) (plan : Plan) (is : IsPlanned imports calls lowered plan) (number : ℕ) (root : Root) (is_root : slice_get lowered.roots number ≡ Some root)
    (shared : SharedRoot) (held : slice_get plan.dag.now.roots number ≡ Some shared) (as_root : IsRootOf calls lowered.orders plan.dag.now.entries root shared)
    (lacks : ChildLacks plan shared.child (named plan.dag.now.orders shared.variables)) where
  abbrev entries : List Entry
  entries = plan.dag.now.entries

  -- its node occurs as its formula, under the numbers of the source
  as_long : length shared.child.map ≡ length as_root.ordered.0.orders
  as_long = sym (length-map shared.child.map (order_at lowered.orders)) ∙ ap length as_root.ordered.2

  occurs : Occurs (whole_formula calls root) entries (whole_formula calls root) shared.child.map shared.child.node
  occurs = record {
    subformula = itself (whole_formula calls root);
    rising = as_root.rising;
    own = ap (option_map length) (ap (option_map (λ (e : Entry). e.orders)) as_root.ordered.1) ∙ ap Some (sym as_long);
    unfolds = as_root.unfolds;
  }

  abbrev wanted : List Variable
  wanted = named plan.dag.now.orders shared.variables

  among : (v : Variable) → IsAmong lacks.part.variables v → IsAmong wanted v
  among =
      let reads = roots_read imports calls lowered plan.dag.now is.lowered_is is.graph number shared held in
      root-among plan.mode plan.dag.now.orders shared.child shared.variables reads.1 (child_meaning (imports_for plan) (entries_of plan) shared.child) lacks.part
      (lacks.is_part.brought (orders_for plan.dag.now.orders shared.child.map) (read_at_first plan.dag.now.orders entries shared.child reads.0))
      (λ v there. renamed_only shared.child.map lacks.is_part.least.variables v
      (subst (λ vs. IsAmong vs v) (variables_are imports calls lowered plan is number root is_root shared.child.map shared.child (whole_formula calls root) occurs as_root.rising refl lacks.part lacks.is_part) there))

  same_wanted : wanted ≡ named lowered.orders root.variables
  same_wanted = ap (λ os. named os shared.variables) is.graph.orders_are ∙ ap (named lowered.orders) as_root.variables

  root_below : (m r : ℕ) → IsWideningMeasure imports plan.mode (whole_formula calls root) (named lowered.orders root.variables) m r → plan.limit < budget m r
  root_below m r measure =
      let rises = named-rising plan.dag.now.orders shared.variables (roots_read imports calls lowered plan.dag.now is.lowered_is is.graph number shared held).1.rising in
      lacking_widenings_are_below imports plan shared.child (whole_formula calls root) wanted wanted rises rises refl lacks among
      (named_side imports calls lowered plan is number root is_root shared.child.map shared.child (whole_formula calls root) occurs as_root.rising refl lacks.part lacks.is_part) m r
      (subst (λ vs. IsWideningMeasure imports plan.mode (whole_formula calls root) vs m r) (sym same_wanted) measure)

pub roots_are_below_their_steps : RootsAreBelowTheirSteps
roots_are_below_their_steps imports calls lowered plan number root is is_root lacks =
    let found = zip_at (IsRootOf calls lowered.orders plan.dag.now.entries) lowered.roots plan.dag.now.roots is.graph.roots number lacks.0 lacks.1 in
    let as_root = subst (λ (r : Root). IsRootOf calls lowered.orders plan.dag.now.entries r lacks.0) (same_Some found.0 root (sym found.1 ∙ is_root)) found.2 in
    record {
      kind = widening;
      has = Contains-first widening [];
      below = λ files m r measure. root_below imports calls lowered plan is number root is_root lacks.0 lacks.1 as_root lacks.2 m r measure;
    }
