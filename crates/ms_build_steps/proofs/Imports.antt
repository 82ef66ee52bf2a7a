-- An import lacks nodes only below the budget of its step.
use Rattle.std.proofs.Common.{◌≡◌, ℕ, ◌+◌, ◌<◌, inl, inr, ⊎_elim, List, [], ◌∷◌, length, map, slice_get, slice_index, Some, refl, sym, ap, ap₂, subst, ◌∙◌, arith}
use Rattle.std.specs.Option.{option_map}
use Rattle.std.specs.List.Sorted.{IsStrictlyIncreasing}
use Rattle.std.proofs.lemmas.List.{length-map}
use Rattle.std.proofs.lemmas.List.FromFn.{get_or-range_with_len, length-range_with_len}
use Rattle.std.proofs.lemmas.Option.{same_Some, slice_get-map, slice_get_within}
use Rattle.ms_build.specs.Built.{IsWithin, imports_of, import_of}
use Rattle.ms_build.specs.Short.{FormLacks, ImportLacks, IsFewestOf}
use Rattle.ms_build.proofs.ImportLemmas.{import_right}
use Rattle.ms_build.proofs.PlaceLemmas.{length-by_place, own-among}
use Rattle.ms_build.proofs.WholeLemmas.{rising-by_place}
use Rattle.ms_build_parts.specs.Laws.{IsMeasuredBy}
use Rattle.ms_build_parts.specs.SaySame.{SaySame}
use Rattle.ms_dag.specs.Places.{AreAt, AreBelow, picked}
use Rattle.ms_dag.specs.Values.{read_through}
use Rattle.ms_dag.specs.declared.node.DagNode.TheVariants as nodes
use Rattle.ms_dag.specs.declared.node.Entry.{Entry}
use Rattle.ms_dag.proofs.PlaceLemmas.{AreAt-length, AreAt-within}
use Rattle.ms_dag_steps.specs.NodeSteps.{HasItsSteps}
use Rattle.ms_dag_steps.specs.Occurrences.{whole_formula}
use Rattle.ms_dag_steps.proofs.StepLemmas.{nodes_have_their_steps}
use Rattle.ms_dfa.specs.Automaton.{IsAutomaton}
use Rattle.ms_dfa.specs.Values.{HasValues, core_meaning, own_meaning}
use Rattle.ms_dfa.proofs.OwnMeaningLemmas.{HasValues-own}
use Rattle.ms_logic.specs.Assignment.{Env, IsAssignment, Variable}
use Rattle.ms_logic.specs.FiniteSet.{numbers_below}
use Rattle.ms_logic.specs.Lists.{IsAmong}
use Rattle.ms_logic.specs.Truth.{Answer, Import}
use Rattle.ms_logic.specs.declared.mode.Mode.{Mode}
use Rattle.ms_logic.specs.declared.mode.Order.{Order}
use Rattle.ms_logic_core.specs.CoreForm.{imported}
use Rattle.ms_logic_core.specs.Operands.{variable}
use Rattle.ms_logic_core.specs.Spread.{variables_of_import}
use Rattle.ms_logic_measures.specs.Budgets.{IsMeasureOf, budget, pair_variables}
use Rattle.ms_logic_measures.specs.FullContent.{IsFullContent}
use Rattle.ms_logic_measures.specs.Steps.{Step, import_at}
use Rattle.ms_logic_starts.specs.ContentStarts.{HaveDistinctNumbers}
use Rattle.ms_logic_starts.proofs.RisingLemmas.{rising_distinct}
use Rattle.ms_logic_words.specs.Content.{Content, variables_by_place, variables_from}
use Rattle.ms_logic_words.specs.declared.sign.Sign.{Sign}
use Rattle.ms_rename.specs.Renamed.{NeedsAtLeast, renamed_places}
use Rattle.ms_rename.proofs.RenamedLemmas.{HasValues-same}
use Rattle.ms_rename_parts.proofs.RenameParts.{renamings_are_within_budget}
use Rattle.ms_build_steps.specs.Kinds.{IsBelowOwnStep}
use Rattle.ms_build_steps.specs.Laws.{ImportsAreBelowTheirSteps}
use Rattle.ms_build_steps.proofs.StepKinds.{below_itself, itself_there}
use Rattle.ms_build_steps.proofs.Lists.{all_at}
use Rattle.ms_build_steps.proofs.Moved.{places_under_names}
use Rattle.ms_build_steps.proofs.NodeSigns.{says_the_same}
use Rattle.ms_build_steps.proofs.SmallLimits.{small_limits_are_below_steps}
use Rattle.ms_build_steps.proofs.Through.{AreNamed, through}

-- variables by their places have the orders that are given
pub orders_from : (base : ℕ) (os : List Order) → map (λ (v : Variable). v.order) (variables_from base os) ≡ os
orders_from base [] = refl
orders_from base (o ∷ os) = ap (λ (ps : List Order). o ∷ ps) (orders_from (base + 1) os)

-- the numbers below a count are the names of themselves
own_number : (count j : ℕ) → j < count → slice_index (numbers_below count) j ≡ j
own_number count j less = get_or-range_with_len 0 count j 0 less ∙ (let same : 0 + j ≡ j = omega arith in same)

numbers_long : (count : ℕ) → length (numbers_below count) ≡ count
numbers_long count = length-range_with_len 0 count

numbers_rise : (count : ℕ) → IsStrictlyIncreasing (numbers_below count)
numbers_rise count k within =
    let long = numbers_long count in
    let first = own_number count k (omega (arith, within, long)) in
    let second = own_number count (k + 1) (omega (arith, within, long)) in
    omega (arith, first, second)

through_numbers : (count : ℕ) (vs : List Variable) → ((v : Variable) → IsAmong vs v → v.name < count) → through (numbers_below count) vs ≡ vs
through_numbers count [] below = refl
through_numbers count (v ∷ vs) below =
    ap₂ (λ (w : Variable) (ws : List Variable). w ∷ ws) (ap (λ x. variable x v.order) (own_number count v.name (below v (inl refl))))
    (through_numbers count vs (λ w among. below w (inr among)))

-- an automaton of fewest states with the signs of a lent one
module _ (contents : List (Content Sign)) (mode : Mode) (import : ℕ) (content few : Content Sign) (here : slice_get contents import ≡ Some content)
    (automaton : IsAutomaton content) (mode_is : content.mode ≡ mode)
    (given : List Order) (variables_are : content.variables ≡ variables_by_place given) (fewest : IsFewestOf content few) where
  abbrev imports : List Import
  imports = imports_of contents

  abbrev count : ℕ
  count = length (pair_variables imports import)

  abbrev numbers : List ℕ
  numbers = numbers_below count

  abbrev own : List Variable
  own = variables_by_place given

  few_variables : few.variables ≡ own
  few_variables = fewest.variables ∙ variables_are

  pairs_are : pair_variables imports import ≡ own
  pairs_are =
      ap (λ found. variables_by_place (map (λ (v : Variable). v.order) (variables_of_import found)))
      (slice_get-map import_of contents import ∙ ap (option_map import_of) here)
      ∙ ap (λ vs. variables_by_place (map (λ (v : Variable). v.order) vs)) variables_are ∙ ap variables_by_place (orders_from 0 given)

  count_is : count ≡ length given
  count_is = ap length pairs_are ∙ length-by_place 0 given

  below_count : (v : Variable) → IsAmong own v → v.name < count
  below_count v among =
      let less = slice_get_within given v.name v.order (own-among given v among) in
      let same = count_is in
      omega (arith, less, same)

  are_named : AreNamed numbers own
  are_named v among =
      let less = below_count v among in
      let long = numbers_long count in
      omega (arith, less, long)

  numbers_given : length numbers ≡ length given
  numbers_given = numbers_long count ∙ count_is

  -- the sign of the lent automaton, at assignments of its variables
  abbrev lent : Env → Sign → Type 0
  lent e sign = IsAssignment content.mode content.variables e × own_meaning content e sign

  lent_values : HasValues lent content
  lent_values =
      let values = HasValues-own content automaton in
      record {
        right = λ word e assigned encodes. let found = values.right word e assigned encodes in (found.0, found.1, (assigned, found.2));
        outside = values.outside;
      }

  few_values : HasValues lent few
  few_values = HasValues-same lent content few fewest.mode_is fewest.variables fewest.signs lent_values

  means : (c : Env) (sign : Sign) → lent (read_through numbers c) sign → core_meaning imports (imported import numbers) c sign
  means c sign is = import_right contents import content here automaton given variables_are numbers numbers_given c is.0 sign is.1

  module _ (measure : Content Sign) (full : IsFullContent imports mode (pair_variables imports import) (imported import numbers) measure) where
    full_own : IsFullContent imports mode (through numbers own) (imported import numbers) measure
    full_own = subst (λ vs. IsFullContent imports mode vs (imported import numbers) measure) (pairs_are ∙ sym (through_numbers count own below_count)) full

    says : SaySame few measure
    says =
        says_the_same imports mode (imported import numbers) own numbers are_named (numbers_rise count) few measure lent (fewest.mode_is ∙ mode_is) few_variables few_values full_own means

    measured : IsMeasuredBy few measure
    measured = record {
      ordered = fewest.automaton.ordered;
      closed = fewest.automaton.closed;
      own = rising_distinct few.variables fewest.automaton.rising;
      reached = fewest.least.reached;
      differ = fewest.least.differ;
      is_canonical = full.canonical;
      distinct = subst HaveDistinctNumbers (sym (full.same_variables ∙ pairs_are)) (rising_distinct own (rising-by_place 0 given));
      same = says;
    }

  -- what it needs once it is renamed is below each budget of the import at these variables
  below_budget : (orders : List Order) (names xs : List ℕ) → IsStrictlyIncreasing names → length names ≡ length orders → AreAt orders xs given → (limit : ℕ)
      → NeedsAtLeast limit few (renamed_places xs few.variables) → (files : List (Content Answer)) (m r : ℕ)
      → IsMeasureOf imports mode files (import_at import (picked names xs)) m r → limit < budget m r
  below_budget orders names xs rising long at limit needs files m r measure =
      let same_long = length-map xs (slice_index names) ∙ AreAt-length orders xs given at ∙ sym (ap length few_variables ∙ length-by_place 0 given) in
      let within = subst (λ n. AreBelow n xs) (sym long) (AreAt-within orders xs given at) in
      renamings_are_within_budget few measure.0 (picked names xs) same_long (measured measure.0 measure.1) limit
      (subst (NeedsAtLeast limit few) (sym (places_under_names names rising xs few.variables within)) needs) m r measure.2

pub imports_are_below_their_steps : ImportsAreBelowTheirSteps
imports_are_below_their_steps imports calls lowered plan number root f names i entry import xs is is_root held is_import lent within occurs lacks = ⊎_elim
    (λ small. small_limits_are_below_steps imports plan.mode f plan.limit small)
    (λ short. by_short (subst (λ node. FormLacks plan entry.orders node) is_import (subst (λ (e : Entry). FormLacks plan e.orders e.node) here short)))
    lacks.2
  where
    IsBelow : List Import → Step → Type 0
    IsBelow us step = (files : List (Content Answer)) (m r : ℕ) → IsMeasureOf us plan.mode files step m r → plan.limit < budget m r

    here : lacks.0 ≡ entry
    here = same_Some lacks.0 entry (sym lacks.1 ∙ held)

    long : length names ≡ length entry.orders
    long = same_Some _ _ (sym occurs.own ∙ ap (option_map length) (ap (option_map (λ (e : Entry). e.orders)) held))

    steps : HasItsSteps (whole_formula calls root) f plan.dag.now.entries names i (nodes.Import import xs)
    steps =
        subst (HasItsSteps (whole_formula calls root) f plan.dag.now.entries names i) is_import
        (nodes_have_their_steps (whole_formula calls root) plan.dag.now.entries f names i entry is.graph.graph.nodes held occurs)

    by_short : ImportLacks plan import xs → IsBelowOwnStep imports plan.mode f plan.limit
    by_short short = ⊎_elim
        (λ large. let small = all_at (IsWithin plan.limit) plan.imports.now within import short.content short.here in absurd (omega (arith, large, small)))
        (λ few.
        let same : lent.0 ≡ short.content = same_Some lent.0 short.content (sym lent.1 ∙ short.here) in
        let mode_is = subst (λ (c : Content Sign). c.mode ≡ plan.mode) same lent.2 in
        let variables_are = subst (λ (c : Content Sign). c.variables ≡ variables_by_place lent.3.0) same lent.3.1 in (
          import_at import (picked names xs),
          steps,
          below_itself imports plan.mode plan.limit (import_at import (picked names xs)) itself_there
              (subst (λ us. IsBelow us (import_at import (picked names xs))) is.imports_are
              (below_budget plan.imports.now plan.mode import short.content few.0 short.here short.automaton mode_is lent.3.0 variables_are few.1
              entry.orders names xs occurs.rising long lent.3.2 plan.limit few.2)),
        ))
        short.short
