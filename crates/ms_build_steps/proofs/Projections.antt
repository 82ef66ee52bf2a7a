-- A quantifier that occurs in a source lacks nodes, once its body is over all its variables, only below each budget of the quantifier itself.
use Rattle.std.proofs.Common.{◌≡◌, ℕ, zero, suc, ◌<◌, inl, inr, All, List, [], ◌∷◌, length, slice_get, slice_index, Option, Some, None, sym, ap, subst, ◌∙◌}
use Rattle.std.specs.Option.{option_map}
use Rattle.std.specs.List.Sorted.{IsStrictlyIncreasing}
use Rattle.std.proofs.lemmas.List.Elements.{All-head}
use Rattle.std.proofs.lemmas.Option.{none-some, same_Some, slice_get-map}
use Rattle.ms_build.specs.Built.{IsBodyOf}
use Rattle.ms_build.specs.Short.{IsDomain, IsLeastBody, IsOperand}
use Rattle.ms_build.specs.declared.plan.Plan.{Plan}
use Rattle.ms_build.proofs.PlaceLemmas.{among-own}
use Rattle.ms_dag.specs.Dag.{IsChild, children_of_binder}
use Rattle.ms_dag.specs.Unfolds.{ReadAs, Unfolds}
use Rattle.ms_dag.specs.declared.node.Child.{Child}
use Rattle.ms_dag_steps.specs.NodeSteps.{ChildOccurs, RestrictionOccurs}
use Rattle.ms_dag_steps.specs.Occurrences.{variables_named, whole_formula}
use Rattle.ms_dfa.specs.Automaton.{IsAutomaton}
use Rattle.ms_dfa_explore.specs.Tracks.{place_of}
use Rattle.ms_dfa_explore.proofs.TracksLemmas.{place_of-among}
use Rattle.ms_logic.specs.Assignment.{Variable}
use Rattle.ms_logic.specs.Lists.{AreRising, IsAmong}
use Rattle.ms_logic.specs.Truth.{Import}
use Rattle.ms_logic.specs.declared.mode.Order.{Order}
use Rattle.ms_logic_core.specs.Calls.{Calls}
use Rattle.ms_logic_core.specs.CoreForm.{CoreForm, CoreRestriction, unrestricted, restricted}
use Rattle.ms_logic_core.specs.Operands.{variable}
use Rattle.ms_logic_core.specs.declared.core_formula.Lowered.{Lowered}
use Rattle.ms_logic_core.specs.declared.core_formula.Root.{Root}
use Rattle.ms_logic_measures.specs.Budgets.{IsBindingMeasure, IsOwnContent, budget, variables_inside}
use Rattle.ms_logic_measures.specs.FullContent.{IsFullContent}
use Rattle.ms_logic_words.specs.Content.{Content, variables_by_place}
use Rattle.ms_logic_words.specs.declared.sign.Sign.{Sign}
use Rattle.ms_project.specs.Always.{domain_or_always}
use Rattle.ms_project.specs.Projection.{NeedsAtLeast}
use Rattle.ms_project_parts.specs.Laws.{IsBoundAs, IsOverSome}
use Rattle.ms_project_parts.proofs.Budgets.{projections_are_within_budget, unrestricted_are_within_budget}
use Rattle.ms_build_steps.specs.Laws.{IsPlanned}
use Rattle.ms_build_steps.proofs.Operands.{child_free, side}
use Rattle.ms_build_steps.proofs.SameParts.{side_measured}
use Rattle.ms_build_steps.proofs.Through.{named_through, through}
use Rattle.ms_build_steps.proofs.WholeBodies.{whole_measured}

-- at the place of one of rising variables stands, under the names, what this variable is there
stands_through : (names : List ℕ) (vs : List Variable) (v : Variable) → AreRising vs → IsAmong vs v
    → slice_get (through names vs) (place_of v.name vs) ≡ Some (variable (slice_index names v.name) v.order)
stands_through names vs v rising among =
    slice_get-map (λ (u : Variable). variable (slice_index names u.name) u.order) vs (place_of v.name vs)
    ∙ ap (option_map (λ (u : Variable). variable (slice_index names u.name) u.order)) (place_of-among vs v rising among)

-- what stands at a place under the names
held_through : (names : List ℕ) (vs : List Variable) (place : ℕ) (v w : Variable) → slice_get vs place ≡ Some v → slice_get (through names vs) place ≡ Some w → variable (slice_index names v.name) v.order ≡ w
held_through names vs place v w held there =
    same_Some (variable (slice_index names v.name) v.order) w
    (sym (slice_get-map (λ (u : Variable). variable (slice_index names u.name) u.order) vs place ∙ ap (option_map (λ (u : Variable). variable (slice_index names u.name) u.order)) held) ∙ there)

-- a variable that stands at a place is among them
held_among : (vs : List Variable) (place : ℕ) (v : Variable) → slice_get vs place ≡ Some v → IsAmong vs v
held_among [] place v held = absurd (none-some v held)
held_among (w ∷ vs) zero v held = inl (same_Some w v held)
held_among (w ∷ vs) (suc place) v held = inr (held_among vs place v held)

module _ (imports : List Import) (calls : Calls) (lowered : Lowered) (plan : Plan) (is : IsPlanned imports calls lowered plan) (number : ℕ) (root : Root) (is_root : slice_get lowered.roots number ≡ Some root) (names : List ℕ)
    (c : Child) (body : CoreForm) (at : ChildOccurs (whole_formula calls root) plan.dag.now.entries names body c) (i : ℕ) (outer : List Order) (is_child : IsChild plan.dag.now.entries i outer c)
    (reads : ReadAs (λ given j. Unfolds plan.dag.now.entries body given j) names i c) (rising : IsStrictlyIncreasing names) (long : length names ≡ length outer)
    (whole : Content Sign) (automaton : IsAutomaton whole) (is_least : IsLeastBody plan c whole) (is_body : IsBodyOf plan outer c whole)
    (k x : ℕ) (o : Order) (held : slice_get outer k ≡ Some o) (is_x : slice_index names k ≡ x) where
  abbrev bound : Variable
  bound = record { name = k; order = o }

  abbrev own : List Variable
  own = variables_by_place outer

  own_rising : AreRising whole.variables
  own_rising = automaton.rising

  among_whole : (v : Variable) → IsAmong own v → IsAmong whole.variables v
  among_whole v there = subst (λ vs. IsAmong vs v) (sym is_body.variables_are) there

  -- under the names stand in the content the variables of the body
  stands : (content : Content Sign) → IsFullContent imports plan.mode (variables_named names outer) body content → (v : Variable) → IsAmong whole.variables v
      → slice_get content.variables (place_of v.name whole.variables) ≡ Some (variable (slice_index names v.name) v.order)
  stands content full v there =
      let same : content.variables ≡ through names whole.variables = full.same_variables ∙ named_through names outer long ∙ ap (through names) (sym is_body.variables_are) in
      ap (λ vs. slice_get vs (place_of v.name whole.variables)) same ∙ stands_through names whole.variables v own_rising there

  bound_as : (content : Content Sign) → IsFullContent imports plan.mode (variables_named names outer) body content → IsBoundAs whole content bound (variable x o)
  bound_as content full =
      let among = among_whole bound (among-own outer bound held) in
      record {
        rising = own_rising;
        among = among;
        stands = stands content full bound among ∙ ap (λ n. Some (variable n o)) is_x;
      }

  over_some : (content : Content Sign) → IsFullContent imports plan.mode (variables_named names outer) body content → (child : Child) (g : CoreForm) (occurs : ChildOccurs (whole_formula calls root) plan.dag.now.entries names g child)
      (also : IsChild plan.dag.now.entries i outer child) (domain : Content Sign) (operand : IsOperand plan child domain) (restriction : Content Sign) → IsOwnContent imports plan.mode g restriction
      → IsOverSome whole domain content restriction
  over_some content full child g occurs also domain operand restriction full_domain = record {
    rising = operand.automaton.rising;
    among = inside;
    stands = λ place v w first second.
        let same : restriction.variables ≡ through names domain.variables
        = full_domain.same_variables ∙ child_free imports calls lowered plan is number root is_root names child g occurs i outer also domain operand in
        let is_w = held_through names domain.variables place v w first (ap (λ vs. slice_get vs place) (sym same) ∙ second) in
        stands content full v (inside v (held_among domain.variables place v first)) ∙ ap Some is_w;
  }
    where
      inside : (v : Variable) → IsAmong domain.variables v → IsAmong whole.variables v
      inside v there = among_whole v ((operand.brought outer also.ordered).among v there)

  pub projections_are_below : (r : CoreRestriction) (d : Option Child) (range : Option (Content Sign)) → variables_inside imports plan.mode (variable x o) r body ≡ variables_named names outer
      → RestrictionOccurs (whole_formula calls root) plan.dag.now.entries names r d → All (IsChild plan.dag.now.entries i outer) (children_of_binder d c) → IsDomain plan d range
      → NeedsAtLeast plan.limit whole (domain_or_always whole.mode range) k
      → (m n : ℕ) → IsBindingMeasure imports plan.mode (variable x o) r body m n → plan.limit < budget m n
  projections_are_below unrestricted None None inside occurs all is_range short m n measure =
      let full = subst (λ vs. IsFullContent imports plan.mode vs body measure.0) inside measure.1 in
      unrestricted_are_within_budget whole measure.0 plan.mode bound (variable x o) (bound_as measure.0 full)
      (whole_measured imports calls lowered plan is number root is_root names c body at i outer is_child reads rising long whole automaton is_least is_body measure.0 full) plan.limit short m n measure.2
  projections_are_below unrestricted None (Some content) inside occurs all is_range short m n measure = absurd is_range
  projections_are_below unrestricted (Some child) range inside occurs all is_range short m n measure = absurd occurs
  projections_are_below (restricted g) None range inside occurs all is_range short m n measure = absurd occurs
  projections_are_below (restricted g) (Some child) None inside occurs all is_range short m n measure = absurd is_range
  projections_are_below (restricted g) (Some child) (Some domain) inside occurs all is_range short m n measure =
      let full = subst (λ vs. IsFullContent imports plan.mode vs body measure.0) inside measure.2 in
      let also = All-head (IsChild plan.dag.now.entries i outer) child (c ∷ []) all in
      projections_are_within_budget whole domain measure.0 measure.1 bound (variable x o) (bound_as measure.0 full) (over_some measure.0 full child g occurs also domain is_range measure.1 measure.3)
      (whole_measured imports calls lowered plan is number root is_root names c body at i outer is_child reads rising long whole automaton is_least is_body measure.0 full)
      (side_measured domain measure.1 (side imports calls lowered plan is number root is_root names child g occurs i outer also domain is_range measure.1 measure.3) is_range.automaton)
      plan.limit short m n measure.4
