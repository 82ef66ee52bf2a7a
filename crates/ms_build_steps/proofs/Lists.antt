-- The connective of the first children of a list with the next one lacks nodes only below the budget of its step.
use Rattle.std.proofs.Common.{◌≡◌, ℕ, zero, suc, ◌<◌, ◌≤◌, List, [], ◌∷◌, All, length, take, slice_get, Some, refl, sym, subst, ◌∙◌, arith}
use Rattle.std.specs.List.{AllZip}
use Rattle.std.specs.List.Sorted.{IsStrictlyIncreasing}
use Rattle.std.proofs.lemmas.List.Elements.{All-head, All-tail}
use Rattle.std.proofs.lemmas.Option.{none-some, same_Some, slice_get_within}
use Rattle.ms_build.specs.Built.{IsPart, many_meaning, op_of}
use Rattle.ms_build.specs.Short.{IsOfFirst, IsOperand}
use Rattle.ms_build.specs.declared.plan.Many.{Many}
use Rattle.ms_build.specs.declared.plan.Many.TheVariants as many_of
use Rattle.ms_build.specs.declared.plan.Plan.{Plan}
use Rattle.ms_build.proofs.PartLemmas.{one_by_place}
use Rattle.ms_build.proofs.PlaceLemmas.{own-among}
use Rattle.ms_build_parts.specs.Laws.{IsMeasuredBy}
use Rattle.ms_dag.specs.Dag.{IsChild, places_in_maps}
use Rattle.ms_dag.specs.Places.{picked}
use Rattle.ms_dag.specs.declared.node.Child.{Child}
use Rattle.ms_dag.specs.declared.node.Entry.{Entry}
use Rattle.ms_dag_steps.specs.NodeSteps.{ChildOccurs, HasStepsOfList, Prefix}
use Rattle.ms_dag_steps.specs.Occurrences.{whole_formula}
use Rattle.ms_dag_steps.proofs.OwnLemmas.{own_variables_are_free}
use Rattle.ms_logic.specs.Assignment.{Variable}
use Rattle.ms_logic.specs.Truth.{Answer, Import}
use Rattle.ms_logic.specs.declared.mode.Order.{Order}
use Rattle.ms_logic_core.specs.Calls.{Calls}
use Rattle.ms_logic_core.specs.CoreForm.{CoreForm, CoreForms, core_forms}
use Rattle.ms_logic_core.specs.declared.core_formula.Lowered.{Lowered}
use Rattle.ms_logic_core.specs.declared.core_formula.Root.{Root}
use Rattle.ms_logic_measures.specs.Budgets.{IsMeasureOf, IsOwnContent, budget}
use Rattle.ms_logic_measures.specs.FullContent.{IsFullContent}
use Rattle.ms_logic_measures.specs.Steps.{connected, connective, free_variables, free_variables_among}
use Rattle.ms_logic_starts.specs.ContentStarts.{HaveDistinctNumbers}
use Rattle.ms_logic_starts.proofs.RisingLemmas.{rising_distinct}
use Rattle.ms_logic_words.specs.Content.{Content}
use Rattle.ms_logic_words.specs.declared.sign.Sign.{Sign}
use Rattle.ms_product.specs.Pairing.{AreAtLeast, operands_of}
use Rattle.ms_build_steps.specs.Kinds.{IsBelowOwnStep}
use Rattle.ms_build_steps.specs.Laws.{IsPlanned, ListsAreWithinBudget, connect_of}
use Rattle.ms_build_steps.proofs.StepKinds.{below_itself, itself_there}
use Rattle.ms_build_steps.proofs.ManyMeanings.{many_means}
use Rattle.ms_build_steps.proofs.ManyVariables.{AreOfPlaces, IsOperandOf, are_named, free_through, have_each}
use Rattle.ms_build_steps.proofs.NodeSigns.{says_the_same}
use Rattle.ms_build_steps.proofs.Operands.{side}
use Rattle.ms_build_steps.proofs.Ordered.{ordered_in_root}
use Rattle.ms_build_steps.proofs.Pairs.{connectives_are_within_budget}
use Rattle.ms_build_steps.proofs.Sides.{IsSide, within_budget}
use Rattle.ms_build_steps.proofs.Through.{through, through_rises}

module _ {A B : Type 0} (R : A → B → Type 0) where
  zip_take : (xs : List A) (ys : List B) (n : ℕ) → AllZip R xs ys → AllZip R (take n xs) (take n ys)
  zip_take [] [] zero zipped = tt
  zip_take [] [] (suc n) zipped = tt
  zip_take [] (y ∷ ys) n zipped = absurd zipped
  zip_take (x ∷ xs) [] n zipped = absurd zipped
  zip_take (x ∷ xs) (y ∷ ys) zero zipped = tt
  zip_take (x ∷ xs) (y ∷ ys) (suc n) zipped = (zipped.0, zip_take xs ys n zipped.1)

  pub zip_at : (xs : List A) (ys : List B) → AllZip R xs ys → (k : ℕ) (y : B) → slice_get ys k ≡ Some y → (x : A) × (slice_get xs k ≡ Some x) × R x y
  zip_at xs [] zipped k y held = absurd (none-some y held)
  zip_at [] (z ∷ ys) zipped k y held = absurd zipped
  zip_at (x ∷ xs) (z ∷ ys) zipped zero y held = (x, refl, subst (R x) (same_Some z y held) zipped.0)
  zip_at (x ∷ xs) (z ∷ ys) zipped (suc k) y held = zip_at xs ys zipped.1 k y held

pub all_at : {A : Type 0} (P : A → Type 0) (xs : List A) → All P xs → (k : ℕ) (x : A) → slice_get xs k ≡ Some x → P x
all_at P [] all k x held = absurd (none-some x held)
all_at P (y ∷ ys) all zero x held = subst P (same_Some y x held) (All-head P y ys all)
all_at P (y ∷ ys) all (suc k) x held = all_at P ys (All-tail P y ys all) k x held

-- the connective of one operand, and of more
one_connected : (connect : CoreForms → CoreForm) (operands : List CoreForm) (f : CoreForm) → slice_get operands 0 ≡ Some f → connected connect (take 1 operands) ≡ f
one_connected connect [] f held = absurd (none-some f held)
one_connected connect (g ∷ []) f held = same_Some g f held
one_connected connect (g ∷ h ∷ operands) f held = same_Some g f held

more_connected : (connect : CoreForms → CoreForm) (operands : List CoreForm) (k : ℕ) → suc k < length operands → connected connect (take (suc (suc k)) operands) ≡ connect (core_forms (take (suc (suc k)) operands))
more_connected connect [] k more = absurd (omega (arith, more))
more_connected connect (f ∷ []) k more = absurd (omega (arith, more))
more_connected connect (f ∷ g ∷ operands) k more = refl

free_of_many : (imports : List Import) (many : Many) (fs : CoreForms) → free_variables imports (connect_of many fs) ≡ free_variables_among imports fs
free_of_many imports many_of.All fs = refl
free_of_many imports many_of.Any fs = refl

module _ (imports : List Import) (calls : Calls) (lowered : Lowered) (plan : Plan) (is : IsPlanned imports calls lowered plan) (number : ℕ) (root : Root) (is_root : slice_get lowered.roots number ≡ Some root) (form : CoreForm) (names : List ℕ) (many : Many)
    (children : List Child) (i : ℕ) (outer : List Order) (rising : IsStrictlyIncreasing names) (long : length names ≡ length outer)
    (steps : HasStepsOfList (whole_formula calls root) form (connect_of many) plan.dag.now.entries names i children) (are_children : All (IsChild plan.dag.now.entries i outer) children) where
  abbrev entries : List Entry
  entries = plan.dag.now.entries

  abbrev IsOperandHere : CoreForm → Child → Type 0
  IsOperandHere f child = IsOperandOf imports lowered.orders entries names outer f child

  operand_here : (f : CoreForm) (child : Child) → ChildOccurs (whole_formula calls root) entries names f child → IsChild entries i outer child → IsOperandHere f child
  operand_here f child at is_child = record {
    have = ordered_in_root imports calls lowered is.lowered_is number root is_root f at.subformula;
    read = is_child.ordered;
    free = own_variables_are_free imports calls lowered plan.dag.now number root f (picked names child.map) child.node is_child.ordered.0 is.lowered_is is.graph is_root is_child.ordered.1 at;
  }

  operands_here : (fs : List CoreForm) (cs : List Child) → AllZip (ChildOccurs (whole_formula calls root) entries names) fs cs → All (IsChild entries i outer) cs → AllZip IsOperandHere fs cs
  operands_here [] [] occur all = tt
  operands_here [] (c ∷ cs) occur all = absurd occur
  operands_here (f ∷ fs) [] occur all = absurd occur
  operands_here (f ∷ fs) (c ∷ cs) occur all =
      (operand_here f c occur.0 (All-head (IsChild entries i outer) c cs all), operands_here fs cs occur.1 (All-tail (IsChild entries i outer) c cs all))

  -- the next child, as the next operand
  next_occurs : (k : ℕ) (prefix : Prefix (connect_of many) entries steps.operands names i children k) (child : Child) → slice_get children (suc k) ≡ Some child
      → ChildOccurs (whole_formula calls root) entries names prefix.next child
  next_occurs k prefix child here =
      let found = zip_at (ChildOccurs (whole_formula calls root) entries names) steps.operands children steps.occur (suc k) child here in
      subst (λ f. ChildOccurs (whole_formula calls root) entries names f child) (same_Some found.0 prefix.next (sym found.1 ∙ prefix.is_next)) found.2

  next_child : (k : ℕ) (child : Child) → slice_get children k ≡ Some child → IsChild entries i outer child
  next_child k child here = all_at (IsChild entries i outer) children are_children k child here

  -- the first child with the second one
  first_with_next : (prefix : Prefix (connect_of many) entries steps.operands names i children 0) (first child : Child) (one other : Content Sign) → slice_get children 0 ≡ Some first → slice_get children 1 ≡ Some child
      → IsOperand plan first one → IsOperand plan child other → AreAtLeast plan.limit (op_of many) (operands_of one other) → (files : List (Content Answer)) (m r : ℕ)
      → IsMeasureOf imports plan.mode files (connective (connected (connect_of many) (take 1 steps.operands)) prefix.next) m r → plan.limit < budget m r
  first_with_next prefix first child one other at_first at_next is_first is_next short files m r measure =
      let found = zip_at (ChildOccurs (whole_formula calls root) entries names) steps.operands children steps.occur 0 first at_first in
      connectives_are_within_budget imports calls lowered plan number root names (op_of many) first child found.0 prefix.next i outer is is_root found.2 (next_occurs 0 prefix child at_next)
      (next_child 0 first at_first) (next_child 1 child at_next)
      (record { one = one; other = other; is_left = is_first; is_right = is_next; short = short }) files m r
      (subst (λ f. IsMeasureOf imports plan.mode files (connective f prefix.next) m r) (one_connected (connect_of many) steps.operands found.0 found.1) measure)

  -- more children with the next one
  module _ (k : ℕ) (prefix : Prefix (connect_of many) entries steps.operands names i children (suc k)) (one : Content Sign) (first : IsOfFirst plan many children (suc (suc k)) one) where
    abbrev fs : List CoreForm
    fs = take (suc (suc k)) steps.operands

    abbrev cs : List Child
    cs = take (suc (suc k)) children

    are : AllZip IsOperandHere fs cs
    are = zip_take IsOperandHere steps.operands children (suc (suc k)) (operands_here steps.operands children steps.occur are_children)

    part : IsPart plan.mode outer (places_in_maps cs) (many_meaning many imports entries cs) one
    part = subst (λ us. IsPart plan.mode outer (places_in_maps cs) (many_meaning many us entries cs) one) is.imports_are
        (first.value outer (λ place child held. (zip_at IsOperandHere fs cs are place child held).2.read))

    of_places : AreOfPlaces imports lowered.orders entries names outer cs one.variables
    of_places = record {
      rise = first.automaton.rising;
      own = λ v among. own-among outer v (part.among v among);
      only = first.only;
      covers = part.covers;
    }

    abbrev free : List Variable
    free = through names one.variables

    module _ (content : Content Sign) (full : IsFullContent imports plan.mode free (connect_of many (core_forms fs)) content) where
      measured : IsMeasuredBy one content
      measured = record {
        ordered = first.automaton.ordered;
        closed = first.automaton.closed;
        own = rising_distinct one.variables first.automaton.rising;
        reached = (first.least (λ same. omega (arith, same))).reached;
        differ = (first.least (λ same. omega (arith, same))).differ;
        is_canonical = full.canonical;
        distinct = subst HaveDistinctNumbers (sym full.same_variables)
            (rising_distinct free (through_rises names rising one.variables (are_named imports lowered.orders entries names outer fs cs are one.variables of_places rising long) first.automaton.rising));
        same = says_the_same imports plan.mode (connect_of many (core_forms fs)) one.variables names (are_named imports lowered.orders entries names outer fs cs are one.variables of_places rising long) rising one content
            (many_meaning many imports entries cs) part.mode_is refl part.values full
            (many_means imports entries lowered.orders names i many (core_forms fs) cs (have_each imports lowered.orders entries names outer fs cs are) prefix.before);
      }

      many_side : IsSide one content
      many_side = record { least = one; rising = first.automaton.rising; parts = record { start = refl; states = refl; nodes = refl }; orders = refl; measured = measured }

    -- the full content of the connective of the operands before the next one
    full_of_first : (content : Content Sign) → IsOwnContent imports plan.mode (connected (connect_of many) fs) content → IsFullContent imports plan.mode free (connect_of many (core_forms fs)) content
    full_of_first content full =
        let more = slice_get_within steps.operands (suc (suc k)) prefix.next prefix.is_next in
        let whole = subst (λ f. IsOwnContent imports plan.mode f content) (more_connected (connect_of many) steps.operands k (omega (arith, more))) full in
        subst (λ vs. IsFullContent imports plan.mode vs (connect_of many (core_forms fs)) content)
        (free_of_many imports many (core_forms fs) ∙ free_through imports lowered.orders entries names outer fs cs are one.variables of_places rising long) whole

    more_with_next : (child : Child) (other : Content Sign) → slice_get children (suc (suc k)) ≡ Some child → IsOperand plan child other → AreAtLeast plan.limit (op_of many) (operands_of one other)
        → (files : List (Content Answer)) (m r : ℕ) → IsMeasureOf imports plan.mode files (connective (connected (connect_of many) fs) prefix.next) m r → plan.limit < budget m r
    more_with_next child other here is_next short files m r measure =
        let is_child = next_child (suc (suc k)) child here in
        within_budget (op_of many) plan.limit one other measure.0 measure.1 (one_by_place outer one.variables other.variables part.among (is_next.brought outer is_child.ordered).among)
        (many_side measure.0 (full_of_first measure.0 measure.2))
        (side imports calls lowered plan is number root is_root names child prefix.next (next_occurs (suc k) prefix child here) i outer is_child other is_next measure.1 measure.3) short m r measure.4

pub lists_are_within_budget : ListsAreWithinBudget
lists_are_within_budget imports calls lowered plan number root f names many children i outer is is_root rising long steps are_children lacks = by lacks.count lacks.some lacks.here lacks.is_first
  where
    by : (count : ℕ) → 1 ≤ count → slice_get children count ≡ Some lacks.child → IsOfFirst plan many children count lacks.one → IsBelowOwnStep imports plan.mode f plan.limit
    by zero some here first = absurd (omega (arith, some))
    by (suc zero) some here first =
        let each = steps.each 0 (slice_get_within children 1 lacks.child here) in
        let alone = first.alone refl in (
          connective (connected (connect_of many) (take 1 steps.operands)) each.0.next,
          each.1,
          below_itself imports plan.mode plan.limit (connective (connected (connect_of many) (take 1 steps.operands)) each.0.next) itself_there
              (first_with_next imports calls lowered plan is number root is_root f names many children i outer rising long steps are_children each.0 alone.0 lacks.child lacks.one lacks.other alone.1 here alone.2 lacks.is_next lacks.short),
        )
    by (suc (suc k)) some here first =
        let each = steps.each (suc k) (slice_get_within children (suc (suc k)) lacks.child here) in (
          connective (connected (connect_of many) (take (suc (suc k)) steps.operands)) each.0.next,
          each.1,
          below_itself imports plan.mode plan.limit (connective (connected (connect_of many) (take (suc (suc k)) steps.operands)) each.0.next) itself_there
              (more_with_next imports calls lowered plan is number root is_root f names many children i outer rising long steps are_children k each.0 lacks.one first lacks.child lacks.other here lacks.is_next lacks.short),
        )
