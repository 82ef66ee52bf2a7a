-- The free variables of core formulas, of their parts, and of nodes.
use Rattle.std.proofs.Common.{◌≡◌, ℕ, ◌<◌, List, [], ◌∷◌, ◌++◌, length, map, slice_get, slice_index, Contains, Option, Some, None, refl, sym, ap, subst, ◌∙◌, ⊎_elim, arith}
use Rattle.std.proofs.lemmas.List.Elements.{All-contains, Contains-append_cases, Contains-get_or}
use Rattle.ms_diagram.proofs.ListLemmas.{Contains-cases, Contains-first, Contains-none, Contains-rest}
use Rattle.ms_diagram.proofs.RootLemmas.{Contains-from_mapped, Contains-mapped}
use Rattle.ms_logic.specs.declared.mode.Order.{Order}
use Rattle.ms_logic.specs.Assignment.{Variable}
use Rattle.ms_logic.specs.Truth.{Import as Imported}
use Rattle.ms_logic_core.specs.declared.core_formula.Basic.{Basic as Relation}
use Rattle.ms_logic_core.specs.declared.core_formula.Basic.TheVariants.{Truth, Number, Plus, Less, Member, Sub, Union, Inter, Diff, Up, Down, Min, Max, Bits}
use Rattle.ms_logic_core.specs.CoreForm.{CoreForm, truth, falsity, basic, negation, conjunction, disjunction, implication, equivalence, restrict, imported, quantified, CoreForms, no_forms, more_forms, CoreRestriction, unrestricted, restricted}
use Rattle.ms_logic_core.specs.Operands.{variable, variables_at, variables_of_basic}
use Rattle.ms_logic_core.specs.Spread.{variables_of_import}
use Rattle.ms_logic_measures.specs.Steps.{free_variables, free_variables_among, free_variables_in, joined}
use Rattle.ms_dag.specs.declared.node.Child.{Child}
use Rattle.ms_dag.specs.declared.node.Entry.{Entry}
use Rattle.ms_dag.specs.Laws.{EachHasItsOrders, HasOrder, HaveTheirOrders, RestrictionHasItsOrders}
use Rattle.ms_dag.specs.Places.{AreBelow, picked}
use Rattle.ms_dag.specs.Unfolds.{UnfoldEach, Unfolds, UnfoldsIn, names_of_basic, renamed}
use Rattle.ms_dag_steps.specs.inner.Parts.{forms_of, parts_of, restrictions_of}
use Rattle.ms_dag_steps.proofs.JoinedLemmas.{IsNamed, Rise, joined_left, joined_right, joined_rise, joined_there, without_named, without_rise, without_there}
use Rattle.ms_dag_steps.proofs.SubformulaLemmas.{one_of_two, only}

-- the variables of a relation between other variables
pub variables_renamed : (name : ℕ → ℕ) (b : Relation) → variables_of_basic (renamed name b) ≡ map (λ (v : Variable). variable (name v.name) v.order) (variables_of_basic b)
variables_renamed name (Truth a) = refl
variables_renamed name (Number x n) = refl
variables_renamed name (Plus x y n) = refl
variables_renamed name (Less x y) = refl
variables_renamed name (Member x s) = refl
variables_renamed name (Sub s t) = refl
variables_renamed name (Union s t u) = refl
variables_renamed name (Inter s t u) = refl
variables_renamed name (Diff s t u) = refl
variables_renamed name (Up s t n) = refl
variables_renamed name (Down s t n) = refl
variables_renamed name (Min x s) = refl
variables_renamed name (Max x s) = refl
variables_renamed name (Bits s n) = refl

-- a name that is picked is one of the names
picked_within : (names places : List ℕ) → AreBelow (length names) places → (n : ℕ) → Contains (picked names places) n → Contains names n
picked_within names places below n there =
    let found = Contains-from_mapped (slice_index names) places n there in
    subst (Contains names) found.2 (Contains-get_or names found.0 0 (All-contains (λ j. j < length names) places found.0 below found.1))

-- a variable of an import has a name among those at which the import stands
named_at : (xs : List ℕ) (vs : List Variable) (u : Variable) → Contains (variables_at xs vs) u → Contains xs u.name
named_at [] vs u there = absurd (Contains-none u there)
named_at (x ∷ xs) [] u there = absurd (Contains-none u there)
named_at (x ∷ xs) (v ∷ vs) u there = ⊎_elim
    (λ first. subst (λ (w : Variable). Contains (x ∷ xs) w.name) (sym first) (Contains-first x xs))
    (λ later. Contains-rest x xs u.name (named_at xs vs u later)) (Contains-cases (variable x v.order) (variables_at xs vs) u there)

-- and each of those is one of its names
pub names_at : (xs : List ℕ) (vs : List Variable) → length xs ≡ length vs → map (λ (v : Variable). v.name) (variables_at xs vs) ≡ xs
names_at [] vs long = refl
names_at (x ∷ xs) [] long = absurd (omega (arith, long))
names_at (x ∷ xs) (v ∷ vs) long = ap (λ others. x ∷ others) (names_at xs vs (omega (arith, long)))

module _ (imports : List Imported) where
  -- the free variables rise
  mutual
    pub free_rise : (f : CoreForm) → Rise (free_variables imports f)
    free_rise truth = tt
    free_rise falsity = tt
    free_rise (basic b) = joined_rise (variables_of_basic b) [] tt
    free_rise (negation f) = free_rise f
    free_rise (conjunction fs) = free_rise_among fs
    free_rise (disjunction fs) = free_rise_among fs
    free_rise (implication f g) = joined_rise (free_variables imports f) (free_variables imports g) (free_rise g)
    free_rise (equivalence f g) = joined_rise (free_variables imports f) (free_variables imports g) (free_rise g)
    free_rise (restrict f) = free_rise f
    free_rise (imported i xs) = joined_rise (variables_at xs (variables_of_import (slice_get imports i))) [] tt
    free_rise (quantified q o x d f) =
        without_rise x (joined (free_variables_in imports d) (free_variables imports f)) (joined_rise (free_variables_in imports d) (free_variables imports f) (free_rise f))

    free_rise_among : (fs : CoreForms) → Rise (free_variables_among imports fs)
    free_rise_among no_forms = tt
    free_rise_among (more_forms f fs) = joined_rise (free_variables imports f) (free_variables_among imports fs) (free_rise_among fs)

  -- what holds of the variables that stand in a formula holds of its free ones
  module _ (globals : List Order) where
    mutual
      pub free_ordered : (f : CoreForm) → HaveTheirOrders imports globals f → (u : Variable) → Contains (free_variables imports f) u → HasOrder globals u
      free_ordered truth have u there = absurd (Contains-none u there)
      free_ordered falsity have u there = absurd (Contains-none u there)
      free_ordered (basic b) have u there =
          ⊎_elim (λ left. All-contains (HasOrder globals) (variables_of_basic b) u have left) (λ right. absurd (Contains-none u right)) (joined_there (variables_of_basic b) [] u there)
      free_ordered (negation f) have u there = free_ordered f have u there
      free_ordered (conjunction fs) have u there = among_ordered fs have u there
      free_ordered (disjunction fs) have u there = among_ordered fs have u there
      free_ordered (implication f g) have u there =
          ⊎_elim (λ left. free_ordered f have.0 u left) (λ right. free_ordered g have.1 u right) (joined_there (free_variables imports f) (free_variables imports g) u there)
      free_ordered (equivalence f g) have u there =
          ⊎_elim (λ left. free_ordered f have.0 u left) (λ right. free_ordered g have.1 u right) (joined_there (free_variables imports f) (free_variables imports g) u there)
      free_ordered (restrict f) have u there = free_ordered f have u there
      free_ordered (imported i xs) have u there =
          let vs = variables_at xs (variables_of_import (slice_get imports i)) in
          ⊎_elim (λ left. All-contains (HasOrder globals) vs u have left) (λ right. absurd (Contains-none u right)) (joined_there vs [] u there)
      free_ordered (quantified q o x d f) have u there =
          let inside = without_there x (joined (free_variables_in imports d) (free_variables imports f)) u there in
          ⊎_elim (λ left. restriction_ordered d have.1 u left) (λ right. free_ordered f have.2 u right) (joined_there (free_variables_in imports d) (free_variables imports f) u inside.0)

      among_ordered : (fs : CoreForms) → EachHasItsOrders imports globals fs → (u : Variable) → Contains (free_variables_among imports fs) u → HasOrder globals u
      among_ordered no_forms have u there = absurd (Contains-none u there)
      among_ordered (more_forms f fs) have u there =
          ⊎_elim (λ left. free_ordered f have.0 u left) (λ right. among_ordered fs have.1 u right) (joined_there (free_variables imports f) (free_variables_among imports fs) u there)

      restriction_ordered : (d : CoreRestriction) → RestrictionHasItsOrders imports globals d → (u : Variable) → Contains (free_variables_in imports d) u → HasOrder globals u
      restriction_ordered unrestricted have u there = absurd (Contains-none u there)
      restriction_ordered (restricted d) have u there = free_ordered d have u there

  -- the free variables of a node's formula have names of the node's variables
  module _ (entries : List Entry) where
    -- what has one of the names of a child has one of the node
    out : (names : List ℕ) (child : Child) → AreBelow (length names) child.map → (u : Variable) → Contains (picked names child.map) u.name → Contains names u.name
    out names child below u there = picked_within names child.map below u.name there

    mutual
      pub free_within : (f : CoreForm) (names : List ℕ) (i : ℕ) → Unfolds entries f names i → (u : Variable) → Contains (free_variables imports f) u → Contains names u.name
      free_within truth names i unfolds u there = absurd (Contains-none u there)
      free_within falsity names i unfolds u there = absurd (Contains-none u there)
      free_within (basic b) names i unfolds u there = ⊎_elim
          (λ left.
          let same : variables_of_basic b ≡ map (λ (v : Variable). variable (slice_index names v.name) v.order) (variables_of_basic unfolds.0) = ap variables_of_basic unfolds.3 ∙ variables_renamed (slice_index names) unfolds.0 in
          let found = Contains-from_mapped (λ (v : Variable). variable (slice_index names v.name) v.order) (variables_of_basic unfolds.0) u (subst (λ vs. Contains vs u) same left) in
          let below = All-contains (λ j. j < length names) (names_of_basic unfolds.0) (found.0).name unfolds.2 (Contains-mapped (λ (v : Variable). v.name) (variables_of_basic unfolds.0) found.0 found.1) in
          subst (λ (v : Variable). Contains names v.name) found.2 (Contains-get_or names (found.0).name 0 below))
          (λ right. absurd (Contains-none u right)) (joined_there (variables_of_basic b) [] u there)
      free_within (negation f) names i unfolds u there = out names unfolds.0 unfolds.2.0.within u (free_within f (picked names (unfolds.0).map) (unfolds.0).node unfolds.2.1 u there)
      free_within (conjunction fs) names i unfolds u there = among_within fs names i unfolds.0 unfolds.2 u there
      free_within (disjunction fs) names i unfolds u there = among_within fs names i unfolds.0 unfolds.2 u there
      free_within (implication f g) names i unfolds u there =
          ⊎_elim (λ left. out names unfolds.0 unfolds.3.0.within u (free_within f (picked names (unfolds.0).map) (unfolds.0).node unfolds.3.1 u left)) (λ right. out names unfolds.1 unfolds.4.0.within u (free_within g (picked names (unfolds.1).map) (unfolds.1).node unfolds.4.1 u right)) (joined_there (free_variables imports f) (free_variables imports g) u there)
      free_within (equivalence f g) names i unfolds u there =
          ⊎_elim (λ left. out names unfolds.0 unfolds.3.0.within u (free_within f (picked names (unfolds.0).map) (unfolds.0).node unfolds.3.1 u left)) (λ right. out names unfolds.1 unfolds.4.0.within u (free_within g (picked names (unfolds.1).map) (unfolds.1).node unfolds.4.1 u right)) (joined_there (free_variables imports f) (free_variables imports g) u there)
      free_within (restrict f) names i unfolds u there = out names unfolds.0 unfolds.2.0.within u (free_within f (picked names (unfolds.0).map) (unfolds.0).node unfolds.2.1 u there)
      free_within (imported n xs) names i unfolds u there =
          let vs = variables_of_import (slice_get imports n) in
          ⊎_elim (λ left. picked_within names unfolds.0 unfolds.2 u.name (subst (λ ys. Contains ys u.name) unfolds.3 (named_at xs vs u left)))
          (λ right. absurd (Contains-none u right)) (joined_there (variables_at xs vs) [] u there)
      free_within (quantified q o x d f) names i unfolds u there =
          let inside = without_there x (joined (free_variables_in imports d) (free_variables imports f)) u there in
          let among : Contains (names ++ x ∷ []) u.name =
          ⊎_elim (λ left. restriction_within d (names ++ x ∷ []) i unfolds.0 unfolds.4 u left) (λ right. out (names ++ x ∷ []) unfolds.1 unfolds.5.0.within u (free_within f (picked (names ++ x ∷ []) (unfolds.1).map) (unfolds.1).node unfolds.5.1 u right))
          (joined_there (free_variables_in imports d) (free_variables imports f) u inside.0) in
          ⊎_elim (λ own. own) (λ bound. absurd (inside.1 (only u.name x bound))) (Contains-append_cases names (x ∷ []) u.name among)

      among_within : (fs : CoreForms) (names : List ℕ) (i : ℕ) (children : List Child) → UnfoldEach entries fs names i children → (u : Variable) → Contains (free_variables_among imports fs) u → Contains names u.name
      among_within no_forms names i children are u there = absurd (Contains-none u there)
      among_within (more_forms f fs) names i [] are u there = absurd are
      among_within (more_forms f fs) names i (child ∷ children) are u there =
          ⊎_elim (λ left. out names child are.0.0.within u (free_within f (picked names child.map) child.node are.0.1 u left)) (λ right. among_within fs names i children are.1 u right)
          (joined_there (free_variables imports f) (free_variables_among imports fs) u there)

      restriction_within : (d : CoreRestriction) (names : List ℕ) (i : ℕ) (domain : Option Child) → UnfoldsIn entries d names i domain → (u : Variable) → Contains (free_variables_in imports d) u → Contains names u.name
      restriction_within unrestricted names i domain unfolds u there = absurd (Contains-none u there)
      restriction_within (restricted d) names i None unfolds u there = absurd unfolds
      restriction_within (restricted d) names i (Some child) unfolds u there = out names child unfolds.0.within u (free_within d (picked names child.map) child.node unfolds.1 u there)

  -- the formula does not bind a variable with this name itself
  abbrev pub IsNotBound : CoreForm → ℕ → Type 0
  IsNotBound (quantified q o x d f) n = n ≡ x → ⊥
  IsNotBound f n = Unit {0}

  named_among : (fs : CoreForms) (g : CoreForm) → Contains (forms_of fs) g → (n : ℕ) → IsNamed (free_variables imports g) n → IsNamed (free_variables_among imports fs) n
  named_among no_forms g part n there = absurd (Contains-none g part)
  named_among (more_forms f fs) g part n there =
      ⊎_elim (λ same. joined_left (free_variables imports f) (free_variables_among imports fs) n (subst (λ h. IsNamed (free_variables imports h) n) same there))
      (λ later. joined_right (free_variables imports f) (free_variables_among imports fs) n (named_among fs g later n there)) (Contains-cases f (forms_of fs) g part)

  named_in : (d : CoreRestriction) (g : CoreForm) → Contains (restrictions_of d) g → (n : ℕ) → IsNamed (free_variables imports g) n → IsNamed (free_variables_in imports d) n
  named_in unrestricted g part n there = absurd (Contains-none g part)
  named_in (restricted d) g part n there = subst (λ h. IsNamed (free_variables imports h) n) (only g d part) there

  named_two : (f h g : CoreForm) → Contains (f ∷ h ∷ []) g → (n : ℕ) → IsNamed (free_variables imports g) n → IsNamed (joined (free_variables imports f) (free_variables imports h)) n
  named_two f h g part n there =
      ⊎_elim (λ same. joined_left (free_variables imports f) (free_variables imports h) n (subst (λ k. IsNamed (free_variables imports k) n) same there))
      (λ same. joined_right (free_variables imports f) (free_variables imports h) n (subst (λ k. IsNamed (free_variables imports k) n) same there)) (one_of_two g f h part)

  -- what is free in a part, and not bound right there, is free in the whole
  pub free_of_part : (f g : CoreForm) → Contains (parts_of f) g → (n : ℕ) → IsNotBound f n → IsNamed (free_variables imports g) n → IsNamed (free_variables imports f) n
  free_of_part truth g part n free there = absurd (Contains-none g part)
  free_of_part falsity g part n free there = absurd (Contains-none g part)
  free_of_part (basic b) g part n free there = absurd (Contains-none g part)
  free_of_part (negation f) g part n free there = subst (λ h. IsNamed (free_variables imports h) n) (only g f part) there
  free_of_part (conjunction fs) g part n free there = named_among fs g part n there
  free_of_part (disjunction fs) g part n free there = named_among fs g part n there
  free_of_part (implication f h) g part n free there = named_two f h g part n there
  free_of_part (equivalence f h) g part n free there = named_two f h g part n there
  free_of_part (restrict f) g part n free there = subst (λ h. IsNamed (free_variables imports h) n) (only g f part) there
  free_of_part (imported i xs) g part n free there = absurd (Contains-none g part)
  free_of_part (quantified q o x d f) g part n free there =
      without_named x (joined (free_variables_in imports d) (free_variables imports f)) n
      (⊎_elim (λ above. joined_left (free_variables_in imports d) (free_variables imports f) n (named_in d g above n there))
      (λ below. joined_right (free_variables_in imports d) (free_variables imports f) n (subst (λ h. IsNamed (free_variables imports h) n) (only g f below) there))
      (Contains-append_cases (restrictions_of d) (f ∷ []) g part)) free
