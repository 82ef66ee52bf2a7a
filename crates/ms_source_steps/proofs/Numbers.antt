-- Variables with other numbers that keep their order: lists of them, and the free variables of a formula with these numbers.
use Rattle.std.proofs.Common.{◌≡◌, ℕ, ◌<◌, nat_lt, nat_eq, inl, ⊎_elim, Bool, true, false, not, if◌then◌else◌, List, [], ◌∷◌, Contains, map, slice_get, refl, ap, ap₂, ◌∙◌, arith}
use Rattle.std.specs.List.{zip}
use Rattle.std.proofs.lemmas.Bool.{cases_lt}
use Rattle.std.proofs.lemmas.Bool.Decides.{nat_tests}
use Rattle.ms_dag_steps.proofs.JoinedLemmas.{joined_there}
use Rattle.ms_diagram.proofs.ListLemmas.{Contains-first, Contains-none, Contains-rest}
use Rattle.ms_logic.specs.Assignment.{Variable}
use Rattle.ms_logic.specs.Lists.{IsAmong, without}
use Rattle.ms_logic.specs.Truth.{Import}
use Rattle.ms_logic.specs.declared.mode.Order.{Order}
use Rattle.ms_logic_core.specs.CoreForm.{CoreForm, truth, falsity, basic, negation, conjunction, disjunction, implication, equivalence, restrict, imported, quantified, CoreForms, no_forms, more_forms, CoreRestriction, unrestricted, restricted}
use Rattle.ms_logic_core.specs.Operands.{at_places, variable, variables_at, variables_of_basic}
use Rattle.ms_logic_core.specs.Spread.{variables_of_import}
use Rattle.ms_logic_core.specs.Stands.{EachStands, RestrictionStands, Stands}
use Rattle.ms_logic_core.specs.declared.core_formula.Basic.{Basic}
use Rattle.ms_logic_core.specs.declared.core_formula.Basic.TheVariants as basics
use Rattle.ms_logic_measures.specs.Steps.{free_variables, free_variables_among, free_variables_in, joined, with_variable}
use Rattle.ms_lower.specs.Numbering.{Numbering, renumbered, renumbered_basic, renumbered_each, renumbered_in, renumbered_variable}
use Rattle.ms_source_steps.proofs.Scopes.{AreApart, among_in_scope, apart_push, contained_each, free_in_scope, restriction_in_scope}

-- greater numbers become greater ones, whatever their orders
abbrev pub NumbersRise : Numbering → Type 0
NumbersRise n = (p o : Order) (x y : ℕ) → x < y → n.number p x < n.number o y

-- what an import names has the orders of its variables
abbrev pub KnowsImports : List Import → Numbering → Type 0
KnowsImports imports n = (i : ℕ) → n.imported i ≡ variables_of_import (slice_get imports i)

abbrev pub moved_all : Numbering → List Variable → List Variable
moved_all n vs = map (renumbered_variable n) vs

-- each of a list is in scope
abbrev pub AreInside : List Variable → List Variable → Type 0
AreInside scope vs = (v : Variable) → Contains vs v → IsAmong scope v

pub push_map : {A : Type 0} (move : A → A) (b : Bool) (one other : List A) → (if b then map move one else map move other) ≡ map move (if b then one else other)
push_map move true one other = refl
push_map move false one other = refl

module _ (n : Numbering) where
  pub moved_basic : (b : Basic) → variables_of_basic (renumbered_basic n b) ≡ moved_all n (variables_of_basic b)
  moved_basic (basics.Truth a) = refl
  moved_basic (basics.Number x k) = refl
  moved_basic (basics.Plus x y k) = refl
  moved_basic (basics.Less x y) = refl
  moved_basic (basics.Member x s) = refl
  moved_basic (basics.Sub s t) = refl
  moved_basic (basics.Union s t u) = refl
  moved_basic (basics.Inter s t u) = refl
  moved_basic (basics.Diff s t u) = refl
  moved_basic (basics.Up s t k) = refl
  moved_basic (basics.Down s t k) = refl
  moved_basic (basics.Min x s) = refl
  moved_basic (basics.Max x s) = refl
  moved_basic (basics.Bits s k) = refl

  pub moved_places : (b : Basic) → at_places b ≡ at_places (renumbered_basic n b)
  moved_places (basics.Truth a) = refl
  moved_places (basics.Number x k) = refl
  moved_places (basics.Plus x y k) = refl
  moved_places (basics.Less x y) = refl
  moved_places (basics.Member x s) = refl
  moved_places (basics.Sub s t) = refl
  moved_places (basics.Union s t u) = refl
  moved_places (basics.Inter s t u) = refl
  moved_places (basics.Diff s t u) = refl
  moved_places (basics.Up s t k) = refl
  moved_places (basics.Down s t k) = refl
  moved_places (basics.Min x s) = refl
  moved_places (basics.Max x s) = refl
  moved_places (basics.Bits s k) = refl

  pub moved_import : (xs : List ℕ) (vs : List Variable) → variables_at (map (λ p. n.number p.1.order p.0) (zip xs vs)) vs ≡ moved_all n (variables_at xs vs)
  moved_import [] vs = refl
  moved_import (x ∷ xs) [] = refl
  moved_import (x ∷ xs) (v ∷ vs) = ap (λ (us : List Variable). renumbered_variable n (variable x v.order) ∷ us) (moved_import xs vs)

module _ (n : Numbering) (rise : NumbersRise n) where
  -- numbers in a scope compare as they did
  module _ (scope : List Variable) (apart : AreApart scope) where
    pub less_moved : (v w : Variable) → IsAmong scope v → IsAmong scope w → nat_lt (n.number v.order v.name) (n.number w.order w.name) ≡ nat_lt v.name w.name
    less_moved v w first second = ⊎_elim
        (λ less. let above = rise v.order w.order v.name w.name less in grind (arith, nat_tests, above, less))
        (λ at_least. ⊎_elim
        (λ more. let above = rise w.order v.order w.name v.name more in grind (arith, nat_tests, above, more))
        (λ at_most.
        let same : v.name ≡ w.name = omega (arith, at_least, at_most) in
        let moved_same : n.number v.order v.name ≡ n.number w.order w.name = ap (λ (u : Variable). n.number u.order u.name) (apart v w first second same) in
        grind (arith, nat_tests, same, moved_same))
        (cases_lt w.name v.name))
        (cases_lt v.name w.name)

    pub equal_moved : (v w : Variable) → IsAmong scope v → IsAmong scope w → nat_eq (n.number v.order v.name) (n.number w.order w.name) ≡ nat_eq v.name w.name
    equal_moved v w first second = ⊎_elim
        (λ less. let above = rise v.order w.order v.name w.name less in grind (arith, nat_tests, above, less))
        (λ at_least. ⊎_elim
        (λ more. let above = rise w.order v.order w.name v.name more in grind (arith, nat_tests, above, more))
        (λ at_most.
        let same : v.name ≡ w.name = omega (arith, at_least, at_most) in
        let moved_same : n.number v.order v.name ≡ n.number w.order w.name = ap (λ (u : Variable). n.number u.order u.name) (apart v w first second same) in
        grind (arith, nat_tests, same, moved_same))
        (cases_lt w.name v.name))
        (cases_lt v.name w.name)

    with_moved : (v : Variable) (ws : List Variable) → IsAmong scope v → AreInside scope ws → with_variable (renumbered_variable n v) (moved_all n ws) ≡ moved_all n (with_variable v ws)
    with_moved v [] first inside = refl
    with_moved v (w ∷ ws) first inside =
        let move = renumbered_variable n in
        let second = inside w (Contains-first w ws) in
        let later = with_moved v ws first (λ u there. inside u (Contains-rest w ws u there)) in
        ap₂ (λ (less equal : Bool). if less then move v ∷ (move w ∷ moved_all n ws) else (if equal then move w ∷ moved_all n ws else move w ∷ with_variable (move v) (moved_all n ws)))
        (less_moved v w first second) (equal_moved v w first second)
        ∙ ap (λ (us : List Variable). if nat_lt v.name w.name then move v ∷ (move w ∷ moved_all n ws) else (if nat_eq v.name w.name then move w ∷ moved_all n ws else move w ∷ us)) later
        ∙ ap (λ (us : List Variable). if nat_lt v.name w.name then move v ∷ (move w ∷ moved_all n ws) else us) (push_map move (nat_eq v.name w.name) (w ∷ ws) (w ∷ with_variable v ws))
        ∙ push_map move (nat_lt v.name w.name) (v ∷ (w ∷ ws)) (if nat_eq v.name w.name then w ∷ ws else w ∷ with_variable v ws)

    pub joined_inside : (vs ws : List Variable) → AreInside scope vs → AreInside scope ws → AreInside scope (joined vs ws)
    joined_inside vs ws first second u there = ⊎_elim (λ left. first u left) (λ right. second u right) (joined_there vs ws u there)

    pub joined_moved : (vs ws : List Variable) → AreInside scope vs → AreInside scope ws → joined (moved_all n vs) (moved_all n ws) ≡ moved_all n (joined vs ws)
    joined_moved [] ws first second = refl
    joined_moved (v ∷ vs) ws first second =
        let behind : AreInside scope vs = λ u there. first u (Contains-rest v vs u there) in
        ap (with_variable (renumbered_variable n v)) (joined_moved vs ws behind second)
        ∙ with_moved v (joined vs ws) (first v (Contains-first v vs)) (joined_inside vs ws behind second)

    pub without_moved : (x : Variable) (vs : List Variable) → IsAmong scope x → AreInside scope vs → without (n.number x.order x.name) (moved_all n vs) ≡ moved_all n (without x.name vs)
    without_moved x [] among inside = refl
    without_moved x (v ∷ vs) among inside =
        let move = renumbered_variable n in
        let later = without_moved x vs among (λ u there. inside u (Contains-rest v vs u there)) in
        ap₂ (λ (equal : Bool) (us : List Variable). if not equal then move v ∷ us else us) (equal_moved v x (inside v (Contains-first v vs)) among) later
        ∙ push_map move (not (nat_eq v.name x.name)) (v ∷ without x.name vs) (without x.name vs)

  none_inside : (scope : List Variable) → AreInside scope []
  none_inside scope v there = absurd (Contains-none v there)

  -- so the free variables have the new numbers
  module _ (imports : List Import) (known : KnowsImports imports n) where
    mutual
      pub free_moved : (f : CoreForm) (scope : List Variable) → AreApart scope → Stands imports scope f → free_variables imports (renumbered n f) ≡ moved_all n (free_variables imports f)
      free_moved truth scope apart stands = refl
      free_moved falsity scope apart stands = refl
      free_moved (basic b) scope apart stands =
          ap (λ vs. joined vs []) (moved_basic n b) ∙ joined_moved scope apart (variables_of_basic b) [] (contained_each (IsAmong scope) (variables_of_basic b) stands) (none_inside scope)
      free_moved (negation f) scope apart stands = free_moved f scope apart stands
      free_moved (conjunction fs) scope apart stands = among_moved fs scope apart stands
      free_moved (disjunction fs) scope apart stands = among_moved fs scope apart stands
      free_moved (implication f g) scope apart stands =
          ap₂ joined (free_moved f scope apart stands.0) (free_moved g scope apart stands.1)
          ∙ joined_moved scope apart (free_variables imports f) (free_variables imports g) (free_in_scope imports f scope stands.0) (free_in_scope imports g scope stands.1)
      free_moved (equivalence f g) scope apart stands =
          ap₂ joined (free_moved f scope apart stands.0) (free_moved g scope apart stands.1)
          ∙ joined_moved scope apart (free_variables imports f) (free_variables imports g) (free_in_scope imports f scope stands.0) (free_in_scope imports g scope stands.1)
      free_moved (restrict f) scope apart stands = free_moved f scope apart stands
      free_moved (imported i xs) scope apart stands =
          let own = variables_of_import (slice_get imports i) in
          ap (λ vs. joined vs []) (ap (λ us. variables_at (map (λ p. n.number p.1.order p.0) (zip xs us)) own) (known i) ∙ moved_import n xs own)
          ∙ joined_moved scope apart (variables_at xs own) [] (contained_each (IsAmong scope) (variables_at xs own) stands.1) (none_inside scope)
      free_moved (quantified q o x d f) scope apart stands =
          let bound = variable x o in
          let wider = apart_push scope x o apart stands.0 in
          let range = free_variables_in imports d in
          let body = free_variables imports f in
          let range_inside = restriction_in_scope imports d (bound ∷ scope) stands.1 in
          let body_inside = free_in_scope imports f (bound ∷ scope) stands.2 in
          ap₂ (λ vs ws. without (n.number o x) (joined vs ws)) (range_moved d (bound ∷ scope) wider stands.1) (free_moved f (bound ∷ scope) wider stands.2)
          ∙ ap (without (n.number o x)) (joined_moved (bound ∷ scope) wider range body range_inside body_inside)
          ∙ without_moved (bound ∷ scope) wider bound (joined range body) (inl refl) (joined_inside (bound ∷ scope) wider range body range_inside body_inside)

      among_moved : (fs : CoreForms) (scope : List Variable) → AreApart scope → EachStands imports scope fs → free_variables_among imports (renumbered_each n fs) ≡ moved_all n (free_variables_among imports fs)
      among_moved no_forms scope apart stands = refl
      among_moved (more_forms f fs) scope apart stands =
          ap₂ joined (free_moved f scope apart stands.0) (among_moved fs scope apart stands.1)
          ∙ joined_moved scope apart (free_variables imports f) (free_variables_among imports fs) (free_in_scope imports f scope stands.0) (among_in_scope imports fs scope stands.1)

      pub range_moved : (d : CoreRestriction) (scope : List Variable) → AreApart scope → RestrictionStands imports scope d → free_variables_in imports (renumbered_in n d) ≡ moved_all n (free_variables_in imports d)
      range_moved unrestricted scope apart stands = refl
      range_moved (restricted d) scope apart stands = free_moved d scope apart stands
