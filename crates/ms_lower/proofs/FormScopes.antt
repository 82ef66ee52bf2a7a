-- In the spread of a formula each variable stands in its scope.
use Rattle.std.proofs.Common.{◌≡◌, ℕ, ◌+◌, ◌==◌, ◌&&◌, Bool, true, false, cond, ◌⊎◌, List, [], ◌∷◌, length, map, slice_get, Option, Some, None, inl, inr, ⊎_elim, refl, sym, ap, subst, ◌∙◌}
use Rattle.std.proofs.lemmas.Bool.{cases_eq, eq-eqb, ne_eqb}
use Rattle.std.proofs.lemmas.List.{length-map}
use Rattle.std.proofs.lemmas.Option.{none-some, same_Some}
use Rattle.std.specs.Option.{option_map}
use Rattle.ms_logic_core.specs.declared.core_formula.Basic.TheVariants as Basic
use Rattle.ms_logic.specs.declared.mode.Order.{Order}
use Rattle.ms_logic.specs.declared.mode.Order.TheVariants.{Zero, One, Two}
use Rattle.ms_logic.specs.declared.mode.Rel.{Rel}
use Rattle.ms_logic.specs.declared.mode.Rel.TheVariants.{Equal, Differs, Less, AtMost, Greater, AtLeast, Member, NotMember, Sub}
use Rattle.ms_logic.specs.Assignment.{Variable}
use Rattle.ms_logic_core.specs.CoreForm.{CoreForm, basic, core_forms}
use Rattle.ms_logic.specs.FreeVariables.{FreeUnder, FreeInForms, FreeInRestriction, FreeInArguments, IsBound, IsListed, IsVariable, Reads, orders_of}
use Rattle.ms_logic_core.specs.Spread.{Callees, Names, TermSpread, after_first, conjunction_of, first_named, is_order, named, numbers_and_sets, numbers_relate, sets_relate, is_member_or_not, spread_each, spread_number, spread_restriction, spread_set, spread_under, truth_value, truth_values, variable_of_form, variables_of_import}
use Rattle.ms_logic_core.specs.Operands.{variables_at}
use Rattle.ms_logic.specs.Tree.{Form, truth, falsity, truth_variable, negation, conjunction, disjunction, implication, equivalence, comparison, set_comparison, membership, emptiness, quantified, where_let, call, restrict, imported, exported, default_at, Forms, no_forms, more_forms, Restriction, unrestricted, restricted, truth_argument, number_argument, set_argument, Arguments, no_arguments, more_arguments}
use Rattle.ms_logic.specs.Truth.{Import}
use Rattle.ms_logic.specs.Lists.{Each, IsAmong}
use Rattle.ms_lower.specs.inner.Given.{Giving, Inner}
use Rattle.ms_logic_core.specs.Stands.{EachStands, RestrictionStands, Stands}
use Rattle.ms_lower.proofs.TermScopes.{Below, Covers, StandsWell, Wider, at, below_new, known_well, number_well, set_well, variable}

order_is : (o p : Order) → is_order o p ≡ true → o ≡ p
order_is Zero Zero is = refl
order_is Zero One is = cc
order_is Zero Two is = cc
order_is One Zero is = cc
order_is One One is = refl
order_is One Two is = cc
order_is Two Zero is = cc
order_is Two One is = cc
order_is Two Two is = refl

order_is_not : (o p : Order) → is_order o p ≡ false → p ≡ o → ⊥
order_is_not Zero Zero is same = cc
order_is_not Zero One is same = cc
order_is_not Zero Two is same = cc
order_is_not One Zero is same = cc
order_is_not One One is same = cc
order_is_not One Two is same = cc
order_is_not Two Zero is same = cc
order_is_not Two One is same = cc
order_is_not Two Two is same = cc

-- a variable is the one that is named, or it keeps its name
abbrev pub NamedOr : Order → ℕ → ℕ → Names → Variable → Type 0
NamedOr o x y names w = (IsVariable x o w × (at (named o x y names) w ≡ variable y o)) ⊎ ((¬ IsVariable x o w) × (at (named o x y names) w ≡ at names w))

pub named_or : (o : Order) (x y : ℕ) (names : Names) (w : Variable) (b : Bool) → is_order o w.order ≡ b → NamedOr o x y names w
named_or o x y names w true is =
    let same = order_is o w.order is in
    elim (cases_eq w.name x) [
      | inl here ↦
          inl (
            (here, sym same),
            ap (λ b. let v : Variable = record { name = cond (b && (w.name == x)) y (names w.order w.name); order = w.order } in v) is
                ∙ (ap (λ b. let v : Variable = record { name = cond b y (names w.order w.name); order = w.order } in v) (eq-eqb w.name x here) ∙ ap (λ p. variable y p) (sym same)),
          )
      | inr other ↦
          inr (
            (λ v. other v.0),
            ap (λ b. let v : Variable = record { name = cond (b && (w.name == x)) y (names w.order w.name); order = w.order } in v) is
                ∙ ap (λ b. let v : Variable = record { name = cond b y (names w.order w.name); order = w.order } in v) (ne_eqb w.name x other),
          )
    ]
named_or o x y names w false is =
    inr ((λ v. order_is_not o w.order is v.1), ap (λ b. let v : Variable = record { name = cond (b && (w.name == x)) y (names w.order w.name); order = w.order } in v) is)

-- inner names give some variables names in a scope, and the others keep those that they had
Extends : (Variable → Type 0) → Names → Names → List Variable → Type 0
Extends B inner made scope = (w : Variable) → (B w × IsAmong scope (at made w)) ⊎ ((¬ B w) × (at made w ≡ at inner w))

-- the variable is the first that gets a value, and the value has its order
FirstIs : List ℕ → Order → Variable → Type 0
FirstIs [] o w = ⊥
FirstIs (x ∷ xs) o w = IsVariable x o w

-- a number or a set, and a truth value, is given to the variable

GivenNumber : List ℕ → Arguments → Variable → Type 0
GivenNumber xs no_arguments w = ⊥
GivenNumber xs (more_arguments (truth_argument f) more) w = GivenNumber (after_first xs) more w
GivenNumber xs (more_arguments (number_argument t) more) w = FirstIs xs One w ⊎ GivenNumber (after_first xs) more w
GivenNumber xs (more_arguments (set_argument s) more) w = FirstIs xs Two w ⊎ GivenNumber (after_first xs) more w

GivenTruth : List ℕ → Arguments → Variable → Type 0
GivenTruth xs no_arguments w = ⊥
GivenTruth xs (more_arguments (truth_argument f) more) w = FirstIs xs Zero w ⊎ GivenTruth (after_first xs) more w
GivenTruth xs (more_arguments (number_argument t) more) w = GivenTruth (after_first xs) more w
GivenTruth xs (more_arguments (set_argument s) more) w = GivenTruth (after_first xs) more w

given_either : (xs : List ℕ) (args : Arguments) (w : Variable) → IsBound xs (orders_of args) w → GivenNumber xs args w ⊎ GivenTruth xs args w
unfolding FirstIs GivenNumber GivenTruth
given_either [] args w bound = absurd bound
given_either (x ∷ xs) no_arguments w bound = absurd bound
given_either (x ∷ xs) (more_arguments (truth_argument f) more) w (inl here) = inr (inl here)
given_either (x ∷ xs) (more_arguments (truth_argument f) more) w (inr later) = elim (given_either xs more w later) [ inl n ↦ inl n | inr t ↦ inr (inr t) ]
given_either (x ∷ xs) (more_arguments (number_argument t) more) w (inl here) = inl (inl here)
given_either (x ∷ xs) (more_arguments (number_argument t) more) w (inr later) = elim (given_either xs more w later) [ inl n ↦ inl (inr n) | inr v ↦ inr v ]
given_either (x ∷ xs) (more_arguments (set_argument s) more) w (inl here) = inl (inl here)
given_either (x ∷ xs) (more_arguments (set_argument s) more) w (inr later) = elim (given_either xs more w later) [ inl n ↦ inl (inr n) | inr v ↦ inr v ]

-- one name more, if there is a variable for it
extended : (B : Variable → Type 0) (xs : List ℕ) (o : Order) (y : ℕ) (inner made : Names) (scope : List Variable) → IsAmong scope (variable y o) → Extends B inner made scope →
    Extends (λ w. FirstIs xs o w ⊎ B w) inner (first_named o xs y made) scope
unfolding Extends FirstIs
extended B [] o y inner made scope there extends w =
    elim (extends w) [
      | inl given ↦ inl (inr given.0, given.1)
      | inr kept ↦ inr ((λ e. ⊎_elim (λ none. none) kept.0 e), kept.1)
    ]
extended B (x ∷ xs) o y inner made scope there extends w =
    elim (named_or o x y made w (is_order o w.order) refl) [
      | inl here ↦ inl (inl here.0, subst (IsAmong scope) (sym here.1) there)
      | inr other ↦
          elim (extends w) [
            | inl given ↦ inl (inr given.0, subst (IsAmong scope) (sym other.1) given.1)
            | inr kept ↦ inr ((λ e. ⊎_elim other.0 kept.0 e), other.1 ∙ kept.1)
          ]
    ]

-- what predicates, default restrictions and imports stand for fits what is read of them
pub record Fits (imports : List Import) (r : Reads) (c : Callees) : Type 1 where
  pub called : (p : ℕ) (orders : List Order) (inner : Names) (scope : List Variable) (free : ℕ) → ((w : Variable) → IsBound (c.parameters p) orders w → IsAmong scope (at inner w)) →
      ((w : Variable) → r.called p orders w → IsAmong scope (at inner w)) → Below free scope → Stands imports scope (c.body p inner free)
  pub default : (p x : ℕ) (names : Names) (scope : List Variable) (free : ℕ) → ((w : Variable) → r.default p x w → IsAmong scope (at names w)) → Below free scope → Stands imports scope (c.default p x names free)
  pub imported : (i : ℕ) → c.imported i ≡ variables_of_import (slice_get imports i)
  pub reads : (i : ℕ) (w : Variable) → IsListed (c.imported i) w → r.imported i w

pub conjunction_stands : (imports : List Import) (scope : List Variable) (fs : List CoreForm) → EachStands imports scope (core_forms fs) → Stands imports scope (conjunction_of fs)
conjunction_stands imports scope [] all = tt
conjunction_stands imports scope (f ∷ []) all = all.0
conjunction_stands imports scope (f ∷ g ∷ fs) all = all

numbers_stand : (imports : List Import) (scope : List Variable) (rel : Rel) (x y : ℕ) → IsAmong scope (variable x One) → IsAmong scope (variable y One) → Stands imports scope (numbers_relate rel x y)
numbers_stand imports scope Equal x y a b = (a, (b, tt))
numbers_stand imports scope Differs x y a b = (a, (b, tt))
numbers_stand imports scope Less x y a b = (a, (b, tt))
numbers_stand imports scope AtLeast x y a b = (a, (b, tt))
numbers_stand imports scope Greater x y a b = (b, (a, tt))
numbers_stand imports scope AtMost x y a b = (b, (a, tt))
numbers_stand imports scope Member x y a b = tt
numbers_stand imports scope NotMember x y a b = tt
numbers_stand imports scope Sub x y a b = tt

sets_stand : (imports : List Import) (scope : List Variable) (rel : Rel) (s t : ℕ) → IsAmong scope (variable s Two) → IsAmong scope (variable t Two) → Stands imports scope (sets_relate rel s t)
sets_stand imports scope Equal s t a b = (a, (b, (b, tt)))
sets_stand imports scope Differs s t a b = (a, (b, (b, tt)))
sets_stand imports scope Sub s t a b = (a, (b, tt))
sets_stand imports scope Less s t a b = tt
sets_stand imports scope AtLeast s t a b = tt
sets_stand imports scope Greater s t a b = tt
sets_stand imports scope AtMost s t a b = tt
sets_stand imports scope Member s t a b = tt
sets_stand imports scope NotMember s t a b = tt

member_stands : (imports : List Import) (scope : List Variable) (positive : Bool) (x s : ℕ) → IsAmong scope (variable x One) → IsAmong scope (variable s Two) → Stands imports scope (is_member_or_not positive x s)
member_stands imports scope true x s a b = (a, (b, tt))
member_stands imports scope false x s a b = (a, (b, tt))

imported_among : (scope : List Variable) (names : Names) (vs : List Variable) → ((w : Variable) → IsListed vs w → IsAmong scope (at names w)) → Each (IsAmong scope) (variables_at (map (λ v. names v.order v.name) vs) vs)
imported_among scope names [] covers = tt
imported_among scope names (v ∷ vs) covers = (covers v (inl (refl, refl)), imported_among scope names vs (λ w l. covers w (inr l)))

-- the variable that a formula is, is read in it
own_variable : (r : Reads) (f : Form) (x : ℕ) → variable_of_form f ≡ Some x → FreeUnder r f (variable x Zero)
own_variable r truth x is = absurd (none-some x is)
own_variable r falsity x is = absurd (none-some x is)
own_variable r (truth_variable y) x is = (sym (same_Some y x is), refl)
own_variable r (negation f) x is = absurd (none-some x is)
own_variable r (conjunction fs) x is = absurd (none-some x is)
own_variable r (disjunction fs) x is = absurd (none-some x is)
own_variable r (implication f g) x is = absurd (none-some x is)
own_variable r (equivalence f g) x is = absurd (none-some x is)
own_variable r (comparison rel t u) x is = absurd (none-some x is)
own_variable r (set_comparison rel s t) x is = absurd (none-some x is)
own_variable r (membership positive t s) x is = absurd (none-some x is)
own_variable r (emptiness s) x is = absurd (none-some x is)
own_variable r (quantified q o y d f) x is = absurd (none-some x is)
own_variable r (where_let ys sides f) x is = absurd (none-some x is)
own_variable r (call p given) x is = absurd (none-some x is)
own_variable r (restrict f) x is = absurd (none-some x is)
own_variable r (imported i) x is = absurd (none-some x is)
own_variable r (exported i f) x is = absurd (none-some x is)
own_variable r (default_at p y) x is = absurd (none-some x is)

module _ (imports : List Import) where
  -- what is said with inner names that give these variables names in the scope, and keep the others
  abbrev InnerWell : List Variable → (Variable → Type 0) → Names → Inner → Type 0
  InnerWell scope B inner Said = (next : ℕ) (wide : List Variable) (made : Names) → Wider scope wide → Below next wide → Extends B inner made wide → Stands imports wide (Said made next)

  -- one value more, around what gives the later ones
  value_given : (B : Variable → Type 0) (o : Order) (T : TermSpread) (xs : List ℕ) (rest : Giving) (inner : Names) (free : ℕ) (scope : List Variable) (Said : Inner) → StandsWell imports scope o T →
      ((next : ℕ) (wide : List Variable) (Said : Inner) → Wider scope wide → Below next wide → InnerWell wide B inner Said → Stands imports wide (rest inner next Said)) →
      Below free scope → InnerWell scope (λ w. FirstIs xs o w ⊎ B w) inner Said →
      Stands imports scope (T free (λ free y. rest inner free (λ made free. Said (first_named o xs y made) free)))
  value_given B o T xs rest inner free scope Said one later below well =
      one free scope (λ free y. rest inner free (λ made free. Said (first_named o xs y made) free)) (λ v h. h) below (λ next y wide w b there.
      later next wide (λ made free. Said (first_named o xs y made) free) w b (λ last most made m k extends.
      well last most (first_named o xs y made) (λ v h. m v (w v h)) k (extended B xs o y inner made most (m (variable y o) there) extends)))

  numbers_given : (r : Reads) (args : Arguments) (xs : List ℕ) (names inner : Names) (free : ℕ) (scope : List Variable) (Said : Inner) → Covers (FreeInArguments r args) names scope → Below free scope →
      InnerWell scope (GivenNumber xs args) inner Said → Stands imports scope (numbers_and_sets xs args names inner free Said)
  unfolding Extends GivenNumber
  numbers_given r no_arguments xs names inner free scope Said covers below well = well free scope inner (λ v h. h) below (λ w. inr ((λ e. e), refl))
  numbers_given r (more_arguments (truth_argument f) more) xs names inner free scope Said covers below well =
      numbers_given r more (after_first xs) names inner free scope Said (λ w e. covers w (inr e)) below well
  numbers_given r (more_arguments (number_argument t) more) xs names inner free scope Said covers below well =
      value_given (GivenNumber (after_first xs) more) One (spread_number t names) xs (numbers_and_sets (after_first xs) more names) inner free scope Said (number_well imports t names scope (λ w e. covers w (inl e)))
      (λ next wide Said w b well. numbers_given r more (after_first xs) names inner next wide Said (λ z e. w (at names z) (covers z (inr e))) b well) below well
  numbers_given r (more_arguments (set_argument s) more) xs names inner free scope Said covers below well =
      value_given (GivenNumber (after_first xs) more) Two (spread_set s names) xs (numbers_and_sets (after_first xs) more names) inner free scope Said (set_well imports s names scope (λ w e. covers w (inl e)))
      (λ next wide Said w b well. numbers_given r more (after_first xs) names inner next wide Said (λ z e. w (at names z) (covers z (inr e))) b well) below well

  -- a truth value among the arguments
  truth_well : (base : List Variable) (names : Names) (f : Form) (F : ℕ → CoreForm) (o : Option ℕ) → variable_of_form f ≡ o → ((x : ℕ) → variable_of_form f ≡ Some x → IsAmong base (variable (names Zero x) Zero)) →
      ((next : ℕ) (wide : List Variable) → Wider base wide → Below next wide → Stands imports wide (F next)) → StandsWell imports base Zero (truth_value (option_map (names Zero) o) F)
  truth_well base names f F (Some x) is own stands free scope Said wider below says = known_well imports base Zero (names Zero x) (own x is) free scope Said wider below says
  truth_well base names f F None is own stands free scope Said wider below says =
      let wide : List Variable = variable free Zero ∷ scope in
      let new = below_new free Zero scope below in
      (below, tt, (((inl refl, tt), stands (free + 1) wide (λ v h. inr (wider v h)) new), (says (free + 1) free wide (λ v h. inr h) new (inl refl), tt)))

-- inner names read what a formula reads, where the variables that are given are known
inner_covers : (xs : List ℕ) (args : Arguments) (names one both : Names) (scope wide most : List Variable) (w : Variable) → Wider scope wide → Wider wide most → Extends (GivenNumber xs args) names one wide → Extends (GivenTruth xs args) one both most →
    (IsBound xs (orders_of args) w ⊎ ((¬ IsBound xs (orders_of args) w) → IsAmong scope (at names w))) → IsAmong most (at both w)
unfolding Extends
inner_covers xs args names one both scope wide most w wider widest numbers truths known =
    elim (truths w) [
      | inl given ↦ given.1
      | inr kept ↦
          elim (numbers w) [
            | inl given ↦ subst (IsAmong most) (sym kept.1) (widest (at one w) given.1)
            | inr still ↦
                let free : IsBound xs (orders_of args) w → ⊥ = λ b. ⊎_elim still.0 kept.0 (given_either xs args w b) in
                elim known [
                  | inl bound ↦ absurd (free bound)
                  | inr outside ↦ subst (IsAmong most) (sym (kept.1 ∙ still.1)) (widest (at names w) (wider (at names w) (outside free)))
                ]
          ]
    ]

module _ (imports : List Import) (r : Reads) (c : Callees) (fits : Fits imports r c) where
  mutual
    unfolding Extends GivenTruth

    pub form_stands : (f : Form) (names : Names) (scope : List Variable) (free : ℕ) → Covers (FreeUnder r f) names scope → Below free scope → Stands imports scope (spread_under c f names free)
    form_stands truth names scope free covers below = tt
    form_stands falsity names scope free covers below = tt
    form_stands (truth_variable x) names scope free covers below = (covers (variable x Zero) (refl, refl), tt)
    form_stands (negation f) names scope free covers below = form_stands f names scope free covers below
    form_stands (conjunction fs) names scope free covers below = conjunction_stands imports scope (spread_each c fs names free) (forms_stand fs names scope free covers below)
    form_stands (disjunction fs) names scope free covers below = forms_stand fs names scope free covers below
    form_stands (implication f g) names scope free covers below = (form_stands f names scope free (λ w e. covers w (inl e)) below, form_stands g names scope free (λ w e. covers w (inr e)) below)
    form_stands (equivalence f g) names scope free covers below = (form_stands f names scope free (λ w e. covers w (inl e)) below, form_stands g names scope free (λ w e. covers w (inr e)) below)
    form_stands (comparison rel t u) names scope free covers below =
        number_well imports t names scope (λ w e. covers w (inl e)) free scope (λ free x. spread_number u names free (λ free y. numbers_relate rel x y)) (λ v h. h) below (λ next x wide w b there.
        number_well imports u names scope (λ z e. covers z (inr e)) next wide (λ free y. numbers_relate rel x y) w b (λ last y most m k here. numbers_stand imports most rel x y (m (variable x One) there) here))
    form_stands (set_comparison rel s t) names scope free covers below =
        set_well imports s names scope (λ w e. covers w (inl e)) free scope (λ free x. spread_set t names free (λ free y. sets_relate rel x y)) (λ v h. h) below (λ next x wide w b there.
        set_well imports t names scope (λ z e. covers z (inr e)) next wide (λ free y. sets_relate rel x y) w b (λ last y most m k here. sets_stand imports most rel x y (m (variable x Two) there) here))
    form_stands (membership positive t s) names scope free covers below =
        number_well imports t names scope (λ w e. covers w (inl e)) free scope (λ free x. spread_set s names free (λ free y. is_member_or_not positive x y)) (λ v h. h) below (λ next x wide w b there.
        set_well imports s names scope (λ z e. covers z (inr e)) next wide (λ free y. is_member_or_not positive x y) w b (λ last y most m k here. member_stands imports most positive x y (m (variable x One) there) here))
    form_stands (emptiness s) names scope free covers below =
        set_well imports s names scope covers free scope (λ free x. basic (Basic.Bits x 0)) (λ v h. h) below (λ next x wide w b there. (there, tt))
    form_stands (quantified q o x d f) names scope free covers below =
        let wide : List Variable = variable free o ∷ scope in (
          below,
          restriction_stands d (named o x free names) wide (free + 1) (λ w e. elim (named_or o x free names w (is_order o w.order) refl) [
            | inl here ↦ inl (sym here.1)
            | inr other ↦ inr (subst (IsAmong scope) (sym other.1) (covers w (other.0, inl e)))
          ]) (below_new free o scope below),
          form_stands f (named o x free names) wide (free + 1) (λ w e. elim (named_or o x free names w (is_order o w.order) refl) [
            | inl here ↦ inl (sym here.1)
            | inr other ↦ inr (subst (IsAmong scope) (sym other.1) (covers w (other.0, inr e)))
          ]) (below_new free o scope below),
        )
    form_stands (where_let xs sides f) names scope free covers below =
        numbers_given imports r sides xs names names free scope (λ inner free. truth_values c xs sides names inner free (λ inner free. spread_under c f inner free)) (λ w e. covers w (inl e)) below (λ next wide one w b numbers.
        truths_given sides xs names one next wide (λ inner free. spread_under c f inner free) (λ z e. w (at names z) (covers z (inl e))) b (λ last most both m k truths.
        form_stands f both most last (λ z e. inner_covers xs sides names one both scope wide most z w m numbers truths (inr (λ out. covers z (inr (out, e))))) k))
    form_stands (call p given) names scope free covers below =
        numbers_given imports r given (c.parameters p) names names free scope (λ inner free. truth_values c (c.parameters p) given names inner free (λ inner free. c.body p inner free)) (λ w e. covers w (inl e)) below (λ next wide one w b numbers.
        truths_given given (c.parameters p) names one next wide (λ inner free. c.body p inner free) (λ z e. w (at names z) (covers z (inl e))) b (λ last most both m k truths.
        fits.called p (orders_of given) both most last
        (λ z bound. inner_covers (c.parameters p) given names one both scope wide most z w m numbers truths (inl bound))
        (λ z e. inner_covers (c.parameters p) given names one both scope wide most z w m numbers truths (inr (λ out. covers z (inr e)))) k))
    form_stands (restrict f) names scope free covers below = form_stands f names scope free covers below
    form_stands (imported i) names scope free covers below =
        let vs = c.imported i in
        let among = imported_among scope names vs (λ w l. covers w (fits.reads i w l)) in (
          length-map vs (λ v. names v.order v.name) ∙ ap (λ l. length l) (fits.imported i),
          subst (λ l. Each (IsAmong scope) (variables_at (map (λ v. names v.order v.name) vs) l)) (fits.imported i) among,
        )
    form_stands (exported i f) names scope free covers below = form_stands f names scope free covers below
    form_stands (default_at p x) names scope free covers below = fits.default p x names scope free covers below

    pub forms_stand : (fs : Forms) (names : Names) (scope : List Variable) (free : ℕ) → Covers (FreeInForms r fs) names scope → Below free scope → EachStands imports scope (core_forms (spread_each c fs names free))
    forms_stand no_forms names scope free covers below = tt
    forms_stand (more_forms f fs) names scope free covers below = (form_stands f names scope free (λ w e. covers w (inl e)) below, forms_stand fs names scope free (λ w e. covers w (inr e)) below)

    restriction_stands : (d : Restriction) (names : Names) (scope : List Variable) (free : ℕ) → Covers (FreeInRestriction r d) names scope → Below free scope → RestrictionStands imports scope (spread_restriction c d names free)
    restriction_stands unrestricted names scope free covers below = tt
    restriction_stands (restricted d) names scope free covers below = form_stands d names scope free covers below

    truths_given : (args : Arguments) (xs : List ℕ) (names inner : Names) (free : ℕ) (scope : List Variable) (Said : Inner) → Covers (FreeInArguments r args) names scope → Below free scope →
        InnerWell imports scope (GivenTruth xs args) inner Said → Stands imports scope (truth_values c xs args names inner free Said)
    truths_given no_arguments xs names inner free scope Said covers below well = well free scope inner (λ v h. h) below (λ w. inr ((λ e. e), refl))
    truths_given (more_arguments (number_argument t) more) xs names inner free scope Said covers below well = truths_given more (after_first xs) names inner free scope Said (λ w e. covers w (inr e)) below well
    truths_given (more_arguments (set_argument s) more) xs names inner free scope Said covers below well = truths_given more (after_first xs) names inner free scope Said (λ w e. covers w (inr e)) below well
    truths_given (more_arguments (truth_argument f) more) xs names inner free scope Said covers below well =
        value_given imports (GivenTruth (after_first xs) more) Zero (truth_value (option_map (names Zero) (variable_of_form f)) (spread_under c f names)) xs (truth_values c (after_first xs) more names) inner free scope Said
        (truth_well imports scope names f (spread_under c f names) (variable_of_form f) refl (λ x is. covers (variable x Zero) (inl (own_variable r f x is))) (λ next wide w b. form_stands f names wide next (λ z e. w (at names z) (covers z (inl e))) b))
        (λ next wide Said w b well. truths_given more (after_first xs) names inner next wide Said (λ z e. w (at names z) (covers z (inr e))) b well) below well
