-- The spread of a formula in which calls stand as imports becomes the spread of the formula where they are filled in.
use Rattle.std.proofs.Common.{◌≡◌, ℕ, zero, suc, ◌+◌, ◌<◌, ◌≤◌, Bool, true, false, ◌⊎◌, List, [], ◌∷◌, length, map, slice_get, Option, Some, None, IsSomeAnd, inl, inr, refl, sym, ap, ap₂, subst, ◌∙◌, arith}
use Rattle.std.proofs.lemmas.Bool.{cases_lt}
use Rattle.std.specs.Option.{option_map}
use Rattle.ms_logic_core.specs.declared.core_formula.Basic.TheVariants as relation
use Rattle.ms_logic.specs.declared.mode.Order.{Order}
use Rattle.ms_logic.specs.declared.mode.Order.TheVariants.{Zero, One, Two}
use Rattle.ms_logic.specs.declared.mode.Quant.TheVariants.{Ex}
use Rattle.ms_logic.specs.declared.mode.Rel.{Rel}
use Rattle.ms_logic.specs.declared.mode.Rel.TheVariants.{Equal, Differs, Less, AtMost, Greater, AtLeast, Member, NotMember, Sub}
use Rattle.ms_logic.specs.Assignment.{Variable}
use Rattle.ms_logic_core.specs.CoreForm as core
use Rattle.ms_logic_core.specs.CoreForm.{CoreForm, basic, core_forms}
use Rattle.ms_logic.specs.FreeVariables.{FreeUnder, FreeInForms, FreeInRestriction, FreeInArguments, IsBound, IsListed, IsVariable, Reads, orders_of}
use Rattle.ms_logic_core.specs.Spread.{Callees, Names, after_first, both_of, conjunction_of, first_named, is_member_or_not, is_order, named, numbers_and_sets, numbers_relate, sets_relate, spread_each, spread_number, spread_restriction, spread_set, spread_under, truth_value, truth_values, variable_of_form}
use Rattle.ms_logic.specs.Tree.{Form, truth, falsity, truth_variable, negation, conjunction, disjunction, implication, equivalence, comparison, set_comparison, membership, emptiness, quantified, where_let, call, restrict, imported, exported, default_at, Forms, no_forms, more_forms, Restriction, unrestricted, restricted, truth_argument, number_argument, set_argument, Arguments, no_arguments, more_arguments}
use Rattle.ms_names_rules.specs.Numbers.{AreNew, AreNumbered, AreNumberedArguments, HasParameters, ImportSees, IsDefault, IsNew, IsNumbered, IsNumberedRestriction, Tables, order_of_argument, seeing, seeing_all}
use Rattle.ms_logic_spread.proofs.Seen.{orders-of}
use Rattle.ms_lower.specs.inner.Given.{Inner}
use Rattle.ms_lower.specs.Numbering.{renumbered}
use Rattle.ms_lower.proofs.FormScopes.{named_or}
use Rattle.ms_lower.proofs.TermScopes.{variable}
use Rattle.ms_logic_core.specs.Calls.{filled, filled_each}
use Rattle.ms_build_source.proofs.FilledTerms.{Filling, Fills, FillsIn, SaysFilled, new_fills, number_fills, set_fills, two_fill}
use Rattle.ms_build_source.proofs.FormNames.{conjunction_renumbered, each_renumbered}
use Rattle.ms_build_source.proofs.Renumbering.{numbers_with}

-- a global that is read keeps its number
abbrev pub Keeps : Filling → (Variable → Type 0) → Names → Type 0
Keeps way Read names = (w : Variable) → Read w → w.name < way.globals → (names w.order w.name ≡ w.name) × (w.name < way.kept)

-- all globals are seen
abbrev pub SeesGlobals : Filling → List Variable → Type 0
SeesGlobals way seen = (x : ℕ) → x < way.globals → (o : Order) × IsListed seen (variable x o)

-- Two callees, of which in the first a call of a predicate below a bound stands as an import: it becomes what the second has, where
-- the globals that the predicate reads are kept. No parameter is among what the predicate reads.
pub record CalleesFill (way : Filling) (tables : Tables) (bound : ℕ) (r : Reads) (c d : Callees) : Type 0 where
  pub parameters : (p : ℕ) → c.parameters p ≡ d.parameters p
  pub apart : (p : ℕ) (orders : List Order) (w : Variable) → r.called p orders w → ¬ IsBound (d.parameters p) orders w
  pub called : (p : ℕ) (orders : List Order) (names : Names) (free : ℕ) → HasParameters tables bound p orders → way.kept ≤ free → Keeps way (r.called p orders) names → Fills way (c.body p names free) (d.body p names free)
  pub default : (p x : ℕ) (o : Order) (names : Names) (free : ℕ) → IsDefault tables bound p o → way.kept ≤ free → Keeps way (r.default p x) names → Fills way (c.default p x names free) (d.default p x names free)
  pub imported : (i : ℕ) (names : Names) → i < length tables.imports → Fills way (core.imported i (map (λ v. names v.order v.name) (c.imported i))) (core.imported i (map (λ v. names v.order v.name) (d.imported i)))

-- a new variable has the number of no global

below_listed : (x : ℕ) (seen : List Variable) (w : Variable) → IsNew seen x → IsListed seen w → w.name < x
below_listed x [] w new listed = absurd listed
below_listed x (v ∷ seen) w new (inl here) = let below = new.0 in let is = here.0 in omega (arith, below, is)
below_listed x (v ∷ seen) w new (inr later) = below_listed x seen w new.1 later

pub new_above : (way : Filling) (seen : List Variable) (x : ℕ) → SeesGlobals way seen → IsNew seen x → way.globals ≤ x
new_above way seen x sees new =
    elim (cases_lt x way.globals) [
      | inl below ↦ let found = sees x below in let less = below_listed x seen (variable x found.0) new found.1 in absurd (omega (arith, less))
      | inr above ↦ above
    ]

pub sees_more : (way : Filling) (seen : List Variable) (x : ℕ) (o : Order) → SeesGlobals way seen → SeesGlobals way (seeing x o seen)
sees_more way seen x o sees y below = let found = sees y below in (found.0, inr found.1)

sees_all : (way : Filling) (xs : List ℕ) (sides : Arguments) (seen : List Variable) → SeesGlobals way seen → SeesGlobals way (seeing_all xs sides seen)
sees_all way [] sides seen sees = sees
sees_all way (x ∷ xs) no_arguments seen sees = sees
sees_all way (x ∷ xs) (more_arguments side more) seen sees = sees_all way xs more (seeing x (order_of_argument side) seen) (sees_more way seen x (order_of_argument side) sees)

-- so do the names of a `let`
bound_above : (way : Filling) (xs : List ℕ) (sides : Arguments) (seen : List Variable) (w : Variable) → SeesGlobals way seen → AreNew seen xs sides → IsBound xs (orders_of sides) w → way.globals ≤ w.name
bound_above way [] sides seen w sees new bound = absurd bound
bound_above way (x ∷ xs) no_arguments seen w sees new bound = absurd bound
bound_above way (x ∷ xs) (more_arguments side more) seen w sees new (inl here) = let above = new_above way seen x sees new.0 in let is = here.0 in omega (arith, above, is)
bound_above way (x ∷ xs) (more_arguments side more) seen w sees new (inr later) =
    bound_above way xs more (seeing x (order_of_argument side) seen) w (sees_more way seen x (order_of_argument side) sees) new.1 later

-- another variable keeps its name
pub named_out : (o : Order) (x y : ℕ) (names : Names) (w : Variable) → (¬ IsVariable x o w) → named o x y names w.order w.name ≡ names w.order w.name
named_out o x y names w other = elim (named_or o x y names w (is_order o w.order) refl) [ inl here ↦ absurd (other here.0) | inr away ↦ ap (λ v. v.name) away.1 ]

-- inner names give the others the names that they had
abbrev Outside : List ℕ → List Order → Names → Names → Type 0
Outside xs orders inner made = (w : Variable) → (¬ IsBound xs orders w) → made w.order w.name ≡ inner w.order w.name

outside_first : (xs : List ℕ) (o : Order) (orders : List Order) (y : ℕ) (inner made : Names) → Outside (after_first xs) orders inner made → Outside xs (o ∷ orders) inner (first_named o xs y made)
outside_first [] o orders y inner made outside w out = outside w (λ e. e)
outside_first (x ∷ xs) o orders y inner made outside w out = named_out o x y made w (λ e. out (inl e)) ∙ outside w (λ e. out (inr e))

outside_later : (xs : List ℕ) (o : Order) (orders : List Order) (inner made : Names) → Outside (after_first xs) orders inner made → Outside xs (o ∷ orders) inner made
outside_later [] o orders inner made outside w out = outside w (λ e. e)
outside_later (x ∷ xs) o orders inner made outside w out = outside w (λ e. out (inr e))

module _ (way : Filling) where
  numbers_plain : (rel : Rel) (x y : ℕ) → Fills way (numbers_relate rel x y) (numbers_relate rel x y)
  numbers_plain Equal x y = refl
  numbers_plain Differs x y = refl
  numbers_plain Less x y = refl
  numbers_plain AtLeast x y = refl
  numbers_plain Greater x y = refl
  numbers_plain AtMost x y = refl
  numbers_plain Member x y = refl
  numbers_plain NotMember x y = refl
  numbers_plain Sub x y = refl

  sets_plain : (rel : Rel) (s t : ℕ) → Fills way (sets_relate rel s t) (sets_relate rel s t)
  sets_plain Equal s t = refl
  sets_plain Differs s t = refl
  sets_plain Sub s t = refl
  sets_plain Less s t = refl
  sets_plain AtLeast s t = refl
  sets_plain Greater s t = refl
  sets_plain AtMost s t = refl
  sets_plain Member s t = refl
  sets_plain NotMember s t = refl

  members_plain : (positive : Bool) (x s : ℕ) → Fills way (is_member_or_not positive x s) (is_member_or_not positive x s)
  members_plain true x s = refl
  members_plain false x s = refl

  -- each of some formulas becomes that of others
  abbrev pub EachFills : List CoreForm → List CoreForm → Type 0
  EachFills fs gs = map (filled way.calls) (map (renumbered (numbers_with way.calling way.number)) fs) ≡ map (renumbered (numbers_with way.plain way.number)) gs

  each_filled : (fs : List CoreForm) → core_forms (map (filled way.calls) fs) ≡ filled_each way.calls (core_forms fs)
  each_filled [] = refl
  each_filled (f ∷ fs) = ap (λ gs. core.more_forms (filled way.calls f) gs) (each_filled fs)

  conjunction_filled : (fs : List CoreForm) → conjunction_of (map (filled way.calls) fs) ≡ filled way.calls (conjunction_of fs)
  conjunction_filled [] = refl
  conjunction_filled (f ∷ []) = refl
  conjunction_filled (f ∷ g ∷ fs) = ap (λ gs. core.conjunction gs) (each_filled (f ∷ g ∷ fs))

  pub conjunction_fills : (fs gs : List CoreForm) → EachFills fs gs → Fills way (conjunction_of fs) (conjunction_of gs)
  conjunction_fills fs gs each =
      ap (filled way.calls) (sym (conjunction_renumbered (numbers_with way.calling way.number) fs))
      ∙ (sym (conjunction_filled (map (renumbered (numbers_with way.calling way.number)) fs)) ∙ (ap (λ hs. conjunction_of hs) each ∙ conjunction_renumbered (numbers_with way.plain way.number) gs))

  disjunction_fills : (fs gs : List CoreForm) → EachFills fs gs → Fills way (core.disjunction (core_forms fs)) (core.disjunction (core_forms gs))
  disjunction_fills fs gs each =
      ap (λ hs. core.disjunction (filled_each way.calls hs)) (sym (each_renumbered (numbers_with way.calling way.number) fs))
      ∙ (ap (λ hs. core.disjunction hs) (sym (each_filled (map (renumbered (numbers_with way.calling way.number)) fs))) ∙ (ap (λ hs. core.disjunction (core_forms hs)) each ∙ ap (λ hs. core.disjunction hs) (each_renumbered (numbers_with way.plain way.number) gs)))

  -- what is said of a truth value
  truth_fills : (x : Option ℕ) (F G : ℕ → CoreForm) → ((free : ℕ) → way.kept ≤ free → Fills way (F free) (G free)) → (free : ℕ) (Said Other : ℕ → ℕ → CoreForm) → way.kept ≤ free → SaysFilled way Said Other →
      Fills way (truth_value x F free Said) (truth_value x G free Other)
  truth_fills (Some x) F G forms free Said Other above says = says free x above
  truth_fills None F G forms free Said Other above says =
      let more : way.kept ≤ free + 1 = omega (arith, above) in
      ap₂ (λ f g. core.quantified Ex Zero (way.number Zero free) core.unrestricted (both_of (core.restrict (core.equivalence (basic (relation.Truth (way.number Zero free))) f)) g)) (forms (free + 1) more) (says (free + 1) free more)

  -- what is said with inner names, under which the others keep theirs
  abbrev InnersFill : List ℕ → List Order → Names → Inner → Inner → Type 0
  InnersFill xs orders inner Said Other = (free : ℕ) (made : Names) → way.kept ≤ free → Outside xs orders inner made → Fills way (Said made free) (Other made free)

  numbers_filled : (args : Arguments) (xs : List ℕ) (names inner : Names) (free : ℕ) (Said Other : Inner) → way.kept ≤ free → InnersFill xs (orders_of args) inner Said Other →
      Fills way (numbers_and_sets xs args names inner free Said) (numbers_and_sets xs args names inner free Other)
  numbers_filled no_arguments xs names inner free Said Other above says = says free inner above (λ w out. refl)
  numbers_filled (more_arguments (truth_argument f) more) xs names inner free Said Other above says =
      numbers_filled more (after_first xs) names inner free Said Other above (λ last made b outside. says last made b (outside_later xs Zero (orders_of more) inner made outside))
  numbers_filled (more_arguments (number_argument t) more) xs names inner free Said Other above says =
      number_fills way t names free (λ free y. numbers_and_sets (after_first xs) more names inner free (λ made free. Said (first_named One xs y made) free))
      (λ free y. numbers_and_sets (after_first xs) more names inner free (λ made free. Other (first_named One xs y made) free)) above (λ later y b.
      numbers_filled more (after_first xs) names inner later (λ made free. Said (first_named One xs y made) free) (λ made free. Other (first_named One xs y made) free) b (λ last made e outside.
      says last (first_named One xs y made) e (outside_first xs One (orders_of more) y inner made outside)))
  numbers_filled (more_arguments (set_argument s) more) xs names inner free Said Other above says =
      set_fills way s names free (λ free y. numbers_and_sets (after_first xs) more names inner free (λ made free. Said (first_named Two xs y made) free))
      (λ free y. numbers_and_sets (after_first xs) more names inner free (λ made free. Other (first_named Two xs y made) free)) above (λ later y b.
      numbers_filled more (after_first xs) names inner later (λ made free. Said (first_named Two xs y made) free) (λ made free. Other (first_named Two xs y made) free) b (λ last made e outside.
      says last (first_named Two xs y made) e (outside_first xs Two (orders_of more) y inner made outside)))

within_imports : {A : Type 0} (P : A → Type 0) (items : List A) (i : ℕ) → IsSomeAnd (slice_get items i) P → i < length items
within_imports P [] i some = absurd some
within_imports P (x ∷ items) zero some = omega arith
within_imports P (x ∷ items) (suc i) some = let below = within_imports P items i some in omega (arith, below)

module _ (way : Filling) (tables : Tables) (bound : ℕ) (r : Reads) (c d : Callees) (fills : CalleesFill way tables bound r c d) where
  mutual
    pub form_fills : (f : Form) (seen : List Variable) (names : Names) (free : ℕ) → SeesGlobals way seen → IsNumbered tables bound seen f → way.kept ≤ free → Keeps way (FreeUnder r f) names →
        Fills way (spread_under c f names free) (spread_under d f names free)
    form_fills truth seen names free sees numbered above keeps = refl
    form_fills falsity seen names free sees numbered above keeps = refl
    form_fills (truth_variable x) seen names free sees numbered above keeps = refl
    form_fills (negation f) seen names free sees numbered above keeps = ap (λ g. core.negation g) (form_fills f seen names free sees numbered above keeps)
    form_fills (conjunction fs) seen names free sees numbered above keeps = conjunction_fills way (spread_each c fs names free) (spread_each d fs names free) (forms_fill fs seen names free sees numbered above keeps)
    form_fills (disjunction fs) seen names free sees numbered above keeps = disjunction_fills way (spread_each c fs names free) (spread_each d fs names free) (forms_fill fs seen names free sees numbered above keeps)
    form_fills (implication f g) seen names free sees numbered above keeps =
        ap₂ (λ l m. core.implication l m) (form_fills f seen names free sees numbered.0 above (λ w e. keeps w (inl e))) (form_fills g seen names free sees numbered.1 above (λ w e. keeps w (inr e)))
    form_fills (equivalence f g) seen names free sees numbered above keeps =
        ap₂ (λ l m. core.equivalence l m) (form_fills f seen names free sees numbered.0 above (λ w e. keeps w (inl e))) (form_fills g seen names free sees numbered.1 above (λ w e. keeps w (inr e)))
    form_fills (comparison rel t u) seen names free sees numbered above keeps = two_fill way (spread_number t names) (spread_number u names) (number_fills way t names) (number_fills way u names) (numbers_relate rel) (numbers_plain way rel) free above
    form_fills (set_comparison rel s t) seen names free sees numbered above keeps = two_fill way (spread_set s names) (spread_set t names) (set_fills way s names) (set_fills way t names) (sets_relate rel) (sets_plain way rel) free above
    form_fills (membership positive t s) seen names free sees numbered above keeps =
        two_fill way (spread_number t names) (spread_set s names) (number_fills way t names) (set_fills way s names) (is_member_or_not positive) (members_plain way positive) free above
    form_fills (emptiness s) seen names free sees numbered above keeps = set_fills way s names free (λ free x. basic (relation.Bits x 0)) (λ free x. basic (relation.Bits x 0)) above (λ later x b. refl)
    form_fills (quantified q o x e f) seen names free sees numbered above keeps =
        let inner = named o x free names in
        let more : way.kept ≤ free + 1 = omega (arith, above) in
        let new = new_above way seen x sees numbered.0 in
        let inside : (R : Variable → Type 0) → ((w : Variable) → R w → FreeInRestriction r e w ⊎ FreeUnder r f w) → Keeps way R inner =
        λ R reads w read below.
        let other : ¬ IsVariable x o w = λ is. let same = is.0 in omega (arith, new, same, below) in
        let kept = keeps w (other, reads w read) below in (named_out o x free names w other ∙ kept.0, kept.1) in
        new_fills way q o free (spread_restriction c e inner (free + 1)) (spread_restriction d e inner (free + 1)) (spread_under c f inner (free + 1)) (spread_under d f inner (free + 1))
        (restriction_fills e (seeing x o seen) inner (free + 1) (sees_more way seen x o sees) numbered.1 more (inside (FreeInRestriction r e) (λ w e. inl e)))
        (form_fills f (seeing x o seen) inner (free + 1) (sees_more way seen x o sees) numbered.2 more (inside (FreeUnder r f) (λ w e. inr e)))
    form_fills (where_let xs sides f) seen names free sees numbered above keeps =
        numbers_filled way sides xs names names free
        (λ inner free. truth_values c xs sides names inner free (λ inner free. spread_under c f inner free)) (λ inner free. truth_values d xs sides names inner free (λ inner free. spread_under d f inner free)) above (λ later inner b outer.
        truths_fill sides seen xs names inner later (λ inner free. spread_under c f inner free) (λ inner free. spread_under d f inner free) sees numbered.0 b (λ w e. keeps w (inl e)) (λ last made l outside.
        form_fills f (seeing_all xs sides seen) made last (sees_all way xs sides seen sees) numbered.2 l (λ w e below.
        let other : ¬ IsBound xs (orders_of sides) w = λ is. let high = bound_above way xs sides seen w sees numbered.1 is in omega (arith, high, below) in
        let kept = keeps w (inr (other, e)) below in (outside w other ∙ (outer w other ∙ kept.0), kept.1))))
    form_fills (call p given) seen names free sees numbered above keeps =
        let ys = d.parameters p in
        let has : HasParameters tables bound p (orders_of given) = let P : List Order → Type 0 = λ orders. HasParameters tables bound p orders in subst P (orders-of given) numbered.0 in
        let P : List ℕ → Type 0 = λ xs. Fills way (numbers_and_sets xs given names names free (λ inner free. truth_values c xs given names inner free (λ inner free. c.body p inner free))) (spread_under d (call p given) names free) in
        subst P (sym (fills.parameters p))
        (numbers_filled way given ys names names free
        (λ inner free. truth_values c ys given names inner free (λ inner free. c.body p inner free)) (λ inner free. truth_values d ys given names inner free (λ inner free. d.body p inner free)) above (λ later inner b outer.
        truths_fill given seen ys names inner later (λ inner free. c.body p inner free) (λ inner free. d.body p inner free) sees numbered.1 b (λ w e. keeps w (inl e)) (λ last made l outside.
        fills.called p (orders_of given) made last has l (λ w e below.
        let other = fills.apart p (orders_of given) w e in
        let kept = keeps w (inr e) below in (outside w other ∙ (outer w other ∙ kept.0), kept.1)))))
    form_fills (restrict f) seen names free sees numbered above keeps = ap (λ g. core.restrict g) (form_fills f seen names free sees numbered above keeps)
    form_fills (imported i) seen names free sees numbered above keeps = fills.imported i names (within_imports (ImportSees seen) tables.imports i numbered)
    form_fills (exported i f) seen names free sees numbered above keeps = form_fills f seen names free sees numbered.1 above keeps
    form_fills (default_at p x) seen names free sees numbered above keeps = fills.default p x numbered.0 names free numbered.2 above keeps

    pub forms_fill : (fs : Forms) (seen : List Variable) (names : Names) (free : ℕ) → SeesGlobals way seen → AreNumbered tables bound seen fs → way.kept ≤ free → Keeps way (FreeInForms r fs) names →
        EachFills way (spread_each c fs names free) (spread_each d fs names free)
    forms_fill no_forms seen names free sees numbered above keeps = refl
    forms_fill (more_forms f fs) seen names free sees numbered above keeps =
        ap₂ (λ g gs. g ∷ gs) (form_fills f seen names free sees numbered.0 above (λ w e. keeps w (inl e))) (forms_fill fs seen names free sees numbered.1 above (λ w e. keeps w (inr e)))

    restriction_fills : (e : Restriction) (seen : List Variable) (names : Names) (free : ℕ) → SeesGlobals way seen → IsNumberedRestriction tables bound seen e → way.kept ≤ free → Keeps way (FreeInRestriction r e) names →
        FillsIn way (spread_restriction c e names free) (spread_restriction d e names free)
    restriction_fills unrestricted seen names free sees numbered above keeps = refl
    restriction_fills (restricted e) seen names free sees numbered above keeps = ap (λ f. core.restricted f) (form_fills e seen names free sees numbered above keeps)

    truths_fill : (args : Arguments) (seen : List Variable) (xs : List ℕ) (names inner : Names) (free : ℕ) (Said Other : Inner) → SeesGlobals way seen → AreNumberedArguments tables bound seen args → way.kept ≤ free → Keeps way (FreeInArguments r args) names →
        InnersFill way xs (orders_of args) inner Said Other → Fills way (truth_values c xs args names inner free Said) (truth_values d xs args names inner free Other)
    truths_fill no_arguments seen xs names inner free Said Other sees numbered above keeps says = says free inner above (λ w out. refl)
    truths_fill (more_arguments (number_argument t) more) seen xs names inner free Said Other sees numbered above keeps says =
        truths_fill more seen (after_first xs) names inner free Said Other sees numbered.1 above (λ w e. keeps w (inr e)) (λ last made b outside. says last made b (outside_later xs One (orders_of more) inner made outside))
    truths_fill (more_arguments (set_argument s) more) seen xs names inner free Said Other sees numbered above keeps says =
        truths_fill more seen (after_first xs) names inner free Said Other sees numbered.1 above (λ w e. keeps w (inr e)) (λ last made b outside. says last made b (outside_later xs Two (orders_of more) inner made outside))
    truths_fill (more_arguments (truth_argument f) more) seen xs names inner free Said Other sees numbered above keeps says =
        truth_fills way (option_map (names Zero) (variable_of_form f)) (spread_under c f names) (spread_under d f names) (λ later b. form_fills f seen names later sees numbered.0 b (λ w e. keeps w (inl e))) free
        (λ free y. truth_values c (after_first xs) more names inner free (λ made free. Said (first_named Zero xs y made) free)) (λ free y. truth_values d (after_first xs) more names inner free (λ made free. Other (first_named Zero xs y made) free)) above (λ later y b.
        truths_fill more seen (after_first xs) names inner later (λ made free. Said (first_named Zero xs y made) free) (λ made free. Other (first_named Zero xs y made) free) sees numbered.1 b (λ w e. keeps w (inr e)) (λ last made l outside.
        says last (first_named Zero xs y made) l (outside_first xs Zero (orders_of more) y inner made outside)))
