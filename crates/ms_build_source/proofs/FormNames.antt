-- With other names the spread of a formula is the same with other numbers.
use Rattle.std.proofs.Common.{◌≡◌, ℕ, ◌+◌, Bool, true, false, ◌⊎◌, List, [], ◌∷◌, map, Option, Some, None, inl, inr, ⊎_elim, refl, sym, ap, ap₂, ◌∙◌}
use Rattle.std.proofs.lemmas.Bool.{cases_eq}
use Rattle.std.proofs.lemmas.Option.{none-some, same_Some}
use Rattle.std.specs.List.{zip}
use Rattle.std.specs.Option.{option_map}
use Rattle.ms_logic_core.specs.declared.core_formula.Basic.TheVariants as relation
use Rattle.ms_logic.specs.declared.mode.Order.{Order}
use Rattle.ms_logic.specs.declared.mode.Order.TheVariants.{Zero, One, Two}
use Rattle.ms_logic.specs.declared.mode.Quant.TheVariants.{Ex}
use Rattle.ms_logic.specs.declared.mode.Rel.{Rel}
use Rattle.ms_logic.specs.declared.mode.Rel.TheVariants.{Equal, Differs, Less, AtMost, Greater, AtLeast, Member, NotMember, Sub}
use Rattle.ms_logic.specs.Assignment.{Variable}
use Rattle.ms_logic_core.specs.CoreForm as core
use Rattle.ms_logic_core.specs.CoreForm.{CoreForm, basic, core_forms}
use Rattle.ms_logic.specs.FreeVariables.{FreeUnder, FreeInForms, FreeInRestriction, FreeInArguments, IsBound, IsListed, IsVariable, Reads, orders_of}
use Rattle.ms_logic_core.specs.Spread.{Callees, Names, after_first, both_of, conjunction_of, first_named, is_member_or_not, is_order, named, numbers_and_sets, numbers_relate, sets_relate, spread_each, spread_number, spread_restriction, spread_set, spread_under, truth_value, truth_values, variable_of_form}
use Rattle.ms_logic.specs.Tree.{Form, truth, falsity, truth_variable, negation, conjunction, disjunction, implication, equivalence, comparison, set_comparison, membership, emptiness, quantified, where_let, call, restrict, imported, exported, default_at, Forms, no_forms, more_forms, Restriction, unrestricted, restricted, truth_argument, number_argument, set_argument, Arguments, no_arguments, more_arguments}
use Rattle.ms_lower.specs.inner.Given.{Inner}
use Rattle.ms_lower.specs.Numbering.{Numbering, renumbered, renumbered_each, renumbered_in}
use Rattle.ms_lower.proofs.FormScopes.{named_or}
use Rattle.ms_lower.proofs.TermScopes.{variable}
use Rattle.ms_build_source.specs.inner.CallLaws.{Carries, NameFollows, NamesFollow}
use Rattle.ms_build_source.proofs.TermNames.{TermsAlike, carried_on, known_alike, new_alike, number_alike, set_alike, two_alike}

-- the first of some variables, if it has this order
IsFirst : List ℕ → Order → Variable → Type 0
IsFirst [] o w = ⊥
IsFirst (x ∷ xs) o w = IsVariable x o w

-- a number or a set, and a truth value, is given to the variable

GivenNumber : List ℕ → Arguments → Variable → Type 0
GivenNumber xs no_arguments w = ⊥
GivenNumber xs (more_arguments (truth_argument f) more) w = GivenNumber (after_first xs) more w
GivenNumber xs (more_arguments (number_argument t) more) w = IsFirst xs One w ⊎ GivenNumber (after_first xs) more w
GivenNumber xs (more_arguments (set_argument s) more) w = IsFirst xs Two w ⊎ GivenNumber (after_first xs) more w

GivenTruth : List ℕ → Arguments → Variable → Type 0
GivenTruth xs no_arguments w = ⊥
GivenTruth xs (more_arguments (truth_argument f) more) w = IsFirst xs Zero w ⊎ GivenTruth (after_first xs) more w
GivenTruth xs (more_arguments (number_argument t) more) w = GivenTruth (after_first xs) more w
GivenTruth xs (more_arguments (set_argument s) more) w = GivenTruth (after_first xs) more w

-- what is bound is given
given_either : (xs : List ℕ) (args : Arguments) (w : Variable) → IsBound xs (orders_of args) w → GivenNumber xs args w ⊎ GivenTruth xs args w
unfolding IsFirst GivenNumber GivenTruth
given_either [] args w bound = absurd bound
given_either (x ∷ xs) no_arguments w bound = absurd bound
given_either (x ∷ xs) (more_arguments (truth_argument f) more) w (inl here) = inr (inl here)
given_either (x ∷ xs) (more_arguments (truth_argument f) more) w (inr later) = elim (given_either xs more w later) [ inl number ↦ inl number | inr value ↦ inr (inr value) ]
given_either (x ∷ xs) (more_arguments (number_argument t) more) w (inl here) = inl (inl here)
given_either (x ∷ xs) (more_arguments (number_argument t) more) w (inr later) = elim (given_either xs more w later) [ inl number ↦ inl (inr number) | inr value ↦ inr value ]
given_either (x ∷ xs) (more_arguments (set_argument s) more) w (inl here) = inl (inl here)
given_either (x ∷ xs) (more_arguments (set_argument s) more) w (inr later) = elim (given_either xs more w later) [ inl number ↦ inl (inr number) | inr value ↦ inr value ]

-- the variable that a formula is, is read in it
own_variable : (r : Reads) (f : Form) (x : ℕ) → variable_of_form f ≡ Some x → FreeUnder r f (variable x Zero)
own_variable r (truth_variable y) x is = (sym (same_Some y x is), refl)
own_variable r f x is = absurd (none-some x is)

-- what predicates, default restrictions and imports stand for follows the names of what is read of them
pub record CalleesFollow (n : Numbering) (r : Reads) (c : Callees) : Type 1 where
  pub called : (p : ℕ) (orders : List Order) (names other : Names) (free next : ℕ) → Carries n free next → NamesFollow n (IsBound (c.parameters p) orders) names other → NamesFollow n (r.called p orders) names other →
      c.body p other next ≡ renumbered n (c.body p names free)
  pub default : (p x : ℕ) (names other : Names) (free next : ℕ) → Carries n free next → NamesFollow n (r.default p x) names other → c.default p x other next ≡ renumbered n (c.default p x names free)
  pub imported : (i : ℕ) → n.imported i ≡ c.imported i
  pub reads : (i : ℕ) (w : Variable) → IsListed (c.imported i) w → r.imported i w

module _ (n : Numbering) where
  -- one name more
  pub named_follows : (o : Order) (x y z : ℕ) (names other : Names) (w : Variable) → z ≡ n.number o y → ((¬ IsVariable x o w) → NameFollows n names other w) → NameFollows n (named o x y names) (named o x z other) w
  named_follows o x y z names other w same follows =
      elim (named_or o x y names w (is_order o w.order) refl) [
        | inl here ↦
            elim (named_or o x z other w (is_order o w.order) refl) [
              | inl there ↦ ap (λ v. v.name) there.1 ∙ (same ∙ sym (ap (λ v. n.number v.order v.name) here.1))
              | inr away ↦ absurd (away.0 here.0)
            ]
        | inr out ↦
            elim (named_or o x z other w (is_order o w.order) refl) [
              | inl there ↦ absurd (out.0 there.0)
              | inr away ↦ ap (λ v. v.name) away.1 ∙ (follows out.0 ∙ sym (ap (λ v. n.number v.order v.name) out.1))
            ]
      ]

  first_follows : (xs : List ℕ) (o : Order) (y : ℕ) (names other : Names) (w : Variable) → ((¬ IsFirst xs o w) → NameFollows n names other w) → NameFollows n (first_named o xs y names) (first_named o xs (n.number o y) other) w
  unfolding IsFirst
  first_follows [] o y names other w follows = follows (λ none. none)
  first_follows (x ∷ xs) o y names other w follows = named_follows o x y (n.number o y) names other w refl follows

  -- inner names follow at what is given, and where those before did
  abbrev InnersFollow : (Variable → Type 0) → Names → Names → Names → Names → Type 0
  InnersFollow IsGiven names other inner outer = NamesFollow n (λ w. IsGiven w ⊎ NameFollows n names other w) inner outer

  -- with one that is given more
  given_follows : (IsGiven : Variable → Type 0) (xs : List ℕ) (o : Order) (y : ℕ) (names other inner outer : Names) → InnersFollow IsGiven names other inner outer →
      InnersFollow (λ w. IsFirst xs o w ⊎ IsGiven w) names other (first_named o xs y inner) (first_named o xs (n.number o y) outer)
  given_follows IsGiven xs o y names other inner outer follow w known =
      first_follows xs o y inner outer w (λ out.
      elim known [
        | inl given ↦ elim given [ inl first ↦ absurd (out first) | inr later ↦ follow w (inl later) ]
        | inr kept ↦ follow w (inr kept)
      ])

  -- inner names follow at what is read inside, where the names outside follow at what is not bound
  inner_follows : (xs : List ℕ) (args : Arguments) (names other inner outer made done : Names) (w : Variable) → InnersFollow (GivenNumber xs args) names other inner outer → InnersFollow (GivenTruth xs args) inner outer made done →
      ((¬ IsBound xs (orders_of args) w) → NameFollows n names other w) → NameFollows n made done w
  inner_follows xs args names other inner outer made done w numbers truths known =
      let bound_follows : IsBound xs (orders_of args) w → NameFollows n made done w =
      λ bound. elim (given_either xs args w bound) [ inl number ↦ truths w (inr (numbers w (inl number))) | inr value ↦ truths w (inl value) ] in
      elim (cases_eq (done w.order w.name) (n.number w.order (made w.order w.name))) [
        | inl same ↦ same
        | inr differs ↦ truths w (inr (numbers w (inr (known (λ bound. differs (bound_follows bound))))))
      ]

  numbers_alike : (rel : Rel) (x y : ℕ) → numbers_relate rel (n.number One x) (n.number One y) ≡ renumbered n (numbers_relate rel x y)
  numbers_alike Equal x y = refl
  numbers_alike Differs x y = refl
  numbers_alike Less x y = refl
  numbers_alike AtLeast x y = refl
  numbers_alike Greater x y = refl
  numbers_alike AtMost x y = refl
  numbers_alike Member x y = refl
  numbers_alike NotMember x y = refl
  numbers_alike Sub x y = refl

  sets_alike : (rel : Rel) (s t : ℕ) → sets_relate rel (n.number Two s) (n.number Two t) ≡ renumbered n (sets_relate rel s t)
  sets_alike Equal s t = refl
  sets_alike Differs s t = refl
  sets_alike Sub s t = refl
  sets_alike Less s t = refl
  sets_alike AtLeast s t = refl
  sets_alike Greater s t = refl
  sets_alike AtMost s t = refl
  sets_alike Member s t = refl
  sets_alike NotMember s t = refl

  members_alike : (positive : Bool) (x s : ℕ) → is_member_or_not positive (n.number One x) (n.number Two s) ≡ renumbered n (is_member_or_not positive x s)
  members_alike true x s = refl
  members_alike false x s = refl

  pub each_renumbered : (fs : List CoreForm) → core_forms (map (renumbered n) fs) ≡ renumbered_each n (core_forms fs)
  each_renumbered [] = refl
  each_renumbered (f ∷ fs) = ap (λ gs. core.more_forms (renumbered n f) gs) (each_renumbered fs)

  pub conjunction_renumbered : (fs : List CoreForm) → conjunction_of (map (renumbered n) fs) ≡ renumbered n (conjunction_of fs)
  conjunction_renumbered [] = refl
  conjunction_renumbered (f ∷ []) = refl
  conjunction_renumbered (f ∷ g ∷ fs) = ap (λ gs. core.conjunction gs) (each_renumbered (f ∷ g ∷ fs))

  -- the variables that stand for those of an import
  imports_alike : (names other : Names) (vs : List Variable) → NamesFollow n (IsListed vs) names other → map (λ v. other v.order v.name) vs ≡ map (λ p. n.number p.1.order p.0) (zip (map (λ v. names v.order v.name) vs) vs)
  imports_alike names other [] follow = refl
  imports_alike names other (v ∷ vs) follow = ap₂ (λ x xs. x ∷ xs) (follow v (inl (refl, refl))) (imports_alike names other vs (λ w l. follow w (inr l)))

  truth_alike : (o : Option ℕ) (names other : Names) (F G : ℕ → CoreForm) → ((x : ℕ) → o ≡ Some x → other Zero x ≡ n.number Zero (names Zero x)) → ((free next : ℕ) → Carries n free next → G next ≡ renumbered n (F free)) →
      TermsAlike n Zero (truth_value (option_map (names Zero) o) F) (truth_value (option_map (other Zero) o) G)
  truth_alike (Some x) names other F G same forms free next Said Other carries says = known_alike n Zero (names Zero x) (other Zero x) (same x refl) free next Said Other carries says
  truth_alike None names other F G same forms free next Said Other carries says =
      let more = carried_on n free next carries in
      new_alike n Ex Zero free next core.unrestricted (λ x. core.unrestricted) (both_of (core.restrict (core.equivalence (basic (relation.Truth free)) (F (free + 1)))) (Said (free + 1) free))
      (λ x. both_of (core.restrict (core.equivalence (basic (relation.Truth x)) (G (next + 1)))) (Other (next + 1) x)) carries refl
      (ap₂ (λ f g. both_of (core.restrict (core.equivalence (basic (relation.Truth (n.number Zero free))) f)) g) (forms (free + 1) (next + 1) more) (says (free + 1) (next + 1) free more))

  -- what is said with inner names is said with others that follow, with other numbers
  abbrev InnersAlike : (Variable → Type 0) → Names → Names → Inner → Inner → Type 0
  InnersAlike IsGiven names other Said Other =
      (free next : ℕ) (inner outer : Names) → Carries n free next → InnersFollow IsGiven names other inner outer → Other outer next ≡ renumbered n (Said inner free)

  numbers_given : (r : Reads) (args : Arguments) (xs : List ℕ) (names other inner outer : Names) (free next : ℕ) (Said Other : Inner) → Carries n free next → NamesFollow n (FreeInArguments r args) names other →
      InnersAlike (GivenNumber xs args) inner outer Said Other → numbers_and_sets xs args other outer next Other ≡ renumbered n (numbers_and_sets xs args names inner free Said)
  unfolding GivenNumber
  numbers_given r no_arguments xs names other inner outer free next Said Other carries follow says = says free next inner outer carries (λ w e. ⊎_elim absurd (λ kept. kept) e)
  numbers_given r (more_arguments (truth_argument f) more) xs names other inner outer free next Said Other carries follow says =
      numbers_given r more (after_first xs) names other inner outer free next Said Other carries (λ w e. follow w (inr e)) says
  numbers_given r (more_arguments (number_argument t) more) xs names other inner outer free next Said Other carries follow says =
      number_alike n t names other (λ w e. follow w (inl e)) free next (λ free y. numbers_and_sets (after_first xs) more names inner free (λ made free. Said (first_named One xs y made) free))
      (λ free y. numbers_and_sets (after_first xs) more other outer free (λ made free. Other (first_named One xs y made) free)) carries (λ later after y c.
      numbers_given r more (after_first xs) names other inner outer later after (λ made free. Said (first_named One xs y made) free) (λ made free. Other (first_named One xs (n.number One y) made) free) c (λ w e. follow w (inr e)) (λ last end made done d known.
      says last end (first_named One xs y made) (first_named One xs (n.number One y) done) d (given_follows (GivenNumber (after_first xs) more) xs One y inner outer made done known)))
  numbers_given r (more_arguments (set_argument s) more) xs names other inner outer free next Said Other carries follow says =
      set_alike n s names other (λ w e. follow w (inl e)) free next (λ free y. numbers_and_sets (after_first xs) more names inner free (λ made free. Said (first_named Two xs y made) free))
      (λ free y. numbers_and_sets (after_first xs) more other outer free (λ made free. Other (first_named Two xs y made) free)) carries (λ later after y c.
      numbers_given r more (after_first xs) names other inner outer later after (λ made free. Said (first_named Two xs y made) free) (λ made free. Other (first_named Two xs (n.number Two y) made) free) c (λ w e. follow w (inr e)) (λ last end made done d known.
      says last end (first_named Two xs y made) (first_named Two xs (n.number Two y) done) d (given_follows (GivenNumber (after_first xs) more) xs Two y inner outer made done known)))

module _ (n : Numbering) (r : Reads) (c : Callees) (fits : CalleesFollow n r c) where
  mutual
    unfolding GivenTruth

    pub form_alike : (f : Form) (names other : Names) (free next : ℕ) → Carries n free next → NamesFollow n (FreeUnder r f) names other → spread_under c f other next ≡ renumbered n (spread_under c f names free)
    form_alike truth names other free next carries follow = refl
    form_alike falsity names other free next carries follow = refl
    form_alike (truth_variable x) names other free next carries follow = ap (λ y. basic (relation.Truth y)) (follow (variable x Zero) (refl, refl))
    form_alike (negation f) names other free next carries follow = ap (λ g. core.negation g) (form_alike f names other free next carries follow)
    form_alike (conjunction fs) names other free next carries follow = ap (λ gs. conjunction_of gs) (forms_calls fs names other free next carries follow) ∙ conjunction_renumbered n (spread_each c fs names free)
    form_alike (disjunction fs) names other free next carries follow = ap (λ gs. core.disjunction (core_forms gs)) (forms_calls fs names other free next carries follow) ∙ ap (λ gs. core.disjunction gs) (each_renumbered n (spread_each c fs names free))
    form_alike (implication f g) names other free next carries follow =
        ap₂ (λ a b. core.implication a b) (form_alike f names other free next carries (λ w e. follow w (inl e))) (form_alike g names other free next carries (λ w e. follow w (inr e)))
    form_alike (equivalence f g) names other free next carries follow =
        ap₂ (λ a b. core.equivalence a b) (form_alike f names other free next carries (λ w e. follow w (inl e))) (form_alike g names other free next carries (λ w e. follow w (inr e)))
    form_alike (comparison rel t u) names other free next carries follow =
        two_alike n One One (spread_number t names) (spread_number t other) (spread_number u names) (spread_number u other) (number_alike n t names other (λ w e. follow w (inl e))) (number_alike n u names other (λ w e. follow w (inr e)))
        (numbers_relate rel) (numbers_relate rel) (numbers_alike n rel) free next carries
    form_alike (set_comparison rel s t) names other free next carries follow =
        two_alike n Two Two (spread_set s names) (spread_set s other) (spread_set t names) (spread_set t other) (set_alike n s names other (λ w e. follow w (inl e))) (set_alike n t names other (λ w e. follow w (inr e)))
        (sets_relate rel) (sets_relate rel) (sets_alike n rel) free next carries
    form_alike (membership positive t s) names other free next carries follow =
        two_alike n One Two (spread_number t names) (spread_number t other) (spread_set s names) (spread_set s other) (number_alike n t names other (λ w e. follow w (inl e))) (set_alike n s names other (λ w e. follow w (inr e)))
        (is_member_or_not positive) (is_member_or_not positive) (members_alike n positive) free next carries
    form_alike (emptiness s) names other free next carries follow = set_alike n s names other follow free next (λ free x. basic (relation.Bits x 0)) (λ free x. basic (relation.Bits x 0)) carries (λ later after x c. refl)
    form_alike (quantified q o x d f) names other free next carries follow =
        let more = carried_on n free next carries in
        let inner = named o x free names in
        let outer = named o x (n.number o free) other in
        new_alike n q o free next (spread_restriction c d inner (free + 1)) (λ y. spread_restriction c d (named o x y other) (next + 1)) (spread_under c f inner (free + 1)) (λ y. spread_under c f (named o x y other) (next + 1)) carries
        (restriction_alike d inner outer (free + 1) (next + 1) more (λ w e. named_follows n o x free (n.number o free) names other w refl (λ out. follow w (out, inl e))))
        (form_alike f inner outer (free + 1) (next + 1) more (λ w e. named_follows n o x free (n.number o free) names other w refl (λ out. follow w (out, inr e))))
    form_alike (where_let xs sides f) names other free next carries follow =
        numbers_given n r sides xs names other names other free next
        (λ inner free. truth_values c xs sides names inner free (λ inner free. spread_under c f inner free)) (λ inner free. truth_values c xs sides other inner free (λ inner free. spread_under c f inner free)) carries
        (λ w e. follow w (inl e)) (λ later after inner outer d numbers.
        truths_given sides xs names other inner outer later after (λ inner free. spread_under c f inner free) (λ inner free. spread_under c f inner free) d (λ w e. follow w (inl e)) (λ last end made done b truths.
        form_alike f made done last end b (λ w e. inner_follows n xs sides names other inner outer made done w numbers truths (λ out. follow w (inr (out, e))))))
    form_alike (call p given) names other free next carries follow =
        let xs = c.parameters p in
        numbers_given n r given xs names other names other free next
        (λ inner free. truth_values c xs given names inner free (λ inner free. c.body p inner free)) (λ inner free. truth_values c xs given other inner free (λ inner free. c.body p inner free)) carries
        (λ w e. follow w (inl e)) (λ later after inner outer d numbers.
        truths_given given xs names other inner outer later after (λ inner free. c.body p inner free) (λ inner free. c.body p inner free) d (λ w e. follow w (inl e)) (λ last end made done b truths.
        fits.called p (orders_of given) made done last end b (λ w bound. inner_follows n xs given names other inner outer made done w numbers truths (λ out. absurd (out bound)))
        (λ w read. inner_follows n xs given names other inner outer made done w numbers truths (λ out. follow w (inr read)))))
    form_alike (restrict f) names other free next carries follow = ap (λ g. core.restrict g) (form_alike f names other free next carries follow)
    form_alike (imported i) names other free next carries follow =
        let vs = c.imported i in
        ap (λ xs. core.imported i xs)
        (imports_alike n names other vs (λ w l. follow w (fits.reads i w l)) ∙ ap (λ us. map (λ p. n.number p.1.order p.0) (zip (map (λ v. names v.order v.name) vs) us)) (sym (fits.imported i)))
    form_alike (exported i f) names other free next carries follow = form_alike f names other free next carries follow
    form_alike (default_at p x) names other free next carries follow = fits.default p x names other free next carries follow

    pub forms_calls : (fs : Forms) (names other : Names) (free next : ℕ) → Carries n free next → NamesFollow n (FreeInForms r fs) names other → spread_each c fs other next ≡ map (renumbered n) (spread_each c fs names free)
    forms_calls no_forms names other free next carries follow = refl
    forms_calls (more_forms f fs) names other free next carries follow =
        ap₂ (λ g gs. g ∷ gs) (form_alike f names other free next carries (λ w e. follow w (inl e))) (forms_calls fs names other free next carries (λ w e. follow w (inr e)))

    restriction_alike : (d : Restriction) (names other : Names) (free next : ℕ) → Carries n free next → NamesFollow n (FreeInRestriction r d) names other → spread_restriction c d other next ≡ renumbered_in n (spread_restriction c d names free)
    restriction_alike unrestricted names other free next carries follow = refl
    restriction_alike (restricted d) names other free next carries follow = ap (λ f. core.restricted f) (form_alike d names other free next carries follow)

    truths_given : (args : Arguments) (xs : List ℕ) (names other inner outer : Names) (free next : ℕ) (Said Other : Inner) → Carries n free next → NamesFollow n (FreeInArguments r args) names other →
        InnersAlike n (GivenTruth xs args) inner outer Said Other → truth_values c xs args other outer next Other ≡ renumbered n (truth_values c xs args names inner free Said)
    truths_given no_arguments xs names other inner outer free next Said Other carries follow says = says free next inner outer carries (λ w e. ⊎_elim absurd (λ kept. kept) e)
    truths_given (more_arguments (number_argument t) more) xs names other inner outer free next Said Other carries follow says =
        truths_given more (after_first xs) names other inner outer free next Said Other carries (λ w e. follow w (inr e)) says
    truths_given (more_arguments (set_argument s) more) xs names other inner outer free next Said Other carries follow says =
        truths_given more (after_first xs) names other inner outer free next Said Other carries (λ w e. follow w (inr e)) says
    truths_given (more_arguments (truth_argument f) more) xs names other inner outer free next Said Other carries follow says =
        truth_alike n (variable_of_form f) names other (spread_under c f names) (spread_under c f other) (λ x is. follow (variable x Zero) (inl (own_variable r f x is))) (λ later after d. form_alike f names other later after d (λ w e. follow w (inl e))) free next
        (λ free y. truth_values c (after_first xs) more names inner free (λ made free. Said (first_named Zero xs y made) free)) (λ free y. truth_values c (after_first xs) more other outer free (λ made free. Other (first_named Zero xs y made) free)) carries (λ later after y d.
        truths_given more (after_first xs) names other inner outer later after (λ made free. Said (first_named Zero xs y made) free) (λ made free. Other (first_named Zero xs (n.number Zero y) made) free) d (λ w e. follow w (inr e)) (λ last end made done b known.
        says last end (first_named Zero xs y made) (first_named Zero xs (n.number Zero y) done) b (given_follows n (GivenTruth (after_first xs) more) xs Zero y inner outer made done known)))
