-- With other names the spread of a term is the same with other numbers.
use Rattle.std.proofs.Common.{◌≡◌, ℕ, zero, suc, ◌+◌, ◌/◌, List, [], ◌∷◌, length, take, drop, inl, inr, refl, sym, ap, ap₂, subst, ◌∙◌, arith}
use Rattle.ms_logic_core.specs.declared.core_formula.Basic.{Basic}
use Rattle.ms_logic_core.specs.declared.core_formula.Basic.TheVariants as relation
use Rattle.ms_logic.specs.declared.mode.Order.{Order}
use Rattle.ms_logic.specs.declared.mode.Order.TheVariants.{One, Two}
use Rattle.ms_logic.specs.declared.mode.Quant.{Quant}
use Rattle.ms_logic.specs.declared.mode.Quant.TheVariants.{Ex, All}
use Rattle.ms_logic_core.specs.CoreForm.{CoreForm, CoreRestriction, basic, implication, negation, quantified, restricted, unrestricted}
use Rattle.ms_logic.specs.FreeVariables.{TermReads, SetTermReads, TermsRead}
use Rattle.ms_logic_core.specs.Spread.{Names, Saying, TermSpread, both_of, either_of, first_half, second_half, is_minus, is_only_member, is_whole, new_variable, set_of_elements, spread_elements, spread_number, spread_set, the_variable}
use Rattle.ms_logic.specs.Tree.{Term, number_variable, numeral, plus, minus, minimum, maximum, SetTerm, set_variable, empty_set, whole, literal, pconst, union, intersection, difference, shift_up, shift_down, Terms, no_terms, more_terms}
use Rattle.ms_lower.specs.Numbering.{Numbering, renumbered, renumbered_basic, renumbered_in}
use Rattle.ms_lower.proofs.TermScopes.{variable}
use Rattle.ms_build_source.specs.inner.CallLaws.{Carries, NamesFollow}

-- what is free behind a new variable is carried on too
pub carried_on : (n : Numbering) (free next : ℕ) → Carries n free next → Carries n (free + 1) (next + 1)
carried_on n free next carries o k =
    let before : free + 1 + k ≡ free + (k + 1) = omega arith in
    let after : next + (k + 1) ≡ next + 1 + k = omega arith in
    ap (λ m. n.number o m) before ∙ (carries o (k + 1) ∙ after)

-- the first free number is carried to the first free one
carried : (n : Numbering) (o : Order) (free next : ℕ) → Carries n free next → n.number o free ≡ next
carried n o free next carries =
    let before : free ≡ free + 0 = omega arith in
    let after : next + 0 ≡ next = omega arith in
    ap (λ m. n.number o m) before ∙ (carries o 0 ∙ after)

-- a new variable, with its restriction and what is said of it
pub new_alike : (n : Numbering) (q : Quant) (o : Order) (free next : ℕ) (D : CoreRestriction) (E : ℕ → CoreRestriction) (F : CoreForm) (G : ℕ → CoreForm) → Carries n free next →
    E (n.number o free) ≡ renumbered_in n D → G (n.number o free) ≡ renumbered n F → quantified q o next (E next) (G next) ≡ renumbered n (quantified q o free D F)
new_alike n q o free next D E F G carries restrictions forms =
    ap (λ x. quantified q o x (E x) (G x)) (sym (carried n o free next carries)) ∙ ap₂ (λ d f. quantified q o (n.number o free) d f) restrictions forms

-- what is said of a variable is said of its number, with other numbers
abbrev pub SaysAlike : Numbering → Order → Saying → Saying → Type 0
SaysAlike n o Said Other = (free next y : ℕ) → Carries n free next → Other next (n.number o y) ≡ renumbered n (Said free y)

-- terms are the same but for the numbers, if what is said of them is
abbrev pub TermsAlike : Numbering → Order → TermSpread → TermSpread → Type 0
TermsAlike n o T U = (free next : ℕ) (Said Other : Saying) → Carries n free next → SaysAlike n o Said Other → U next Other ≡ renumbered n (T free Said)

data ElementsAlike (n : Numbering) : List TermSpread → List TermSpread → Type 0 where
  none_alike : ElementsAlike n [] []
  more_alike : {T U : TermSpread} {Ts Us : List TermSpread} → TermsAlike n One T U → ElementsAlike n Ts Us → ElementsAlike n (T ∷ Ts) (U ∷ Us)

module _ (n : Numbering) where
  pub known_alike : (o : Order) (x y : ℕ) → y ≡ n.number o x → TermsAlike n o (the_variable x) (the_variable y)
  known_alike o x y same free next Said Other carries says = ap (λ k. Other next k) same ∙ says free next x carries

  -- two terms
  pub two_alike : (o p : Order) (T U V W : TermSpread) → TermsAlike n o T U → TermsAlike n p V W → (F G : ℕ → ℕ → CoreForm) → ((x y : ℕ) → G (n.number o x) (n.number p y) ≡ renumbered n (F x y)) →
      (free next : ℕ) → Carries n free next → U next (λ free x. W free (λ free y. G x y)) ≡ renumbered n (T free (λ free x. V free (λ free y. F x y)))
  two_alike o p T U V W first second F G same free next carries =
      first free next (λ free x. V free (λ free y. F x y)) (λ free x. W free (λ free y. G x y)) carries (λ more after x c.
      second more after (λ free y. F x y) (λ free y. G (n.number o x) y) c (λ last end y d. same x y))

  -- a new variable that is a term
  term_alike : (o : Order) (Is Other : Saying) → SaysAlike n o Is Other → TermsAlike n o (new_variable o Is) (new_variable o Other)
  term_alike o Is There is free next Said Other carries says =
      let more = carried_on n free next carries in
      new_alike n Ex o free next (restricted (Is (free + 1) free)) (λ x. restricted (There (next + 1) x)) (Said (free + 1) free) (λ x. Other (next + 1) x) carries
      (ap (λ d. restricted d) (is (free + 1) (next + 1) free more)) (says (free + 1) (next + 1) free more)

  -- one of which something is said with another term
  over_alike : (o p : Order) (T U : TermSpread) (S : ℕ → Saying) → TermsAlike n p T U → ((y : ℕ) → SaysAlike n p (S y) (S (n.number o y))) →
      TermsAlike n o (new_variable o (λ free y. T free (S y))) (new_variable o (λ free y. U free (S y)))
  over_alike o p T U S terms says =
      term_alike o (λ free y. T free (S y)) (λ free y. U free (S y)) (λ free next y carries. terms free next (S y) (S (n.number o y)) carries (says y))

  -- a set that is made of two
  pair_alike : (T U V W : TermSpread) (B : ℕ → ℕ → ℕ → Basic) → ((y u v : ℕ) → B (n.number Two y) (n.number Two u) (n.number Two v) ≡ renumbered_basic n (B y u v)) → TermsAlike n Two T U → TermsAlike n Two V W →
      TermsAlike n Two (new_variable Two (λ free y. T free (λ free u. V free (λ free v. basic (B y u v))))) (new_variable Two (λ free y. U free (λ free u. W free (λ free v. basic (B y u v)))))
  pair_alike T U V W B same first second =
      term_alike Two (λ free y. T free (λ free u. V free (λ free v. basic (B y u v)))) (λ free y. U free (λ free u. W free (λ free v. basic (B y u v)))) (λ free next y carries.
      two_alike Two Two T U V W first second (λ u v. basic (B y u v)) (λ u v. basic (B (n.number Two y) u v)) (λ u v. ap (λ b. basic b) (same y u v)) free next carries)

  bits_alike : (k : ℕ) → TermsAlike n Two (new_variable Two (λ free y. basic (relation.Bits y k))) (new_variable Two (λ free y. basic (relation.Bits y k)))
  bits_alike k = term_alike Two (λ free y. basic (relation.Bits y k)) (λ free y. basic (relation.Bits y k)) (λ free next y carries. refl)

  minus_alike : (y k : ℕ) → SaysAlike n One (is_minus y k) (is_minus (n.number One y) k)
  minus_alike y k free next x carries =
      ap (λ f. either_of (basic (relation.Plus (n.number One x) (n.number One y) k)) (both_of (basic (relation.Number (n.number One y) 0)) (negation f)))
      (new_alike n Ex One free next unrestricted (λ z. unrestricted) (basic (relation.Plus x free k)) (λ z. basic (relation.Plus (n.number One x) z k)) carries refl refl)

  member_alike : (y : ℕ) → SaysAlike n One (is_only_member y) (is_only_member (n.number Two y))
  member_alike y free next x carries =
      ap (λ f. both_of (basic (relation.Member (n.number One x) (n.number Two y))) f)
      (new_alike n All One free next unrestricted (λ z. unrestricted) (implication (basic (relation.Member free y)) (basic (relation.Plus free x 0)))
      (λ z. implication (basic (relation.Member z (n.number Two y))) (basic (relation.Plus z (n.number One x) 0))) carries refl refl)

  whole_alike : SaysAlike n Two is_whole is_whole
  whole_alike free next y carries =
      new_alike n All One free next unrestricted (λ z. unrestricted) (basic (relation.Member free y)) (λ z. basic (relation.Member z (n.number Two y))) carries refl refl

  -- the set of some elements

  alike_length : {Ts Us : List TermSpread} → ElementsAlike n Ts Us → length Ts ≡ length Us
  alike_length none_alike = refl
  alike_length (more_alike one more) = ap (λ k. suc k) (alike_length more)

  take_alike : (k : ℕ) {Ts Us : List TermSpread} → ElementsAlike n Ts Us → ElementsAlike n (take k Ts) (take k Us)
  take_alike zero all = none_alike
  take_alike (suc k) none_alike = none_alike
  take_alike (suc k) (more_alike one more) = more_alike one (take_alike k more)

  drop_alike : (k : ℕ) {Ts Us : List TermSpread} → ElementsAlike n Ts Us → ElementsAlike n (drop k Ts) (drop k Us)
  drop_alike zero all = all
  drop_alike (suc k) none_alike = none_alike
  drop_alike (suc k) (more_alike one more) = drop_alike k more

  first_alike : (Ts Us : List TermSpread) → ElementsAlike n Ts Us → ElementsAlike n (first_half Ts) (first_half Us)
  first_alike Ts Us all = subst (λ k. ElementsAlike n (take ((length Ts + 1) / 2) Ts) (take ((k + 1) / 2) Us)) (alike_length all) (take_alike ((length Ts + 1) / 2) all)

  second_alike : (Ts Us : List TermSpread) → ElementsAlike n Ts Us → ElementsAlike n (second_half Ts) (second_half Us)
  second_alike Ts Us all = subst (λ k. ElementsAlike n (drop ((length Ts + 1) / 2) Ts) (drop ((k + 1) / 2) Us)) (alike_length all) (drop_alike ((length Ts + 1) / 2) all)

  only_alike : (T U : TermSpread) → TermsAlike n One T U → TermsAlike n Two (new_variable Two (λ free y. T free (is_only_member y))) (new_variable Two (λ free y. U free (is_only_member y)))
  only_alike T U one = over_alike Two One T U is_only_member one member_alike

  elements_alike : (rounds : ℕ) {Ts Us : List TermSpread} → ElementsAlike n Ts Us → TermsAlike n Two (set_of_elements rounds Ts) (set_of_elements rounds Us)
  elements_alike zero none_alike = bits_alike 0
  elements_alike (suc rounds) none_alike = bits_alike 0
  elements_alike zero (more_alike {T = T} {U = U} one none_alike) = only_alike T U one
  elements_alike (suc rounds) (more_alike {T = T} {U = U} one none_alike) = only_alike T U one
  elements_alike zero (more_alike one (more_alike two more)) = bits_alike 0
  elements_alike (suc rounds) (more_alike {T = T} {U = U} one (more_alike {T = V} {U = W} {Ts = Ts} {Us = Us} two more)) =
      let all : ElementsAlike n (T ∷ V ∷ Ts) (U ∷ W ∷ Us) = more_alike one (more_alike two more) in
      pair_alike (set_of_elements rounds (first_half (T ∷ V ∷ Ts))) (set_of_elements rounds (first_half (U ∷ W ∷ Us)))
      (set_of_elements rounds (second_half (T ∷ V ∷ Ts))) (set_of_elements rounds (second_half (U ∷ W ∷ Us))) (λ y s t. relation.Union y s t) (λ y s t. refl)
      (elements_alike rounds (first_alike (T ∷ V ∷ Ts) (U ∷ W ∷ Us) all)) (elements_alike rounds (second_alike (T ∷ V ∷ Ts) (U ∷ W ∷ Us) all))

  mutual
    pub number_alike : (t : Term) (names other : Names) → NamesFollow n (TermReads t) names other → TermsAlike n One (spread_number t names) (spread_number t other)
    number_alike (number_variable x) names other follow = known_alike One (names One x) (other One x) (follow (variable x One) (refl, refl))
    number_alike (numeral k) names other follow = term_alike One (λ free y. basic (relation.Number y k)) (λ free y. basic (relation.Number y k)) (λ free next y carries. refl)
    number_alike (plus t k) names other follow =
        over_alike One One (spread_number t names) (spread_number t other) (λ y free x. basic (relation.Plus y x k)) (number_alike t names other follow) (λ y free next x carries. refl)
    number_alike (minus t k) names other follow =
        over_alike One One (spread_number t names) (spread_number t other) (λ y. is_minus y k) (number_alike t names other follow) (λ y. minus_alike y k)
    number_alike (minimum s) names other follow =
        over_alike One Two (spread_set s names) (spread_set s other) (λ y free x. basic (relation.Min y x)) (set_alike s names other follow) (λ y free next x carries. refl)
    number_alike (maximum s) names other follow =
        over_alike One Two (spread_set s names) (spread_set s other) (λ y free x. basic (relation.Max y x)) (set_alike s names other follow) (λ y free next x carries. refl)

    pub set_alike : (s : SetTerm) (names other : Names) → NamesFollow n (SetTermReads s) names other → TermsAlike n Two (spread_set s names) (spread_set s other)
    set_alike (set_variable x) names other follow = known_alike Two (names Two x) (other Two x) (follow (variable x Two) (refl, refl))
    set_alike empty_set names other follow = bits_alike 0
    set_alike whole names other follow = term_alike Two is_whole is_whole whole_alike
    set_alike (literal ts) names other follow =
        let all = terms_calls ts names other follow in
        subst (λ k. TermsAlike n Two (set_of_elements (length (spread_elements ts names)) (spread_elements ts names)) (set_of_elements k (spread_elements ts other))) (alike_length all)
        (elements_alike (length (spread_elements ts names)) all)
    set_alike (pconst k) names other follow = bits_alike k
    set_alike (union s t) names other follow =
        pair_alike (spread_set s names) (spread_set s other) (spread_set t names) (spread_set t other) (λ y u v. relation.Union y u v) (λ y u v. refl)
        (set_alike s names other (λ w r. follow w (inl r))) (set_alike t names other (λ w r. follow w (inr r)))
    set_alike (intersection s t) names other follow =
        pair_alike (spread_set s names) (spread_set s other) (spread_set t names) (spread_set t other) (λ y u v. relation.Inter y u v) (λ y u v. refl)
        (set_alike s names other (λ w r. follow w (inl r))) (set_alike t names other (λ w r. follow w (inr r)))
    set_alike (difference s t) names other follow =
        pair_alike (spread_set s names) (spread_set s other) (spread_set t names) (spread_set t other) (λ y u v. relation.Diff y u v) (λ y u v. refl)
        (set_alike s names other (λ w r. follow w (inl r))) (set_alike t names other (λ w r. follow w (inr r)))
    set_alike (shift_up s k) names other follow =
        over_alike Two Two (spread_set s names) (spread_set s other) (λ y free x. basic (relation.Up y x k)) (set_alike s names other follow) (λ y free next x carries. refl)
    set_alike (shift_down s k) names other follow =
        over_alike Two Two (spread_set s names) (spread_set s other) (λ y free x. basic (relation.Down y x k)) (set_alike s names other follow) (λ y free next x carries. refl)

    terms_calls : (ts : Terms) (names other : Names) → NamesFollow n (TermsRead ts) names other → ElementsAlike n (spread_elements ts names) (spread_elements ts other)
    terms_calls no_terms names other follow = none_alike
    terms_calls (more_terms t ts) names other follow = more_alike (number_alike t names other (λ w r. follow w (inl r))) (terms_calls ts names other (λ w r. follow w (inr r)))
