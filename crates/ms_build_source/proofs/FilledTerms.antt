-- The spread of a term stays the same where what is said of it is filled in.
use Rattle.std.proofs.Common.{◌≡◌, ℕ, zero, suc, ◌+◌, ◌/◌, ◌≤◌, List, [], ◌∷◌, length, take, drop, refl, ap, ap₂, arith}
use Rattle.ms_logic_core.specs.declared.core_formula.Basic.{Basic}
use Rattle.ms_logic_core.specs.declared.core_formula.Basic.TheVariants as relation
use Rattle.ms_logic.specs.declared.mode.Order.{Order}
use Rattle.ms_logic.specs.declared.mode.Order.TheVariants.{One, Two}
use Rattle.ms_logic.specs.declared.mode.Quant.{Quant}
use Rattle.ms_logic.specs.declared.mode.Quant.TheVariants.{Ex}
use Rattle.ms_logic.specs.Assignment.{Variable}
use Rattle.ms_logic_core.specs.CoreForm.{CoreForm, CoreRestriction, basic, quantified, restricted}
use Rattle.ms_logic_core.specs.Spread.{Names, Saying, TermSpread, first_half, second_half, is_minus, is_only_member, is_whole, new_variable, set_of_elements, spread_elements, spread_number, spread_set}
use Rattle.ms_logic.specs.Tree.{Term, number_variable, numeral, plus, minus, minimum, maximum, SetTerm, set_variable, empty_set, whole, literal, pconst, union, intersection, difference, shift_up, shift_down, Terms, no_terms, more_terms}
use Rattle.ms_logic.specs.Lists.{Each}
use Rattle.ms_lower.specs.Numbering.{renumbered, renumbered_in}
use Rattle.ms_logic_core.specs.Calls.{Calls, filled, filled_in}
use Rattle.ms_build_source.proofs.Renumbering.{numbers_with}

-- how calls are filled in: with numbers of the answer, of which the first so many are kept, where so many are those of globals
pub record Filling : Type 0 where
  pub number : Order → ℕ → ℕ
  pub kept : ℕ
  pub globals : ℕ
  -- the variables of imports, among which there are calls
  pub calling : ℕ → List Variable
  -- the variables of the imports of the source alone
  pub plain : ℕ → List Variable
  -- what imports stand for
  pub calls : Calls

-- the first formula becomes the second where what its imports stand for is filled in
abbrev pub Fills : Filling → CoreForm → CoreForm → Type 0
Fills way F G = filled way.calls (renumbered (numbers_with way.calling way.number) F) ≡ renumbered (numbers_with way.plain way.number) G

abbrev pub FillsIn : Filling → CoreRestriction → CoreRestriction → Type 0
FillsIn way D E = filled_in way.calls (renumbered_in (numbers_with way.calling way.number) D) ≡ renumbered_in (numbers_with way.plain way.number) E

-- so does what is said of a variable
abbrev pub SaysFilled : Filling → Saying → Saying → Type 0
SaysFilled way Said Other = (free y : ℕ) → way.kept ≤ free → Fills way (Said free y) (Other free y)

-- so does a term, if what is said of it does
abbrev pub TermFills : Filling → TermSpread → Type 0
TermFills way T = (free : ℕ) (Said Other : Saying) → way.kept ≤ free → SaysFilled way Said Other → Fills way (T free Said) (T free Other)

module _ (way : Filling) where
  -- a new variable
  pub new_fills : (q : Quant) (o : Order) (free : ℕ) (D E : CoreRestriction) (F G : CoreForm) → FillsIn way D E → Fills way F G → Fills way (quantified q o free D F) (quantified q o free E G)
  new_fills q o free D E F G restrictions forms = ap₂ (λ d f. quantified q o (way.number o free) d f) restrictions forms

  -- two terms
  pub two_fill : (T U : TermSpread) → TermFills way T → TermFills way U → (F : ℕ → ℕ → CoreForm) → ((x y : ℕ) → Fills way (F x y) (F x y)) →
      (free : ℕ) → way.kept ≤ free → Fills way (T free (λ free x. U free (λ free y. F x y))) (T free (λ free x. U free (λ free y. F x y)))
  two_fill T U first second F same free above =
      first free (λ free x. U free (λ free y. F x y)) (λ free x. U free (λ free y. F x y)) above (λ more x c.
      second more (λ free y. F x y) (λ free y. F x y) c (λ last y d. same x y))

  -- a new variable that is a term
  term_fills : (o : Order) (Is : Saying) → SaysFilled way Is Is → TermFills way (new_variable o Is)
  term_fills o Is is free Said Other above says =
      let more : way.kept ≤ free + 1 = omega (arith, above) in
      new_fills Ex o free (restricted (Is (free + 1) free)) (restricted (Is (free + 1) free)) (Said (free + 1) free) (Other (free + 1) free)
      (ap (λ d. restricted d) (is (free + 1) free more)) (says (free + 1) free more)

  -- one of which something is said with another term
  over_fills : (o : Order) (T : TermSpread) (S : ℕ → Saying) → TermFills way T → ((y : ℕ) → SaysFilled way (S y) (S y)) → TermFills way (new_variable o (λ free y. T free (S y)))
  over_fills o T S term says = term_fills o (λ free y. T free (S y)) (λ free y above. term free (S y) (S y) above (says y))

  -- a set that is made of two
  pair_fills : (T U : TermSpread) (B : ℕ → ℕ → ℕ → Basic) → TermFills way T → TermFills way U → TermFills way (new_variable Two (λ free y. T free (λ free u. U free (λ free v. basic (B y u v)))))
  pair_fills T U B first second =
      term_fills Two (λ free y. T free (λ free u. U free (λ free v. basic (B y u v)))) (λ free y above. two_fill T U first second (λ u v. basic (B y u v)) (λ u v. refl) free above)

  bits_fill : (k : ℕ) → TermFills way (new_variable Two (λ free y. basic (relation.Bits y k)))
  bits_fill k = term_fills Two (λ free y. basic (relation.Bits y k)) (λ free y above. refl)

  -- the set of some elements

  take_each : (k : ℕ) (Ts : List TermSpread) → Each (TermFills way) Ts → Each (TermFills way) (take k Ts)
  take_each zero Ts all = tt
  take_each (suc k) [] all = tt
  take_each (suc k) (T ∷ Ts) all = (all.0, take_each k Ts all.1)

  drop_each : (k : ℕ) (Ts : List TermSpread) → Each (TermFills way) Ts → Each (TermFills way) (drop k Ts)
  drop_each zero Ts all = all
  drop_each (suc k) [] all = tt
  drop_each (suc k) (T ∷ Ts) all = drop_each k Ts all.1

  elements_fill : (rounds : ℕ) (Ts : List TermSpread) → Each (TermFills way) Ts → TermFills way (set_of_elements rounds Ts)
  elements_fill zero [] all = bits_fill 0
  elements_fill (suc rounds) [] all = bits_fill 0
  elements_fill zero (T ∷ []) all = over_fills Two T is_only_member all.0 (λ y free x above. refl)
  elements_fill (suc rounds) (T ∷ []) all = over_fills Two T is_only_member all.0 (λ y free x above. refl)
  elements_fill zero (T ∷ U ∷ Ts) all = bits_fill 0
  elements_fill (suc rounds) (T ∷ U ∷ Ts) all =
      let half = (length (T ∷ U ∷ Ts) + 1) / 2 in
      pair_fills (set_of_elements rounds (first_half (T ∷ U ∷ Ts))) (set_of_elements rounds (second_half (T ∷ U ∷ Ts))) (λ y s t. relation.Union y s t)
      (elements_fill rounds (first_half (T ∷ U ∷ Ts)) (take_each half (T ∷ U ∷ Ts) all)) (elements_fill rounds (second_half (T ∷ U ∷ Ts)) (drop_each half (T ∷ U ∷ Ts) all))

  mutual
    pub number_fills : (t : Term) (names : Names) → TermFills way (spread_number t names)
    number_fills (number_variable x) names = λ free Said Other above says. says free (names One x) above
    number_fills (numeral k) names = term_fills One (λ free y. basic (relation.Number y k)) (λ free y above. refl)
    number_fills (plus t k) names = over_fills One (spread_number t names) (λ y free x. basic (relation.Plus y x k)) (number_fills t names) (λ y free x above. refl)
    number_fills (minus t k) names = over_fills One (spread_number t names) (λ y. is_minus y k) (number_fills t names) (λ y free x above. refl)
    number_fills (minimum s) names = over_fills One (spread_set s names) (λ y free x. basic (relation.Min y x)) (set_fills s names) (λ y free x above. refl)
    number_fills (maximum s) names = over_fills One (spread_set s names) (λ y free x. basic (relation.Max y x)) (set_fills s names) (λ y free x above. refl)

    pub set_fills : (s : SetTerm) (names : Names) → TermFills way (spread_set s names)
    set_fills (set_variable x) names = λ free Said Other above says. says free (names Two x) above
    set_fills empty_set names = bits_fill 0
    set_fills whole names = term_fills Two is_whole (λ free y above. refl)
    set_fills (literal ts) names = elements_fill (length (spread_elements ts names)) (spread_elements ts names) (terms_fill ts names)
    set_fills (pconst k) names = bits_fill k
    set_fills (union s t) names = pair_fills (spread_set s names) (spread_set t names) (λ y u v. relation.Union y u v) (set_fills s names) (set_fills t names)
    set_fills (intersection s t) names = pair_fills (spread_set s names) (spread_set t names) (λ y u v. relation.Inter y u v) (set_fills s names) (set_fills t names)
    set_fills (difference s t) names = pair_fills (spread_set s names) (spread_set t names) (λ y u v. relation.Diff y u v) (set_fills s names) (set_fills t names)
    set_fills (shift_up s k) names = over_fills Two (spread_set s names) (λ y free x. basic (relation.Up y x k)) (set_fills s names) (λ y free x above. refl)
    set_fills (shift_down s k) names = over_fills Two (spread_set s names) (λ y free x. basic (relation.Down y x k)) (set_fills s names) (λ y free x above. refl)

    terms_fill : (ts : Terms) (names : Names) → Each (TermFills way) (spread_elements ts names)
    terms_fill no_terms names = tt
    terms_fill (more_terms t ts) names = (number_fills t names, terms_fill ts names)
