-- The forms of a translation export nothing, their constants are in range, and variables of one number have one order.
use Rattle.std.proofs.Common.{◌≡◌, ℕ, ◌+◌, ◌*◌, ◌^◌, ◌<◌, ◌≤◌, ◌==◌, zero, suc, inr, true, max, ⊎_elim, List, [], ◌∷◌, map, refl, subst, arith}
use Rattle.std.proofs.lemmas.Bool.{cases_lt}
use Rattle.std.proofs.lemmas.Bool.Decides.{nat_tests}
use Rattle.std.proofs.lemmas.Nat.Bits.{bit_at_above}
use Rattle.ms_logic.specs.declared.mode.Mode.{Mode}
use Rattle.ms_logic.specs.declared.mode.Order.{Order}
use Rattle.ms_logic.specs.declared.mode.Order.TheVariants.{One, Two}
use Rattle.ms_logic.specs.declared.mode.Rel.TheVariants.{Equal}
use Rattle.ms_logic.specs.FiniteSet.{is_member, one_bits}
use Rattle.ms_logic.specs.Lists.{Each}
use Rattle.ms_logic.specs.Tree.{Form, truth, falsity, truth_variable, negation, conjunction, disjunction, implication, equivalence, comparison, set_comparison, membership, emptiness, set_variable, quantified, where_let, call, restrict, imported, exported, default_at, Forms, no_forms, more_forms, Restriction, unrestricted, restricted}
use Rattle.ms_logic.proofs.Members.{either_true}
use Rattle.ms_logic.proofs.SetLaws.{one_bits_law}
use Rattle.ms_names_rules.specs.Numbers.{exports_in}
use Rattle.ms_names_checked.specs.Constants.{AreInRange, IsInRange}
use Rattle.ms_names_checked.specs.Orders.{BindsInOrder, EachBindsInOrder, HasOrder}
use Rattle.ms_presburger.specs.declared.linear.Part.{Part}
use Rattle.ms_presburger.specs.declared.linear.Part.TheVariants.{Number, Var, Times}
use Rattle.ms_presburger.specs.declared.summand.Summand.{Summand}
use Rattle.ms_presburger.specs.declared.summand.Summand.TheVariants.{Constant, Shifted}
use Rattle.ms_presburger.specs.Sets.{Scope, summands_of_part, summands_of, term_of_summand, set_form}
use Rattle.ms_presburger.specs.Tree.{Arithmetic, Arithmetics, no_arithmetics, more_arithmetics}
use Rattle.ms_presburger.specs.Tree as numbers
use Rattle.ms_presburger.specs.inner.Scopes.{AreAllFactorsSmall, AreFactorsSmall, IsFactorSmall}
use Rattle.ms_presburger.proofs.Shapes.{IsClosed, HasSummands, HaveSummands, shape}
use Rattle.ms_presburger.proofs.Totals.{each-both}
use Rattle.ms_translation.proofs.Exports.{ExportsNothing, ExportNothing, none-of-two, none-in-none, none-in-more, none-in-negation, none-in-conjunction, none-in-disjunction, none-in-implication, none-in-equivalence, none-in-body}
use Rattle.ms_translation.proofs.Rules.{behind-sets, sets_then}

-- any summands

abbrev Any : Summand → Type 0
Any t = Unit {0}

each-any : (terms : List Summand) → Each Any terms
each-any [] = tt
each-any (t ∷ more) = (tt, each-any more)

mutual
  has-any : (f : Arithmetic) → HasSummands Any f
  has-any numbers.truth = tt
  has-any numbers.falsity = tt
  has-any (numbers.comparison r left right) = λ scope. (each-any (summands_of scope left), each-any (summands_of scope right))
  has-any (numbers.brackets f) = has-any f
  has-any (numbers.negation f) = has-any f
  has-any (numbers.conjunction fs) = have-any fs
  has-any (numbers.disjunction fs) = have-any fs
  has-any (numbers.implication f g) = (has-any f, has-any g)
  has-any (numbers.equivalence f g) = (has-any f, has-any g)
  has-any (numbers.quantified q xs f) = has-any f

  have-any : (fs : Arithmetics) → HaveSummands Any fs
  have-any no_arithmetics = tt
  have-any (more_arithmetics f fs) = (has-any f, have-any fs)

-- exports

abbrev Anywhere : ℕ → Type 0
Anywhere x = Unit {0}

exports-closed : IsClosed ExportsNothing ExportNothing Anywhere Any
exports-closed = record {
  next = λ x from. tt;
  none = none-in-none;
  more = none-in-more;
  truth = record { numbers = refl; exports = refl; in_place = tt };
  falsity = record { numbers = refl; exports = refl; in_place = tt };
  negation = none-in-negation;
  conjunction = none-in-conjunction;
  disjunction = none-in-disjunction;
  implication = none-in-implication;
  equivalence = none-in-equivalence;
  before = λ p q. record { numbers = refl; exports = refl; in_place = tt };
  place_in = λ positive p s. record { numbers = refl; exports = refl; in_place = tt };
  first_in = λ s. record { numbers = refl; exports = refl; in_place = tt };
  next_in = λ p s. record { numbers = refl; exports = refl; in_place = tt };
  empty = λ y. record { numbers = refl; exports = refl; in_place = tt };
  same = λ u v. record { numbers = refl; exports = refl; in_place = tt };
  differ = λ u v. record { numbers = refl; exports = refl; in_place = tt };
  term = λ y t any. record { numbers = refl; exports = refl; in_place = tt };
  some_set = λ x d f from one other. record { numbers = none-of-two (exports_in d) (exports_in f) one.numbers other.numbers; exports = other.exports; in_place = (one.numbers, other.in_place) };
  a_set = λ q x f from one. none-in-body q Two x f one;
  a_place = λ q x f from one. none-in-body q One (x + 1) f one;
  a_later_place = λ q x f from one. none-in-body q One (x + 3) f one;
}

pub exports-nothing : (f : Arithmetic) (scope : Scope) (x : ℕ) → ExportsNothing (set_form f scope x)
exports-nothing f scope x = shape ExportsNothing ExportNothing Anywhere Any exports-closed f (has-any f) scope x tt

-- constants

abbrev IsTermSmall : Summand → Type 0
IsTermSmall (Constant n) = Unit {0}
IsTermSmall (Shifted y j) = j ≤ 65535

term-in-range : (mode : Mode) (y : ℕ) (t : Summand) → IsTermSmall t → IsInRange mode (set_comparison Equal (set_variable y) (term_of_summand t))
term-in-range mode y (Constant n) small = (tt, tt, tt)
term-in-range mode y (Shifted x j) small = (tt, tt, (tt, small))

range-closed : (mode : Mode) → IsClosed (IsInRange mode) (AreInRange mode) Anywhere IsTermSmall
range-closed mode = record {
  next = λ x from. tt;
  none = tt;
  more = λ f fs one other. (one, other);
  truth = tt;
  falsity = tt;
  negation = λ f one. one;
  conjunction = λ fs each. each;
  disjunction = λ fs each. each;
  implication = λ f g one other. (one, other);
  equivalence = λ f g one other. (one, other);
  before = λ p q. (tt, tt, tt);
  place_in = λ positive p s. (tt, tt);
  first_in = λ s. (omega arith, tt);
  next_in = λ p s. ((tt, omega arith), tt);
  empty = λ y. tt;
  same = λ u v. (tt, tt, tt);
  differ = λ u v. (tt, tt, tt);
  term = term-in-range mode;
  some_set = λ x d f from one other. (one, other);
  a_set = λ q x f from one. (tt, one);
  a_place = λ q x f from one. (tt, one);
  a_later_place = λ q x f from one. (tt, one);
}

-- a member of a list is its first, or one of the others
first_member : (j : ℕ) (places : List ℕ) → is_member j (j ∷ places) ≡ true
first_member j places = grind (arith, nat_tests)

later : (i j : ℕ) (places : List ℕ) → is_member i places ≡ true → is_member i (j ∷ places) ≡ true
later i j places member = (either_true (j == i) (is_member i places)).1 (inr member)

small-places : (x : ℕ) (places : List ℕ) → Each (λ j. j ≤ 65535) places → Each IsTermSmall (map (λ j. Shifted x j) places)
small-places x [] each = tt
small-places x (j ∷ places) each = (each.0, small-places x places each.1)

each-place : (P : ℕ → Type 0) (places : List ℕ) → ((j : ℕ) → is_member j places ≡ true → P j) → Each P places
each-place P [] each = tt
each-place P (j ∷ places) each =
    (each j (first_member j places), each-place P places (λ i member. each i (later i j places member)))

small-bits : (n : ℕ) → n < 2 ^ 64 → Each (λ j. j ≤ 65535) (one_bits n)
small-bits n small =
    each-place (λ j. j ≤ 65535) (one_bits n) (λ j member.
    ⊎_elim (λ below. omega (arith, below)) (λ above. absurd (omega (arith, bit_at_above n 64 j small above, ((one_bits_law n).exactly j).0 member))) (cases_lt j 64))

small-part : (scope : Scope) (part : Part) → IsFactorSmall part → Each IsTermSmall (summands_of_part scope part)
small-part scope (Number zero) small = tt
small-part scope (Number (suc n)) small = (tt, tt)
small-part scope (Var name) small = (omega arith, tt)
small-part scope (Times n name) small = small-places (scope name) (one_bits n) (small-bits n small)

small-sum : (scope : Scope) (parts : List Part) → Each IsFactorSmall parts → Each IsTermSmall (summands_of scope parts)
small-sum scope [] small = tt
small-sum scope (part ∷ more) small = each-both IsTermSmall (summands_of_part scope part) (summands_of scope more) (small-part scope part small.0) (small-sum scope more small.1)

mutual
  has-small : (f : Arithmetic) → AreFactorsSmall f → HasSummands IsTermSmall f
  has-small numbers.truth small = tt
  has-small numbers.falsity small = tt
  has-small (numbers.comparison r left right) small = λ scope. (small-sum scope left small.0, small-sum scope right small.1)
  has-small (numbers.brackets f) small = has-small f small
  has-small (numbers.negation f) small = has-small f small
  has-small (numbers.conjunction fs) small = have-small fs small
  has-small (numbers.disjunction fs) small = have-small fs small
  has-small (numbers.implication f g) small = (has-small f small.0, has-small g small.1)
  has-small (numbers.equivalence f g) small = (has-small f small.0, has-small g small.1)
  has-small (numbers.quantified q xs f) small = has-small f small

  have-small : (fs : Arithmetics) → AreAllFactorsSmall fs → HaveSummands IsTermSmall fs
  have-small no_arithmetics small = tt
  have-small (more_arithmetics f fs) small = (has-small f small.0, have-small fs small.1)

pub in-range : (mode : Mode) (f : Arithmetic) → AreFactorsSmall f → (scope : Scope) (x : ℕ) → IsInRange mode (set_form f scope x)
in-range mode f small scope x = shape (IsInRange mode) (AreInRange mode) Anywhere IsTermSmall (range-closed mode) f (has-small f small) scope x tt

-- orders: behind the globals, which are sets, sets and places take turns

-- the least number above the variables that a form binds
abbrev mutual
  pub top : Form → ℕ
  top truth = 0
  top falsity = 0
  top (truth_variable x) = 0
  top (negation f) = top f
  top (conjunction fs) = top_of_all fs
  top (disjunction fs) = top_of_all fs
  top (implication f g) = max (top f) (top g)
  top (equivalence f g) = max (top f) (top g)
  top (comparison r t u) = 0
  top (set_comparison r s t) = 0
  top (membership positive t s) = 0
  top (emptiness s) = 0
  top (quantified q o x d f) = max (suc x) (max (top_of_restriction d) (top f))
  top (where_let xs sides f) = 0
  top (call p given) = 0
  top (restrict f) = 0
  top (imported i) = 0
  top (exported i f) = 0
  top (default_at p x) = 0

  pub top_of_all : Forms → ℕ
  top_of_all no_forms = 0
  top_of_all (more_forms f fs) = max (top f) (top_of_all fs)

  pub top_of_restriction : Restriction → ℕ
  top_of_restriction unrestricted = 0
  top_of_restriction (restricted d) = top d

pub turns : ℕ → List Order
turns zero = []
turns (suc n) = Two ∷ (One ∷ turns n)

set-turn : (n k : ℕ) → k < n → HasOrder (turns n) (2 * k) Two
unfolding turns
set-turn zero k below = absurd (omega (arith, below))
set-turn (suc n) zero below = refl
set-turn (suc n) (suc k) below = let next : suc (suc (2 * k)) ≡ 2 * suc k = omega arith in let P : ℕ → Type 0 = λ i. HasOrder (turns (suc n)) i Two in subst P next (set-turn n k (omega (arith, below)))

place-turn : (n k : ℕ) → k < n → HasOrder (turns n) (2 * k + 1) One
unfolding turns
place-turn zero k below = absurd (omega (arith, below))
place-turn (suc n) zero below = refl
place-turn (suc n) (suc k) below = let next : suc (suc (2 * k + 1)) ≡ 2 * suc k + 1 = omega arith in let P : ℕ → Type 0 = λ i. HasOrder (turns (suc n)) i One in subst P next (place-turn n k (omega (arith, below)))

module _ (count : ℕ) where
  -- a set's turn
  abbrev SetsFrom : ℕ → Type 0
  SetsFrom x = (k : ℕ) × (x ≡ count + 2 * k)

  abbrev InTurn : Form → Type 0
  InTurn f = (many : ℕ) → top f ≤ many → BindsInOrder (sets_then count (turns many)) f

  abbrev EachInTurn : Forms → Type 0
  EachInTurn fs = (many : ℕ) → top_of_all fs ≤ many → EachBindsInOrder (sets_then count (turns many)) fs

  set-order : (x many : ℕ) → SetsFrom x → x < many → HasOrder (sets_then count (turns many)) x Two
  set-order x many from below = behind-sets count (turns many) (2 * from.0) x Two from.1 (set-turn many from.0 (omega (arith, from.1, below)))

  place-order : (x many : ℕ) → SetsFrom x → x + 1 < many → HasOrder (sets_then count (turns many)) (x + 1) One
  place-order x many from below = behind-sets count (turns many) (2 * from.0 + 1) (x + 1) One (omega (arith, from.1)) (place-turn many from.0 (omega (arith, from.1, below)))

  next-set : (x : ℕ) → SetsFrom x → SetsFrom (x + 2)
  next-set x from = (from.0 + 1, omega (arith, from.1))

  turns-closed : IsClosed InTurn EachInTurn SetsFrom Any
  turns-closed = record {
    next = next-set;
    none = λ many above. tt;
    more = λ f fs one other many above. (one many (omega (arith, above)), other many (omega (arith, above)));
    truth = λ many above. tt;
    falsity = λ many above. tt;
    negation = λ f one. one;
    conjunction = λ fs each. each;
    disjunction = λ fs each. each;
    implication = λ f g one other many above. (one many (omega (arith, above)), other many (omega (arith, above)));
    equivalence = λ f g one other many above. (one many (omega (arith, above)), other many (omega (arith, above)));
    before = λ p q many above. tt;
    place_in = λ positive p s many above. tt;
    first_in = λ s many above. tt;
    next_in = λ p s many above. tt;
    empty = λ y many above. tt;
    same = λ u v many above. tt;
    differ = λ u v many above. tt;
    term = λ y t any many above. tt;
    some_set = λ x d f from one other many above. (set-order x many from (omega (arith, above)), one many (omega (arith, above)), other many (omega (arith, above)));
    a_set = λ q x f from one many above. (set-order x many from (omega (arith, above)), tt, one many (omega (arith, above)));
    a_place = λ q x f from one many above. (place-order x many from (omega (arith, above)), tt, one many (omega (arith, above)));
    a_later_place = λ q x f from one many above.
        let same : x + 2 + 1 ≡ x + 3 = omega arith in
        let P : ℕ → Type 0 = λ i. HasOrder (sets_then count (turns many)) i One in
        (subst P same (place-order (x + 2) many (next-set x from) (omega (arith, above))), tt, one many (omega (arith, above)));
  }

  pub in-turn : (f : Arithmetic) (scope : Scope) → (many : ℕ) → top (set_form f scope count) ≤ many → BindsInOrder (sets_then count (turns many)) (set_form f scope count)
  in-turn f scope = shape InTurn EachInTurn SetsFrom Any turns-closed f (has-any f) scope count (0, omega arith)
