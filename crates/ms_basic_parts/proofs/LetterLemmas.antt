-- Letters at positions one after the other: cut in two, and equal where the values agree.
use Rattle.std.proofs.Common.{◌≡◌, ℕ, zero, suc, ◌+◌, ◌<◌, ◌≤◌, ◌==◌, ⊎_elim, Bool, List, [], ◌∷◌, ◌++◌, map, refl, sym, ap, ap₂, ◌∙◌, arith}
use Rattle.std.specs.List.{range_with_len}
use Rattle.std.proofs.lemmas.Bool.{cases_eq, eq-eqb, ne_eqb}
use Rattle.ms_logic.specs.Assignment.{Env, Universe, AllWithin, GivesEach, IsValueOf, IsWithin, Variable, value_at}
use Rattle.ms_logic.specs.FiniteSet.{IsRising, is_member}
use Rattle.ms_logic.specs.Letters.{bound_at, bound_of, bound_of_set, letter_at, truth_values_of, with_bit, with_truth_value}
use Rattle.ms_logic.specs.declared.mode.Order.{Order}
use Rattle.ms_logic.specs.declared.mode.Order.TheVariants.{Zero, One, Two}
use Rattle.ms_logic_words.specs.Content.{AreLetters}
use Rattle.ms_logic_words.proofs.WordLaws.{length-letter}

-- tests of equal facts
pub eqb_alike : (a b c d : ℕ) → (a ≡ b → c ≡ d) → (c ≡ d → a ≡ b) → (a == b) ≡ (c == d)
eqb_alike a b c d to from = ⊎_elim
    (λ same. eq-eqb a b same ∙ sym (eq-eqb c d (to same)))
    (λ differ. ne_eqb a b differ ∙ sym (ne_eqb c d (λ same. differ (from same))))
    (cases_eq a b)

-- a list over a range, cut in two
pub map-range-append : {A : Type 0} (g : ℕ → A) (start first second : ℕ)
    → map g (range_with_len start (first + second)) ≡ map g (range_with_len start first) ++ map g (range_with_len (start + first) second)
map-range-append g start zero second = ap₂ (λ s n. map g (range_with_len s n)) (let same : start ≡ start + zero = omega arith in same) (let same : zero + second ≡ second = omega arith in same)
map-range-append g start (suc first) second =
    let count : suc first + second ≡ suc (first + second) = omega arith in
    let behind : start + 1 + first ≡ start + suc first = omega arith in
    ap (λ n. map g (range_with_len start n)) count
    ∙ ap (λ more. g start ∷ more) (map-range-append g (start + 1) first second
    ∙ ap (λ s. map g (range_with_len (start + 1) first) ++ map g (range_with_len s second)) behind)

-- lists over ranges of one length whose items agree
pub map-range-same : {A : Type 0} (g h : ℕ → A) (one other count : ℕ) → ((q : ℕ) → q < count → g (one + q) ≡ h (other + q))
    → map g (range_with_len one count) ≡ map h (range_with_len other count)
map-range-same g h one other zero same = refl
map-range-same g h one other (suc count) same =
    let at_one : one + 0 ≡ one = omega arith in
    let at_other : other + 0 ≡ other = omega arith in
    ap₂ (λ first more. first ∷ more)
    (ap g (sym at_one) ∙ (same 0 (omega arith) ∙ ap h at_other))
    (map-range-same g h (one + 1) (other + 1) count (λ q less.
    let next_one : one + 1 + q ≡ one + suc q = omega arith in
    let next_other : other + suc q ≡ other + 1 + q = omega arith in
    ap g next_one ∙ (same (suc q) (omega (arith, less)) ∙ ap h next_other)))

-- at two positions all numbers and sets have the same bits
pub record HaveSameBits (e f : Env) (p q : ℕ) : Type 0 where
  pub numbers : (x : ℕ) → (e.number x == p) ≡ (f.number x == q)
  pub sets : (x : ℕ) → is_member p (e.set x) ≡ is_member q (f.set x)

pub same_letter : (vs : List Variable) (e f : Env) (p q : ℕ) → HaveSameBits e f p q → letter_at vs e p ≡ letter_at vs f q
same_letter [] e f p q same = refl
same_letter (v ∷ vs) e f p q same = by_order v.order (letter_at vs e p) (letter_at vs f q) (same_letter vs e f p q same)
  where
    by_order : (o : Order) (more also : List Bool) → more ≡ also → with_bit o v.name p e more ≡ with_bit o v.name q f also
    by_order Zero more also rest = rest
    by_order One more also rest = ap₂ (λ bit others. bit ∷ others) (same.numbers v.name) rest
    by_order Two more also rest = ap₂ (λ bit others. bit ∷ others) (same.sets v.name) rest

pub same_truth_values : (vs : List Variable) (e f : Env) → ((x : ℕ) → e.truth x ≡ f.truth x) → truth_values_of vs e ≡ truth_values_of vs f
same_truth_values [] e f same = refl
same_truth_values (v ∷ vs) e f same = by_order v.order (truth_values_of vs e) (truth_values_of vs f) (same_truth_values vs e f same)
  where
    by_order : (o : Order) (more also : List Bool) → more ≡ also → with_truth_value o v.name e more ≡ with_truth_value o v.name f also
    by_order Zero more also rest = ap₂ (λ bit others. bit ∷ others) (same v.name) rest
    by_order One more also rest = rest
    by_order Two more also rest = rest

pub letters_in_range : (vs : List Variable) (e : Env) (start count : ℕ) → AreLetters vs (map (letter_at vs e) (range_with_len start count))
letters_in_range vs e start zero = tt
letters_in_range vs e start (suc count) = (length-letter vs e start, letters_in_range vs e (start + 1) count)

-- numbers and sets below a count
pub record AreBelow (e : Env) (count : ℕ) : Type 0 where
  pub numbers : (x : ℕ) → e.number x < count
  pub rising : (x : ℕ) → IsRising (e.set x)
  pub bounds : (x : ℕ) → bound_of_set (e.set x) ≤ count

pub bound_below : (vs : List Variable) (e : Env) (count : ℕ) → AreBelow e count → bound_of vs e ≤ count
bound_below [] e count below = omega arith
bound_below (v ∷ vs) e count below =
    let rest = bound_below vs e count below in let own = by_order v.order in omega (arith, rest, own)
  where
    by_order : (o : Order) → bound_at o v.name e ≤ count
    by_order Zero = omega arith
    by_order One = let less = below.numbers v.name in omega (arith, less)
    by_order Two = below.bounds v.name

members_within : (universe : Universe) (count : ℕ) (members : List ℕ) → ((n : ℕ) → n < count → IsWithin universe n) → bound_of_set members ≤ count
    → AllWithin universe members
members_within universe count [] within bound = tt
members_within universe count (n ∷ more) within bound = (within n (omega (arith, bound)), members_within universe count more within (omega (arith, bound)))

pub gives_each : (vs : List Variable) (e : Env) (count : ℕ) → ((n : ℕ) → n < count → IsWithin e.universe n) → AreBelow e count → GivesEach vs e
gives_each [] e count within below = tt
gives_each (v ∷ vs) e count within below = (by_order v.order, gives_each vs e count within below)
  where
    by_order : (o : Order) → IsValueOf o e.universe (value_at o v.name e)
    by_order Zero = tt
    by_order One = within (e.number v.name) (below.numbers v.name)
    by_order Two = (below.rising v.name, members_within e.universe count (e.set v.name) within (below.bounds v.name))
