-- Words encode variables by their values alone, whatever the variables are called.
use Rattle.std.proofs.Common.{◌≡◌, ℕ, zero, suc, ◌+◌, ◌<◌, ◌==◌, max, Bool, if◌then◌else◌, List, [], ◌∷◌, length, map, slice_index, refl, sym, ap, subst, ◌∙◌, arith}
use Rattle.std.specs.List.Sorted.{IsStrictlyIncreasing}
use Rattle.std.proofs.lemmas.Bool.{eq-eqb, ne_eqb}
use Rattle.ms_list.specs.declared.word.Word.{Word}
use Rattle.ms_logic.specs.Assignment.{Env, GivesEach, IsAssignment, IsUniverseOf, IsValueOf, Variable, value_at}
use Rattle.ms_logic.specs.FiniteSet.{is_member, numbers_below}
use Rattle.ms_logic.specs.Letters.{bound_at, bound_of, letter_at, truth_values_of, with_bit, with_truth_value}
use Rattle.ms_logic.specs.declared.assignment.Value.TheVariants as values
use Rattle.ms_logic.specs.declared.mode.Mode.{Mode}
use Rattle.ms_logic.specs.declared.mode.Order.{Order}
use Rattle.ms_logic.specs.declared.mode.Order.TheVariants.{Zero, One, Two}
use Rattle.ms_logic_words.specs.Word.{Encodes, HasLength}

-- variables of one order, one after the other, with one value
abbrev pub HaveSameValues : List Variable → List Variable → Env → Env → Type 0
HaveSameValues [] [] e c = Unit {0}
HaveSameValues [] (w ∷ ws) e c = ⊥
HaveSameValues (v ∷ vs) [] e c = ⊥
HaveSameValues (v ∷ vs) (w ∷ ws) e c = (w.order ≡ v.order) × (value_at v.order v.name e ≡ value_at v.order w.name c) × HaveSameValues vs ws e c

truth_is : (b d : Bool) → values.Truth b ≡ values.Truth d → b ≡ d
truth_is b d same = cc

number_is : (m n : ℕ) → values.Number m ≡ values.Number n → m ≡ n
number_is m n same = cc

set_is : (s t : List ℕ) → values.Set s ≡ values.Set t → s ≡ t
set_is s t same = cc

truth_step : (o : Order) (x y : ℕ) (e c : Env) (more also : List Bool) → value_at o x e ≡ value_at o y c → more ≡ also → with_truth_value o x e more ≡ with_truth_value o y c also
truth_step Zero x y e c more also same rest = let value = truth_is (e.truth x) (c.truth y) same in λ i. value i ∷ rest i
truth_step One x y e c more also same rest = rest
truth_step Two x y e c more also same rest = rest

bit_step : (o : Order) (x y position : ℕ) (e c : Env) (more also : List Bool) → value_at o x e ≡ value_at o y c → more ≡ also → with_bit o x position e more ≡ with_bit o y position c also
bit_step Zero x y position e c more also same rest = rest
bit_step One x y position e c more also same rest = let value = number_is (e.number x) (c.number y) same in λ i. (value i == position) ∷ rest i
bit_step Two x y position e c more also same rest = let value = set_is (e.set x) (c.set y) same in λ i. is_member position (value i) ∷ rest i

bound_step : (o : Order) (x y : ℕ) (e c : Env) → value_at o x e ≡ value_at o y c → bound_at o x e ≡ bound_at o y c
bound_step Zero x y e c same = refl
bound_step One x y e c same = ap (λ n. n + 1) (number_is (e.number x) (c.number y) same)
bound_step Two x y e c same = ap (λ s. bound_at Two 0 (record e { set = λ z. s })) (set_is (e.set x) (c.set y) same)

same_truth : (vs ws : List Variable) (e c : Env) → HaveSameValues vs ws e c → truth_values_of vs e ≡ truth_values_of ws c
same_truth [] [] e c same = refl
same_truth [] (w ∷ ws) e c same = absurd same
same_truth (v ∷ vs) [] e c same = absurd same
same_truth (v ∷ vs) (w ∷ ws) e c same =
    truth_step v.order v.name w.name e c (truth_values_of vs e) (truth_values_of ws c) same.1 (same_truth vs ws e c same.2)
    ∙ ap (λ o. with_truth_value o w.name c (truth_values_of ws c)) (sym same.0)

same_letter : (vs ws : List Variable) (e c : Env) (position : ℕ) → HaveSameValues vs ws e c → letter_at vs e position ≡ letter_at ws c position
same_letter [] [] e c position same = refl
same_letter [] (w ∷ ws) e c position same = absurd same
same_letter (v ∷ vs) [] e c position same = absurd same
same_letter (v ∷ vs) (w ∷ ws) e c position same =
    bit_step v.order v.name w.name position e c (letter_at vs e position) (letter_at ws c position) same.1 (same_letter vs ws e c position same.2)
    ∙ ap (λ o. with_bit o w.name position c (letter_at ws c position)) (sym same.0)

same_bound : (vs ws : List Variable) (e c : Env) → HaveSameValues vs ws e c → bound_of vs e ≡ bound_of ws c
same_bound [] [] e c same = refl
same_bound [] (w ∷ ws) e c same = absurd same
same_bound (v ∷ vs) [] e c same = absurd same
same_bound (v ∷ vs) (w ∷ ws) e c same =
    let first = bound_step v.order v.name w.name e c same.1 ∙ ap (λ o. bound_at o w.name c) (sym same.0) in
    let rest = same_bound vs ws e c same.2 in
    λ i. max (first i) (rest i)

-- so what encodes the second values encodes the first
pub encodes_same : (vs ws : List Variable) (e c : Env) (word : Word) → HaveSameValues vs ws e c → e.universe ≡ c.universe → Encodes ws word c → Encodes vs word e
encodes_same vs ws e c word same universe encodes = record {
  truth = encodes.truth ∙ sym (same_truth vs ws e c same);
  letters = encodes.letters ∙ sym (λ i. map (λ position. same_letter vs ws e c position same i) (numbers_below (length word.letters)));
  room = (let bound = same_bound vs ws e c same in let room = encodes.room in omega (arith, bound, room));
  string = subst (λ u. HasLength u (length word.letters)) (sym universe) encodes.string;
}

gives_same : (vs ws : List Variable) (e c : Env) → HaveSameValues vs ws e c → e.universe ≡ c.universe → GivesEach ws c → GivesEach vs e
gives_same [] [] e c same universe gives = tt
gives_same [] (w ∷ ws) e c same universe gives = absurd same
gives_same (v ∷ vs) [] e c same universe gives = absurd same
gives_same (v ∷ vs) (w ∷ ws) e c same universe gives =
    let here = subst (λ o. IsValueOf o c.universe (value_at o w.name c)) same.0 gives.0 in (
      subst (λ u. IsValueOf v.order u (value_at v.order v.name e)) (sym universe) (subst (IsValueOf v.order c.universe) (sym same.1) here),
      gives_same vs ws e c same.2 universe gives.1,
    )

pub assigned_same : (mode : Mode) (vs ws : List Variable) (e c : Env) → HaveSameValues vs ws e c → e.universe ≡ c.universe → IsAssignment mode ws c → IsAssignment mode vs e
assigned_same mode vs ws e c same universe assigned = record {
  universe = subst (IsUniverseOf mode) (sym universe) assigned.universe;
  values = gives_same vs ws e c same universe assigned.values;
}

-- the place of a name
abbrev pub place_in : List ℕ → ℕ → ℕ
place_in [] x = 0
place_in (y ∷ ys) x = if y == x then 0 else suc (place_in ys x)

abbrev pub named_by : List ℕ → Env → Env
named_by names e = record {
  universe = e.universe;
  truth = λ x. e.truth (place_in names x);
  number = λ x. e.number (place_in names x);
  set = λ x. e.set (place_in names x);
}

pub rising_behind : (x : ℕ) (xs : List ℕ) → IsStrictlyIncreasing (x ∷ xs) → IsStrictlyIncreasing xs
rising_behind x xs rising k within =
    subst (λ n. slice_index xs k < slice_index (x ∷ xs) n) (let same : suc k + 1 ≡ suc (k + 1) = omega arith in same) (rising (suc k) (omega (arith, within)))

first_least : (x : ℕ) (xs : List ℕ) → IsStrictlyIncreasing (x ∷ xs) → (j : ℕ) → j < length xs → x < slice_index xs j
first_least x [] rising j less = absurd (omega (arith, less))
first_least x (y ∷ ys) rising zero less = rising 0 (omega arith)
first_least x (y ∷ ys) rising (suc j) less =
    let first = rising 0 (omega arith) in
    let next = first_least y ys (rising_behind x (y ∷ ys) rising) j (omega (arith, less)) in
    omega (arith, first, next)

pub own_place : (names : List ℕ) → IsStrictlyIncreasing names → (j : ℕ) → j < length names → place_in names (slice_index names j) ≡ j
own_place [] rising j less = absurd (omega (arith, less))
own_place (x ∷ xs) rising zero less = ap (λ (test : Bool). if test then 0 else suc (place_in xs x)) (eq-eqb x x refl)
own_place (x ∷ xs) rising (suc j) less =
    let above = first_least x xs rising j (omega (arith, less)) in
    ap (λ (test : Bool). if test then 0 else suc (place_in xs (slice_index xs j))) (ne_eqb x (slice_index xs j) (λ same. omega (arith, above, same)))
    ∙ ap suc (own_place xs (rising_behind x xs rising) j (omega (arith, less)))
