-- The order of lists of bits, and lists that are put together of parts of equal lengths.
use Rattle.std.proofs.Common.{◌≡◌, ℕ, zero, suc, ◌+◌, ◌<◌, ◌≤◌, Bool, true, false, ◌⊎◌, inl, inr, ⊎_elim, List, [], ◌∷◌, ◌++◌, length, refl, sym, ◌∙◌, ap, arith}
use Rattle.std.specs.List.{flat_map, range_with_len}
use Rattle.std.proofs.lemmas.List.{length-append}
use Rattle.std.proofs.Math.Nat.{eq-or-lt_of_le}
use Rattle.ms_logic.specs.First.{IsLower}

pub lower_irreflexive : (a : List Bool) → IsLower a a → ⊥
lower_irreflexive [] lower = lower
lower_irreflexive (true ∷ a) lower = lower_irreflexive a lower
lower_irreflexive (false ∷ a) lower = lower_irreflexive a lower

pub lower_transitive : (a b c : List Bool) → IsLower a b → IsLower b c → IsLower a c
lower_transitive [] b c one two = absurd one
lower_transitive (x ∷ a) [] c one two = absurd one
lower_transitive (x ∷ a) (y ∷ b) [] one two = absurd two
lower_transitive (false ∷ a) (false ∷ b) (false ∷ c) one two = lower_transitive a b c one two
lower_transitive (false ∷ a) (false ∷ b) (true ∷ c) one two = tt
lower_transitive (false ∷ a) (true ∷ b) (false ∷ c) one two = absurd two
lower_transitive (false ∷ a) (true ∷ b) (true ∷ c) one two = tt
lower_transitive (true ∷ a) (false ∷ b) (z ∷ c) one two = absurd one
lower_transitive (true ∷ a) (true ∷ b) (false ∷ c) one two = absurd two
lower_transitive (true ∷ a) (true ∷ b) (true ∷ c) one two = lower_transitive a b c one two

-- one bit in front of both changes nothing
in_front : (bit : Bool) (a b : List Bool) → IsLower a b ⊎ IsLower b a ⊎ (a ≡ b) →
    (IsLower a b → IsLower (bit ∷ a) (bit ∷ b)) → (IsLower b a → IsLower (bit ∷ b) (bit ∷ a)) →
    IsLower (bit ∷ a) (bit ∷ b) ⊎ IsLower (bit ∷ b) (bit ∷ a) ⊎ (bit ∷ a ≡ bit ∷ b)
in_front bit a b total up down =
    ⊎_elim (λ lower. inl (up lower)) (λ other. inr (⊎_elim (λ higher. inl (down higher)) (λ equal. inr (ap (λ l. bit ∷ l) equal)) other)) total

-- of two lists of one length, one is lower or they are equal
pub lower_total : (a b : List Bool) → length a ≡ length b → IsLower a b ⊎ IsLower b a ⊎ (a ≡ b)
lower_total [] [] same = inr (inr refl)
lower_total [] (y ∷ b) same = absurd (omega arith)
lower_total (x ∷ a) [] same = absurd (omega arith)
lower_total (false ∷ a) (false ∷ b) same = in_front false a b (lower_total a b (omega arith)) (λ h. h) (λ h. h)
lower_total (false ∷ a) (true ∷ b) same = inl tt
lower_total (true ∷ a) (false ∷ b) same = inr (inl tt)
lower_total (true ∷ a) (true ∷ b) same = in_front true a b (lower_total a b (omega arith)) (λ h. h) (λ h. h)

-- equal lists of parts of equal lengths have equal parts
pub append_parts : {A : Type 0} (a b c d : List A) → length a ≡ length b → a ++ c ≡ b ++ d → (a ≡ b) × (c ≡ d)
append_parts [] [] c d same equal = (refl, equal)
append_parts [] (y ∷ b) c d same equal = absurd (omega arith)
append_parts (x ∷ a) [] c d same equal = absurd (omega arith)
append_parts (x ∷ a) (y ∷ b) c d same equal =
    let tails : a ++ c ≡ b ++ d = cc in
    let heads : x ≡ y = cc in
    let parts = append_parts a b c d (omega arith) tails in (cc, parts.1)

pub length-flat_map_same : {A : Type 0} (g h : ℕ → List A) → ((n : ℕ) → length (g n) ≡ length (h n)) → (ns : List ℕ) → length (flat_map g ns) ≡ length (flat_map h ns)
length-flat_map_same g h same [] = refl
length-flat_map_same g h same (n ∷ ns) =
    omega (arith, length-append (g n) (flat_map g ns), length-append (h n) (flat_map h ns), same n, length-flat_map_same g h same ns)

-- equal lists of letters over a range have equal letters
pub flat_map_parts : {A : Type 0} (g h : ℕ → List A) → ((n : ℕ) → length (g n) ≡ length (h n)) → (start count : ℕ) →
    flat_map g (range_with_len start count) ≡ flat_map h (range_with_len start count) → (n : ℕ) → start ≤ n → n < start + count → g n ≡ h n
flat_map_parts g h same start zero equal n at_least below = absurd (omega arith)
flat_map_parts g h same start (suc count) equal n at_least below =
    let parts = append_parts (g start) (h start) (flat_map g (range_with_len (start + 1) count)) (flat_map h (range_with_len (start + 1) count)) (same start) equal in
    ⊎_elim (λ first. ap g (sym first) ∙ (parts.0 ∙ ap h first)) (λ later. flat_map_parts g h same (start + 1) count parts.1 n (omega (arith, later)) (omega arith)) (eq-or-lt_of_le at_least)
