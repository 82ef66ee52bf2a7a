-- Sets by their members.
use Rattle.std.proofs.Common.{◌≡◌, ◌≢◌, ℕ, suc, ◌<◌, ◌≤◌, Bool, true, false, ◌&&◌, ⊎_elim, List, [], ◌∷◌, Some, None, refl, sym, ap, subst, ◌∙◌, arith}
use Rattle.std.proofs.lemmas.Bool.{cases_lt, false≢true}
use Rattle.std.proofs.lemmas.Bool.Decides.{nat_tests}
use Rattle.ms_logic.specs.declared.mode.Mode.TheVariants.{M2lStr}
use Rattle.ms_logic.specs.Assignment.{Universe, IsUniverseOf, is_within}
use Rattle.ms_logic.specs.FiniteSet.{is_member, IsRising}
use Rattle.ms_logic.specs.Terms.{part_within}
use Rattle.ms_logic_words.specs.Word.{HasLength}
use Rattle.ms_logic.specs.Letters.{bound_of_set}
use Rattle.ms_logic.proofs.Members.{is_member-filter}
use Rattle.ms_logic.proofs.SetLaws.{sets_are_their_members}
use Rattle.ms_basic.specs.Sets.{is_same}

-- two sets that agree below a number, and have no members from it on, are equal
pub same_sets : (left right : List ℕ) (count : ℕ) → IsRising left → IsRising right → ((k : ℕ) → k < count → is_member k left ≡ is_member k right)
    → ((k : ℕ) → count ≤ k → is_member k left ≡ false) → ((k : ℕ) → count ≤ k → is_member k right ≡ false) → left ≡ right
same_sets left right count rising_left rising_right below none_left none_right =
    sets_are_their_members left right rising_left rising_right (λ k. (λ member. sym (same k) ∙ member, λ member. same k ∙ member))
  where
    same : (k : ℕ) → is_member k left ≡ is_member k right
    same k = ⊎_elim (λ less. below k less) (λ at_least. none_left k at_least ∙ sym (none_right k at_least)) (cases_lt k count)

pub and_true : (test : Bool) → (test && true) ≡ test
and_true true = refl
and_true false = refl

and_false : (test : Bool) → (test && false) ≡ false
and_false true = refl
and_false false = refl

-- sets that differ at a number are not equal
pub other_sets : (left right : List ℕ) (k : ℕ) → is_member k left ≢ is_member k right → left ≢ right
other_sets left right k differ same = differ (ap (λ members. is_member k members) same)

-- whether a number is a member, told at the position that it is
pub at_number : (x position : ℕ) (members : List ℕ) (bit : Bool) → x ≡ position → is_member position members ≡ bit → is_member x members ≡ bit
at_number x position members bit same is = subst (λ k. is_member k members ≡ bit) (sym same) is

-- equal bits are the same, and other bits are not
pub same_bits : (a b : Bool) → is_same a b ≡ true → a ≡ b
same_bits true true same = refl
same_bits true false same = let never : ⊥ = cc in absurd never
same_bits false false same = refl
same_bits false true same = let never : ⊥ = cc in absurd never

pub other_bits : (a b : Bool) → is_same a b ≡ false → a ≢ b
other_bits true true other = λ same. let never : ⊥ = cc in never
other_bits true false other = λ same. let never : ⊥ = cc in never
other_bits false false other = λ same. let never : ⊥ = cc in never
other_bits false true other = λ same. let never : ⊥ = cc in never

-- what is within the universe of a word of so many letters: the positions, in M2L-Str
pub within_below : (universe : Universe) (count k : ℕ) → HasLength universe count → k < count → is_within universe k ≡ true
within_below None count k long below = refl
within_below (Some size) count k long below = grind (arith, nat_tests, long, below)

pub is_member-within : (universe : Universe) (count : ℕ) (members : List ℕ) (k : ℕ) → HasLength universe count → k < count
    → is_member k (part_within universe members) ≡ is_member k members
is_member-within universe count members k long below =
    is_member-filter k (is_within universe) members ∙ ap (λ test. is_member k members && test) (within_below universe count k long below) ∙ and_true (is_member k members)

-- what agrees below a position and at it agrees below the next
pub one_more_same : (one other : ℕ → Bool) (position : ℕ) → ((k : ℕ) → k < position → one k ≡ other k) → one position ≡ other position
    → (k : ℕ) → k < suc position → one k ≡ other k
one_more_same one other position so_far here k below =
    ⊎_elim (λ less. so_far k less) (λ at_least. (let same : position ≡ k = omega (arith, at_least, below) in subst (λ n. one n ≡ other n) same here)) (cases_lt k position)

-- all members are within the natural numbers
pub all_within : (universe : Universe) (members : List ℕ) (k : ℕ) → universe ≡ None → is_member k (part_within universe members) ≡ is_member k members
all_within universe members k is =
    is_member-filter k (is_within universe) members ∙ ap (λ (u : Universe). is_member k members && is_within u k) is ∙ and_true (is_member k members)

-- and nothing from the end of a string on
past_end : (universe : Universe) (count k : ℕ) → IsUniverseOf M2lStr universe → HasLength universe count → count ≤ k → is_within universe k ≡ false
past_end None count k is long above = absurd (false≢true is)
past_end (Some size) count k is long above = grind (arith, nat_tests, long, above)

pub none_past_end : (universe : Universe) (count : ℕ) (members : List ℕ) (k : ℕ) → IsUniverseOf M2lStr universe → HasLength universe count → count ≤ k
    → is_member k (part_within universe members) ≡ false
none_past_end universe count members k is long above =
    is_member-filter k (is_within universe) members ∙ ap (λ test. is_member k members && test) (past_end universe count k is long above) ∙ and_false (is_member k members)

-- no member below a number
abbrev pub NoneBelow : List ℕ → ℕ → Type 0
NoneBelow members count = (k : ℕ) → k < count → is_member k members ≡ false

pub one_more_none : (members : List ℕ) (count : ℕ) → NoneBelow members count → is_member count members ≡ false → NoneBelow members (suc count)
one_more_none members count none here k below = ⊎_elim (λ less. none k less) (λ at_least. (let same : count ≡ k = omega (arith, at_least, below) in subst (λ n. is_member n members ≡ false) same here)) (cases_lt k count)

-- a set with no member below its bound is empty
pub first_is_member : (first : ℕ) (more : List ℕ) → is_member first (first ∷ more) ≡ true
first_is_member first more = grind (arith, nat_tests)

pub no_members : (members : List ℕ) (count : ℕ) → bound_of_set members ≤ count → NoneBelow members count → members ≡ []
no_members [] count bound none = refl
no_members (first ∷ more) count bound none = absurd (false≢true (sym (none first (omega (arith, bound))) ∙ first_is_member first more))

-- what is no member is the least or the greatest number only where it is 0 and there is none
pub other_than : (chosen : List ℕ → ℕ) → chosen [] ≡ 0 → ((x : ℕ) (members : List ℕ) → IsRising members → is_member x members ≡ true → is_member (chosen members) members ≡ true)
    → (members : List ℕ) (x : ℕ) → IsRising members → is_member x members ≡ false → 0 < x → x ≢ chosen members
other_than chosen none among [] x rising other above = omega (arith, none, above)
other_than chosen none among (first ∷ more) x rising other above = λ same.
    false≢true (sym other ∙ ap (λ k. is_member k (first ∷ more)) same ∙ among first (first ∷ more) rising (first_is_member first more))
