-- Bits that are gathered from a letter and padded again, and the bits that an assignment gives.
use Rattle.std.proofs.Common.{◌≡◌, ℕ, zero, suc, ◌+◌, ◌==◌, Bool, true, false, IsTrue, if◌then◌else◌, List, [], ◌∷◌, length, slice_get, slice_index_or, Some, refl, sym, ap, subst, ◌∙◌, arith}
use Rattle.std.proofs.lemmas.Option.{none-some, same_Some}
use Rattle.ms_arena.specs.Diagram.{Bits}
use Rattle.ms_logic.specs.declared.mode.Order.{Order}
use Rattle.ms_logic.specs.declared.mode.Order.TheVariants.{Zero, One, Two}
use Rattle.ms_logic.specs.declared.assignment.Value.{Value}
use Rattle.ms_logic.specs.declared.assignment.Value.TheVariants.{Truth, Number, Set}
use Rattle.ms_logic.specs.Assignment.{Env, Variable, value_at}
use Rattle.ms_logic_words.specs.Content.{count_of, is_truth_value, is_in_letters, padded, bits_at, head_bit, tail_bits}
use Rattle.ms_logic.specs.FiniteSet.{is_member}
use Rattle.ms_logic.specs.Letters.{with_truth_value, truth_values_of, with_bit, letter_at}
use Rattle.ms_dfa.specs.Narrow.{gathered}

-- the bit of a value: a truth value, or whether the position is the number or a member
abbrev pub bit_of : ℕ → Value → Bool
bit_of position (Truth b) = b
bit_of position (Number n) = n == position
bit_of position (Set members) = is_member position members

-- the bits of the variables with a value at a position, by what an assignment gives them
abbrev pub given_bits : (Order → Bool) → List Variable → Env → ℕ → List Bool
given_bits has_value [] e position = []
given_bits has_value (v ∷ vs) e position =
    if has_value v.order then bit_of position (value_at v.order v.name e) ∷ given_bits has_value vs e position else given_bits has_value vs e position

pub truth_values_given : (vs : List Variable) (e : Env) (position : ℕ) → truth_values_of vs e ≡ given_bits is_truth_value vs e position
truth_values_given [] e position = refl
truth_values_given (v ∷ vs) e position = first v.order v.name (truth_values_of vs e) (given_bits is_truth_value vs e position) (truth_values_given vs e position)
  where
    first : (o : Order) (x : ℕ) (more given : List Bool) → more ≡ given
        → with_truth_value o x e more ≡ (if is_truth_value o then bit_of position (value_at o x e) ∷ given else given)
    first Zero x more given same = ap (λ list. e.truth x ∷ list) same
    first One x more given same = same
    first Two x more given same = same

pub letter_given : (vs : List Variable) (e : Env) (position : ℕ) → letter_at vs e position ≡ given_bits is_in_letters vs e position
letter_given [] e position = refl
letter_given (v ∷ vs) e position = first v.order v.name (letter_at vs e position) (given_bits is_in_letters vs e position) (letter_given vs e position)
  where
    first : (o : Order) (x : ℕ) (more given : List Bool) → more ≡ given
        → with_bit o x position e more ≡ (if is_in_letters o then bit_of position (value_at o x e) ∷ given else given)
    first Zero x more given same = same
    first One x more given same = ap (λ list. (e.number x == position) ∷ list) same
    first Two x more given same = ap (λ list. is_member position (e.set x) ∷ list) same

module _ (has_value : Order → Bool) where
  -- padded over the places, the given bit of a variable stands at its place
  pub given_at : (vs : List Variable) (e : Env) (position place : ℕ) (v : Variable) → slice_get vs place ≡ Some v → IsTrue (has_value v.order)
      → bits_at (padded has_value vs (given_bits has_value vs e position)) place ≡ bit_of position (value_at v.order v.name e)
  given_at [] e position place v there with_value = absurd (none-some v there)
  given_at (first ∷ vs) e position zero v there with_value =
      let same : first ≡ v = same_Some first v there in
      at_first (has_value first.order) (bit_of position (value_at first.order first.name e)) (given_bits has_value vs e position)
      (subst (λ (u : Variable). IsTrue (has_value u.order)) (sym same) with_value)
      ∙ ap (λ (u : Variable). bit_of position (value_at u.order u.name e)) same
    where
      at_first : (test : Bool) (own : Bool) (more : List Bool) → IsTrue test
          → slice_index_or (if test then head_bit (if test then own ∷ more else more) ∷ padded has_value vs (tail_bits (if test then own ∷ more else more)) else false ∷ padded has_value vs (if test then own ∷ more else more)) 0 false ≡ own
      at_first true own more holds = refl
      at_first false own more holds = let never : ⊥ = cc in absurd never
  given_at (first ∷ vs) e position (suc place) v there with_value =
      behind (has_value first.order) (bit_of position (value_at first.order first.name e)) (given_bits has_value vs e position)
      ∙ given_at vs e position place v there with_value
    where
      behind : (test : Bool) (own : Bool) (more : List Bool)
          → slice_index_or (if test then head_bit (if test then own ∷ more else more) ∷ padded has_value vs (tail_bits (if test then own ∷ more else more)) else false ∷ padded has_value vs (if test then own ∷ more else more)) (suc place) false
          ≡ slice_index_or (padded has_value vs more) place false
      behind true own more = refl
      behind false own more = refl

  -- padded over the places, gathered bits stand at their places
  pub gathered_at : (vs : List Variable) (bits : Bits) (from place : ℕ) (v : Variable) → slice_get vs place ≡ Some v → IsTrue (has_value v.order)
      → bits_at (padded has_value vs (gathered has_value from vs bits)) place ≡ bits (from + place)
  gathered_at [] bits from place v there with_value = absurd (none-some v there)
  gathered_at (first ∷ vs) bits from zero v there with_value =
      let same : first ≡ v = same_Some first v there in
      let here : from ≡ from + 0 = omega arith in
      at_first (has_value first.order) (bits from) (gathered has_value (from + 1) vs bits) (subst (λ (u : Variable). IsTrue (has_value u.order)) (sym same) with_value)
      ∙ ap bits here
    where
      at_first : (test : Bool) (own : Bool) (more : List Bool) → IsTrue test
          → slice_index_or (if test then head_bit (if test then own ∷ more else more) ∷ padded has_value vs (tail_bits (if test then own ∷ more else more)) else false ∷ padded has_value vs (if test then own ∷ more else more)) 0 false ≡ own
      at_first true own more holds = refl
      at_first false own more holds = let never : ⊥ = cc in absurd never
  gathered_at (first ∷ vs) bits from (suc place) v there with_value =
      let later : from + 1 + place ≡ from + suc place = omega arith in
      behind (has_value first.order) (bits from) (gathered has_value (from + 1) vs bits)
      ∙ gathered_at vs bits (from + 1) place v there with_value
      ∙ ap bits later
    where
      behind : (test : Bool) (own : Bool) (more : List Bool)
          → slice_index_or (if test then head_bit (if test then own ∷ more else more) ∷ padded has_value vs (tail_bits (if test then own ∷ more else more)) else false ∷ padded has_value vs (if test then own ∷ more else more)) (suc place) false
          ≡ slice_index_or (padded has_value vs more) place false
      behind true own more = refl
      behind false own more = refl

  -- bits that are, at the places of the variables, what an assignment gives them are gathered as it gives them
  pub gathered_given : (vs : List Variable) (bits : Bits) (from : ℕ) (e : Env) (position : ℕ)
      → ((place : ℕ) (v : Variable) → slice_get vs place ≡ Some v → IsTrue (has_value v.order) → bits (from + place) ≡ bit_of position (value_at v.order v.name e))
      → gathered has_value from vs bits ≡ given_bits has_value vs e position
  gathered_given [] bits from e position same = refl
  gathered_given (v ∷ vs) bits from e position same =
      let rest = gathered_given vs bits (from + 1) e position (λ place w there with_value.
      let later : from + 1 + place ≡ from + suc place = omega arith in
      ap bits later ∙ same (suc place) w there with_value) in
      one_more (has_value v.order) refl (gathered has_value (from + 1) vs bits) (given_bits has_value vs e position) rest
    where
      one_more : (test : Bool) → has_value v.order ≡ test → (more given : List Bool) → more ≡ given
          → (if test then bits from ∷ more else more) ≡ (if test then bit_of position (value_at v.order v.name e) ∷ given else given)
      one_more true is more given equal =
          let here : from ≡ from + 0 = omega arith in
          ap (λ (list : List Bool). bits from ∷ list) equal
          ∙ ap (λ (bit : Bool). bit ∷ given) (ap bits here ∙ same 0 v refl (subst IsTrue (sym is) (refl)))
      one_more false is more given equal = equal

  -- as many bits are gathered as there are variables with a value
  pub length-gathered : (vs : List Variable) (bits : Bits) (from : ℕ) → length (gathered has_value from vs bits) ≡ count_of has_value vs
  length-gathered [] bits from = refl
  length-gathered (v ∷ vs) bits from = one_more (has_value v.order) (gathered has_value (from + 1) vs bits) (count_of has_value vs) (length-gathered vs bits (from + 1))
    where
      one_more : (test : Bool) (more : List Bool) (n : ℕ) → length more ≡ n → length (if test then bits from ∷ more else more) ≡ (if test then n + 1 else n)
      one_more true more n same = omega (arith, same)
      one_more false more n same = same
