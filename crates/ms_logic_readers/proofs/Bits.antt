-- The bits of those variables of a list that have one, in the order of the list, and the bit of one variable among them.
use Rattle.std.proofs.Common.{◌≡◌, ℕ, ◌+◌, ◌==◌, Bool, true, false, cond, if◌then◌else◌, inl, inr, ⊎_elim, List, [], ◌∷◌, ◌++◌, length, refl, sym, ◌∙◌, ap, arith}
use Rattle.std.proofs.lemmas.Bool.{false≢true, ne_eqb, eq-eqb}
use Rattle.ms_logic.specs.declared.mode.Order.{Order}
use Rattle.ms_logic.specs.declared.mode.Order.TheVariants.{Zero, One, Two}
use Rattle.ms_logic.specs.Assignment.{Env, Variable}
use Rattle.ms_logic.specs.Letters.{letter_at, truth_values_of, with_bit, with_truth_value}
use Rattle.ms_logic.specs.Lists.{IsAmong}
use Rattle.ms_logic_words.specs.Content.{count_of, head_bit, is_in_letters, is_truth_value, tail_bits}
use Rattle.ms_basic.specs.inner.Reading.{bit_of, truth_of}
use Rattle.ms_logic_readers.specs.Scoped.{AreDistinct}

-- the bit of a variable, by its number
abbrev pub own_bit : (Order → Bool) → List Variable → List Bool → ℕ → Bool
own_bit has [] bits x = false
own_bit has (v ∷ vs) bits x =
    if has v.order then (if v.name == x then head_bit bits else own_bit has vs (tail_bits bits) x) else own_bit has vs bits x

-- the bits that a function gives the variables
abbrev pub bits_by : (Order → Bool) → List Variable → (Variable → Bool) → List Bool
bits_by has [] f = []
bits_by has (v ∷ vs) f = if has v.order then f v ∷ bits_by has vs f else bits_by has vs f

-- no variable of the list has the number
abbrev pub IsNew : ℕ → List Variable → Type 0
IsNew x vs = (v : Variable) → IsAmong vs v → v.name ≡ x → ⊥

same-name : (x : ℕ) → (x == x) ≡ true
same-name x = eq-eqb x x refl

other-name : (x y : ℕ) → (x ≡ y → ⊥) → (x == y) ≡ false
other-name x y apart = ne_eqb x y apart

-- bits by functions that agree on the variables that have one
pub same-bits : (has : Order → Bool) (vs : List Variable) (f g : Variable → Bool) → ((v : Variable) → IsAmong vs v → has v.order ≡ true → f v ≡ g v) → bits_by has vs f ≡ bits_by has vs g
same-bits has [] f g same = refl
same-bits has (v ∷ vs) f g same = by-test (has v.order) refl (same-bits has vs f g (λ w among. same w (inr among)))
  where
    by-test : (t : Bool) → has v.order ≡ t → bits_by has vs f ≡ bits_by has vs g → cond t (f v ∷ bits_by has vs f) (bits_by has vs f) ≡ cond t (g v ∷ bits_by has vs g) (bits_by has vs g)
    by-test true is more = ap (λ b. b ∷ bits_by has vs f) (same v (inl refl) is) ∙ ap (λ (l : List Bool). g v ∷ l) more
    by-test false is more = more

pub length-bits : (has : Order → Bool) (vs : List Variable) (f : Variable → Bool) → length (bits_by has vs f) ≡ count_of has vs
length-bits has [] f = refl
length-bits has (v ∷ vs) f =
    elim (has v.order) as (λ t. length (cond t (f v ∷ bits_by has vs f) (bits_by has vs f)) ≡ cond t (count_of has vs + 1) (count_of has vs)) [
      | true ↦ omega (arith, length-bits has vs f)
      | false ↦ length-bits has vs f
    ]

pub bits-append : (has : Order → Bool) (vs ws : List Variable) (f : Variable → Bool) → bits_by has (vs ++ ws) f ≡ bits_by has vs f ++ bits_by has ws f
bits-append has [] ws f = refl
bits-append has (v ∷ vs) ws f =
    let more = bits-append has vs ws f in
    elim (has v.order) as (λ t. cond t (f v ∷ bits_by has (vs ++ ws) f) (bits_by has (vs ++ ws) f) ≡ cond t (f v ∷ bits_by has vs f) (bits_by has vs f) ++ bits_by has ws f) [
      | true ↦ ap (λ (l : List Bool). f v ∷ l) more
      | false ↦ more
    ]

-- the bit of a variable among those that a function gives
pub own-of-bits : (has : Order → Bool) (vs : List Variable) (f : Variable → Bool) → AreDistinct vs → (v : Variable) → IsAmong vs v → has v.order ≡ true → own_bit has vs (bits_by has vs f) v.name ≡ f v
own-of-bits has [] f distinct v among is = absurd among
own-of-bits has (w ∷ vs) f distinct v among is = by-test (has w.order) refl (λ later. own-of-bits has vs f distinct.1 v later is)
  where
    here : w ≡ v → has w.order ≡ true
    here same = ap (λ (u : Variable). has u.order) same ∙ is

    by-test : (t : Bool) → has w.order ≡ t → (IsAmong vs v → own_bit has vs (bits_by has vs f) v.name ≡ f v) →
        cond t (cond (w.name == v.name) (head_bit (cond t (f w ∷ bits_by has vs f) (bits_by has vs f))) (own_bit has vs (tail_bits (cond t (f w ∷ bits_by has vs f) (bits_by has vs f))) v.name))
        (own_bit has vs (cond t (f w ∷ bits_by has vs f) (bits_by has vs f)) v.name) ≡ f v
    by-test true has_w more =
        ⊎_elim (λ same. ap (λ t. cond t (f w) (own_bit has vs (bits_by has vs f) v.name)) (ap (λ n. n == v.name) (ap (λ (u : Variable). u.name) same) ∙ same-name v.name) ∙ ap f same)
        (λ later. ap (λ t. cond t (f w) (own_bit has vs (bits_by has vs f) v.name)) (other-name w.name v.name (λ same. distinct.0 v later (sym same))) ∙ more later) among
    by-test false lacks more = ⊎_elim (λ same. absurd (false≢true (sym lacks ∙ here same))) more among

-- as many bits as there are variables with one are those of the variables
pub bits-of-own : (has : Order → Bool) (vs : List Variable) (bits : List Bool) → AreDistinct vs → length bits ≡ count_of has vs → bits_by has vs (λ v. own_bit has vs bits v.name) ≡ bits
bits-of-own has [] [] distinct long = refl
bits-of-own has [] (b ∷ bits) distinct long = absurd (omega (arith, long))
bits-of-own has (w ∷ vs) bits distinct long = by-test (has w.order) bits long (λ bs long'. bits-of-own has vs bs distinct.1 long')
  where
    by-test : (t : Bool) (bs : List Bool) → length bs ≡ cond t (count_of has vs + 1) (count_of has vs) →
        ((rest : List Bool) → length rest ≡ count_of has vs → bits_by has vs (λ v. own_bit has vs rest v.name) ≡ rest) →
        cond t (cond t (cond (w.name == w.name) (head_bit bs) (own_bit has vs (tail_bits bs) w.name)) (own_bit has vs bs w.name)
        ∷ bits_by has vs (λ v. cond t (cond (w.name == v.name) (head_bit bs) (own_bit has vs (tail_bits bs) v.name)) (own_bit has vs bs v.name)))
        (bits_by has vs (λ v. cond t (cond (w.name == v.name) (head_bit bs) (own_bit has vs (tail_bits bs) v.name)) (own_bit has vs bs v.name))) ≡ bs
    by-test true [] long more = absurd (omega (arith, long))
    by-test true (b ∷ bs) long more =
        ap (λ t. cond t b (own_bit has vs bs w.name) ∷ bits_by has vs (λ v. cond (w.name == v.name) b (own_bit has vs bs v.name))) (same-name w.name)
        ∙ ap (λ (l : List Bool). b ∷ l)
        (same-bits has vs (λ v. cond (w.name == v.name) b (own_bit has vs bs v.name)) (λ v. own_bit has vs bs v.name) (λ v among is. ap (λ t. cond t b (own_bit has vs bs v.name)) (other-name w.name v.name (λ same. distinct.0 v among (sym same))))
        ∙ more bs (omega (arith, long)))
    by-test false bs long more = more bs long

-- truth values and letters of an assignment

pub truths-by : (vs : List Variable) (e : Env) → truth_values_of vs e ≡ bits_by is_truth_value vs (λ v. truth_of v.order v.name e)
truths-by [] e = refl
truths-by (v ∷ vs) e = by-order v.order (truths-by vs e)
  where
    by-order : (o : Order) → truth_values_of vs e ≡ bits_by is_truth_value vs (λ v. truth_of v.order v.name e) → with_truth_value o v.name e (truth_values_of vs e)
        ≡ cond (is_truth_value o) (truth_of o v.name e ∷ bits_by is_truth_value vs (λ v. truth_of v.order v.name e)) (bits_by is_truth_value vs (λ v. truth_of v.order v.name e))
    by-order Zero more = ap (λ (l : List Bool). e.truth v.name ∷ l) more
    by-order One more = more
    by-order Two more = more

pub letter-by : (vs : List Variable) (e : Env) (p : ℕ) → letter_at vs e p ≡ bits_by is_in_letters vs (λ v. bit_of v.order v.name e p)
letter-by [] e p = refl
letter-by (v ∷ vs) e p = by-order v.order (letter-by vs e p)
  where
    by-order : (o : Order) → letter_at vs e p ≡ bits_by is_in_letters vs (λ v. bit_of v.order v.name e p) → with_bit o v.name p e (letter_at vs e p)
        ≡ cond (is_in_letters o) (bit_of o v.name e p ∷ bits_by is_in_letters vs (λ v. bit_of v.order v.name e p)) (bits_by is_in_letters vs (λ v. bit_of v.order v.name e p))
    by-order Zero more = more
    by-order One more = ap (λ (l : List Bool). bit_of One v.name e p ∷ l) more
    by-order Two more = ap (λ (l : List Bool). bit_of Two v.name e p ∷ l) more
