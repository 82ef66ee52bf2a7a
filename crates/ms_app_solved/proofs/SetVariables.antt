-- Assignments of sets alone: their bits, what is shown of them, and when one comes before another.
use Rattle.std.proofs.Common.{◌≡◌, ℕ, ◌+◌, ◌<◌, Bool, ◌⊎◌, inl, inr, List, [], ◌∷◌, ◌++◌, length, map, refl, sym, ap, ap₂, subst, ◌∙◌, arith}
use Rattle.std.specs.List.{flat_map, range_with_len}
use Rattle.ms_logic.specs.declared.assignment.Value.TheVariants.{Set}
use Rattle.ms_logic.specs.declared.checked.Global.{Global}
use Rattle.ms_logic.specs.declared.mode.Order.{Order}
use Rattle.ms_logic.specs.declared.mode.Order.TheVariants.{Two}
use Rattle.ms_logic.specs.Assignment.{Env, Variable, value_at}
use Rattle.ms_logic.specs.FiniteSet.{is_member, numbers_below}
use Rattle.ms_logic.specs.First.{IsBefore, IsLower, bits_of, length_of}
use Rattle.ms_logic.specs.Letters.{letter_at, truth_values_of}
use Rattle.ms_logic.specs.Verdict.{variables_of}
use Rattle.ms_logic.specs.View.{globals_from}

-- a variable for a set for each number
abbrev pub sets : List ℕ → List Variable
sets ps = map (λ p. record { name = p; order = Two }) ps

-- the globals of a source are such variables where each has a set
pub variables-are : (global_of : List ℕ → Global) → ((name : List ℕ) → (global_of name).order ≡ Two) → (from : ℕ) (names : List (List ℕ))
    → variables_of (globals_from from (map global_of names)) ≡ sets (range_with_len from (length names))
variables-are global_of are from [] = refl
variables-are global_of are from (name ∷ names) =
    ap₂ (λ (order : Order) (more : List Variable). record { name = from; order = order } ∷ more) (are name) (variables-are global_of are (from + 1) names)

truths : (ps : List ℕ) (e : Env) → truth_values_of (sets ps) e ≡ []
truths [] e = refl
truths (p ∷ ps) e = truths ps e

-- whether each set has a position
abbrev pub members_at : List ℕ → Env → ℕ → List Bool
members_at ps e i = map (λ p. is_member i (e.set p)) ps

letters : (ps : List ℕ) (e : Env) (i : ℕ) → letter_at (sets ps) e i ≡ members_at ps e i
letters [] e i = refl
letters (p ∷ ps) e i = ap (λ more. is_member i (e.set p) ∷ more) (letters ps e i)

pub flat-same : (f g : ℕ → List Bool) → ((i : ℕ) → f i ≡ g i) → (ns : List ℕ) → flat_map f ns ≡ flat_map g ns
flat-same f g same [] = refl
flat-same f g same (n ∷ ns) = ap₂ (λ a b. a ++ b) (same n) (flat-same f g same ns)

-- the bits of an assignment of sets, position by position
pub bits-are : (ps : List ℕ) (e : Env) (size : ℕ) → length_of (sets ps) e ≡ size → bits_of (sets ps) e ≡ flat_map (members_at ps e) (numbers_below size)
bits-are ps e size long =
    ap₂ (λ truth n. truth ++ flat_map (letter_at (sets ps) e) (numbers_below n)) (truths ps e) long
    ∙ flat-same (letter_at (sets ps) e) (members_at ps e) (letters ps e) (numbers_below size)

pub values-are : (ps : List ℕ) (e : Env) → map (λ (v : Variable). value_at v.order v.name e) (sets ps) ≡ map (λ p. Set (e.set p)) ps
values-are [] e = refl
values-are (p ∷ ps) e = ap (λ more. Set (e.set p) ∷ more) (values-are ps e)

-- an assignment comes before another by their lengths and bits
pub before-by : (vs : List Variable) (e f : Env) (m n : ℕ) (left right : List Bool) → length_of vs e ≡ m → length_of vs f ≡ n → bits_of vs e ≡ left → bits_of vs f ≡ right
    → (m < n) ⊎ ((m ≡ n) × IsLower left right) → IsBefore vs e f
before-by vs e f m n left right long_e long_f bits_e bits_f order =
    elim order [
      | inl shorter ↦ inl (omega (arith, shorter, long_e, long_f))
      | inr (same, lower) ↦
          (let P : List Bool → Type 0 = λ bits. IsLower bits (bits_of vs f) in
          let Q : List Bool → Type 0 = λ bits. IsLower left bits in
          inr (long_e ∙ same ∙ sym long_f, subst P (sym bits_e) (subst Q (sym bits_f) lower)))
    ]
