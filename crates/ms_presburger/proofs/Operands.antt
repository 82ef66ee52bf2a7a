-- The operands of a connective, and the summands of a sum, which are few.
use Rattle.std.proofs.Common.{◌≡◌, ℕ, ◌+◌, ◌*◌, ◌^◌, ◌<◌, ◌≤◌, ◌==◌, zero, suc, Bool, true, false, cond, List, [], ◌∷◌, length, get_or, map, filter, take, refl, sym, ◌∙◌, ap, subst, arith}
use Rattle.std.specs.Int.{bit_at}
use Rattle.std.specs.List.{range_with_len}
use Rattle.std.proofs.lemmas.List.{length-append}
use Rattle.ms_logic.specs.FiniteSet.{numbers_below, one_bits}
use Rattle.ms_logic.specs.Lists.{Each}
use Rattle.ms_logic.specs.Tree.{Form, more_forms}
use Rattle.ms_logic.specs.Tree as sets
use Rattle.ms_logic.specs.View.{forms}
use Rattle.ms_logic.specs.declared.mode.Quant.{Quant}
use Rattle.ms_presburger.specs.declared.linear.Linear.{Linear}
use Rattle.ms_presburger.specs.declared.linear.Linear.TheVariants.{And, Or, Bind}
use Rattle.ms_presburger.specs.declared.linear.Part.{Part}
use Rattle.ms_presburger.specs.declared.linear.Part.TheVariants.{Number, Var, Times}
use Rattle.ms_presburger.specs.declared.summand.Summand.TheVariants.{Shifted}
use Rattle.ms_presburger.specs.Sets.{Scope, set_form, set_forms, summands_of, summands_of_part}
use Rattle.ms_presburger.specs.Tree.{Arithmetic, extent, extent_of_all}
use Rattle.ms_presburger.specs.View.{arithmetic_of, arithmetics}
use Rattle.ms_presburger.specs.inner.Scopes.{AreAllFactorsSmall, AreFactorsSmall, IsFactorSmall, bound_in, wrapped}
use Rattle.ms_presburger.proofs.Bits.{bits-whole}
use Rattle.ms_presburger.proofs.Lookups.{over-wrapped}
use Rattle.ms_presburger.proofs.Views.{arithmetic_of-And, arithmetic_of-Or, arithmetic_of-Bind}

-- each is translated by itself
forms-translated : (operands : List Linear) (scope : Scope) (x : ℕ) → forms (map (λ operand. set_form (arithmetic_of operand) scope x) operands) ≡ set_forms (arithmetics (map arithmetic_of operands)) scope x
forms-translated [] scope x = refl
forms-translated (f ∷ fs) scope x = ap (more_forms (set_form (arithmetic_of f) scope x)) (forms-translated fs scope x)

pub all-translated : (operands : List Linear) (f : Linear) (scope : Scope) (x : ℕ) → f ≡ And operands →
    sets.conjunction (forms (map (λ operand. set_form (arithmetic_of operand) scope x) operands)) ≡ set_form (arithmetic_of f) scope x
all-translated operands f scope x is =
    ap sets.conjunction (forms-translated operands scope x) ∙ ap (λ (g : Arithmetic). set_form g scope x) (sym (ap arithmetic_of is ∙ arithmetic_of-And operands))

pub some-translated : (operands : List Linear) (f : Linear) (scope : Scope) (x : ℕ) → f ≡ Or operands →
    sets.disjunction (forms (map (λ operand. set_form (arithmetic_of operand) scope x) operands)) ≡ set_form (arithmetic_of f) scope x
some-translated operands f scope x is =
    ap sets.disjunction (forms-translated operands scope x) ∙ ap (λ (g : Arithmetic). set_form g scope x) (sym (ap arithmetic_of is ∙ arithmetic_of-Or operands))

-- what is bound stands in the scope of the names that bind it
pub bound-translated : (q : Quant) (list : List (List ℕ)) (body f : Linear) (scope : Scope) (x : ℕ) → f ≡ Bind q list body →
    wrapped q (length list) x (set_form (arithmetic_of body) (bound_in x scope list) (x + 2 * length list)) ≡ set_form (arithmetic_of f) scope x
bound-translated q list body f scope x is =
    over-wrapped q list (λ s y. set_form (arithmetic_of body) s y) scope x ∙ ap (λ (h : Arithmetic). set_form h scope x) (sym (ap arithmetic_of is ∙ arithmetic_of-Bind q list body))

-- none has more parts than the list
pub extent-operand : (operands : List Linear) (i : ℕ) (f : Linear) → i < length operands → f ≡ get_or operands i f → extent (arithmetic_of f) ≤ extent_of_all (arithmetics (map arithmetic_of operands))
extent-operand [] i f within is = absurd (omega (arith, within))
extent-operand (g ∷ gs) zero f within is = omega (arith, ap (λ h. extent (arithmetic_of h)) is)
extent-operand (g ∷ gs) (suc i) f within is = omega (arith, extent-operand gs i f (omega (arith, within)) is)

pub extent-Bind : (q : Quant) (list : List (List ℕ)) (body f : Linear) → f ≡ Bind q list body → extent (arithmetic_of f) ≡ length list + extent (arithmetic_of body)
extent-Bind q list body f is = ap extent (ap arithmetic_of is ∙ arithmetic_of-Bind q list body)

-- summands

length-range : (start count : ℕ) → length (range_with_len start count) ≡ count
length-range start zero = refl
length-range start (suc count) = ap (λ n. suc n) (length-range (start + 1) count)

length-filter : (test : ℕ → Bool) (places : List ℕ) → length (filter test places) ≤ length places
length-filter test [] = omega arith
length-filter test (p ∷ places) =
    elim (test p) as (λ t. length (cond t (p ∷ filter test places) (filter test places)) ≤ suc (length places)) [ true ↦ omega (arith, length-filter test places) | false ↦ omega (arith, length-filter test places) ]

few-bits : (n : ℕ) → n < 2 ^ 64 → length (one_bits n) ≤ 64
few-bits n small =
    omega (arith, ap (λ (l : List ℕ). length l) (bits-whole n 64 small), length-filter (λ place. bit_at n place == 1) (numbers_below 64), length-range 0 64)

length-moved : (x : ℕ) (places : List ℕ) → length (map (λ j. Shifted x j) places) ≡ length places
length-moved x [] = refl
length-moved x (p ∷ places) = ap (λ n. suc n) (length-moved x places)

few-of-part : (scope : Scope) (part : Part) → IsFactorSmall part → length (summands_of_part scope part) ≤ 64
few-of-part scope (Number zero) small = omega arith
few-of-part scope (Number (suc n)) small = omega arith
few-of-part scope (Var name) small = omega arith
few-of-part scope (Times n name) small = omega (arith, length-moved (scope name) (one_bits n), few-bits n small)

pub few-summands : (scope : Scope) (parts : List Part) → Each IsFactorSmall parts → length (summands_of scope parts) ≤ 64 * length parts
few-summands scope [] small = omega arith
few-summands scope (part ∷ more) small =
    omega (arith, length-append (summands_of_part scope part) (summands_of scope more), few-of-part scope part small.0, few-summands scope more small.1)

-- one more operand whose factors are small
small-next : (operands : List Linear) (i : ℕ) (d : Linear) → i < length operands → AreAllFactorsSmall (arithmetics (map arithmetic_of (take i operands))) → AreFactorsSmall (arithmetic_of (get_or operands i d)) →
    AreAllFactorsSmall (arithmetics (map arithmetic_of (take (suc i) operands)))
small-next [] i d below small here = absurd (omega (arith, below))
small-next (f ∷ fs) zero d below small here = (here, tt)
small-next (f ∷ fs) (suc i) d below small here = (small.0, small-next fs i d (omega (arith, below)) small.1 here)

pub small-more : (operands : List Linear) (i : ℕ) (f : Linear) → i < length operands → AreAllFactorsSmall (arithmetics (map arithmetic_of (take i operands))) → f ≡ get_or operands i f → AreFactorsSmall (arithmetic_of f) →
    AreAllFactorsSmall (arithmetics (map arithmetic_of (take (i + 1) operands)))
small-more operands i f below small is here =
    let next : suc i ≡ i + 1 = omega arith in
    let P : ℕ → Type 0 = λ n. AreAllFactorsSmall (arithmetics (map arithmetic_of (take n operands))) in
    let Q : Linear → Type 0 = λ g. AreFactorsSmall (arithmetic_of g) in subst P next (small-next operands i f below small (subst Q is here))
