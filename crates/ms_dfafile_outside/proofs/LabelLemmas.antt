-- Labels by counts.
use Rattle.std.proofs.Common.{◌≡◌, ℕ, zero, suc, ◌+◌, ◌^◌, ◌/◌, ◌%◌, ◌<◌, ◌≤◌, ◌⊎◌, inl, inr, ⊎_elim, List, refl, sym, ap, subst, ◌∙◌, arith}
use Rattle.std.proofs.Math.Nat.{pow-le-pow_right}
use Rattle.ms_logic.specs.declared.mode.Order.{Order}
use Rattle.ms_dfafile_outside.specs.declared.label.Label.{Label}
use Rattle.ms_dfafile_outside.specs.declared.label.Label.TheVariants.{Lost, Seen}
use Rattle.ms_dfafile_outside.specs.inner.Numbers.{IsNumberAt, full_set, numbers_in, one_more, rank}
use Rattle.ms_dfafile_outside.specs.inner.Labels.{IsLabel, IsLabelWith, IsSmall}
use Rattle.ms_dfafile_outside.proofs.NumbersLemmas.{AgreeAt, set_of-apart, set_of-bit, set_of-bound, set_of-more, set_of-same}

-- counts that agree have one label
pub labels-same : (orders : List Order) (one two : ℕ → ℕ) (first second : Label) → AgreeAt orders one two → IsLabel orders one first → IsLabel orders two second → first ≡ second
labels-same orders one two Lost Lost agree is also = refl
labels-same orders one two Lost (Seen set) agree is also = absurd (omega (arith, is.2, agree is.0 is.1, also.once is.0 is.1))
labels-same orders one two (Seen set) Lost agree is also = absurd (omega (arith, also.2, agree also.0 also.1, is.once also.0 also.1))
labels-same orders one two (Seen set) (Seen other) agree is also = ap (λ (s : ℕ). Seen s) (is.is_set ∙ set_of-same orders one two agree ∙ sym also.is_set)

-- and a label of one is one of the other
pub label-same : (orders : List Order) (one two : ℕ → ℕ) (label : Label) → AgreeAt orders one two → IsLabel orders one label → IsLabel orders two label
label-same orders one two Lost agree is = (is.0, is.1, omega (arith, is.2, agree is.0 is.1))
label-same orders one two (Seen set) agree is = record {
  once = λ place number. omega (arith, is.once place number, agree place number);
  is_set = is.is_set ∙ set_of-same orders one two agree;
}

-- what is lost stays lost
pub lost-more : (orders : List Order) (one two : ℕ → ℕ) → ((place : ℕ) → IsNumberAt orders place → one place ≤ two place) → IsLabel orders one Lost → IsLabel orders two Lost
lost-more orders one two more is = (is.0, is.1, omega (arith, is.2, more is.0 is.1))

-- the label of all numbers is that of counts that are all one
pub full-from : (orders : List Order) (count : ℕ → ℕ) (label : Label) → IsLabel orders count label → ((place : ℕ) → IsNumberAt orders place → count place ≡ 1) → label ≡ Seen (full_set orders)
full-from orders count Lost is each = absurd (omega (arith, is.2, each is.0 is.1))
full-from orders count (Seen set) is each = ap (λ (s : ℕ). Seen s) (is.is_set ∙ set_of-same orders count (λ place. 1) each)

pub full-to : (orders : List Order) (count : ℕ → ℕ) (label : Label) → IsLabel orders count label → label ≡ Seen (full_set orders) → (place : ℕ) → IsNumberAt orders place → count place ≡ 1
full-to orders count Lost is same = let never : ⊥ = cc in absurd never
full-to orders count (Seen set) is same =
    let sets : set ≡ full_set orders = cc in
    set_of-apart orders count (λ place. 1) is.once (λ place number. omega arith) (sym is.is_set ∙ sets)

pub one_more-cases : (count : ℕ → ℕ) (place other : ℕ) → ((other ≡ place) × (one_more count place other ≡ count other + 1)) ⊎ ((other ≡ place → ⊥) × (one_more count place other ≡ count other))
one_more-cases count zero zero = inl (refl, refl)
one_more-cases count zero (suc other) = inr (λ same. omega (arith, same), refl)
one_more-cases count (suc place) zero = inr (λ same. omega (arith, same), refl)
one_more-cases count (suc place) (suc other) = ⊎_elim
    (λ here. inl (ap (λ n. suc n) here.0, here.1))
    (λ apart. inr (λ same. apart.0 (omega (arith, same)), apart.1))
    (one_more-cases (λ p. count (suc p)) place other)

pub one_more-here : (count : ℕ → ℕ) (place : ℕ) → one_more count place place ≡ count place + 1
one_more-here count place = ⊎_elim (λ here. here.1) (λ apart. absurd (apart.0 refl)) (one_more-cases count place place)

-- a variable that is no number leaves the label as it is
pub with-other : (orders : List Order) (place : ℕ) (label : Label) → ¬ IsNumberAt orders place → IsLabelWith orders place label label
with-other orders place label none count is =
    label-same orders count (one_more count place) label
    (λ other number. ⊎_elim (λ here. absurd (none (subst (IsNumberAt orders) here.0 number))) (λ apart. sym apart.1) (one_more-cases count place other))
    is

-- what is lost stays so
pub with-lost : (orders : List Order) (place : ℕ) → IsLabelWith orders place Lost Lost
with-lost orders place count is = lost-more orders count (one_more count place) (λ other number. ⊎_elim (λ here. omega (arith, here.1)) (λ apart. omega (arith, apart.1)) (one_more-cases count place other)) is

-- a number that is in the set is one too many
pub with-twice : (orders : List Order) (place set : ℕ) → IsNumberAt orders place → set / 2 ^ rank orders place % 2 ≡ 1 → IsLabelWith orders place (Seen set) Lost
with-twice orders place set number has count is =
    let once : count place ≡ 1 = sym (set_of-bit orders count place is.once number) ∙ ap (λ s. s / 2 ^ rank orders place % 2) (sym is.is_set) ∙ has in
    (place, number, omega (arith, once, one_more-here count place))

-- and one that is not is in it then
pub with-once : (orders : List Order) (place set : ℕ) → IsNumberAt orders place → set / 2 ^ rank orders place % 2 ≡ 0 → IsLabelWith orders place (Seen set) (Seen (set + 2 ^ rank orders place))
with-once orders place set number lacks count is =
    let none : count place ≡ 0 = sym (set_of-bit orders count place is.once number) ∙ ap (λ s. s / 2 ^ rank orders place % 2) (sym is.is_set) ∙ lacks in
    record {
      once = λ other is_number. ⊎_elim
          (λ here. omega (arith, here.1, ap count here.0, none))
          (λ apart. omega (arith, apart.1, is.once other is_number))
          (one_more-cases count place other);
      is_set = ap (λ s. s + 2 ^ rank orders place) is.is_set ∙ sym (set_of-more orders count place number);
    }

-- the same of one number more by what stands before it
pub with-number-twice : (orders : List Order) (place set own : ℕ) → IsNumberAt orders place → own ≡ 2 ^ rank orders place → set / own % 2 ≡ 1 → IsLabelWith orders place (Seen set) Lost
with-number-twice orders place set own number is has = with-twice orders place set number (ap (λ w. set / w % 2) (sym is) ∙ has)

pub with-number-once : (orders : List Order) (place set own : ℕ) → IsNumberAt orders place → own ≡ 2 ^ rank orders place → (set / own % 2 ≡ 1 → ⊥) → IsLabelWith orders place (Seen set) (Seen (set + own))
with-number-once orders place set own number is lacks =
    let none : set / own % 2 ≡ 0 = omega (arith, lacks) in
    subst (λ w. IsLabelWith orders place (Seen set) (Seen (set + w))) (sym is) (with-once orders place set number (ap (λ w. set / w % 2) (sym is) ∙ none))

-- a label of fewer than 32 numbers is small
pub small-label : (orders : List Order) (count : ℕ → ℕ) (label : Label) → numbers_in orders < 32 → IsLabel orders count label → IsSmall label
small-label orders count Lost few is = tt
small-label orders count (Seen set) few is =
    let bound = set_of-bound orders count is.once in
    let less : numbers_in orders ≤ 31 = omega (arith, few) in
    let power : 2 ^ numbers_in orders ≤ 2 ^ 31 = pow-le-pow_right (omega arith) less in
    omega (arith, is.is_set, bound, power)
