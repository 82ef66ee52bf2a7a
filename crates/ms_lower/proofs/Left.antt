-- What is left to lower falls: the sizes of the parts of each form, and of the body of a predicate that stands as a default restriction.
use Rattle.std.proofs.Common.{◌≡◌, ℕ, zero, suc, ◌+◌, ◌<◌, ◌≤◌, min, List, [], ◌∷◌, ◌++◌, length, map, take, drop, get_or, slice_get, Some, refl, sym, ap, ap₂, ◌∙◌, arith}
use Rattle.std.proofs.lemmas.List.{length-drop, length-take, take-append-drop, take-map}
use Rattle.std.proofs.lemmas.Option.{none-some, same_Some, slice_get-map, slice_get_within}
use Rattle.std.specs.Option.{option_map}
use Rattle.ms_logic.specs.declared.checked.Predicate as code
use Rattle.ms_logic.specs.declared.formula.Formula.{Formula}
use Rattle.ms_logic.specs.declared.term.Term1.{Term1}
use Rattle.ms_logic.specs.Tree.{Argument, Predicate, Term, number_variable, numeral, plus, minus, minimum, maximum}
use Rattle.ms_logic.specs.View.{arguments, formula_of, forms, predicate_of, term_of}
use Rattle.ms_logic_core.specs.Size.{Extent, Extents, extent_of_argument, extent_of_number, extent_under, extents_of, extents_of_arguments, extents_of_each, extents_with, extents_with_all, no_extents, total_size}
use Rattle.ms_lower.specs.declared.tables.Tables.{Tables}
use Rattle.ms_lower.specs.Callees.{callable}
use Rattle.ms_lower.specs.inner.Left.{extents_in, left_of_elements}
use Rattle.ms_lower.proofs.Callees.{take_twice}
use Rattle.ms_lower.proofs.Entries.{default_new, default_old}

-- elements of a literal

number_positive : (t : Term) → 1 ≤ (extent_of_number t).size
number_positive (number_variable x) = omega arith
number_positive (numeral n) = omega arith
number_positive (plus t n) = omega arith
number_positive (minus t n) = omega arith
number_positive (minimum s) = omega arith
number_positive (maximum s) = omega arith

elements_positive : (ts : List Term1) → length ts ≤ left_of_elements ts
elements_positive [] = omega arith
elements_positive (t ∷ ts) = let one = number_positive (term_of t) in let more = elements_positive ts in omega arith

left-append : (ts us : List Term1) → left_of_elements (ts ++ us) ≡ left_of_elements ts + left_of_elements us
left-append [] us = omega arith
left-append (t ∷ ts) us = let more = left-append ts us in omega arith

halves_left : (k : ℕ) (ts : List Term1) → left_of_elements (take k ts) + left_of_elements (drop k ts) ≡ left_of_elements ts
halves_left k ts = sym (left-append (take k ts) (drop k ts)) ∙ ap left_of_elements (take-append-drop k ts)

pub first_half_falls : (ts front : List Term1) (k : ℕ) → k < length ts → front ≡ take k ts → left_of_elements front < left_of_elements ts
first_half_falls ts front k below is =
    let both = halves_left k ts in
    let rest = elements_positive (drop k ts) in
    let long = length-drop k ts in
    let same = ap left_of_elements is in
    omega arith

pub second_half_falls : (ts later : List Term1) (k : ℕ) → 0 < k → k < length ts → later ≡ drop k ts → left_of_elements later < left_of_elements ts
second_half_falls ts later k positive below is =
    let both = halves_left k ts in
    let front = elements_positive (take k ts) in
    let long = length-take k ts in
    let same = ap left_of_elements is in
    omega arith

pub element_within : (ts : List Term1) (i : ℕ) (t : Term1) → i < length ts → t ≡ get_or ts i t → (extent_of_number (term_of t)).size ≤ left_of_elements ts
element_within [] i t below is = absurd (omega arith)
element_within (u ∷ ts) zero t below is = let same = ap (λ v. (extent_of_number (term_of v)).size) is in omega arith
element_within (u ∷ ts) (suc i) t below is = let more = element_within ts i t (omega arith) is in omega arith

-- operands and arguments

pub total-append : (xs ys : List Extent) → total_size (xs ++ ys) ≡ total_size xs + total_size ys
total-append [] ys = omega arith
total-append (x ∷ xs) ys = let more = total-append xs ys in omega arith

pub operand_within : (x : Extents) (fs : List Formula) (i : ℕ) (f : Formula) → i < length fs → f ≡ get_or fs i f →
    (extent_under x (formula_of f)).size ≤ total_size (extents_of_each x (forms (map formula_of fs)))
operand_within x [] i f below is = absurd (omega arith)
operand_within x (g ∷ fs) zero f below is = let same = ap (λ h. (extent_under x (formula_of h)).size) is in omega arith
operand_within x (g ∷ fs) (suc i) f below is = let more = operand_within x fs i f (omega arith) is in omega arith

pub argument_within : (x : Extents) (vs : List Argument) (i : ℕ) (a : Argument) → slice_get vs i ≡ Some a → (extent_of_argument x a).size ≤ total_size (extents_of_arguments x (arguments vs))
argument_within x [] i a is = absurd (none-some a is)
argument_within x (b ∷ vs) zero a is = let same = ap (λ c. (extent_of_argument x c).size) (same_Some b a is) in omega arith
argument_within x (b ∷ vs) (suc i) a is = let more = argument_within x vs i a is in omega arith

-- the body of a predicate that stands as a default restriction

default_below : (x : Extents) (count : ℕ) (ps : List Predicate) (p : ℕ) → p < count → (extents_with_all x count ps).default p ≡ x.default p
default_below x count [] p below = refl
default_below x count (q ∷ ps) p below =
    default_below (extents_with x count q) (count + 1) ps p (omega arith) ∙ default_old x count p q (λ same. omega (arith, same))

default_within : (x : Extents) (count : ℕ) (ps : List Predicate) (k : ℕ) (q : Predicate) → slice_get ps k ≡ Some q →
    (extents_with_all x count ps).default (count + k) ≡ extent_under (extents_with_all x count (take k ps)) q.body
default_within x count [] k q is = absurd (none-some q is)
default_within x count (r ∷ ps) zero q is =
    let at : count + 0 ≡ count = omega arith in
    ap (extents_with_all x count (r ∷ ps)).default at
    ∙ (default_below (extents_with x count r) (count + 1) ps count (omega arith) ∙ (default_new x count count r refl ∙ ap (λ p. extent_under x p.body) (same_Some r q is)))
default_within x count (r ∷ ps) (suc k) q is =
    let at : count + suc k ≡ count + 1 + k = omega arith in
    ap (extents_with_all x count (r ∷ ps)).default at ∙ default_within (extents_with x count r) (count + 1) ps k q is

pub default_falls : (tables before : Tables) (p : ℕ) (known : code.Predicate) → slice_get (callable tables) p ≡ Some known →
    before.callable ≡ min tables.callable p → before.predicates.now ≡ tables.predicates.now →
    ((extent_under (extents_in before) (formula_of known.body)).size ≡ ((extents_in tables).default p).size) × (before.callable < tables.callable)
default_falls tables before p known is callable_is predicates =
    let ps = map predicate_of (callable tables) in
    let got : slice_get ps p ≡ Some (predicate_of known) = slice_get-map predicate_of (callable tables) p ∙ ap (option_map predicate_of) is in
    let at : 0 + p ≡ p = omega arith in
    let there : callable before ≡ take p (callable tables) = ap₂ (λ k ps. take k ps) callable_is predicates ∙ take_twice tables.predicates.now tables.callable p in
    let same : extents_in before ≡ extents_of (take p ps) = ap (λ l. extents_of (map predicate_of l)) there ∙ ap extents_of (sym (take-map predicate_of p (callable tables))) in
    let within = slice_get_within (callable tables) p known is in
    let long = length-take tables.callable tables.predicates.now in (
      ap (λ x. (extent_under x (formula_of known.body)).size) same
          ∙ (ap (λ e. e.size) (sym (default_within no_extents 0 ps p (predicate_of known) got)) ∙ ap (λ k. ((extents_in tables).default k).size) at),
      omega arith,
    )
