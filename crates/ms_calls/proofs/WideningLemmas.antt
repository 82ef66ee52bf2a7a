-- Widenings are conjunctions, and no measure of a conjunction is small.
use Rattle.std.proofs.Common.{◌≡◌, ℕ, zero, suc, ◌+◌, ◌*◌, ◌<◌, ◌≤◌, List, [], ◌∷◌, Bool, false, length, All, Any, refl, sym, subst, ap, arith}
use Rattle.std.proofs.Math.Nat.{mul-le-mul_right}
use Rattle.ms_list.specs.declared.word.Word.{Word}
use Rattle.ms_dfa.specs.Automaton.{IsAutomaton}
use Rattle.ms_logic.specs.Assignment.{Variable}
use Rattle.ms_logic_measures.specs.CallMeasures.{IsCombineMeasure, IsNumberOf, HasReachedParts, call_measure}
use Rattle.ms_logic_measures.specs.Starts.{Start, whole_word, IsStartOver}
use Rattle.ms_logic_words.specs.Content.{Content, IsWordOver, count_of, is_truth_value}
use Rattle.ms_logic_words.specs.declared.sign.Sign.{Sign}
use Rattle.ms_product.specs.Combined.{HaveEqualOrders}
use Rattle.ms_product.specs.declared.op.Op.TheVariants.{And}
use Rattle.ms_rename.specs.Whole.{IsSmallWhole, ReachedBesideWhole}
use Rattle.ms_calls.specs.Products.{AreAutomata}
use Rattle.ms_calls.specs.Widenings.{MeasuresAreAboveFew, WideningsAreWithinMeasure, WideningsNeedFewPairs}
use Rattle.ms_calls.proofs.ConnectiveLemmas.{connectives_are_within_measure, connectives_need_few_pairs}

are_automata : (content other : Content Sign) (vs : List Variable) → IsAutomaton content → HaveEqualOrders content.variables vs → IsSmallWhole vs other → AreAutomata content other
are_automata content other vs is equal small = record {
  left = is;
  right = small.automaton;
  equal = subst (HaveEqualOrders content.variables) (sym small.whole.variables) equal;
}

pub widenings_need_few_pairs : WideningsNeedFewPairs
widenings_need_few_pairs content vs is equal count needs =
    (needs.0, needs.1, λ m r measure. connectives_need_few_pairs And content needs.0 (are_automata content needs.0 vs is equal needs.1) count needs.2 m r measure)

pub widenings_are_within_measure : WideningsAreWithinMeasure
widenings_are_within_measure content vs is equal limit needs =
    (needs.0, needs.1, λ m r measure. connectives_are_within_measure And content needs.0 (are_automata content needs.0 vs is equal needs.1) limit needs.2 m r measure)

-- so many zeros
zeros : ℕ → List Bool
zeros zero = []
zeros (suc n) = false ∷ zeros n

length-zeros : (n : ℕ) → length (zeros n) ≡ n
unfolding zeros
length-zeros zero = refl
length-zeros (suc n) = let rest = length-zeros n in omega (arith, rest)

-- some word is a start over any variables
first_start : List Variable → Start
first_start variables = whole_word (record { truth = zeros (count_of is_truth_value variables); letters = [] })

first_is : (variables : List Variable) → IsStartOver variables (first_start variables)
unfolding first_start
first_is variables = record { truth = length-zeros (count_of is_truth_value variables); letters = tt }

-- where there is an item, there is one at least
some_item : {A : Type 0} (AreAlike : A → A → Type 0) (IsItem : A → Type 0) (n : ℕ) (item : A) → IsItem item → IsNumberOf AreAlike IsItem n → 1 ≤ n
some_item {A = A} AreAlike IsItem n item is number = by_chosen number.chosen (number.complete item is) number.count
  where
    by_chosen : (chosen : List A) → Any (λ one. AreAlike item one) chosen → length chosen ≡ n → 1 ≤ n
    by_chosen [] some count = let less = some.2 in absurd (omega (arith, less))
    by_chosen (first ∷ more) some count = omega (arith, count)

some_part : (content : Content Sign) (n : ℕ) → HasReachedParts content n → 1 ≤ n
some_part content n parts = some_item _ (IsStartOver content.variables) n (first_start content.variables) (first_is content.variables) parts

pub measures_are_above_few : MeasuresAreAboveFew
measures_are_above_few left right m r measure =
    let read = measure.read in
    let one : 1 ≤ read.0 = some_part left read.0 read.2 in
    let other : 1 ≤ read.1 = some_part right read.1 read.3 in
    let sum = read.4 in
    let t = m + r + 2 in
    let some : 4 ≤ t = omega (arith, one, other, sum) in
    let row : 4 * t ≤ t * t = mul-le-mul_right t some in
    omega (arith, row, some)
