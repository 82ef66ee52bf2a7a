-- What a product needs is below the budget of its operands.
use Rattle.std.proofs.Common.{◌≡◌, ℕ, ◌<◌, ◌≤◌, ◌+◌, ◌*◌, List, sym, ◌∙◌, arith}
use Rattle.std.proofs.Math.Nat.{mul-le-mul_right}
use Rattle.ms_logic.specs.Assignment.{Variable}
use Rattle.ms_logic_measures.specs.Budgets.{budget}
use Rattle.ms_logic_measures.specs.CallMeasures.{IsNumberOf, LeaveSame}
use Rattle.ms_logic_measures.specs.FullContent.{part_count}
use Rattle.ms_logic_measures.specs.Starts.{IsStartOver}
use Rattle.ms_logic_starts.specs.AtLeast.{IsAtLeastNumber, IsEquivalence}
use Rattle.ms_logic_starts.proofs.AtLeastLemmas.{at_most_count}
use Rattle.ms_logic_starts.proofs.ReachedPartsLemmas.{canonical_reached}
use Rattle.ms_logic_words.specs.Content.{Content}
use Rattle.ms_logic_words.specs.declared.sign.Sign.{Sign}
use Rattle.ms_build_parts.specs.Laws.{CanonicalContentsHaveOneCount, ProductsAreWithinBudget}
use Rattle.ms_build_parts.proofs.ProductParts.{products_need_few_parts}

-- to leave the same of a content is an equivalence
pub leave_same : (content : Content Sign) (variables : List Variable) → IsEquivalence (LeaveSame content variables)
leave_same content variables = record { symmetric = λ one other same rest. sym (same rest); transitive = λ one two three first second rest. first rest ∙ second rest }

-- an exact count is one from below
at_least : {A : Type 0} (AreAlike : A → A → Type 0) (IsItem : A → Type 0) (n : ℕ) → IsNumberOf AreAlike IsItem n → IsAtLeastNumber AreAlike IsItem n
at_least AreAlike IsItem n counted = record { chosen = counted.chosen; items = counted.items; different = counted.different; count = (let is = counted.count in omega (arith, is)) }

pub one_count : CanonicalContentsHaveOneCount
one_count content canonical distinct n counted =
    let all = canonical_reached content canonical distinct in
    let alike = LeaveSame content content.variables in
    let item = IsStartOver content.variables in
    let first = at_most_count alike item (leave_same content content.variables) n (part_count content) (at_least alike item n counted) all in
    let second = at_most_count alike item (leave_same content content.variables) (part_count content) n (at_least alike item (part_count content) all) counted in
    omega (arith, first, second)

-- a square is at most that of more
square_more : (s t : ℕ) → s ≤ t → s * s ≤ t * t
square_more s t less =
    let first : s * s ≤ t * s = mul-le-mul_right s less in
    let turned : t * s ≡ s * t = grind arith in
    let second : s * t ≤ t * t = mul-le-mul_right t less in
    omega (arith, first, turned, second)

pub below_budget : (limit a b m r : ℕ) → limit ≤ 2 * (a * b) → r ≡ a + b → limit < budget m r
below_budget limit a b m r few is =
    let square : (a + b) * (a + b) ≡ a * a + 2 * (a * b) + b * b = grind arith in
    let more = square_more (a + b) (m + r + 2) (omega (arith, is)) in
    let some = square_more 1 (m + r + 2) (omega arith) in
    omega (arith, few, square, more, some)

pub products_are_within_budget : ProductsAreWithinBudget
products_are_within_budget op operands left right rising one other limit lacks m r measure =
    let counts = measure.read in
    let first = one_count left one.is_canonical one.distinct counts.0 counts.2 in
    let second = one_count right other.is_canonical other.distinct counts.1 counts.3 in
    let sum = counts.4 in
    below_budget limit (part_count left) (part_count right) m r (products_need_few_parts op operands left right rising one other limit lacks) (omega (arith, first, second, sum))
