-- What a projection needs is below the budget of its operands.
use Rattle.std.proofs.Common.{◌≡◌, ℕ, ◌+◌, ◌*◌, ◌<◌, ◌≤◌, ⊎_elim, length, map, slice_get, slice_index, Some, ap, ◌∙◌, arith}
use Rattle.std.proofs.Math.Nat.{mul-le-mul_left, mul-le-mul_right}
use Rattle.std.proofs.lemmas.List.{length-map}
use Rattle.std.proofs.lemmas.Option.{none-some, slice_get_within}
use Rattle.ms_arena.proofs.Lists.{slice_get-held}
use Rattle.ms_build_parts.proofs.Budgets.{one_count}
use Rattle.ms_build_parts.proofs.Labels.{closed_contents, measured_contents}
use Rattle.ms_build_parts.proofs.ProductParts.{products_need_few_labels}
use Rattle.ms_build_parts.specs.Labels.{IsLabelledBelow}
use Rattle.ms_dfa_explore.specs.Tracks.{places_among}
use Rattle.ms_dfa_explore.proofs.AmongLemmas.{place_at}
use Rattle.ms_logic.specs.Assignment.{Variable}
use Rattle.ms_logic.specs.Lists.{AreRising, IsAmong, without}
use Rattle.ms_logic.specs.declared.mode.Mode.{Mode}
use Rattle.ms_logic_measures.specs.Budgets.{budget}
use Rattle.ms_logic_measures.specs.CallMeasures.{IsNumberOf, LeadToSameSet, no_restriction}
use Rattle.ms_logic_measures.specs.FullContent.{part_count}
use Rattle.ms_logic_measures.specs.Starts.{IsStartOver}
use Rattle.ms_logic_starts.specs.ContentStarts.{HaveDistinctNumbers}
use Rattle.ms_logic_words.specs.Content.{Content}
use Rattle.ms_logic_words.specs.declared.sign.Sign.{Sign}
use Rattle.ms_product.specs.Pairing.{AreAtLeast}
use Rattle.ms_product.specs.declared.op.Op.TheVariants.{And}
use Rattle.ms_product.proofs.WidenedLemmas.{IsRisingMap-among}
use Rattle.ms_project.specs.Always.{always}
use Rattle.ms_project.specs.Paired.{operands_for}
use Rattle.ms_project.specs.Projection.{NeedsAtLeast, SetsOfProductAreAtLeast}
use Rattle.ms_project.proofs.AlwaysLemmas.{IsAutomaton-always}
use Rattle.ms_project_parts.proofs.Found.{few_outer}
use Rattle.ms_project_parts.specs.inner.Matched.{AreMatched}
use Rattle.ms_project_parts.proofs.Matches.{measured_matches, truth_matches}
use Rattle.ms_project_parts.specs.Laws.{IsBoundAs, IsOverSome, ProjectionsAreWithinBudget, ProjectionsNeedFewSets, UnrestrictedAreWithinBudget}

-- variables of the same orders are as many
as_long : (one other : Content Sign) → map (λ (v : Variable). v.order) other.variables ≡ map (λ (v : Variable). v.order) one.variables → length other.variables ≡ length one.variables
as_long one other same =
    let mine = length-map one.variables (λ (v : Variable). v.order) in
    let its = length-map other.variables (λ (v : Variable). v.order) in
    let equal = ap length same in
    omega (arith, mine, its, equal)

module _ {Domain : Type 0} (body domain canonical : Content Sign) (restriction : Content Domain) (bound x : Variable) (is_bound : IsBoundAs body canonical bound x)
    (own : HaveDistinctNumbers canonical.variables) (long : length canonical.variables ≡ length body.variables)
    (domain_rising : AreRising domain.variables) (among : (v : Variable) → IsAmong domain.variables v → IsAmong body.variables v)
    (stands : (place : ℕ) (w : Variable) → slice_get restriction.variables place ≡ Some w → slice_get canonical.variables (slice_index (places_among domain.variables body.variables) place) ≡ Some w)
    (left : AreMatched body canonical) (right : AreMatched domain restriction) (a b : ℕ) (left_labels : IsLabelledBelow body a) (right_labels : IsLabelledBelow domain b) where
  few_pairs : (count : ℕ) → AreAtLeast count And (operands_for body domain) → count ≤ 2 * (a * b)
  few_pairs count least =
      products_need_few_labels And (operands_for body domain) a b (record {
        left = IsRisingMap-among body.variables body.variables is_bound.rising is_bound.rising (λ v there. there);
        right = IsRisingMap-among domain.variables body.variables domain_rising is_bound.rising among;
      }) left_labels right_labels count least

  module _ (m : ℕ) (counted : IsNumberOf (LeadToSameSet canonical restriction x) (IsStartOver (without x.name canonical.variables)) m) (count : ℕ) (needs : SetsOfProductAreAtLeast count body domain bound.name) where
    few_sets : count ≤ m
    few_sets =
        let sets = needs.sets in
        let few = few_outer body domain canonical restriction bound x is_bound own long domain_rising among stands left right m counted needs.inner needs.start needs.states needs.pairs needs.paired sets.found sets.outer sets.behind in
        let many = sets.many in
        omega (arith, few, many)

  pub few : (m : ℕ) → IsNumberOf (LeadToSameSet canonical restriction x) (IsStartOver (without x.name canonical.variables)) m → (count : ℕ) → NeedsAtLeast count body domain bound.name → count ≤ 2 * (a * b) + 2 * m
  few m counted count needs = ⊎_elim
      (λ pairs. let less = few_pairs count pairs in omega (arith, less))
      (λ sets. let less = few_sets m counted count sets in omega (arith, less))
      needs

-- at its place in the body a variable of the restriction stands for that of the domain
module _ (body domain canonical restriction : Content Sign) (is_body : AreRising body.variables) (some : IsOverSome body domain canonical restriction) (long : length restriction.variables ≡ length domain.variables) where
  stands_at : (place : ℕ) (w : Variable) → slice_get restriction.variables place ≡ Some w → slice_get canonical.variables (slice_index (places_among domain.variables body.variables) place) ≡ Some w
  stands_at place w held =
      let within = slice_get_within restriction.variables place w held in
      let v = slice_get-held domain.variables place (omega (arith, within, long)) in
      ap (slice_get canonical.variables) (place_at domain.variables body.variables some.rising is_body some.among place v.0 v.1) ∙ some.stands place v.0 w v.1 held

pub projections_need_few_sets : ProjectionsNeedFewSets
projections_need_few_sets body domain canonical restriction bound x is_bound some is_body is_domain count needs m counted =
    few body domain canonical restriction bound x is_bound is_body.distinct (as_long body canonical is_body.same.orders) some.rising some.among
    (stands_at body domain canonical restriction is_bound.rising some (as_long domain restriction is_domain.same.orders))
    (measured_matches body canonical is_body) (measured_matches domain restriction is_domain) (part_count canonical) (part_count restriction)
    (measured_contents body canonical is_body) (measured_contents domain restriction is_domain) m counted count needs

-- what is at most twice a number within the square and twice the sets is below the budget
below_budget : (limit n m r : ℕ) → limit ≤ 2 * n + 2 * m → n ≤ (m + r + 2) * (m + r + 2) → limit < budget m r
below_budget limit n m r few less =
    let some : 1 * (m + r + 2) ≤ (m + r + 2) * (m + r + 2) = mul-le-mul_right (m + r + 2) (omega arith) in
    omega (arith, few, less, some)

-- so are pairs of parts that are read
within_square : (a b m r : ℕ) → a ≤ r → b ≤ r + 1 → a * b ≤ (m + r + 2) * (m + r + 2)
within_square a b m r first second =
    let one : a * b ≤ (m + r + 2) * b = mul-le-mul_right b (omega (arith, first)) in
    let two : (m + r + 2) * b ≤ (m + r + 2) * (m + r + 2) = mul-le-mul_left (m + r + 2) (omega (arith, second)) in
    omega (arith, one, two)

-- truth has one label
truth_labels : (mode : Mode) → IsLabelledBelow (always mode) 1
truth_labels mode = let is = IsAutomaton-always mode in closed_contents (always mode) is.ordered is.closed

pub projections_are_within_budget : ProjectionsAreWithinBudget
projections_are_within_budget body domain canonical restriction bound x is_bound some is_body is_domain limit needs m r measure =
    let counts = measure.parts_read in
    let first = one_count canonical is_body.is_canonical is_body.distinct counts.0 counts.2 in
    let second = one_count restriction is_domain.is_canonical is_domain.distinct counts.1 counts.3 in
    let sum = counts.4 in
    let read = measure.read in
    below_budget limit (part_count canonical * part_count restriction) m r
    (projections_need_few_sets body domain canonical restriction bound x is_bound some is_body is_domain limit needs m measure.made)
    (within_square (part_count canonical) (part_count restriction) m r (omega (arith, first, sum, read)) (omega (arith, second, sum, read)))

pub unrestricted_are_within_budget : UnrestrictedAreWithinBudget
unrestricted_are_within_budget body canonical mode bound x is_bound is_body limit needs m r measure =
    let counts = measure.parts_read in
    let first = one_count canonical is_body.is_canonical is_body.distinct counts.0 counts.2 in
    let sum = counts.4 in
    let read = measure.read in
    let less = few body (always body.mode) canonical (no_restriction mode) bound x is_bound is_body.distinct (as_long body canonical is_body.same.orders) tt (λ v none. absurd none)
    (λ place w held. absurd (none-some w held)) (measured_matches body canonical is_body) (truth_matches body.mode mode) (part_count canonical) 1
    (measured_contents body canonical is_body) (truth_labels body.mode) m measure.made limit needs in
    below_budget limit (part_count canonical * 1) m r less (within_square (part_count canonical) 1 m r (omega (arith, first, sum, read)) (omega arith))
