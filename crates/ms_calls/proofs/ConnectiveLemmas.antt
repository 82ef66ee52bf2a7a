-- What connectives need of automata is within their measures.
use Rattle.std.proofs.Common.{ℕ, ◌+◌, ◌*◌, ◌<◌, ◌≤◌, List, slice_index, subst, arith}
use Rattle.std.proofs.Math.Nat.{mul-le-mul_right}
use Rattle.ms_dfa.specs.Automaton.{IsAutomaton}
use Rattle.ms_dfa_explore.specs.Tracks.{merged, places_among}
use Rattle.ms_dfa_explore.proofs.AmongLemmas.{leads_to}
use Rattle.ms_dfa_explore.proofs.TracksLemmas.{merged-left, merged-right, merged-rising}
use Rattle.ms_logic.specs.Assignment.{Variable}
use Rattle.ms_logic.specs.Lists.{AreRising, IsAmong}
use Rattle.ms_logic_measures.specs.CallMeasures.{LeadToPairs, call_measure}
use Rattle.ms_logic_starts.proofs.RisingLemmas.{rising_distinct}
use Rattle.ms_logic_words.specs.Content.{Content}
use Rattle.ms_logic_words.specs.declared.sign.Sign.{Sign}
use Rattle.ms_product.specs.Pairing.{operands_of}
use Rattle.ms_calls.specs.Products.{ConnectivesAreWithinMeasure, ConnectivesNeedFewPairs, StandsAmong}
use Rattle.ms_calls.proofs.Joined.{joined_merged}
use Rattle.ms_calls.proofs.Pairs.{products_need_few_pairs}

-- an automaton stands among variables that rise and have its own
pub stands_among : (content : Content Sign) (wide : List Variable) → IsAutomaton content → AreRising wide
    → ((v : Variable) → IsAmong content.variables v → IsAmong wide v)
    → StandsAmong content (slice_index (places_among content.variables wide)) wide
stands_among content wide is rising among = record {
  ordered = is.ordered;
  closed = is.closed;
  distinct = rising_distinct content.variables is.rising;
  leads = leads_to content.variables wide is.rising rising among;
}

pub connectives_need_few_pairs : ConnectivesNeedFewPairs
connectives_need_few_pairs op left right are count needs m r measure =
    let wide = merged left.variables right.variables in
    let rising = merged-rising left.variables right.variables are.left.rising are.right.rising in
    products_need_few_pairs op (operands_of left right) wide (rising_distinct wide rising)
    (stands_among left wide are.left rising (λ v there. merged-left left.variables right.variables v there))
    (stands_among right wide are.right rising (λ v there. merged-right left.variables right.variables v (λ u is_left same. are.equal u v is_left there same) there))
    count needs m
    (subst (λ variables. LeadToPairs left right variables m) (joined_merged left.variables right.variables are.left.rising are.right.rising are.equal) measure.made)

-- a measure is more than both its numbers
pub below_measure : (limit m r : ℕ) → limit < m + r + 2 → limit < call_measure m r
below_measure limit m r less =
    let t = m + r + 2 in
    let square : 1 * t ≤ t * t = mul-le-mul_right t (let one : 1 ≤ t = omega arith in one) in
    omega (arith, square, less)

pub connectives_are_within_measure : ConnectivesAreWithinMeasure
connectives_are_within_measure op left right are limit needs m r measure =
    let few = connectives_need_few_pairs op left right are limit needs m r measure in
    below_measure limit m r (omega (arith, few))
