-- What a product needs of contents with the parts of automata that are measured is below each budget of these.
use Rattle.std.proofs.Common.{◌≡◌, ℕ, ◌<◌, List, length, map, ap, subst, arith}
use Rattle.std.proofs.lemmas.List.{length-map}
use Rattle.ms_build_parts.specs.Laws.{IsMeasuredBy}
use Rattle.ms_build_parts.proofs.Budgets.{products_are_within_budget}
use Rattle.ms_dfa_explore.specs.Tracks.{merged, places_among}
use Rattle.ms_dfa_explore.proofs.TracksLemmas.{merged-left, merged-right, merged-rising}
use Rattle.ms_logic.specs.Assignment.{Variable}
use Rattle.ms_logic.specs.Lists.{AreRising}
use Rattle.ms_logic_measures.specs.Budgets.{budget}
use Rattle.ms_logic_measures.specs.CallMeasures.{IsCombineMeasure}
use Rattle.ms_logic_words.specs.Content.{Content}
use Rattle.ms_logic_words.specs.declared.sign.Sign.{Sign}
use Rattle.ms_product.specs.Combined.{HaveEqualOrders}
use Rattle.ms_product.specs.Pairing.{AreAtLeast, Operands, operands_of}
use Rattle.ms_product.specs.Widened.{IsRisingMap}
use Rattle.ms_product.specs.declared.op.Op.{Op}
use Rattle.ms_product.proofs.WidenedLemmas.{IsRisingMap-among}
use Rattle.ms_rename.specs.Renamed.{HasPartsOf}

-- a content with the parts of one that is measured by another, over variables of the same orders
pub record IsSide (one measure : Content Sign) : Type 0 where
  pub least : Content Sign
  pub rising : AreRising one.variables
  pub parts : HasPartsOf least one
  pub orders : map (λ (v : Variable). v.order) one.variables ≡ map (λ (v : Variable). v.order) least.variables
  pub measured : IsMeasuredBy least measure

module _ (one measure : Content Sign) (side : IsSide one measure) where
  -- the same content with these parts
  abbrev own : Content Sign
  own = record { mode = one.mode; variables = one.variables; start = side.least.start; states = side.least.states; nodes = side.least.nodes }

  pub is_own : one ≡ own
  is_own = λ i. record { mode = one.mode; variables = one.variables; start = side.parts.start i; states = side.parts.states i; nodes = side.parts.nodes i }

  as_long : length one.variables ≡ length side.least.variables
  as_long =
      let first = length-map one.variables (λ (v : Variable). v.order) in
      let second = length-map side.least.variables (λ (v : Variable). v.order) in
      let equal = ap length side.orders in
      omega (arith, first, second, equal)

module _ (op : Op) (limit : ℕ) (one other left right : Content Sign) (equal : HaveEqualOrders one.variables other.variables) (first : IsSide one left) (second : IsSide other right) where
  abbrev wide : List Variable
  wide = merged one.variables other.variables

  abbrev left_map : List ℕ
  left_map = places_among one.variables wide

  abbrev right_map : List ℕ
  right_map = places_among other.variables wide

  abbrev of_parts : Operands
  of_parts = record { left = first.least; left_map = left_map; right = second.least; right_map = right_map }

  needs_parts : AreAtLeast limit op (record { left = own one left first; left_map = left_map; right = own other right second; right_map = right_map }) → AreAtLeast limit op of_parts
  needs_parts least = record {
    nodes = least.nodes;
    pairs = least.pairs;
    ordered = least.ordered;
    reduced = least.reduced;
    needed = least.needed;
    numbering = least.numbering;
    states = least.states;
    many = least.many;
  }

  rises : AreRising wide
  rises = merged-rising one.variables other.variables first.rising second.rising

  left_rises : IsRisingMap (length first.least.variables) left_map
  left_rises = subst (λ n. IsRisingMap n left_map) (as_long one left first) (IsRisingMap-among one.variables wide first.rising rises (λ v there. merged-left one.variables other.variables v there))

  right_rises : IsRisingMap (length second.least.variables) right_map
  right_rises = subst (λ n. IsRisingMap n right_map) (as_long other right second) (IsRisingMap-among other.variables wide second.rising rises
      (λ v there. merged-right one.variables other.variables v (λ u is_left same. equal u v is_left there same) there))

  pub within_budget : AreAtLeast limit op (operands_of one other) → (m r : ℕ) → IsCombineMeasure left right m r → limit < budget m r
  within_budget short m r measure =
      let half = subst (λ (c : Content Sign). AreAtLeast limit op (record { left = c; left_map = left_map; right = other; right_map = right_map })) (is_own one left first) short in
      let whole = subst (λ (c : Content Sign). AreAtLeast limit op (record { left = own one left first; left_map = left_map; right = c; right_map = right_map })) (is_own other right second) half in
      products_are_within_budget op of_parts left right (record { left = left_rises; right = right_rises }) first.measured second.measured limit (needs_parts whole) m r measure
