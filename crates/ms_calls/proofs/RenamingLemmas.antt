-- What a renaming needs beside itself is within its measure: starts in the order of the map lead to what is reached.
use Rattle.std.proofs.Common.{◌≡◌, ℕ, ◌≤◌, List, slice_get, slice_index, Option, Some, None, refl, subst, arith}
use Rattle.std.proofs.lemmas.Option.{none-some, same_Some}
use Rattle.ms_dfa.specs.Automaton.{IsAutomaton}
use Rattle.ms_logic.specs.Assignment.{Variable}
use Rattle.ms_logic_measures.specs.CallMeasures.{LeadsToReferences, LeaveSame, LeaveSameOfBoth, in_order_of}
use Rattle.ms_logic_measures.specs.Starts.{IsStartOver}
use Rattle.ms_logic_measures.proofs.Counting.{number_along}
use Rattle.ms_logic_starts.proofs.RisingLemmas.{rising_distinct}
use Rattle.ms_logic_words.specs.Content.{Content}
use Rattle.ms_logic_words.specs.declared.sign.Sign.{Sign}
use Rattle.ms_product.specs.Pairing.{ReachedAreAtLeast}
use Rattle.ms_product.specs.declared.op.Op.TheVariants.{And}
use Rattle.ms_rename.specs.Renamed.{beside_itself, renamed_places}
use Rattle.ms_rename_parts.proofs.Arranged.{IsArranged}
use Rattle.ms_rename_parts.proofs.Arrangement.{arranged}
use Rattle.ms_calls.specs.Products.{StandsAmong}
use Rattle.ms_calls.specs.Renamings.{RenamesAreWithinMeasure, RenamesNeedFewParts}
use Rattle.ms_calls.proofs.ConnectiveLemmas.{below_measure}
use Rattle.ms_calls.proofs.Pairs.{few}

module _ (content : Content Sign) (automaton : IsAutomaton content) (order : List Variable) (places : List ℕ) (in_order : IsArranged content.variables order places) where
  -- where a variable of the content stands in the order
  abbrev place_by : (place : ℕ) (found : Option Variable) → slice_get content.variables place ≡ found → ℕ
  place_by place None held = 0
  place_by place (Some v) held = (in_order.stands place v held).0

  stands_by : (place : ℕ) (found : Option Variable) (held : slice_get content.variables place ≡ found) (v : Variable) → found ≡ Some v
      → (slice_get order (place_by place found held) ≡ Some v) × (slice_index places place ≡ in_order.read_at (place_by place found held))
  stands_by place None held v is = absurd (none-some v is)
  stands_by place (Some w) held v is =
      let at = in_order.stands place w held in
      (subst (λ (u : Variable). slice_get order at.0 ≡ Some u) (same_Some w v is) at.1, at.2)

  abbrev place_in : ℕ → ℕ
  place_in place = place_by place (slice_get content.variables place) refl

  stands_in_order : StandsAmong content place_in order
  stands_in_order = record {
    ordered = automaton.ordered;
    closed = automaton.closed;
    distinct = rising_distinct content.variables automaton.rising;
    leads = λ place v held. (stands_by place (slice_get content.variables place) refl v held).0;
  }

  read_in_order : (place : ℕ) (v : Variable) → slice_get content.variables place ≡ Some v → slice_index places place ≡ in_order.read_at (place_in place)
  read_in_order place v held = (stands_by place (slice_get content.variables place) refl v held).1

  needs_few : (count : ℕ) → ReachedAreAtLeast count And (beside_itself content places) → (m : ℕ) → LeadsToReferences content order m → count ≤ m
  needs_few count needs m counted =
      few (beside_itself content places) order in_order.own in_order.read_at in_order.rises place_in place_in stands_in_order stands_in_order read_in_order read_in_order And count needs m
      (number_along (LeaveSame content order) (LeaveSameOfBoth content content order) (IsStartOver order) (IsStartOver order) m
      (λ one other. (λ same. (same, same), λ both. both.0)) (λ start. (λ over. over, λ over. over)) counted)

pub renames_need_few_parts : RenamesNeedFewParts
renames_need_few_parts content numbers automaton long count needs m r measure =
    let own = rising_distinct content.variables automaton.rising in
    needs_few content automaton (in_order_of numbers content.variables) (renamed_places numbers content.variables) (arranged numbers content.variables content.variables long refl own) count needs m measure.made

pub renames_are_within_measure : RenamesAreWithinMeasure
renames_are_within_measure content numbers automaton long limit needs m r measure =
    let less = renames_need_few_parts content numbers automaton long limit needs m r measure in below_measure limit m r (omega (arith, less))
