-- What a subset construction over a product has found, by the sets of pairs of references to which starts lead.
use Rattle.std.proofs.Common.{◌≡◌, ℕ, ◌+◌, ◌≤◌, List, length, slice_get, slice_index, Some, subst}
use Rattle.ms_arena.specs.declared.node.Node.{Node}
use Rattle.ms_arena.specs.declared.node.Ref.{Ref}
use Rattle.ms_diagram.specs.Store.{Contents}
use Rattle.ms_dfa.specs.declared.state.State.{State}
use Rattle.ms_dfa_explore.specs.Tracks.{places_among}
use Rattle.ms_logic.specs.Assignment.{Variable}
use Rattle.ms_logic.specs.Lists.{AreRising, IsAmong, without}
use Rattle.ms_logic_measures.specs.CallMeasures.{IsNumberOf, LeadToSameSet}
use Rattle.ms_logic_measures.specs.Starts.{IsStartOver}
use Rattle.ms_logic_starts.specs.ContentStarts.{HaveDistinctNumbers}
use Rattle.ms_logic_words.specs.Content.{Content}
use Rattle.ms_logic_words.specs.declared.sign.Sign.{Sign}
use Rattle.ms_product.specs.Pairing.{IsNeededForSome, IsPairedIn}
use Rattle.ms_product.specs.declared.op.Op.TheVariants.{And}
use Rattle.ms_project.specs.Paired.{operands_for}
use Rattle.ms_project.specs.Projection.{begun_behind}
use Rattle.ms_project.specs.Subsetting.{AreReachedNumbers, AreSetsBehind, Subsetting, subset_findings}
use Rattle.ms_project_parts.proofs.Few.{few_rest}
use Rattle.ms_project_parts.specs.inner.Matched.{AreMatched, IsProjected}
use Rattle.ms_project_parts.proofs.Matches.{pairs_match}
use Rattle.ms_project_parts.proofs.Places.{are_others}
use Rattle.ms_project_parts.specs.Laws.{IsBoundAs}

module _ {Domain : Type 0} (body domain canonical : Content Sign) (restriction : Content Domain) (bound x : Variable) (is_bound : IsBoundAs body canonical bound x)
    (own : HaveDistinctNumbers canonical.variables) (long : length canonical.variables ≡ length body.variables)
    (domain_rising : AreRising domain.variables) (among : (v : Variable) → IsAmong domain.variables v → IsAmong body.variables v)
    (stands : (place : ℕ) (w : Variable) → slice_get restriction.variables place ≡ Some w → slice_get canonical.variables (slice_index (places_among domain.variables body.variables) place) ≡ Some w)
    (left : AreMatched body canonical) (right : AreMatched domain restriction)
    (m : ℕ) (counted : IsNumberOf (LeadToSameSet canonical restriction x) (IsStartOver (without x.name canonical.variables)) m)
    (inner : Contents) (start : Ref) (states : List State) (pairs : List (ℕ × ℕ)) (paired : IsPairedIn inner.nodes And (operands_for body domain) pairs start states)
    (found : Subsetting) (outer : List Node) (behind : AreSetsBehind (begun_behind body bound.name inner start states) found outer) where
  -- the sets that were found, behind the beginning
  abbrev v : Subsetting
  v = record (begun_behind body bound.name inner start states) { sets = found.sets }

  reached : AreReachedNumbers v
  reached = subst AreReachedNumbers behind.later.same behind.reached

  needed : (place : ℕ) (node : Node) → slice_get outer place ≡ Some node → IsNeededForSome outer (subset_findings v) node
  needed = subst (λ (u : Subsetting). (place : ℕ) (node : Node) → slice_get outer place ≡ Some node → IsNeededForSome outer (subset_findings u) node) behind.later.same behind.needed

  abbrev at : ℕ → ℕ
  at place = slice_index (places_among domain.variables body.variables) place

  setting : IsProjected v canonical restriction x at
  setting = record {
    are = are_others body.variables canonical.variables long is_bound.rising bound x is_bound.among own is_bound.stands;
    stands = stands;
    matched = pairs_match body domain canonical restriction left right is_bound.rising long v pairs paired;
  }

  -- the sets, and the nodes of the answer
  pub few_outer : length outer + length found.sets ≤ m
  few_outer = few_rest v canonical restriction x at setting behind.numbering reached m counted outer behind.ordered behind.reduced needed
