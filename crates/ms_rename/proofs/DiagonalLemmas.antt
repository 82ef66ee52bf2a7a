-- Of an automaton beside itself, pairs of one state and itself alone are reached. So what it needs beside itself it needs by itself.
use Rattle.std.proofs.Common.{◌≡◌, ℕ, ◌+◌, ◌<◌, ◌≤◌, List, length, slice_get, Option, Some, None, Result, Ok, Err, refl, sym, ap, subst, ◌∙◌, arith}
use Rattle.std.proofs.lemmas.List.{length-map}
use Rattle.std.proofs.lemmas.Option.{same_Some}
use Rattle.std_collections.proofs.IndexTableLemmas.Probe.{pigeonhole}
use Rattle.ms_list.specs.declared.fault.StepFault.{StepFault}
use Rattle.ms_list.specs.declared.fault.StepFault.TheVariants.{Nodes, Memory}
use Rattle.ms_arena.specs.Bits.{below_from}
use Rattle.ms_arena.specs.Diagram.{Bits, end_at, leaf_of}
use Rattle.ms_arena.specs.Target.{IsNeeded}
use Rattle.ms_arena.specs.declared.node.Node.{Node}
use Rattle.ms_arena.proofs.Lists.{slice_get-held}
use Rattle.ms_dfa_explore.specs.Explored.{IsFound, OnRefused, Origin, target_of}
use Rattle.ms_logic_words.specs.Content.{Content}
use Rattle.ms_logic_words.specs.declared.sign.Sign.{Sign}
use Rattle.ms_product.specs.Pairing.{IsReachedPair, Operands, ReachedAreAtLeast, behind_pair, first_pair, from_pair, from_starts, next_pair, product_findings}
use Rattle.ms_product.specs.Widened.{next_through, widened_findings}
use Rattle.ms_product.specs.declared.op.Op.TheVariants.{And}
use Rattle.ms_rename.specs.Renamed.{NeedsAtLeast, beside_itself}
use Rattle.ms_rename.proofs.RelabelLemmas.{end_valid, leaf_relabelled, relabelled, relabelled_end, relabelled_node, relabelled_ordered, relabelled_reduced, was_node}

module _ (content : Content Sign) (places : List ℕ) where
  abbrev beside : Operands
  beside = beside_itself content places

  on_diagonal : (pair : ℕ × ℕ) → IsReachedPair beside pair → pair.0 ≡ pair.1
  on_diagonal pair (from_starts bits leads) = sym (ap (λ (p : ℕ × ℕ). p.0) leads) ∙ ap (λ (p : ℕ × ℕ). p.1) leads
  on_diagonal pair (from_pair before bits reached leads) =
      sym (ap (λ (p : ℕ × ℕ). p.0) leads) ∙ ap (λ state. next_through content places state bits) (on_diagonal before reached) ∙ ap (λ (p : ℕ × ℕ). p.1) leads

  module _ (count : ℕ) (needs : ReachedAreAtLeast count And beside) where
    abbrev pairs : List (ℕ × ℕ)
    pairs = needs.least.pairs

    abbrev nodes : List Node
    nodes = needs.least.nodes

    -- the state of a number, and other numbers for those of no pair
    abbrev state_by : ℕ → Option (ℕ × ℕ) → ℕ
    state_by number (Some pair) = pair.0
    state_by number None = length content.states + number

    abbrev state_of : ℕ → ℕ
    state_of number = state_by number (slice_get pairs number)

    one_pair : (one other : ℕ) (first second : Option (ℕ × ℕ)) → slice_get pairs one ≡ first → slice_get pairs other ≡ second → state_by one first ≡ state_by other second → one ≡ other
    one_pair one other (Some p) (Some q) held also same =
        let own = on_diagonal p (needs.reached one p held) in
        let its = on_diagonal q (needs.reached other q also) in
        let second : p.1 ≡ q.1 = sym own ∙ same ∙ its in
        let equal : p ≡ q = λ i. (same i, second i) in
        needs.least.numbering.no_repeats one other q (held ∙ ap Some equal) also
    one_pair one other (Some p) None held also same = absurd (let below = (needs.least.states one p held).0 in omega (arith, same, below))
    one_pair one other None (Some q) held also same = absurd (let below = (needs.least.states other q also).0 in omega (arith, same, below))
    one_pair one other None None held also same = omega (arith, same)

    apart : (one other : ℕ) → state_of one ≡ state_of other → one ≡ other
    apart one other same = one_pair one other (slice_get pairs one) (slice_get pairs other) refl refl same

    state_is : (number : ℕ) (pair : ℕ × ℕ) → slice_get pairs number ≡ Some pair → state_of number ≡ pair.0
    state_is number pair held = ap (state_by number) held

    below : (number : ℕ) → number < length pairs → state_of number < length content.states
    below number within =
        let held = slice_get-held pairs number within in
        subst (λ state. state < length content.states) (sym (state_is number held.0 held.1)) (needs.least.states number held.0 held.1).0

    -- each pair is that of a state of its own
    few_pairs : length pairs ≤ length content.states
    few_pairs = pigeonhole (length pairs) (length content.states) state_of below (λ i j _ _. apart i j)

    abbrev made : List Node
    made = relabelled state_of nodes

    -- where the product leads to the number of a pair, the automaton leads to its state
    leads_from : (origin : Option (ℕ × ℕ)) (bits : Bits) (number : ℕ) (state : ℕ) (pair : ℕ × ℕ) → origin ≡ Some pair → pair.0 ≡ state → behind_pair beside pairs origin bits number
        → state_of number ≡ next_through content places state bits
    leads_from None bits number state pair is own right = absurd right
    leads_from (Some found) bits number state pair is own right =
        let same : found.0 ≡ state = ap (λ (p : ℕ × ℕ). p.0) (same_Some found pair is) ∙ own in
        state_is number (next_pair beside found bits) right ∙ ap (λ s. next_through content places s bits) same

    IsNeededBySome : Node → Type 0
    IsNeededBySome node =
        (origin : Origin) × IsFound (widened_findings content places) origin × IsNeeded made (target_of (widened_findings content places) origin) node

    module _ (place : ℕ) (node : Node) (held : slice_get nodes place ≡ Some node) where
      leaf_is : (bits : Bits) → leaf_of made (end_at (relabelled_node state_of node) bits) bits ≡ state_of (leaf_of nodes (end_at node bits) bits)
      leaf_is bits =
          ap (λ reference. leaf_of made reference bits) (relabelled_end state_of node bits)
          ∙ leaf_relabelled state_of nodes needs.least.ordered (end_at node bits) (end_valid state_of nodes needs.least.ordered place node held bits) bits

      needed_by : (origin : Origin) → IsFound (product_findings And beside pairs) origin → IsNeeded nodes (target_of (product_findings And beside pairs) origin) node
          → IsNeededBySome (relabelled_node state_of node)
      unfolding IsNeededBySome
      needed_by None found needed = (
        None,
        tt,
        (
          needed.0,
          λ bits.
              let at = below_from node.var needed.0 bits in
              let leaf = leaf_of nodes (end_at node bits) bits in
              leaf_is bits ∙ state_is leaf (first_pair beside at) (needed.1 bits),
        ),
      )
      needed_by (Some number) found needed =
          let pair = slice_get-held pairs number found in (
            Some pair.0.0,
            (needs.least.states number pair.0 pair.1).0,
            (
              needed.0,
              λ bits.
                  let at = below_from node.var needed.0 bits in
                  let leaf = leaf_of nodes (end_at node bits) bits in
                  leaf_is bits ∙ leads_from (slice_get pairs number) at leaf pair.0.0 pair.0 pair.1 refl (needed.1 bits),
            ),
          )

    -- so a copy of the automaton is as large
    pub needs_by_itself : NeedsAtLeast count content places
    unfolding IsNeededBySome
    needs_by_itself = record {
      nodes = made;
      ordered = relabelled_ordered state_of nodes needs.least.ordered;
      reduced = relabelled_reduced state_of nodes apart needs.least.reduced;
      needed = λ place node held.
          let was = was_node state_of nodes place node held in
          let needed = needs.least.needed place was.0 was.1 in
          subst IsNeededBySome (sym was.2) (needed_by place was.0 was.1 needed.0 needed.1 needed.2);
      many = (let long = length-map nodes (relabelled_node state_of) in let many = needs.least.many in omega (arith, long, many, few_pairs));
    }

-- so a refusal for what is reached is one for a copy
pub refused_by_itself : (content : Content Sign) (places : List ℕ) (limit : ℕ) (result : Result (Content Sign) StepFault) → OnRefused result (λ refused. refused ≡ limit)
    → OnRefused result (λ refused. ReachedAreAtLeast limit And (beside_itself content places)) → OnRefused result (λ refused. (refused ≡ limit) × NeedsAtLeast limit content places)
refused_by_itself content places limit (Ok done) named cause = tt
refused_by_itself content places limit (Err Memory) named cause = tt
refused_by_itself content places limit (Err (Nodes refused)) named cause = (named, needs_by_itself content places limit cause)
