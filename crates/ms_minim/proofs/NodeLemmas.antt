-- Each node of the quotient is the image of a node of the automaton, and equal images are one node; so it has no more nodes.
use Rattle.std.proofs.Common.{◌≡◌, ⊎_elim, ℕ, zero, suc, ◌+◌, ◌<◌, ◌≤◌, false, List, [], ◌∷◌, ◌++◌, length, length-append, slice_get, Some, None, Err, refl, sym, ap, subst, ◌∙◌, arith}
use Rattle.std.proofs.lemmas.Bool.{cases_lt}
use Rattle.std.proofs.lemmas.Option.{slice_get_within, same_Some}
use Rattle.ms_list.specs.declared.fault.StepFault.{StepFault}
use Rattle.ms_list.specs.declared.fault.StepFault.TheVariants.{Nodes, Memory}
use Rattle.ms_arena.specs.declared.node.Ref.{Ref}
use Rattle.ms_arena.specs.declared.node.Ref.TheVariants.{Leaf, Inner}
use Rattle.ms_arena.specs.declared.node.Node.{Node}
use Rattle.ms_arena.specs.Bits.{below_from}
use Rattle.ms_arena.specs.Diagram.{Bits, end_at, leaf_of, IsBefore, IsValid, IsOrdered, IsReduced}
use Rattle.ms_arena.specs.Reach.{IsTested}
use Rattle.ms_arena.specs.Target.{IsNeeded, Extends}
use Rattle.ms_arena.proofs.Appending.{IsOrdered-push, IsReduced-push}
use Rattle.ms_arena.proofs.BitsLemmas.{below_from-first, below_from-later}
use Rattle.ms_arena.proofs.Canonicity.{end_for, same_reference}
use Rattle.ms_arena.proofs.Lists.{slice_get-held, slice_get-pushed}
use Rattle.ms_arena.proofs.Needs.{IsFormed-held, IsNeeded-extends}
use Rattle.ms_arena.proofs.Paths.{IsBefore-later, IsBefore-end_at, leaf_of-leaf, leaf_of-node}
use Rattle.ms_arena.proofs.ReachLemmas.{IsTested-above, leaf_of-tested}
use Rattle.ms_diagram.specs.Store.{Contents}
use Rattle.ms_dfa.specs.declared.state.State.{State}
use Rattle.ms_logic_words.specs.declared.sign.Sign.{Sign}
use Rattle.ms_logic_words.specs.Content.{Content}
use Rattle.ms_dfa_explore.specs.Explored.{Findings, Origin, IsFound, target_of, GrowsForSome, OnRefused, IsFullForSome, Explores}
use Rattle.ms_minim.specs.inner.Partition.{behind, next_by}
use Rattle.ms_minim.specs.inner.Quotient.{IsNumberOf, IsQuotient, quotient_findings}
use Rattle.ms_minim.proofs.FewestLemmas.{few_numbers, one_member, member_within}
use Rattle.ms_minim.proofs.Pigeonhole.{counted}
use Rattle.ms_minim.proofs.QuotientLemmas.{one_number}
use Rattle.ms_minim.proofs.ResidualLemmas.{state_followed}

-- a reference from which all bits lead where they lead from the root behind these first bits
record IsBehind (nodes : List Node) (root : Ref) (var : ℕ) (first : Bits) (reference : Ref) : Type 0 where
  pub valid : IsValid nodes reference
  pub leaves : (bits : Bits) → leaf_of nodes root (below_from var first bits) ≡ leaf_of nodes reference bits

module _ (nodes : List Node) (ordered : IsOrdered nodes) where
  -- a node that tests no variable below one reads no bit of them
  reads_later : (var : ℕ) (place : ℕ) (node : Node) → slice_get nodes place ≡ Some node → var ≤ node.var → (first bits : Bits)
      → leaf_of nodes (Inner place) (below_from var first bits) ≡ leaf_of nodes (Inner place) bits
  reads_later var place node held above first bits =
      leaf_of-tested nodes ordered (Inner place) (below_from var first bits) bits (slice_get_within nodes place node held) (λ own tested. below_from-later var first bits own
      (at_least var above own tested))
    where
      at_least : (low : ℕ) → low ≤ node.var → (own : ℕ) → IsTested nodes (Inner place) own → low ≤ own
      at_least zero below own tested = omega arith
      at_least (suc low) below own tested =
          let over = IsTested-above nodes ordered low (Inner place) own
          (λ other there. (let same : node ≡ other = same_Some node other (sym held ∙ there) in subst (λ (n : Node). low < n.var) same (omega (arith, below)))) tested
          in omega (arith, over)

  followed_below : (count : ℕ) (root : Ref) → IsBefore count root → count ≤ length nodes → (var : ℕ) (first : Bits) → (reference : Ref) × IsBehind nodes root var first reference
  followed_below count (Leaf value) before within var first =
      (Leaf value, record { valid = tt; leaves = λ bits. leaf_of-leaf nodes (below_from var first bits) value ∙ sym (leaf_of-leaf nodes bits value) })
  followed_below zero (Inner place) before within var first = absurd (omega (arith, before))
  followed_below (suc count) (Inner place) before within var first =
      let held = slice_get-held nodes place (omega (arith, before, within)) in
      ⊎_elim
      (λ below.
      let next = followed_below count (end_for held.0 (first held.0.var))
      (IsBefore-later place count (end_for held.0 (first held.0.var)) (omega (arith, before)) (IsBefore-end_at nodes ordered place held.0 first held.1)) (omega (arith, within)) var first in (
        next.0,
        record {
          valid = next.1.valid;
          leaves = λ bits.
              leaf_of-node nodes ordered (below_from var first bits) place held.0 held.1
              ∙ ap (λ bit. leaf_of nodes (end_for held.0 bit) (below_from var first bits)) (below_from-first var first bits held.0.var below)
              ∙ next.1.leaves bits;
        },
      ))
      (λ above. (Inner place, record { valid = slice_get_within nodes place held.0 held.1; leaves = reads_later var place held.0 held.1 above first }))
      (cases_lt held.0.var var)

module _ (content : Content Sign) (classes members map : List ℕ) (pairs : List (ℕ × ℕ)) (quotient : IsQuotient content classes members map pairs) where
  abbrev findings : Findings
  findings = quotient_findings content classes members pairs

  -- the node at one place is the image of the node of the automaton at another
  abbrev IsImage : List Node → ℕ → ℕ → Type 0
  IsImage nodes place other = (bits : Bits) → IsNumberOf classes pairs (leaf_of content.nodes (Inner other) bits) (leaf_of nodes (Inner place) bits)

  module _ (nodes : List Node) (ordered : IsOrdered nodes) (reduced : IsReduced nodes) where
    image_by : (place : ℕ) → place < length nodes → (reference : Ref) → IsValid content.nodes reference
        → ((bits : Bits) → IsNumberOf classes pairs (leaf_of content.nodes reference bits) (leaf_of nodes (Inner place) bits)) → (other : ℕ) × (other < length content.nodes) × IsImage nodes place other
    image_by place within (Inner other) valid are = (other, valid, are)
    image_by place within (Leaf value) valid are =
        let none : Bits = λ var. false in
        let constant : (bits : Bits) → leaf_of nodes (Inner place) bits ≡ leaf_of nodes (Leaf (leaf_of nodes (Inner place) none)) bits = λ bits.
        one_number classes pairs quotient.numbering (leaf_of content.nodes (Leaf value) bits) (leaf_of content.nodes (Leaf value) none) (leaf_of nodes (Inner place) bits) (leaf_of nodes (Inner place) none)
        (are bits) (are none) (ap (slice_get classes) (leaf_of-leaf content.nodes bits value ∙ sym (leaf_of-leaf content.nodes none value)))
        ∙ sym (leaf_of-leaf nodes bits (leaf_of nodes (Inner place) none)) in
        let same = same_reference nodes ordered reduced (Inner place) (Leaf (leaf_of nodes (Inner place) none)) within tt constant in
        let never : ⊥ = cc in absurd never

    image_of_root : (place : ℕ) (node : Node) → slice_get nodes place ≡ Some node → (root : Ref) → IsValid content.nodes root → (first : Bits)
        → ((bits : Bits) → IsNumberOf classes pairs (leaf_of content.nodes root (below_from node.var first bits)) (leaf_of nodes (end_at node bits) bits))
        → (other : ℕ) × (other < length content.nodes) × IsImage nodes place other
    image_of_root place node held root valid first are =
        let found = followed_below content.nodes quotient.automaton.ordered (length content.nodes) root valid (omega arith) node.var first in
        image_by place (slice_get_within nodes place node held) found.0 found.1.valid (λ bits.
        subst (λ s. IsNumberOf classes pairs s (leaf_of nodes (Inner place) bits)) (found.1.leaves bits)
        (subst (IsNumberOf classes pairs (leaf_of content.nodes root (below_from node.var first bits))) (sym (leaf_of-node nodes ordered bits place node held)) (are bits)))

    image_of : (place : ℕ) (node : Node) → slice_get nodes place ≡ Some node → (origin : Origin) → IsFound findings origin → IsNeeded nodes (target_of findings origin) node
        → (other : ℕ) × (other < length content.nodes) × IsImage nodes place other
    image_of place node held None found needed = image_of_root place node held content.start quotient.automaton.closed.start.valid needed.0 needed.1
    image_of place node held (Some number) found needed =
        let known = needed.1 needed.0 in
        let there = slice_get-held content.states known.state (member_within content classes members map pairs quotient number known.state known.member) in
        image_of_root place node held there.0.next (state_followed content quotient.automaton.ordered quotient.automaton.closed known.state there.0 there.1).valid needed.0 (λ bits.
        let on = needed.1 bits in
        let same : on.state ≡ known.state = one_member content classes members map pairs quotient number on.state known.state on.member known.member in
        let leaf : next_by content on.state (below_from node.var needed.0 bits) ≡ leaf_of content.nodes there.0.next (below_from node.var needed.0 bits)
        = ap (λ s. next_by content s (below_from node.var needed.0 bits)) same ∙ ap (λ at. behind content at (below_from node.var needed.0 bits)) there.1 in
        subst (λ s. IsNumberOf classes pairs s (leaf_of nodes (end_at node bits) bits)) leaf on.leads)

    -- nodes that are all needed are no more than those of the automaton
    pub nodes_within : ((place : ℕ) (node : Node) → slice_get nodes place ≡ Some node → (origin : Origin) × IsFound findings origin × IsNeeded nodes (target_of findings origin) node)
        → length nodes ≤ length content.nodes
    nodes_within needed =
        counted (length nodes) (length content.nodes) (IsImage nodes)
        (λ place less.
        let held = slice_get-held nodes place less in
        let is = needed place held.0 held.1 in
        image_of place held.0 held.1 is.0 is.1 is.2)
        (λ one two other less_one less_two first second.
        let same = same_reference nodes ordered reduced (Inner one) (Inner two) less_one less_two (λ bits.
        one_number classes pairs quotient.numbering (leaf_of content.nodes (Inner other) bits) (leaf_of content.nodes (Inner other) bits)
        (leaf_of nodes (Inner one) bits) (leaf_of nodes (Inner two) bits) (first bits) (second bits) refl) in
        cc)

  -- so an exploration adds no more nodes to an empty store
  pub few_nodes : (old new : Contents) → old.nodes ≡ [] → GrowsForSome old new findings → length new.nodes ≤ length content.nodes
  few_nodes old new empty grows =
      let none : length old.nodes ≡ 0 = ap length empty in
      nodes_within new.nodes grows.store.ordered grows.store.reduced (λ place node held. grows.needed place node (omega (arith, none)) held)

  -- and would add no more with a node that is lacking
  few_with_lacking : (old new : Contents) → old.nodes ≡ [] → GrowsForSome old new findings → IsFullForSome new findings → length new.nodes < length content.nodes
  few_with_lacking old new empty grows full =
      let none : length old.nodes ≡ 0 = ap length empty in
      let lacking = full.2.1 in
      let node = lacking.0 in
      let ordered = grows.store.ordered in
      let reduced = grows.store.reduced in
      let more : Extends new.nodes (new.nodes ++ node ∷ []) = (node ∷ [], refl) in
      let within = nodes_within (new.nodes ++ node ∷ []) (IsOrdered-push new.nodes node lacking.1 ordered) (IsReduced-push new.nodes node lacking.1 lacking.2 reduced)
      (λ place other held. ⊎_elim
      (λ before.
      let was = grows.needed place other (omega (arith, none)) before in (
        was.0,
        was.1,
        IsNeeded-extends new.nodes (new.nodes ++ node ∷ []) ordered more (target_of findings was.0) (target_of findings was.0) (λ bits number right. right) other
            (IsFormed-held new.nodes ordered reduced place other before) was.2,
      ))
      (λ last. (
        full.0,
        full.1,
        subst (IsNeeded (new.nodes ++ node ∷ []) (target_of findings full.0)) last.1
            (IsNeeded-extends new.nodes (new.nodes ++ node ∷ []) ordered more (target_of findings full.0) (target_of findings full.0) (λ bits number right. right) node lacking.1 lacking.3),
      ))
      (slice_get-pushed new.nodes node place other held)) in
      let longer = length-append new.nodes (node ∷ []) in
      omega (arith, within, longer)

  -- a refusal for want of nodes has its cause in the size of the automaton
  pub refused_quotient : (A : Type 0) (old new : Contents) (limit : ℕ) → old.nodes ≡ [] → old.limit ≡ limit → (states : List State) (fault : StepFault) → Explores old new findings states (Err fault)
      → OnRefused {A = A} (Err fault) (λ refused. (refused ≡ limit) × (limit < length content.nodes + length content.states))
  refused_quotient A old new limit empty limit_is states Memory explores = tt
  refused_quotient A old new limit empty limit_is states (Nodes refused) explores =
      let same = explores.nodes.0 in
      let grows = explores.grows in
      let kept = grows.limit in
      let few = few_nodes old new empty grows in
      let numbers = few_numbers content classes members map pairs quotient content quotient.automaton.closed (λ word over. refl) in (
        same ∙ limit_is,
        ⊎_elim
            (λ full.
            let lacking = few_with_lacking old new empty grows full in
            let at_limit = full.2.0 in
            omega (arith, lacking, at_limit, kept, limit_is))
            (⊎_elim
            (λ many. omega (arith, many, few, numbers, kept, limit_is))
            (λ never. absurd never))
            explores.nodes.1,
      )
