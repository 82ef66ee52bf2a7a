-- A variable that a reduced diagram tests makes a difference to its function.
use Rattle.std.proofs.Common.{◌≡◌, ℕ, ◌<◌, Bool, true, false, List, slice_get, Some, refl, sym, ap, subst, ◌∙◌, ⊎_elim, arith}
use Rattle.std.proofs.lemmas.Bool.{cases_eq, cases_lt}
use Rattle.ms_arena.specs.declared.node.Ref.{Ref}
use Rattle.ms_arena.specs.declared.node.Ref.TheVariants.{Inner}
use Rattle.ms_arena.specs.declared.node.Node.{Node}
use Rattle.ms_arena.specs.Diagram.{Bits, leaf_of, IsOrdered, IsReduced}
use Rattle.ms_arena.specs.Bits.{with_bit, below_from, AgreeAbove}
use Rattle.ms_arena.specs.Reach.{Reaches, here, through_low, through_high, IsTested}
use Rattle.ms_arena.proofs.BitsLemmas.{same_bits, with_bit-same, with_bit-other, below_from-first, below_from-later, AgreeAbove-below_from}
use Rattle.ms_arena.proofs.Canonicity.{end_for, leaf_of-above, TestsAbove-end_for, same_ends, same_reference}
use Rattle.ms_arena.proofs.Ends.{end_valid}
use Rattle.ms_arena.proofs.Paths.{leaf_of-node}
use Rattle.ms_arena.proofs.ReachLemmas.{IsTested-above}

-- a bit from the variable on is replaced among the later ones
with_bit-later : (var : ℕ) (first bits : Bits) (value : Bool) → below_from var first (with_bit bits var value) ≡ with_bit (below_from var first bits) var value
with_bit-later var first bits value = same_bits (λ other. ⊎_elim
    (λ is. ap (below_from var first (with_bit bits var value)) is ∙ below_from-later var first (with_bit bits var value) var (omega arith) ∙ with_bit-same bits var value
    ∙ sym (ap (with_bit (below_from var first bits) var value) is ∙ with_bit-same (below_from var first bits) var value))
    (λ differs. ⊎_elim
    (λ less. below_from-first var first (with_bit bits var value) other less
    ∙ sym (with_bit-other (below_from var first bits) var value other differs ∙ below_from-first var first bits other less))
    (λ more. below_from-later var first (with_bit bits var value) other more ∙ with_bit-other bits var value other differs
    ∙ sym (with_bit-other (below_from var first bits) var value other differs ∙ below_from-later var first bits other more))
    (cases_lt other var))
    (cases_eq other var))

module _ (nodes : List Node) (ordered : IsOrdered nodes) where
  -- first bits lead from a root to each node that it reaches, with the node's function left of the root's
  Leads : Ref → ℕ → Node → Type 0
  Leads root goal node = (first : Bits) × ((bits : Bits) → leaf_of nodes root (below_from node.var first bits) ≡ leaf_of nodes (Inner goal) bits)

  -- the node's own function reads no bit below its variable
  own_function : (place : ℕ) (node : Node) → slice_get nodes place ≡ Some node → (first bits : Bits)
      → leaf_of nodes (Inner place) (below_from node.var first bits) ≡ leaf_of nodes (Inner place) bits
  own_function place node held first bits =
      let later = below_from node.var first bits in
      let bit = bits node.var in
      leaf_of-node nodes ordered later place node held
      ∙ ap (λ b. leaf_of nodes (end_for node b) later) (below_from-later node.var first bits node.var (omega arith))
      ∙ leaf_of-above nodes ordered node.var (end_for node bit) later bits (end_valid nodes ordered place node held bit)
      (TestsAbove-end_for nodes ordered place node bit held) (AgreeAbove-below_from node.var node.var first bits (omega arith))
      ∙ sym (leaf_of-node nodes ordered bits place node held)

  -- a path through an end is one from the node, with the bit of its variable fixed
  leads_through : (place : ℕ) (middle : Node) (bit : Bool) (goal : ℕ) (node : Node) → slice_get nodes place ≡ Some middle → middle.var < node.var
      → Leads (end_for middle bit) goal node → Leads (Inner place) goal node
  unfolding Leads
  leads_through place middle bit goal node held later leads =
      let first = with_bit leads.0 middle.var bit in (
        first,
        λ bits.
            let whole = below_from node.var first bits in
            let rest = below_from node.var leads.0 bits in
            leaf_of-node nodes ordered whole place middle held
            ∙ ap (λ b. leaf_of nodes (end_for middle b) whole) (below_from-first node.var first bits middle.var later ∙ with_bit-same leads.0 middle.var bit)
            ∙ leaf_of-above nodes ordered middle.var (end_for middle bit) whole rest (end_valid nodes ordered place middle held bit)
            (TestsAbove-end_for nodes ordered place middle bit held) (agree bits)
            ∙ leads.1 bits,
      )
    where
      agree : (bits : Bits) → AgreeAbove middle.var (below_from node.var (with_bit leads.0 middle.var bit) bits) (below_from node.var leads.0 bits)
      agree bits other above = ⊎_elim
          (λ less. below_from-first node.var (with_bit leads.0 middle.var bit) bits other less ∙ with_bit-other leads.0 middle.var bit other (λ same. absurd (omega arith))
          ∙ sym (below_from-first node.var leads.0 bits other less))
          (λ more. below_from-later node.var (with_bit leads.0 middle.var bit) bits other more ∙ sym (below_from-later node.var leads.0 bits other more))
          (cases_lt other node.var)

  leads_to : {root : Ref} {goal : ℕ} → Reaches nodes root goal → (node : Node) → slice_get nodes goal ≡ Some node → Leads root goal node
  unfolding Leads
  leads_to (here {place}) node held = ((λ _. false), own_function place node held (λ _. false))
  leads_to (through_low {place} {goal} middle held_middle path) node held =
      leads_through place middle false goal node held_middle
      (IsTested-above nodes ordered middle.var middle.low node.var (TestsAbove-end_for nodes ordered place middle false held_middle) (goal, node, path, held, refl))
      (leads_to path node held)
  leads_to (through_high {place} {goal} middle held_middle path) node held =
      leads_through place middle true goal node held_middle
      (IsTested-above nodes ordered middle.var middle.high node.var (TestsAbove-end_for nodes ordered place middle true held_middle) (goal, node, path, held, refl))
      (leads_to path node held)

  -- a function that does not read the bit of a variable has a reduced diagram that does not test it
  pub never_tested : IsReduced nodes → (root : Ref) (var : ℕ) → ((bits : Bits) → leaf_of nodes root (with_bit bits var false) ≡ leaf_of nodes root (with_bit bits var true))
      → IsTested nodes root var → ⊥
  unfolding Leads
  never_tested reduced root var idle tested =
      let place = tested.0 in
      let node = tested.1 in
      let held = tested.3 in
      let leads = leads_to tested.2 node held in
      let low = end_valid nodes ordered place node held false in
      let high = end_valid nodes ordered place node held true in
      reduced.ends_differ place node held (same_reference nodes ordered reduced node.low node.high low high
      (same_ends nodes ordered place node held low high (λ bits.
      sym (leads.1 (with_bit bits node.var false)) ∙ ap (leaf_of nodes root) (with_bit-later node.var leads.0 bits false)
      ∙ subst (λ v. leaf_of nodes root (with_bit (below_from node.var leads.0 bits) v false) ≡ leaf_of nodes root (with_bit (below_from node.var leads.0 bits) v true))
      (sym tested.4) (idle (below_from node.var leads.0 bits))
      ∙ sym (ap (leaf_of nodes root) (with_bit-later node.var leads.0 bits true)) ∙ leads.1 (with_bit bits node.var true))))
