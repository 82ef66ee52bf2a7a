-- Where the references of a content lead.
use Rattle.std.proofs.Common.{◌≡◌, ℕ, zero, suc, ◌<◌, ◌≤◌, Bool, true, false, length, slice_get, Some, sym, subst, arith}
use Rattle.ms_arena.specs.declared.node.Node.{Node}
use Rattle.ms_arena.specs.declared.node.Ref.{Ref}
use Rattle.ms_arena.specs.declared.node.Ref.TheVariants.{Leaf, Inner}
use Rattle.ms_arena.specs.Diagram.{Bits, leaf_of, IsBefore, IsValid}
use Rattle.ms_arena.proofs.Canonicity.{end_for}
use Rattle.ms_arena.proofs.Lists.{slice_get-held}
use Rattle.ms_arena.proofs.Paths.{IsBefore-later, IsBefore-end_at, leaf_of-leaf, leaf_of-node}
use Rattle.ms_logic_words.specs.Content.{Content, IsContent, NamesPart}

module _ {Sign : Type 0} (content : Content Sign) where
  pub valid-part : (reference : Ref) → NamesPart content reference → IsValid content.nodes reference
  valid-part (Leaf state) named = tt
  valid-part (Inner place) named = named

  module _ (rules : IsContent content) where
    pub named-end : (place : ℕ) (node : Node) (bit : Bool) → slice_get content.nodes place ≡ Some node → NamesPart content (end_for node bit)
    named-end place node true held = rules.high_named place node held
    named-end place node false held = rules.low_named place node held

    leads_before : (count : ℕ) (reference : Ref) → IsBefore count reference → count ≤ length content.nodes → NamesPart content reference → (bits : Bits)
        → leaf_of content.nodes reference bits < length content.states
    leads_before count (Leaf state) before within named bits = rw (leaf_of-leaf content.nodes bits state) named
    leads_before zero (Inner place) before within named bits = absurd (omega arith)
    leads_before (suc count) (Inner place) before within named bits =
        let held = slice_get-held content.nodes place (omega arith) in
        subst (λ leaf. leaf < length content.states) (sym (leaf_of-node content.nodes rules.ordered bits place held.0 held.1))
        (leads_before count (end_for held.0 (bits held.0.var))
        (IsBefore-later place count (end_for held.0 (bits held.0.var)) (omega arith) (IsBefore-end_at content.nodes rules.ordered place held.0 bits held.1)) (omega arith)
        (named-end place held.0 (bits held.0.var) held.1) bits)

    -- a reference leads to states
    pub leads-to_state : (reference : Ref) → NamesPart content reference → (bits : Bits) → leaf_of content.nodes reference bits < length content.states
    leads-to_state reference named bits = leads_before (length content.nodes) reference (valid-part reference named) (omega arith) named bits
