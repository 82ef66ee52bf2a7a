-- One step along the bits.
use Rattle.std.proofs.Common.{◌≡◌, ℕ, ◌<◌, Bool, List, length, slice_get, Some, get_or, false, sym, ap, subst, ◌∙◌}
use Rattle.ms_arena.specs.declared.node.Ref.{Ref}
use Rattle.ms_arena.specs.declared.node.Ref.TheVariants.{Leaf, Inner}
use Rattle.ms_arena.specs.declared.node.Node.{Node}
use Rattle.ms_arena.specs.Diagram.{leaf_of, IsValid, IsOrdered}
use Rattle.ms_arena.specs.Reach.{IsTested}
use Rattle.ms_arena.proofs.Canonicity.{end_for}
use Rattle.ms_arena.proofs.Ends.{end_valid}
use Rattle.ms_arena.proofs.Paths.{leaf_of-leaf, leaf_of-node}
use Rattle.ms_arena.proofs.ReachLemmas.{IsTested-own, IsTested-end}
use Rattle.ms_diagram.specs.Store.{bits_of}

-- a reference on the way from the root: it leads to the root's leaf
abbrev pub OnTheWay : List Node → Ref → List Bool → Ref → Type 0
OnTheWay nodes root bits at =
    IsValid nodes at × ((var : ℕ) → IsTested nodes at var → var < length bits) × (leaf_of nodes at (bits_of bits) ≡ leaf_of nodes root (bits_of bits))

-- a leaf on the way is the root's
pub way_ends : (nodes : List Node) (root at : Ref) (bits : List Bool) (value : ℕ) → at ≡ Leaf value → OnTheWay nodes root bits at → value ≡ leaf_of nodes root (bits_of bits)
way_ends nodes root at bits value is way =
    sym (leaf_of-leaf nodes (bits_of bits) value) ∙ ap (λ r. leaf_of nodes r (bits_of bits)) (sym is) ∙ way.2

module _ (nodes : List Node) (ordered : IsOrdered nodes) (root at : Ref) (bits : List Bool) (place : ℕ) (is : at ≡ Inner place) (node : Node)
    (held : slice_get nodes place ≡ Some node) (way : OnTheWay nodes root bits at) where
  -- the variable of a node on the way has a bit
  pub way_tests : node.var < length bits
  way_tests = way.1 node.var (subst (λ r. IsTested nodes r node.var) (sym is) (IsTested-own nodes place node held))

  -- and its end for this bit is on the way
  pub way_goes_on : (bit : Bool) → get_or bits node.var false ≡ bit → OnTheWay nodes root bits (end_for node bit)
  way_goes_on bit chosen = (
    end_valid nodes ordered place node held bit,
    (λ var tested. way.1 var (subst (λ r. IsTested nodes r var) (sym is) (IsTested-end nodes place node bit var held tested))),
    ap (λ b. leaf_of nodes (end_for node b) (bits_of bits)) (sym chosen) ∙ sym (leaf_of-node nodes ordered (bits_of bits) place node held)
        ∙ ap (λ r. leaf_of nodes r (bits_of bits)) (sym is) ∙ way.2,
  )
