-- The two diagrams of the worked examples.
use Rattle.std.proofs.Common.{◌≡◌, ◌≢◌, ℕ, zero, suc, slice_get, Some, Bool, true, false, if◌then◌else◌, refl, sym, ap, ◌∙◌, arith}
use Rattle.std.proofs.lemmas.Option.{same_Some, none-some}
use Rattle.ms_arena.specs.declared.node.Node.{Node}
use Rattle.ms_arena.specs.declared.node.Ref.{Ref}
use Rattle.ms_arena.specs.declared.node.Ref.TheVariants.{Leaf, Inner}
use Rattle.ms_arena.specs.Diagram.{Bits, leaf_number, leaf_of}
use Rattle.ms_arena.specs.Reach.{IsTested}
use Rattle.ms_diagram.specs.inner.Examples.{own_bit}

-- the leaf is the bit
pub own_bit-leaf : (bits : Bits) → leaf_of own_bit (Inner 0) bits ≡ (if bits 0 then 1 else 0)
unfolding leaf_of
own_bit-leaf bits = by (bits 0)
  where
    by : (bit : Bool) → leaf_number (if bit then Leaf 1 else Leaf 0) ≡ (if bit then 1 else 0)
    by true = refl
    by false = refl

-- and so it is never 2
pub never_two : (bits : Bits) → leaf_of own_bit (Inner 0) bits ≢ 2
never_two bits is = by (bits 0) (sym (own_bit-leaf bits) ∙ is)
  where
    leaf : Bool → ℕ
    leaf bit = if bit then 1 else 0

    by : (bit : Bool) → leaf bit ≡ 2 → ⊥
    by true same = omega (arith, same)
    by false same = omega (arith, same)

-- there is no other node
pub own_node : (place : ℕ) (node : Node) → slice_get own_bit place ≡ Some node → record { var = 0; low = Leaf 0; high = Leaf 1 } ≡ node
own_node zero node held = same_Some (record { var = 0; low = Leaf 0; high = Leaf 1 }) node held
own_node (suc place) node held = absurd (none-some node held)

-- no other variable is tested
pub tests_first : (root : Ref) (var : ℕ) → IsTested own_bit root var → var ≡ 0
tests_first root var (zero, node, reaches, held, is) = sym is ∙ ap (λ (n : Node). n.var) (sym (same_Some (record { var = 0; low = Leaf 0; high = Leaf 1 }) node held))
tests_first root var (suc place, node, reaches, held, is) = absurd (none-some node held)
