-- The leaves and the nodes that a walk from a reference sees: those of a node's ends, and nodes that come later change nothing.
use Rattle.std.proofs.Common.{◌≡◌, ℕ, zero, suc, ◌<◌, ◌≤◌, List, [], ◌∷◌, ◌++◌, length, slice_get, Some, refl, sym, ap, ◌∙◌, length-append, arith}
use Rattle.std.proofs.lemmas.Option.{slice_get_within}
use Rattle.ms_arena.specs.declared.node.Ref.{Ref}
use Rattle.ms_arena.specs.declared.node.Ref.TheVariants.{Leaf, Inner}
use Rattle.ms_arena.specs.declared.node.Node.{Node}
use Rattle.ms_arena.specs.Diagram.{IsBefore, IsValid, IsOrdered}
use Rattle.ms_arena.specs.Leaves.{leaves_within}
use Rattle.ms_arena.specs.Reach.{Reaches, here, through_low, through_high}
use Rattle.ms_arena.specs.Target.{Extends}
use Rattle.ms_arena.proofs.Appending.{Extends-same, slice_get-extends}
use Rattle.ms_arena.proofs.Lists.{slice_get-held}
use Rattle.ms_arena.proofs.Paths.{IsBefore-later}
use Rattle.ms_logic_words.specs.Canonical.{nodes_within}

abbrev pub leaves_from : List Node → Ref → List ℕ
leaves_from nodes root = leaves_within nodes (length nodes) root

abbrev pub places_from : List Node → Ref → List ℕ
places_from nodes root = nodes_within (length nodes) nodes root

-- a leaf is seen alone
pub leaves-leaf : (nodes : List Node) (steps value : ℕ) → leaves_within nodes steps (Leaf value) ≡ value ∷ []
leaves-leaf nodes zero value = refl
leaves-leaf nodes (suc steps) value = refl

-- what extends a list is no shorter
pub length-extends : {X : Type 0} (old new : List X) → Extends old new → length old ≤ length new
length-extends old new extends = let long = ap length extends.1 in omega (arith, long, length-append old extends.0)

module _ (old new : List Node) (ordered : IsOrdered old) (extends : Extends old new) where
  -- from before a place, more steps than the place in a longer list see the same
  leaves_settled : (count steps : ℕ) (root : Ref) → IsBefore count root → count ≤ length old → count ≤ steps
      → leaves_within new steps root ≡ leaves_within old count root
  leaves_settled count steps (Leaf value) before within enough = leaves-leaf new steps value ∙ sym (leaves-leaf old count value)
  leaves_settled zero steps (Inner place) before within enough = absurd (omega arith)
  leaves_settled (suc count) zero (Inner place) before within enough = absurd (omega arith)
  leaves_settled (suc count) (suc steps) (Inner place) before within enough =
      let held = slice_get-held old place (omega arith) in
      let there = slice_get-extends old new extends place held.0 held.1 in
      let low = leaves_settled count steps held.0.low (IsBefore-later place count held.0.low (omega arith) (ordered.earlier_low place held.0 held.1))
      (omega arith) (omega arith) in
      let high = leaves_settled count steps held.0.high (IsBefore-later place count held.0.high (omega arith) (ordered.earlier_high place held.0 held.1))
      (omega arith) (omega arith) in
      rw (there, held.1) (λ i. low i ++ high i)

  places_settled : (count steps : ℕ) (root : Ref) → IsBefore count root → count ≤ length old → count ≤ steps
      → nodes_within steps new root ≡ nodes_within count old root
  places_settled count steps (Leaf value) before within enough = refl
  places_settled zero steps (Inner place) before within enough = absurd (omega arith)
  places_settled (suc count) zero (Inner place) before within enough = absurd (omega arith)
  places_settled (suc count) (suc steps) (Inner place) before within enough =
      let held = slice_get-held old place (omega arith) in
      let there = slice_get-extends old new extends place held.0 held.1 in
      let low = places_settled count steps held.0.low (IsBefore-later place count held.0.low (omega arith) (ordered.earlier_low place held.0 held.1))
      (omega arith) (omega arith) in
      let high = places_settled count steps held.0.high (IsBefore-later place count held.0.high (omega arith) (ordered.earlier_high place held.0 held.1))
      (omega arith) (omega arith) in
      rw (there, held.1) (λ i. low i ++ high i ++ place ∷ [])

  pub leaves-extends : (root : Ref) → IsValid old root → leaves_from new root ≡ leaves_from old root
  leaves-extends root valid = leaves_settled (length old) (length new) root valid (omega arith) (length-extends old new extends)

  pub places-extends : (root : Ref) → IsValid old root → places_from new root ≡ places_from old root
  places-extends root valid = places_settled (length old) (length new) root valid (omega arith) (length-extends old new extends)

module _ (nodes : List Node) (ordered : IsOrdered nodes) (place : ℕ) (node : Node) (held : slice_get nodes place ≡ Some node) where
  -- behind a node are the leaves of its ends
  pub leaves-node : leaves_from nodes (Inner place) ≡ leaves_from nodes node.low ++ leaves_from nodes node.high
  leaves-node =
      let within : place < length nodes = slice_get_within nodes place node held in
      let same = Extends-same nodes in
      let low = leaves_settled nodes nodes ordered same place (length nodes) node.low (ordered.earlier_low place node held) (omega arith) (omega arith) in
      let high = leaves_settled nodes nodes ordered same place (length nodes) node.high (ordered.earlier_high place node held) (omega arith) (omega arith) in
      leaves_settled nodes nodes ordered same (suc place) (length nodes) (Inner place) (omega arith) within within
      ∙ rw (held) (λ i. sym low i ++ sym high i)

  -- and their nodes and itself
  pub places-node : places_from nodes (Inner place) ≡ places_from nodes node.low ++ places_from nodes node.high ++ place ∷ []
  places-node =
      let within : place < length nodes = slice_get_within nodes place node held in
      let same = Extends-same nodes in
      let low = places_settled nodes nodes ordered same place (length nodes) node.low (ordered.earlier_low place node held) (omega arith) (omega arith) in
      let high = places_settled nodes nodes ordered same place (length nodes) node.high (ordered.earlier_high place node held) (omega arith) (omega arith) in
      places_settled nodes nodes ordered same (suc place) (length nodes) (Inner place) (omega arith) within within
      ∙ rw (held) (λ i. sym low i ++ sym high i ++ place ∷ [])

-- what is reached stays reached
pub reaches-extends : (old new : List Node) → Extends old new → {root : Ref} {goal : ℕ} → Reaches old root goal → Reaches new root goal
reaches-extends old new extends here = here
reaches-extends old new extends (through_low {place} node held path) = through_low node (slice_get-extends old new extends place node held)
    (reaches-extends old new extends path)
reaches-extends old new extends (through_high {place} node held path) = through_high node (slice_get-extends old new extends place node held)
    (reaches-extends old new extends path)
