-- Walks of diagrams that are alike go over alike nodes and related leaves; and each leaf of a diagram is walked over.
use Rattle.std.proofs.Common.{◌≡◌, ℕ, zero, suc, ◌≤◌, Bool, true, false, ◌==◌, List, [], ◌∷◌, ◌++◌, length, slice_get, Some, refl, sym, subst, ◌∙◌, inl, inr, arith}
use Rattle.std.specs.List.{flat_map}
use Rattle.std.proofs.lemmas.Bool.{eq-eqb}
use Rattle.std.proofs.lemmas.List.Folds.{list_any-append}
use Rattle.std.proofs.lemmas.Option.{same_Some, none-some}
use Rattle.ms_arena.specs.declared.node.Ref.{Ref}
use Rattle.ms_arena.specs.declared.node.Ref.TheVariants.{Leaf, Inner}
use Rattle.ms_arena.specs.declared.node.Node.{Node}
use Rattle.ms_arena.specs.Diagram.{Bits, leaf_of, IsBefore, IsOrdered}
use Rattle.ms_arena.specs.Leaves.{leaves_within}
use Rattle.ms_arena.proofs.Canonicity.{end_for, IsBefore-end_for}
use Rattle.ms_arena.proofs.Lists.{slice_get-held}
use Rattle.ms_arena.proofs.Paths.{IsBefore-later, leaf_of-leaf, leaf_of-node}
use Rattle.ms_logic_words.specs.Canonical.{nodes_within}
use Rattle.ms_logic.specs.FiniteSet.{is_member, IsMember}
use Rattle.ms_logic.proofs.Members.{either_true}
use Rattle.ms_minim_canonical.specs.inner.Renumbering.{ArePaired}
use Rattle.ms_minim_canonical.proofs.Paired.{paired-append}
use Rattle.ms_minim_canonical.proofs.ShapeLemmas.{AreAlike, AreAlikePlaces, AreComparable, one_shape}

-- a leaf is walked over alone
leaves-leaf : (nodes : List Node) (steps value : ℕ) → leaves_within nodes steps (Leaf value) ≡ value ∷ []
leaves-leaf nodes zero value = refl
leaves-leaf nodes (suc steps) value = refl

module _ (first second : List Node) (R : ℕ → ℕ → Type 0) (are : AreComparable first second R) where
  pub paired-leaves : (count bound : ℕ) (one other : Ref) → IsBefore count one → count ≤ length first → IsBefore bound other → bound ≤ length second
      → AreAlike first second R one other → ArePaired R (leaves_within first count one) (leaves_within second bound other)
  paired-leaves count bound (Leaf value) (Leaf number) before within before_too within_too alike =
      rw (leaves-leaf first count value, leaves-leaf second bound number) (one_shape first second R are (Leaf value) (Leaf number) tt tt alike, tt)
  paired-leaves count bound (Leaf value) (Inner place) before within before_too within_too alike =
      absurd (one_shape first second R are (Leaf value) (Inner place) tt (omega arith) alike)
  paired-leaves count bound (Inner place) (Leaf number) before within before_too within_too alike =
      absurd (one_shape first second R are (Inner place) (Leaf number) (omega arith) tt alike)
  paired-leaves zero bound (Inner one) (Inner other) before within before_too within_too alike = absurd (omega arith)
  paired-leaves (suc count) zero (Inner one) (Inner other) before within before_too within_too alike = absurd (omega arith)
  paired-leaves (suc count) (suc bound) (Inner one) (Inner other) before within before_too within_too alike =
      let shape = one_shape first second R are (Inner one) (Inner other) (omega arith) (omega arith) alike in
      let low = paired-leaves count bound shape.left.low shape.right.low
      (IsBefore-later one count shape.left.low (omega arith) (are.ordered.earlier_low one shape.left shape.left_is)) (omega arith)
      (IsBefore-later other bound shape.right.low (omega arith) (are.ordered_too.earlier_low other shape.right shape.right_is)) (omega arith) shape.low in
      let high = paired-leaves count bound shape.left.high shape.right.high
      (IsBefore-later one count shape.left.high (omega arith) (are.ordered.earlier_high one shape.left shape.left_is)) (omega arith)
      (IsBefore-later other bound shape.right.high (omega arith) (are.ordered_too.earlier_high other shape.right shape.right_is)) (omega arith) shape.high in
      rw (shape.left_is, shape.right_is)
      (paired-append R (leaves_within first count shape.left.low) (leaves_within second bound shape.right.low)
      (leaves_within first count shape.left.high) (leaves_within second bound shape.right.high) low high)

  pub paired-nodes : (count bound : ℕ) (one other : Ref) → IsBefore count one → count ≤ length first → IsBefore bound other → bound ≤ length second
      → AreAlike first second R one other → ArePaired (AreAlikePlaces first second R) (nodes_within count first one) (nodes_within bound second other)
  paired-nodes count bound (Leaf value) (Leaf number) before within before_too within_too alike = tt
  paired-nodes count bound (Leaf value) (Inner place) before within before_too within_too alike =
      absurd (one_shape first second R are (Leaf value) (Inner place) tt (omega arith) alike)
  paired-nodes count bound (Inner place) (Leaf number) before within before_too within_too alike =
      absurd (one_shape first second R are (Inner place) (Leaf number) (omega arith) tt alike)
  paired-nodes zero bound (Inner one) (Inner other) before within before_too within_too alike = absurd (omega arith)
  paired-nodes (suc count) zero (Inner one) (Inner other) before within before_too within_too alike = absurd (omega arith)
  paired-nodes (suc count) (suc bound) (Inner one) (Inner other) before within before_too within_too alike =
      let shape = one_shape first second R are (Inner one) (Inner other) (omega arith) (omega arith) alike in
      let low = paired-nodes count bound shape.left.low shape.right.low
      (IsBefore-later one count shape.left.low (omega arith) (are.ordered.earlier_low one shape.left shape.left_is)) (omega arith)
      (IsBefore-later other bound shape.right.low (omega arith) (are.ordered_too.earlier_low other shape.right shape.right_is)) (omega arith) shape.low in
      let high = paired-nodes count bound shape.left.high shape.right.high
      (IsBefore-later one count shape.left.high (omega arith) (are.ordered.earlier_high one shape.left shape.left_is)) (omega arith)
      (IsBefore-later other bound shape.right.high (omega arith) (are.ordered_too.earlier_high other shape.right shape.right_is)) (omega arith) shape.high in
      let own : AreAlikePlaces first second R one other = record { alike = alike; within = omega arith; within_too = omega arith } in
      rw (shape.left_is, shape.right_is)
      (paired-append (AreAlikePlaces first second R)
      (nodes_within count first shape.left.low ++ nodes_within count first shape.left.high) (nodes_within bound second shape.right.low ++ nodes_within bound second shape.right.high)
      (one ∷ []) (other ∷ [])
      (paired-append (AreAlikePlaces first second R) (nodes_within count first shape.left.low) (nodes_within bound second shape.right.low)
      (nodes_within count first shape.left.high) (nodes_within bound second shape.right.high) low high)
      (own, tt))

-- a number in one of two lists is in both together
pub member-left : (xs ys : List ℕ) (n : ℕ) → IsMember n xs → IsMember n (xs ++ ys)
member-left xs ys n member = list_any-append (λ m. m == n) xs ys ∙ (either_true (is_member n xs) (is_member n ys)).1 (inl member)

pub member-right : (xs ys : List ℕ) (n : ℕ) → IsMember n ys → IsMember n (xs ++ ys)
member-right xs ys n member = list_any-append (λ m. m == n) xs ys ∙ (either_true (is_member n xs) (is_member n ys)).1 (inr member)

-- each leaf is walked over
pub leaf_member : (nodes : List Node) → IsOrdered nodes → (bits : Bits) (count : ℕ) (reference : Ref) → IsBefore count reference → count ≤ length nodes
    → IsMember (leaf_of nodes reference bits) (leaves_within nodes count reference)
leaf_member nodes ordered bits count (Leaf value) before within =
    rw (leaves-leaf nodes count value, leaf_of-leaf nodes bits value) ((either_true (value == value) false).1 (inl (eq-eqb value value refl)))
leaf_member nodes ordered bits zero (Inner place) before within = absurd (omega arith)
leaf_member nodes ordered bits (suc count) (Inner place) before within =
    let held = slice_get-held nodes place (omega arith) in
    let ends = λ (bit : Bool). leaf_member nodes ordered bits count (end_for held.0 bit)
    (IsBefore-later place count (end_for held.0 bit) (omega arith) (IsBefore-end_for nodes ordered place held.0 bit held.1)) (omega arith) in
    subst (λ n. IsMember n (leaves_within nodes (suc count) (Inner place))) (sym (leaf_of-node nodes ordered bits place held.0 held.1))
    (rw (held.1) (by held.0 (bits held.0.var) (ends (bits held.0.var))))
  where
    by : (node : Node) (bit : Bool) → IsMember (leaf_of nodes (end_for node bit) bits) (leaves_within nodes count (end_for node bit))
        → IsMember (leaf_of nodes (end_for node bit) bits) (leaves_within nodes count node.low ++ leaves_within nodes count node.high)
    by node true member = member-right (leaves_within nodes count node.low) (leaves_within nodes count node.high) (leaf_of nodes node.high bits) member
    by node false member = member-left (leaves_within nodes count node.low) (leaves_within nodes count node.high) (leaf_of nodes node.low bits) member

-- a number of the list of an item is one of all lists
pub flat_map-member : {X : Type 0} (f : X → List ℕ) (xs : List X) (place : ℕ) (x : X) (n : ℕ) → slice_get xs place ≡ Some x → IsMember n (f x) → IsMember n (flat_map f xs)
flat_map-member f [] place x n held member = absurd (none-some x held)
flat_map-member f (first ∷ xs) zero x n held member =
    member-left (f first) (flat_map f xs) n (subst (λ y. IsMember n (f y)) (sym (same_Some first x held)) member)
flat_map-member f (first ∷ xs) (suc place) x n held member = member-right (f first) (flat_map f xs) n (flat_map-member f xs place x n held member)
