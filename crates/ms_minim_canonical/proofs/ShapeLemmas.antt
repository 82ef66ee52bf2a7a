-- Two diagrams in ordered and reduced lists of their own, whose leaves are related at all bits, have one shape (Bryant, 1986).
use Rattle.std.proofs.Common.{◌≡◌, ℕ, ◌<◌, ◌⊎◌, inl, inr, Bool, true, false, List, length, slice_get, Some, sym, ap, subst, ◌∙◌, arith}
use Rattle.std.proofs.lemmas.Bool.{cases_order}
use Rattle.std.proofs.lemmas.Option.{same_Some}
use Rattle.ms_arena.specs.declared.node.Ref.{Ref}
use Rattle.ms_arena.specs.declared.node.Ref.TheVariants.{Leaf, Inner}
use Rattle.ms_arena.specs.declared.node.Node.{Node}
use Rattle.ms_arena.specs.Bits.{with_bit}
use Rattle.ms_arena.specs.Diagram.{Bits, leaf_of, IsValid, TestsAbove, IsOrdered, IsReduced}
use Rattle.ms_arena.proofs.BitsLemmas.{AgreeAbove-two_bits}
use Rattle.ms_arena.proofs.Canonicity.{end_for, leaf_of-above, leaf_of-end_for}
use Rattle.ms_arena.proofs.Ends.{end_valid}
use Rattle.ms_arena.proofs.Essential.{never_tested}
use Rattle.ms_arena.proofs.Lists.{slice_get-held}
use Rattle.ms_arena.proofs.Paths.{leaf_of-leaf}
use Rattle.ms_arena.proofs.ReachLemmas.{IsTested-own}
use Rattle.ms_minim_canonical.proofs.FirstSightLemmas.{IsMatching, IsMatching-flip}

-- both lists are ordered and reduced, and each leaf is related to one at most
pub record AreComparable (first second : List Node) (R : ℕ → ℕ → Type 0) : Type 0 where
  pub ordered : IsOrdered first
  pub reduced : IsReduced first
  pub ordered_too : IsOrdered second
  pub reduced_too : IsReduced second
  pub matching : IsMatching R

AreComparable-flip : (first second : List Node) (R : ℕ → ℕ → Type 0) → AreComparable first second R → AreComparable second first (λ j i. R i j)
AreComparable-flip first second R are = record {
  ordered = are.ordered_too;
  reduced = are.reduced_too;
  ordered_too = are.ordered;
  reduced_too = are.reduced;
  matching = IsMatching-flip R are.matching;
}

-- at all bits the leaves are related
abbrev pub AreAlike : List Node → List Node → (ℕ → ℕ → Type 0) → Ref → Ref → Type 0
AreAlike first second R one other = (bits : Bits) → R (leaf_of first one bits) (leaf_of second other bits)

-- two nodes of one variable, whose ends are alike
pub record AreAlikeNodes (first second : List Node) (R : ℕ → ℕ → Type 0) (one other : ℕ) : Type 0 where
  pub left : Node
  pub right : Node
  pub left_is : slice_get first one ≡ Some left
  pub right_is : slice_get second other ≡ Some right
  pub var : left.var ≡ right.var
  pub low : AreAlike first second R left.low right.low
  pub high : AreAlike first second R left.high right.high

-- two related leaves, or two such nodes
abbrev pub HaveOneShape : List Node → List Node → (ℕ → ℕ → Type 0) → Ref → Ref → Type 0
HaveOneShape first second R (Leaf value) (Leaf other) = R value other
HaveOneShape first second R (Leaf value) (Inner place) = ⊥
HaveOneShape first second R (Inner place) (Leaf value) = ⊥
HaveOneShape first second R (Inner one) (Inner other) = AreAlikeNodes first second R one other

-- a node is not alike to a reference that tests later variables, since the bit of its variable makes a difference
never_alike : (first second : List Node) (R : ℕ → ℕ → Type 0) → AreComparable first second R → (place : ℕ) (node : Node) → slice_get first place ≡ Some node
    → (other : Ref) → IsValid second other → TestsAbove second node.var other → AreAlike first second R (Inner place) other → ⊥
never_alike first second R are place node held other valid above alike =
    never_tested first are.ordered are.reduced (Inner place) node.var (λ bits.
    let low = with_bit bits node.var false in
    let high = with_bit bits node.var true in
    let same : leaf_of second other low ≡ leaf_of second other high
    = leaf_of-above second are.ordered_too node.var other low high valid above (AgreeAbove-two_bits node.var node.var bits false true (omega arith)) in
    are.matching.left (leaf_of first (Inner place) low) (leaf_of first (Inner place) high) (leaf_of second other high)
    (subst (R (leaf_of first (Inner place) low)) same (alike low)) (alike high))
    (IsTested-own first place node held)

module _ (first second : List Node) (R : ℕ → ℕ → Type 0) (are : AreComparable first second R) where
  -- ends of alike nodes are alike
  alike_end : (one other : ℕ) (left right : Node) → slice_get first one ≡ Some left → slice_get second other ≡ Some right → left.var ≡ right.var
      → AreAlike first second R (Inner one) (Inner other) → (bit : Bool) → AreAlike first second R (end_for left bit) (end_for right bit)
  alike_end one other left right left_is right_is var alike bit bits =
      let at = with_bit bits left.var bit in
      let own : leaf_of first (Inner one) at ≡ leaf_of first (end_for left bit) bits
      = leaf_of-end_for first are.ordered one left bit bits left_is (end_valid first are.ordered one left left_is bit) in
      let too : leaf_of second (Inner other) at ≡ leaf_of second (end_for right bit) bits
      = ap (λ v. leaf_of second (Inner other) (with_bit bits v bit)) var
      ∙ leaf_of-end_for second are.ordered_too other right bit bits right_is (end_valid second are.ordered_too other right right_is bit) in
      subst (λ n. R n (leaf_of second (end_for right bit) bits)) own (subst (R (leaf_of first (Inner one) at)) too (alike at))

  alike_nodes : (one other : ℕ) (left right : Node) → slice_get first one ≡ Some left → slice_get second other ≡ Some right → one < length first → other < length second
      → AreAlike first second R (Inner one) (Inner other) → (left.var ≡ right.var) ⊎ ((left.var < right.var) ⊎ (right.var < left.var)) → AreAlikeNodes first second R one other
  alike_nodes one other left right left_is right_is within within_too alike (inl var) = record {
    left = left;
    right = right;
    left_is = left_is;
    right_is = right_is;
    var = var;
    low = alike_end one other left right left_is right_is var alike false;
    high = alike_end one other left right left_is right_is var alike true;
  }
  alike_nodes one other left right left_is right_is within within_too alike (inr (inl less)) =
      absurd (never_alike first second R are one left left_is (Inner other) within_too
      (λ node held. let same : right ≡ node = same_Some right node (sym right_is ∙ held) in rw (← same) less) alike)
  alike_nodes one other left right left_is right_is within within_too alike (inr (inr more)) =
      absurd (never_alike second first (λ j i. R i j) (AreComparable-flip first second R are) other right right_is (Inner one) within
      (λ node held. let same : left ≡ node = same_Some left node (sym left_is ∙ held) in rw (← same) more) (λ bits. alike bits))

  pub one_shape : (one other : Ref) → IsValid first one → IsValid second other → AreAlike first second R one other → HaveOneShape first second R one other
  one_shape (Leaf value) (Leaf other) valid valid_too alike =
      let none : Bits = λ var. false in
      subst (λ n. R n other) (leaf_of-leaf first none value) (subst (R (leaf_of first (Leaf value) none)) (leaf_of-leaf second none other) (alike none))
  one_shape (Leaf value) (Inner other) valid valid_too alike =
      let right = slice_get-held second other valid_too in
      never_alike second first (λ j i. R i j) (AreComparable-flip first second R are) other right.0 right.1 (Leaf value) tt tt (λ bits. alike bits)
  one_shape (Inner one) (Leaf other) valid valid_too alike =
      let left = slice_get-held first one valid in never_alike first second R are one left.0 left.1 (Leaf other) tt tt alike
  one_shape (Inner one) (Inner other) valid valid_too alike =
      let left = slice_get-held first one valid in
      let right = slice_get-held second other valid_too in
      alike_nodes one other left.0 right.0 left.1 right.1 valid valid_too alike (cases_order left.0.var right.0.var)

-- places of nodes that are alike
pub record AreAlikePlaces (first second : List Node) (R : ℕ → ℕ → Type 0) (one other : ℕ) : Type 0 where
  pub alike : AreAlike first second R (Inner one) (Inner other)
  pub within : one < length first
  pub within_too : other < length second
