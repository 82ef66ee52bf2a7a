-- The derived `==` on references and on nodes is equality.
use Rattle.std.proofs.Common.{◌≡◌, true, false, ◌&&◌, nat_eq, refl, sym, ap, ◌∙◌, ⊎_elim}
use Rattle.std.proofs.lemmas.Bool.{eqb-true, eq-eqb, and_parts, and_from, false≢true, both_ways, cases_Bool}
use Rattle.std.specs.Cmp.{IsEquivalence}
use Rattle.ms_arena.specs.declared.node.Ref.{Ref}
use Rattle.ms_arena.specs.declared.node.Ref.TheVariants.{Leaf, Inner}
use Rattle.ms_arena.specs.declared.node.Node.{Node}
use Rattle.ms_arena.specs.contracts.node.RefPartialEq.TheImpl as of_ref
use Rattle.ms_arena.specs.contracts.node.NodePartialEq.TheImpl as of_node

-- references that compare equal are equal
pub same_ref : (a b : Ref) → of_ref.eq-value.it a b ≡ true → a ≡ b
same_ref (Leaf a) (Leaf b) same = ap Leaf (eqb-true a b same)
same_ref (Inner a) (Inner b) same = ap Inner (eqb-true a b same)
same_ref (Leaf a) (Inner b) same = absurd (false≢true same)
same_ref (Inner a) (Leaf b) same = absurd (false≢true same)

-- a reference compares equal to itself
pub ref_itself : (a : Ref) → of_ref.eq-value.it a a ≡ true
ref_itself (Leaf a) = eq-eqb a a refl
ref_itself (Inner a) = eq-eqb a a refl

-- nodes that compare equal are equal
pub same_node : (a b : Node) → of_node.eq-value.it a b ≡ true → a ≡ b
same_node a b same =
    let parts = and_parts (nat_eq a.var b.var) (of_ref.eq-value.it a.low b.low && of_ref.eq-value.it a.high b.high) same in
    let ends = and_parts (of_ref.eq-value.it a.low b.low) (of_ref.eq-value.it a.high b.high) parts.1 in
    let var = eqb-true a.var b.var parts.0 in
    let low = same_ref a.low b.low ends.0 in
    let high = same_ref a.high b.high ends.1 in
    λ i. record { var = var i; low = low i; high = high i }

-- a node compares equal to itself
pub node_itself : (a : Node) → of_node.eq-value.it a a ≡ true
node_itself a =
    and_from (nat_eq a.var a.var) (of_ref.eq-value.it a.low a.low && of_ref.eq-value.it a.high a.high) (eq-eqb a.var a.var refl)
    (and_from (of_ref.eq-value.it a.low a.low) (of_ref.eq-value.it a.high a.high) (ref_itself a.low) (ref_itself a.high))

-- so the `==` of references has the laws of an equality
pub ref_laws : IsEquivalence of_ref.eq-value.it
ref_laws = record {
  refl = ref_itself;
  symm = λ a b. ⊎_elim
      (λ equal. let same = same_ref a b equal in ap (λ r. of_ref.eq-value.it r b) same ∙ ap (λ r. of_ref.eq-value.it b r) (sym same))
      (λ differs. differs ∙ sym (⊎_elim (λ equal. absurd (both_ways (of_ref.eq-value.it a b) differs (ap (λ r. of_ref.eq-value.it a r) (same_ref b a equal) ∙ ref_itself a)))
      (λ no. no) (cases_Bool (of_ref.eq-value.it b a))))
      (cases_Bool (of_ref.eq-value.it a b));
  congr = λ a b c equal. ap (λ r. of_ref.eq-value.it r c) (same_ref a b equal);
}

-- nodes that compare unequal differ
pub differing : (one two : Node) → false ≡ of_node.eq-value.it one two → one ≡ two → ⊥
differing one two unequal same = both_ways (of_node.eq-value.it one two) (sym unequal) (ap (λ node. of_node.eq-value.it node two) same ∙ node_itself two)
