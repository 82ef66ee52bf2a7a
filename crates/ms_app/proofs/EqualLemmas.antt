-- The derived `==` on nodes and on the states of a file is equality.
use Rattle.std.proofs.Common.{◌≡◌, true, refl, subst}
use Rattle.std.proofs.lemmas.Bool.{and_parts, and_from, false≢true}
use Rattle.std.specs.Bool.{Decides}
use Rattle.ms_arena.specs.declared.node.Node.{Node}
use Rattle.ms_arena.specs.contracts.node.RefPartialEq.TheImpl as of_ref
use Rattle.ms_arena.specs.contracts.node.NodePartialEq.TheImpl as of_node
use Rattle.ms_arena.proofs.Equality.{node_itself, ref_itself, same_node, same_ref}
use Rattle.ms_dfa.specs.declared.plain.FileSign.{FileSign}
use Rattle.ms_dfa.specs.declared.plain.FileSign.TheVariants.{Plus, Minus, Zero, Outside}
use Rattle.ms_dfa.specs.declared.plain.FileState.{FileState}
use Rattle.ms_dfa.specs.contracts.plain.FileSignPartialEq.TheImpl as of_sign
use Rattle.ms_dfa.specs.contracts.plain.FileStatePartialEq.TheImpl as of_state

pub node_decides : (a b : Node) → Decides (of_node.eq-value.it a b) (a ≡ b)
node_decides a b = (same_node a b, λ is. subst (λ c. of_node.eq-value.it a c ≡ true) is (node_itself a))

same_sign : (a b : FileSign) → of_sign.eq-value.it a b ≡ true → a ≡ b
same_sign Plus Plus same = refl
same_sign Minus Minus same = refl
same_sign Zero Zero same = refl
same_sign Plus Minus same = absurd (false≢true same)
same_sign Plus Zero same = absurd (false≢true same)
same_sign Minus Plus same = absurd (false≢true same)
same_sign Minus Zero same = absurd (false≢true same)
same_sign Zero Plus same = absurd (false≢true same)
same_sign Zero Minus same = absurd (false≢true same)
same_sign Outside Outside same = refl
same_sign Plus Outside same = absurd (false≢true same)
same_sign Minus Outside same = absurd (false≢true same)
same_sign Zero Outside same = absurd (false≢true same)
same_sign Outside Plus same = absurd (false≢true same)
same_sign Outside Minus same = absurd (false≢true same)
same_sign Outside Zero same = absurd (false≢true same)

sign_itself : (a : FileSign) → of_sign.eq-value.it a a ≡ true
sign_itself Plus = refl
sign_itself Minus = refl
sign_itself Zero = refl
sign_itself Outside = refl

pub same_state : (a b : FileState) → of_state.eq-value.it a b ≡ true → a ≡ b
same_state a b same =
    let parts = and_parts (of_sign.eq-value.it a.sign b.sign) (of_ref.eq-value.it a.next b.next) same in
    let sign = same_sign a.sign b.sign parts.0 in
    let next = same_ref a.next b.next parts.1 in
    λ i. record { sign = sign i; next = next i }

pub state_decides : (a b : FileState) → Decides (of_state.eq-value.it a b) (a ≡ b)
state_decides a b =
    (same_state a b, λ is. subst (λ c. of_state.eq-value.it a c ≡ true) is (and_from (of_sign.eq-value.it a.sign a.sign) (of_ref.eq-value.it a.next a.next) (sign_itself a.sign) (ref_itself a.next)))
