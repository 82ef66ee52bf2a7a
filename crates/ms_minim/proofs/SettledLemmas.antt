-- Where each class has its own number, the images lead to the numbers of classes.
use Rattle.std.proofs.Common.{◌≡◌, ℕ, ◌∷◌, ◌++◌, [], List, length, sym, subst, ◌∙◌, ⊎_elim}
use Rattle.std.specs.Prelude.{IsTrue}
use Rattle.ms_arena.specs.declared.node.Ref.{Ref}
use Rattle.ms_arena.specs.declared.node.Node.{Node}
use Rattle.ms_arena.proofs.Lists.{slice_get-pushed}
use Rattle.ms_dfa.specs.declared.state.State.{State}
use Rattle.ms_logic_words.specs.declared.sign.Sign.{Sign}
use Rattle.ms_logic_words.specs.Content.{Content}
use Rattle.ms_dfa_explore.specs.Explored.{Findings, Follows, Leads}
use Rattle.ms_minim.specs.declared.quotient.QuotientTables.{QuotientTables}
use Rattle.ms_minim.specs.inner.Image.{image_of}
use Rattle.ms_minim.specs.inner.Lead.{AreNumbered}
use Rattle.ms_minim.specs.inner.Origin.{IsSeen}
use Rattle.ms_minim.specs.inner.Partition.{IsRoot}
use Rattle.ms_minim.specs.inner.Quotient.{IsQuotient, NumberBehind}
use Rattle.ms_minim.proofs.ImageLemmas.{IsImage-read, Meets-read}
use Rattle.ms_minim.proofs.QuotientLemmas.{Meets-own}

-- the image of a root
pub own_image : (content : Content Sign) (classes members map : List ℕ) (pairs : List (ℕ × ℕ)) → IsQuotient content classes members map pairs → (tables : QuotientTables)
    → AreNumbered content map classes pairs [] tables → IsTrue tables.settled → (root : Ref) → IsRoot content root → IsSeen tables.origins root
    → (list : List Ref) (read : List ℕ) (made : Ref) → list ≡ tables.images.list → read ≡ classes → made ≡ image_of list read root
    → Leads tables.images.store.nodes (NumberBehind content classes pairs root) made
own_image content classes members map pairs quotient tables are settled root is seen list read made list_is read_is made_is = record {
  valid = (IsImage-read content classes tables.origins tables.images are.images root is seen list read made list_is read_is made_is).valid;
  meets = Meets-own content root classes tables.images.store.nodes made
      (Meets-read content classes tables.origins tables.images are.images root is seen quotient.nerode.partition.all list read made list_is read_is made_is) pairs (are.settled settled);
}

-- one state more
pub Follows-more : (nodes : List Node) (findings : Findings) (states : List State) (state : State) (number : ℕ) → length states ≡ number → Leads nodes (findings.steps number) state.next
    → state.sign ≡ findings.sign_of number → Follows nodes findings states → Follows nodes findings (states ++ state ∷ [])
Follows-more nodes findings states state number count leads sign were place held_state held = ⊎_elim
    (λ before. were place held_state before)
    (λ last.
    let at : number ≡ place = sym count ∙ sym last.0 in
    subst (λ n. Leads nodes (findings.steps n) held_state.next × (held_state.sign ≡ findings.sign_of n)) at
    (subst (λ (s : State). Leads nodes (findings.steps number) s.next × (s.sign ≡ findings.sign_of number)) last.1 (leads, sign)))
    (slice_get-pushed states state place held_state held)
