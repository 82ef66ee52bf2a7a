-- States have equal marks exactly where they lead alike, or have one sign.
use Rattle.std.proofs.Common.{◌≡◌, ℕ, zero, suc, ◌+◌, ◌<◌, List, [], ◌∷◌, ◌++◌, length, length-append, slice_get, Some, IfSome, ⊎_elim, refl, sym, ap, subst, ◌∙◌, arith}
use Rattle.std.proofs.lemmas.Option.{same_Some}
use Rattle.ms_arena.specs.declared.node.Ref.{Ref}
use Rattle.ms_arena.specs.declared.node.Ref.TheVariants.{Leaf, Inner}
use Rattle.ms_arena.specs.declared.node.Node.{Node}
use Rattle.ms_arena.specs.Diagram.{Bits, leaf_of, IsValid}
use Rattle.ms_arena.specs.Target.{Extends, Meets}
use Rattle.ms_arena.proofs.Appending.{slice_get-extends, IsValid-extends, leaf_of-extends}
use Rattle.ms_arena.proofs.Canonicity.{same_reference}
use Rattle.ms_arena.proofs.Lists.{slice_get-held, slice_get-pushed}
use Rattle.ms_diagram.specs.Numbering.{IsNumbering}
use Rattle.ms_diagram.specs.Relabel.{MappedLeaf}
use Rattle.ms_diagram.specs.Store.{IsStore}
use Rattle.ms_logic_words.specs.declared.sign.Sign.{Sign}
use Rattle.ms_logic_words.specs.declared.sign.Sign.TheVariants.{Yes, No, Undefined, Outside}
use Rattle.ms_logic_words.specs.Content.{StateOf, Content}
use Rattle.ms_minim.specs.inner.Partition.{AreMarks, behind, next_by}
use Rattle.ms_minim.specs.inner.Marks.{pair_of, mark_of_sign, IsMarkOf, MarksSoFar}

-- a pair stands for one reference
pair_of-one : (one other : Ref) → pair_of one ≡ pair_of other → one ≡ other
pair_of-one (Leaf value) (Leaf other) same = ap (λ (p : ℕ × ℕ). Leaf p.1) same
pair_of-one (Inner place) (Inner other) same = ap (λ (p : ℕ × ℕ). Inner p.1) same
pair_of-one (Leaf value) (Inner other) same = let never : 0 ≡ 1 = ap (λ (p : ℕ × ℕ). p.0) same in absurd (omega (arith, never))
pair_of-one (Inner place) (Leaf other) same = let never : 1 ≡ 0 = ap (λ (p : ℕ × ℕ). p.0) same in absurd (omega (arith, never))

-- the reference of the state's diagram leads to the classes of its leaves
pub leads_by : (content : Content Sign) (classes : List ℕ) (state : ℕ) (root : Ref) → state < length content.states
    → IfSome (slice_get content.states state) (λ (found : StateOf Sign). root ≡ found.next) → (bits : Bits) → next_by content state bits ≡ leaf_of content.nodes root bits
leads_by content classes state root within next bits =
    let held = slice_get-held content.states state within in
    let root_is : root ≡ held.0.next = subst (λ found. IfSome found (λ (s : StateOf Sign). root ≡ s.next)) held.1 next in
    ap (λ found. behind content found bits) held.1 ∙ ap (λ r. leaf_of content.nodes r bits) (sym root_is)

-- one mark more
pub MarksSoFar-more : (nodes : List Node) (limit : ℕ) (known : List (ℕ × ℕ)) (content : Content Sign) (classes marks : List ℕ) (done : ℕ) → MarksSoFar nodes limit known content classes marks done
    → (late_nodes : List Node) (late_limit : ℕ) → Extends nodes late_nodes → IsStore late_nodes late_limit → (root reference : Ref) → IsValid late_nodes reference
    → Meets late_nodes (MappedLeaf content.nodes classes root) reference → done < length content.states
    → IfSome (slice_get content.states done) (λ (found : StateOf Sign). root ≡ found.next)
    → (late_known : List (ℕ × ℕ)) (mark : ℕ) → Extends known late_known → IsNumbering late_known → slice_get late_known mark ≡ Some (pair_of reference)
    → MarksSoFar late_nodes late_limit late_known content classes (marks ++ mark ∷ []) (done + 1)
MarksSoFar-more nodes limit known content classes marks done was late_nodes late_limit grows store root reference valid meets within next late_known mark extends numbering number = record {
  store = store;
  numbering = numbering;
  marked = λ state found held. ⊎_elim
      (λ before.
      let is = was.marked state found before in
      record {
        reference = is.reference;
        number = slice_get-extends known late_known extends found (pair_of is.reference) is.number;
        valid = IsValid-extends nodes late_nodes grows is.reference is.valid;
        leads = λ bits. is.leads bits ∙ ap Some (sym (leaf_of-extends nodes late_nodes grows was.store.ordered is.reference bits is.valid));
      })
      (λ last.
      let own : state ≡ done = last.0 ∙ was.count in
      subst (λ s. IsMarkOf late_nodes late_known content classes s found) (sym own) (subst (IsMarkOf late_nodes late_known content classes done) last.1 (record {
        reference = reference;
        number = number;
        valid = valid;
        leads = λ bits. ap (slice_get classes) (leads_by content classes done root within next bits) ∙ meets bits;
      })))
      (slice_get-pushed marks mark state found held);
  count = (let count = was.count in let longer = length-append marks (mark ∷ []) in omega (arith, count, longer));
}

module _ (nodes : List Node) (limit : ℕ) (known : List (ℕ × ℕ)) (content : Content Sign) (classes marks : List ℕ) (done : ℕ)
    (are : MarksSoFar nodes limit known content classes marks done) (all : done ≡ length content.states) where
  mark_of : (state : ℕ) → state < length content.states → (mark : ℕ) × (slice_get marks state ≡ Some mark) × IsMarkOf nodes known content classes state mark
  mark_of state within =
      let count = are.count in
      let held = slice_get-held marks state (omega (arith, within, all, count)) in
      (held.0, held.1, are.marked state held.0 held.1)

  pub AreMarks-all : AreMarks content classes marks
  AreMarks-all = record {
    all = are.count ∙ all;
    alike = λ one other in_one in_other alike.
        let first = mark_of one in_one in
        let second = mark_of other in_other in
        let same : first.2.reference ≡ second.2.reference
        = same_reference nodes are.store.ordered are.store.reduced first.2.reference second.2.reference first.2.valid second.2.valid
        (λ bits. same_Some (leaf_of nodes first.2.reference bits) (leaf_of nodes second.2.reference bits) (sym (first.2.leads bits) ∙ alike bits ∙ second.2.leads bits)) in
        let marks_same : first.0 ≡ second.0
        = are.numbering.no_repeats first.0 second.0 (pair_of second.2.reference) (first.2.number ∙ ap (λ r. Some (pair_of r)) same) second.2.number in
        first.1 ∙ ap Some marks_same ∙ sym second.1;
    apart = λ one other in_one in_other same bits.
        let first = mark_of one in_one in
        let second = mark_of other in_other in
        let marks_same : first.0 ≡ second.0 = same_Some first.0 second.0 (sym first.1 ∙ same ∙ second.1) in
        let reference : first.2.reference ≡ second.2.reference
        = pair_of-one first.2.reference second.2.reference
        (same_Some (pair_of first.2.reference) (pair_of second.2.reference) (sym first.2.number ∙ ap (slice_get known) marks_same ∙ second.2.number)) in
        first.2.leads bits ∙ ap (λ r. Some (leaf_of nodes r bits)) reference ∙ sym (second.2.leads bits);
  }

-- the sign of a mark
sign_of_mark : ℕ → Sign
sign_of_mark zero = Yes
sign_of_mark (suc zero) = No
sign_of_mark (suc (suc zero)) = Undefined
sign_of_mark (suc (suc (suc more))) = Outside

sign_back : (sign : Sign) → sign_of_mark (mark_of_sign sign) ≡ sign
unfolding sign_of_mark
sign_back Yes = refl
sign_back No = refl
sign_back Undefined = refl
sign_back Outside = refl

mark_below : (sign : Sign) → mark_of_sign sign < 4
mark_below Yes = omega arith
mark_below No = omega arith
mark_below Undefined = omega arith
mark_below Outside = omega arith
