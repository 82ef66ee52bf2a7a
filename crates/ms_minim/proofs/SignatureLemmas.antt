-- Classes that are split by where their states lead among chosen classes stay classes that never split equal residuals.
use Rattle.std.proofs.Common.{◌≡◌, ℕ, ◌+◌, ◌<◌, inl, inr, ⊎_elim, List, [], ◌∷◌, ◌++◌, length, length-append, slice_get, slice_index, Some, refl, sym, ap, subst, ◌∙◌, arith}
use Rattle.std.specs.Option.{option_map}
use Rattle.std.proofs.lemmas.Bool.{cases_eq}
use Rattle.std.proofs.lemmas.Option.{slice_get_within, same_Some, slice_get-map}
use Rattle.ms_arena.specs.declared.node.Ref.TheVariants.{Leaf}
use Rattle.ms_arena.specs.Diagram.{Bits, leaf_of}
use Rattle.ms_arena.proofs.Appending.{Extends-further, slice_get-extends, IsValid-extends, leaf_of-extends}
use Rattle.ms_arena.proofs.Canonicity.{same_reference}
use Rattle.ms_arena.proofs.Lists.{slice_get-held, slice_get-pushed}
use Rattle.ms_arena.proofs.Paths.{leaf_of-leaf}
use Rattle.ms_diagram.specs.Numbering.{IsNumbering}
use Rattle.ms_minim.specs.SignReading.{IsRead}
use Rattle.ms_logic_words.specs.declared.sign.Sign.{Sign}
use Rattle.ms_logic_words.specs.Content.{Content}
use Rattle.ms_minim.specs.declared.signatures.Seen.{Seen}
use Rattle.ms_minim.specs.inner.Marks.{IsMarkOf, pair_of}
use Rattle.ms_minim.specs.inner.Partition.{IsPartition, LeadAlike, next_by}
use Rattle.ms_minim.specs.inner.Predecessors.{AreBelow, ArePredecessors}
use Rattle.ms_logic_words.specs.Residual.{HaveEqualResiduals}
use Rattle.ms_minim.specs.inner.Grouping.{AreCovered, AreGrouped, AreLabels, AreListed, AreSplitters, IsDue, IsLabel, IsLaterSeen, IsMoved, IsNewClass, IsSeen, NeverSplits, through}
use Rattle.ms_minim.proofs.GroupingLemmas.{due_or_not}
use Rattle.ms_minim.proofs.ResidualLemmas.{next_by-within, residuals_next}

-- the number of the class of a state
pub through_at : (splitters classes : List ℕ) (state class : ℕ) → slice_get classes state ≡ Some class → slice_get (through splitters classes) state ≡ Some (slice_index splitters class)
through_at splitters classes state class held = slice_get-map (slice_index splitters) classes state ∙ ap (option_map (slice_index splitters)) held

-- a class with a mark has one label
pub one_label : (keys : List (ℕ × ℕ)) (first : ℕ) → IsNumbering keys → (class mark one other : ℕ) → IsLabel keys first class mark one → IsLabel keys first class mark other → one ≡ other
one_label keys first numbering class mark one other left right = ⊎_elim
    (λ own. ⊎_elim
    (λ also. own.1 ∙ sym also.1)
    (λ split. absurd (split.leads own.0))
    right)
    (λ split. ⊎_elim
    (λ own. absurd (split.leads own.0))
    (λ also. split.label_is ∙ ap (λ (n : ℕ). first + n) (numbering.no_repeats split.place also.place (class, mark) split.key also.key) ∙ sym also.label_is)
    right)
    left

-- each label is that of a class or of a key
pub label_below : (keys : List (ℕ × ℕ)) (first class mark label : ℕ) → IsLabel keys first class mark label → class < first → label < first + length keys
label_below keys first class mark label is less = ⊎_elim
    (λ own. let same = own.1 in omega (arith, same, less))
    (λ split. (let same = split.label_is in let within = slice_get_within keys split.place (class, mark) split.key in omega (arith, same, within)))
    is

module _ (early late : Seen) (seen : IsSeen early) (later : IsLaterSeen early late) where
  pub IsMarkOf-later : (content : Content Sign) (classes : List ℕ) (state mark : ℕ) → IsMarkOf early.scratch.nodes early.marks content classes state mark
      → IsMarkOf late.scratch.nodes late.marks content classes state mark
  IsMarkOf-later content classes state mark is = record {
    reference = is.reference;
    number = slice_get-extends early.marks late.marks later.marks mark (pair_of is.reference) is.number;
    valid = IsValid-extends early.scratch.nodes late.scratch.nodes later.nodes is.reference is.valid;
    leads = λ bits. is.leads bits ∙ ap Some (sym (leaf_of-extends early.scratch.nodes late.scratch.nodes later.nodes seen.store.ordered is.reference bits is.valid));
  }

  IsLabel-later : (class mark label : ℕ) → IsLabel early.keys early.first class mark label → IsLabel late.keys late.first class mark label
  IsLabel-later class mark label is = ⊎_elim (λ own. inl own)
      (λ split. inr (record {
        leads = split.leads;
        place = split.place;
        label_is = split.label_is ∙ ap (λ (n : ℕ). n + split.place) (sym later.first);
        key = slice_get-extends early.keys late.keys later.keys split.place (class, mark) split.key;
      })) is

  pub IsNewClass-later : (content : Content Sign) (classes splitters : List ℕ) (state label : ℕ) → IsNewClass early content classes splitters state label → IsNewClass late content classes splitters state label
  IsNewClass-later content classes splitters state label is = record {
    class = is.class;
    class_is = is.class_is;
    mark = is.mark;
    mark_is = IsMarkOf-later content (through splitters classes) state is.mark is.mark_is;
    labelled = IsLabel-later is.class is.mark label is.labelled;
  }

  -- one label more
  pub AreLabels-more : (content : Content Sign) (classes splitters : List ℕ) (due : List (ℕ × ℕ)) (labels : List ℕ) (done : ℕ) → AreLabels early content classes splitters due labels done
      → (pair : ℕ × ℕ) (label : ℕ) → slice_get due done ≡ Some pair → IsNewClass late content classes splitters pair.0 label
      → AreLabels late content classes splitters due (labels ++ label ∷ []) (done + 1)
  AreLabels-more content classes splitters due labels done were pair label there is = record {
    count = (let count = were.count in let longer = length-append labels (label ∷ []) in omega (arith, count, longer));
    labelled = λ place found other held at. ⊎_elim
        (λ before. IsNewClass-later content classes splitters other.0 found (were.labelled place found other before at))
        (λ last.
        let own : place ≡ done = last.0 ∙ were.count in
        let same : pair ≡ other = same_Some pair other (sym there ∙ ap (slice_get due) (sym own) ∙ at) in
        subst (λ (p : ℕ × ℕ). IsNewClass late content classes splitters p.0 found) same (subst (IsNewClass late content classes splitters pair.0) last.1 is))
        (slice_get-pushed labels label place found held);
  }

pub IsLaterSeen-then : (one two three : Seen) → IsLaterSeen one two → IsLaterSeen two three → IsLaterSeen one three
IsLaterSeen-then one two three left right = record {
  nodes = Extends-further one.scratch.nodes two.scratch.nodes three.scratch.nodes left.nodes right.nodes;
  marks = Extends-further one.marks two.marks three.marks left.marks right.marks;
  keys = Extends-further one.keys two.keys three.keys left.keys right.keys;
  first = right.first ∙ left.first;
}

module _ (content : Content Sign) (automaton : IsRead content) (classes splitters chosen : List ℕ) (members : List (List ℕ)) (grouped : AreGrouped content classes members)
    (are_splitters : AreSplitters chosen splitters) (predecessors : List (List ℕ)) (are : ArePredecessors content predecessors) (due : List (ℕ × ℕ))
    (covered : AreCovered classes predecessors chosen due) (seen : Seen) (seen_is : IsSeen seen) (labels : List ℕ)
    (labelled : AreLabels seen content classes splitters due labels (length due)) (moved : List ℕ) (late_members : List (List ℕ))
    (is_moved : IsMoved classes moved late_members due labels (length due)) where
  class_of : (state : ℕ) → state < length content.states → (class : ℕ) × (slice_get classes state ≡ Some class)
  class_of state within = let all = grouped.all in slice_get-held classes state (omega (arith, within, all))

  -- a state that is not due leads to no chosen class
  leads_to_none : (state : ℕ) → state < length content.states → (IsDue due state → ⊥) → (bits : Bits) → slice_get (through splitters classes) (next_by content state bits) ≡ Some 0
  leads_to_none state within not_due bits =
      let next = next_by content state bits in
      let class = class_of next (next_by-within content automaton.ordered automaton.closed state within bits) in
      through_at splitters classes next class.0 class.1
      ∙ ap Some (⊎_elim
      (λ none. none)
      (λ some. absurd (not_due (covered next class.0 state class.1 (are_splitters class.0 some) (are.listed state within bits))))
      (cases_eq (slice_index splitters class.0) 0))

  -- each state has its new class, whether it was due or not
  new_class : (state : ℕ) → state < length content.states → (label : ℕ) × (slice_get moved state ≡ Some label) × IsNewClass seen content classes splitters state label
  new_class state within = ⊎_elim
      (λ given.
      let count = labelled.count in
      let less = slice_get_within due given.place given.pair given.there in
      let held = slice_get-held labels given.place (omega (arith, less, count)) in
      (held.0, given.given ∙ held.1, subst (λ s. IsNewClass seen content classes splitters s held.0) given.own (labelled.labelled given.place held.0 given.pair held.1 given.there)))
      (λ left. ⊎_elim
      (λ is_due. absurd (left.none is_due.place is_due.pair (slice_get_within due is_due.place is_due.pair is_due.there) is_due.there is_due.own))
      (λ not_due.
      let class = class_of state within in (
        class.0,
        left.same ∙ class.1,
        record {
          class = class.0;
          class_is = class.1;
          mark = 0;
          mark_is = record {
            reference = Leaf 0;
            number = seen_is.none;
            valid = tt;
            leads = λ bits. leads_to_none state within not_due bits ∙ ap Some (sym (leaf_of-leaf seen.scratch.nodes bits 0));
          };
          labelled = inl (refl, refl);
        },
      ))
      (due_or_not due state))
      (is_moved.either state)

  lead_alike : (one other : ℕ) → one < length content.states → other < length content.states → HaveEqualResiduals content one other → LeadAlike content (through splitters classes) one other
  lead_alike one other in_one in_other equal bits =
      slice_get-map (slice_index splitters) classes (next_by content one bits)
      ∙ ap (option_map (slice_index splitters)) (grouped.kept (next_by content one bits) (next_by content other bits)
      (next_by-within content automaton.ordered automaton.closed one in_one bits) (next_by-within content automaton.ordered automaton.closed other in_other bits)
      (residuals_next content automaton.ordered automaton.closed one other in_one in_other equal bits))
      ∙ sym (slice_get-map (slice_index splitters) classes (next_by content other bits))

  -- states with equal residuals have one mark
  one_mark : (one other first second : ℕ) → LeadAlike content (through splitters classes) one other → IsMarkOf seen.scratch.nodes seen.marks content (through splitters classes) one first
      → IsMarkOf seen.scratch.nodes seen.marks content (through splitters classes) other second → first ≡ second
  one_mark one other first second alike is also =
      let same : is.reference ≡ also.reference = same_reference seen.scratch.nodes seen_is.store.ordered seen_is.store.reduced is.reference also.reference is.valid also.valid
      (λ bits. same_Some (leaf_of seen.scratch.nodes is.reference bits) (leaf_of seen.scratch.nodes also.reference bits) (sym (is.leads bits) ∙ alike bits ∙ also.leads bits)) in
      seen_is.numbering.no_repeats first second (pair_of also.reference) (is.number ∙ ap (λ r. Some (pair_of r)) same) also.number

  NeverSplits-moved : NeverSplits content moved
  NeverSplits-moved one other in_one in_other equal =
      let first = new_class one in_one in
      let second = new_class other in_other in
      let class_is : first.2.class ≡ second.2.class = same_Some first.2.class second.2.class (sym first.2.class_is ∙ grouped.kept one other in_one in_other equal ∙ second.2.class_is) in
      let mark_is : first.2.mark ≡ second.2.mark = one_mark one other first.2.mark second.2.mark (lead_alike one other in_one in_other equal) first.2.mark_is second.2.mark_is in
      let label_first = subst (λ c. IsLabel seen.keys seen.first c second.2.mark first.0) class_is (subst (λ m. IsLabel seen.keys seen.first first.2.class m first.0) mark_is first.2.labelled) in
      first.1 ∙ ap Some (one_label seen.keys seen.first seen_is.keys second.2.class second.2.mark first.0 second.0 label_first second.2.labelled) ∙ sym second.1

  pub AreGrouped-moved : AreBelow (length content.states) late_members → AreGrouped content moved late_members
  AreGrouped-moved below = record {
    all = is_moved.count ∙ grouped.all;
    kept = NeverSplits-moved;
    listed = is_moved.listed;
    below = below;
  }

-- so are those of a partition
pub AreGrouped-partition : (content : Content Sign) (classes known : List ℕ) (members : List (List ℕ)) → IsPartition content classes known → AreListed classes members → AreBelow (length classes) members
    → AreGrouped content classes members
AreGrouped-partition content classes known members partition listed below = record {
  all = partition.all;
  kept = partition.kept;
  listed = listed;
  below = subst (λ n. AreBelow n members) partition.all below;
}
