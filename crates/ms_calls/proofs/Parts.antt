-- Starts lead to no more references than there are states and nodes.
use Rattle.std.proofs.Common.{◌≡◌, ℕ, ◌+◌, ◌<◌, Bool, false, List, [], length, refl, sym, ap, subst, ◌∙◌, arith}
use Rattle.ms_arena.specs.declared.node.Ref.{Ref}
use Rattle.ms_arena.specs.declared.node.Ref.TheVariants.{Leaf, Inner}
use Rattle.ms_arena.specs.Diagram.{Bits, IsValid, leaf_of}
use Rattle.ms_arena.proofs.Lists.{slice_get-held}
use Rattle.ms_arena.proofs.Paths.{leaf_of-leaf}
use Rattle.ms_minim.specs.SignReading.{IsRead}
use Rattle.ms_dfa.proofs.OwnMeaningLemmas.{last_within}
use Rattle.ms_logic.specs.declared.mode.Order.{Order}
use Rattle.ms_logic.specs.Assignment.{Variable}
use Rattle.ms_logic_measures.specs.CallMeasures.{IsNumberOf, LeaveSame}
use Rattle.ms_logic_measures.specs.FullContent.{part_count}
use Rattle.ms_logic_measures.specs.Starts.{IsStartOver, Start, left_by, narrowed, next_at, part_of_letter, some_truth_values, state_at, whole_word, with_free_bits}
use Rattle.ms_logic_starts.specs.AtLeast.{IsAtLeastNumber, IsEquivalence, IsLabelling}
use Rattle.ms_logic_starts.proofs.AtLeastLemmas.{at_most_labels}
use Rattle.ms_logic_starts.proofs.LeftLemmas.{left_after}
use Rattle.ms_logic_words.specs.Content.{Content, IsFollowed, NamesPart, is_in_letters, is_truth_value}
use Rattle.ms_logic_words.specs.declared.sign.Sign.{Sign}
use Rattle.ms_product.proofs.WidenedLemmas.{followed}
use Rattle.ms_calls.specs.Fewest.{ReachedPartsAreParts}
use Rattle.ms_calls.proofs.Own.{as_read, distinct}

-- to leave the same of a content is an equivalence
pub leave_same : {S : Type 0} (content : Content S) (variables : List Variable) → IsEquivalence (LeaveSame content variables)
leave_same content variables = record { symmetric = λ one other same rest. sym (same rest); transitive = λ one two three first second rest. first rest ∙ second rest }

-- an exact count is one from below
pub at_least : {A : Type 0} (AreAlike : A → A → Type 0) (IsItem : A → Type 0) (n : ℕ) → IsNumberOf AreAlike IsItem n → IsAtLeastNumber AreAlike IsItem n
at_least AreAlike IsItem n counted = record { chosen = counted.chosen; items = counted.items; different = counted.different; count = (let is = counted.count in omega (arith, is)) }

module _ (content : Content Sign) (is : IsRead content) where
  -- a number for each state and each node
  pub number_of : Ref → ℕ
  number_of (Inner place) = place
  number_of (Leaf state) = length content.nodes + state

  number_below : (reference : Ref) → NamesPart content reference → number_of reference < part_count content
  unfolding number_of
  number_below (Inner place) named = omega (arith, named)
  number_below (Leaf state) named = omega (arith, named)

  one_part : (one other : Ref) → NamesPart content one → NamesPart content other → number_of one ≡ number_of other → one ≡ other
  unfolding number_of
  one_part (Inner place) (Inner other) named also same = ap Inner same
  one_part (Inner place) (Leaf state) named also same = absurd (omega (arith, named, same))
  one_part (Leaf state) (Inner place) named also same = absurd (omega (arith, also, same))
  one_part (Leaf state) (Leaf other) named also same = ap Leaf (omega (arith, same))

  -- the part that a start leaves
  pub record IsPart (start : Start) (number zero : ℕ) : Type 0 where
    pub part : Ref
    pub named : NamesPart content part
    pub is_number : number ≡ number_of part
    pub leaves : (rest : Bits) → left_by content content.variables start rest ≡ leaf_of content.nodes part rest

  named_by : (root : Ref) (has_bit : Order → Bool) → IsFollowed content has_bit root → (part : Ref) → IsValid content.nodes part → (bits : Bits → Bits)
      → ((rest : Bits) → leaf_of content.nodes root (bits rest) ≡ leaf_of content.nodes part rest) → NamesPart content part
  named_by root has_bit is_followed (Inner place) valid bits same = valid
  named_by root has_bit is_followed (Leaf state) valid bits same =
      let none : Bits = λ place. false in
      subst (λ n. n < length content.states) (same none ∙ leaf_of-leaf content.nodes none state) (is_followed.states (bits none))

  part_of : (start : Start) → IsStartOver content.variables start → (number : ℕ) × (number < part_count content) × IsPart start number 0
  part_of (some_truth_values values) over =
      let start = is.closed.start in
      let left = left_after is_truth_value content.variables (distinct content is) content.nodes is.ordered content.start start.valid start.tests values in
      let named = named_by content.start is_truth_value start left.2 left.3.valid (λ rest. with_free_bits is_truth_value content.variables values content.variables rest) left.4 in
      (number_of left.2, number_below left.2 named, record { part = left.2; named = named; is_number = refl; leaves = left.4 })
  part_of (whole_word word) over =
      let state = state_at content content.variables word in
      let within = last_within content is.closed (narrowed content.variables word content.variables) in
      (number_of (Leaf state), number_below (Leaf state) within, record { part = Leaf state; named = within; is_number = refl; leaves = λ rest. sym (leaf_of-leaf content.nodes rest state) })
  part_of (part_of_letter word bits) over =
      let at = state_at content content.variables word in
      let held = slice_get-held content.states at (last_within content is.closed (narrowed content.variables word content.variables)) in
      let next = followed content [] is.closed at held.0 held.1 in
      let left = left_after is_in_letters content.variables (distinct content is) content.nodes is.ordered held.0.next next.valid next.tests bits in
      let own : Bits → Bits = λ rest. with_free_bits is_in_letters content.variables bits content.variables rest in
      let named = named_by held.0.next is_in_letters next left.2 left.3.valid own left.4 in
      (number_of left.2, number_below left.2 named, record { part = left.2; named = named; is_number = refl; leaves = λ rest. ap (λ found. next_at content found (own rest)) held.1 ∙ left.4 rest })

  parts_are_labels : IsLabelling (LeaveSame content content.variables) (IsStartOver content.variables) IsPart (part_count content) 1
  parts_are_labels = record {
    labelled = λ start over. (let part = part_of start over in (part.0, 0, part.1, omega arith, part.2));
    alike = λ one other is_one is_other number zero first second rest.
        first.leaves rest
        ∙ ap (λ (part : Ref). leaf_of content.nodes part rest) (one_part first.part second.part first.named second.named (sym first.is_number ∙ second.is_number))
        ∙ sym (second.leaves rest);
  }

pub reached_parts_are_parts : ReachedPartsAreParts
reached_parts_are_parts content automaton n counted =
    let is = as_read content automaton in
    let few = at_most_labels (LeaveSame content content.variables) (IsStartOver content.variables) (IsPart content is) (part_count content) 1 n (parts_are_labels content is)
    (at_least (LeaveSame content content.variables) (IsStartOver content.variables) n counted) in
    omega (arith, few)
