-- Starts leave of a content with other numbers what they leave of the content.
use Rattle.std.proofs.Common.{◌≡◌, ℕ, ◌+◌, ◌==◌, zero, suc, Bool, false, if◌then◌else◌, List, [], ◌∷◌, map, slice_get, unwrap_or, Option, Some, None, refl, sym, ap, ap₂, subst, ◌∙◌, arith}
use Rattle.std.specs.Option.{option_and_then, option_map}
use Rattle.std.proofs.lemmas.Option.{none-some, same_Some, slice_get-map}
use Rattle.ms_arena.specs.Diagram.{Bits, leaf_of}
use Rattle.ms_build_parts.proofs.Matching.{over_same}
use Rattle.ms_rename.proofs.LeastLemmas.{last_same}
use Rattle.ms_list.specs.declared.word.Word.{Word}
use Rattle.ms_logic.specs.Assignment.{Variable}
use Rattle.ms_logic.specs.Lists.{Each, IsAmong}
use Rattle.ms_logic.specs.declared.mode.Order.{Order}
use Rattle.ms_logic_measures.specs.CallMeasures.{HasReachedParts, HaveReachedParts, IsNumberOf, LeadToPairs, LeaveSame, LeaveSameOfBoth}
use Rattle.ms_logic_measures.specs.Starts.{IsStartOver, Start, bits_for, first_bit, given_bit, left_by, narrowed, next_at, part_of_letter, some_truth_values, state_at, whole_word, with_free_bits}
use Rattle.ms_logic_words.specs.Content.{Content, count_of, is_in_letters, is_truth_value, last_state, tail_bits}
use Rattle.ms_lower.specs.Numbering.{Numbering, renumbered_variable}
use Rattle.ms_source_steps.proofs.NumberedContents.{content_moved, moved_orders}
use Rattle.ms_source_steps.proofs.Numbers.{NumbersRise, equal_moved, moved_all}
use Rattle.ms_source_steps.proofs.Scopes.{AreApart}

-- what stands at a place is among
held_among : (vs : List Variable) (inside : (v : Variable) → Type 0) → Each inside vs → (place : ℕ) (v : Variable) → slice_get vs place ≡ Some v → inside v
held_among [] inside each place v held = absurd (none-some v held)
held_among (w ∷ vs) inside each zero v held = subst inside (same_Some w v held) each.0
held_among (w ∷ vs) inside each (suc place) v held = held_among vs inside each.1 place v held

-- items that are alike just where others are, and are there just where these are, have one number
pub one_number : {A : Type 0} (AreAlike AreAlikeToo : A → A → Type 0) (IsItem IsItemToo : A → Type 0) → ((a b : A) → AreAlike a b → AreAlikeToo a b) → ((a b : A) → AreAlikeToo a b → AreAlike a b)
    → ((a : A) → IsItem a → IsItemToo a) → ((a : A) → IsItemToo a → IsItem a) → (m : ℕ) → IsNumberOf AreAlike IsItem m → IsNumberOf AreAlikeToo IsItemToo m
one_number AreAlike AreAlikeToo IsItem IsItemToo to from item_to item_from m number = record {
  chosen = number.chosen;
  items = λ k d within. item_to _ (number.items k d within);
  different = λ i j d less within alike. number.different i j d less within (from _ _ alike);
  complete = λ item is. let found = number.complete item (item_from item is) in (found.0, found.1, found.2, found.3, to item found.1 found.4);
  count = number.count;
}

module _ (n : Numbering) (rise : NumbersRise n) (scope : List Variable) (apart : AreApart scope) where
  given_moved : (has : Order → Bool) (vs : List Variable) → Each (IsAmong scope) vs → (bits : List Bool) (w : Variable) → IsAmong scope w
      → given_bit has (moved_all n vs) bits (n.number w.order w.name) ≡ given_bit has vs bits w.name
  given_moved has [] inside bits w among = refl
  given_moved has (v ∷ vs) inside bits w among =
      ap (λ (test : Bool). if has v.order
      then (if test then first_bit bits else given_bit has (moved_all n vs) (tail_bits bits) (n.number w.order w.name))
      else given_bit has (moved_all n vs) bits (n.number w.order w.name)) (equal_moved n rise scope apart v w inside.0 among)
      ∙ ap₂ (λ (one other : Option Bool). if has v.order then (if v.name == w.name then first_bit bits else one) else other)
      (given_moved has vs inside.1 (tail_bits bits) w among) (given_moved has vs inside.1 bits w among)

  bits_moved : (has : Order → Bool) (vs : List Variable) → Each (IsAmong scope) vs → (bits : List Bool) (some : List Variable) → Each (IsAmong scope) some
      → bits_for has (moved_all n vs) bits (moved_all n some) ≡ bits_for has vs bits some
  bits_moved has vs inside bits [] each = refl
  bits_moved has vs inside bits (v ∷ some) each =
      ap₂ (λ (one : Option Bool) (others : List Bool). if has v.order then unwrap_or one false ∷ others else others) (given_moved has vs inside bits v each.0) (bits_moved has vs inside bits some each.1)

  narrowed_moved : (vs : List Variable) → Each (IsAmong scope) vs → (word : Word) (some : List Variable) → Each (IsAmong scope) some
      → narrowed (moved_all n vs) word (moved_all n some) ≡ narrowed vs word some
  narrowed_moved vs inside word some each = λ i. record {
    truth = bits_moved is_truth_value vs inside word.truth some each i;
    letters = map (λ letter. bits_moved is_in_letters vs inside letter some each i) word.letters;
  }

  free_moved : (has : Order → Bool) (vs : List Variable) → Each (IsAmong scope) vs → (bits : List Bool) (some : List Variable) → Each (IsAmong scope) some → (rest : Bits) (place : ℕ)
      → with_free_bits has (moved_all n vs) bits (moved_all n some) rest place ≡ with_free_bits has vs bits some rest place
  free_moved has vs inside bits some each rest place =
      ap (λ found. unwrap_or (option_and_then (λ (v : Variable). given_bit has (moved_all n vs) bits v.name) found) (rest place)) (slice_get-map (renumbered_variable n) some place)
      ∙ by (slice_get some place) refl
    where
      by : (found : Option Variable) → slice_get some place ≡ found
          → unwrap_or (option_and_then (λ (v : Variable). given_bit has (moved_all n vs) bits v.name) (option_map (renumbered_variable n) found)) (rest place)
          ≡ unwrap_or (option_and_then (λ (v : Variable). given_bit has vs bits v.name) found) (rest place)
      by None held = refl
      by (Some w) held = ap (λ found. unwrap_or found (rest place)) (given_moved has vs inside bits w (held_among some (IsAmong scope) each place w held))

  module _ {S : Type 0} (content : Content S) (own : Each (IsAmong scope) content.variables) (vs : List Variable) (inside : Each (IsAmong scope) vs) where
    state_moved : (word : Word) → state_at (content_moved n content) (moved_all n vs) word ≡ state_at content vs word
    state_moved word =
        last_same content content.mode (moved_all n content.variables) (moved_orders n content.variables) (narrowed (moved_all n vs) word (moved_all n content.variables))
        ∙ ap (last_state content) (narrowed_moved vs inside word content.variables own)

    pub left_moved : (start : Start) (rest : Bits) → left_by (content_moved n content) (moved_all n vs) start rest ≡ left_by content vs start rest
    left_moved (some_truth_values values) rest = ap (leaf_of content.nodes content.start) (λ i place. free_moved is_truth_value vs inside values content.variables own rest place i)
    left_moved (whole_word word) rest = state_moved word
    left_moved (part_of_letter word bits) rest =
        ap₂ (λ (k : ℕ) (given : Bits). next_at content (slice_get content.states k) given) (state_moved word) (λ i place. free_moved is_in_letters vs inside bits content.variables own rest place i)

    pub same_to : (one other : Start) → LeaveSame content vs one other → LeaveSame (content_moved n content) (moved_all n vs) one other
    same_to one other same rest = left_moved one rest ∙ same rest ∙ sym (left_moved other rest)

    pub same_from : (one other : Start) → LeaveSame (content_moved n content) (moved_all n vs) one other → LeaveSame content vs one other
    same_from one other same rest = sym (left_moved one rest) ∙ same rest ∙ left_moved other rest

  count_moved : (has : Order → Bool) (vs : List Variable) → count_of has (moved_all n vs) ≡ count_of has vs
  count_moved has [] = refl
  count_moved has (v ∷ vs) = ap (λ m. if has v.order then m + 1 else m) (count_moved has vs)

  pub start_to : (vs : List Variable) (start : Start) → IsStartOver vs start → IsStartOver (moved_all n vs) start
  start_to vs (some_truth_values values) is = let same = count_moved is_truth_value vs in omega (arith, is, same)
  start_to vs (whole_word word) is = over_same vs (moved_all n vs) word (moved_orders n vs) is
  start_to vs (part_of_letter word bits) is = (over_same vs (moved_all n vs) word (moved_orders n vs) is.0, (let same = count_moved is_in_letters vs in let less = is.1 in omega (arith, less, same)))

  pub start_from : (vs : List Variable) (start : Start) → IsStartOver (moved_all n vs) start → IsStartOver vs start
  start_from vs (some_truth_values values) is = let same = count_moved is_truth_value vs in omega (arith, is, same)
  start_from vs (whole_word word) is = over_same (moved_all n vs) vs word (sym (moved_orders n vs)) is
  start_from vs (part_of_letter word bits) is = (over_same (moved_all n vs) vs word (sym (moved_orders n vs)) is.0, (let same = count_moved is_in_letters vs in let less = is.1 in omega (arith, less, same)))

  -- so they lead both to as many references
  pub references_moved : {S : Type 0} (content : Content S) → Each (IsAmong scope) content.variables → (m : ℕ) → HasReachedParts content m → HasReachedParts (content_moved n content) m
  references_moved content own m has =
      one_number (LeaveSame content content.variables) (LeaveSame (content_moved n content) (moved_all n content.variables)) (IsStartOver content.variables) (IsStartOver (moved_all n content.variables))
      (same_to content own content.variables own) (same_from content own content.variables own) (start_to content.variables) (start_from content.variables) m has

  pub pairs_moved : {S T : Type 0} (left : Content S) (right : Content T) → Each (IsAmong scope) left.variables → Each (IsAmong scope) right.variables → (vs : List Variable) → Each (IsAmong scope) vs → (m : ℕ)
      → LeadToPairs left right vs m → LeadToPairs (content_moved n left) (content_moved n right) (moved_all n vs) m
  pairs_moved left right left_own right_own vs inside m has =
      one_number (LeaveSameOfBoth left right vs) (LeaveSameOfBoth (content_moved n left) (content_moved n right) (moved_all n vs)) (IsStartOver vs) (IsStartOver (moved_all n vs))
      (λ one other same. (same_to left left_own vs inside one other same.0, same_to right right_own vs inside one other same.1))
      (λ one other same. (same_from left left_own vs inside one other same.0, same_from right right_own vs inside one other same.1)) (start_to vs) (start_from vs) m has

  pub parts_moved : {S T : Type 0} (left : Content S) (right : Content T) → Each (IsAmong scope) left.variables → Each (IsAmong scope) right.variables → (m : ℕ) → HaveReachedParts left right m
      → HaveReachedParts (content_moved n left) (content_moved n right) m
  parts_moved left right left_own right_own m has = (has.0, has.1, references_moved left left_own has.0 has.2, references_moved right right_own has.1 has.3, has.4)
