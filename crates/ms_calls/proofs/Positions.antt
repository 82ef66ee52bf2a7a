-- A content over variables with other numbers, in the same orders: starts leave of it what they leave of the first.
use Rattle.std.proofs.Common.{◌≡◌, ℕ, zero, suc, ◌+◌, ◌≤◌, Bool, IsTrue, if◌then◌else◌, List, [], ◌∷◌, slice_get, slice_index_or, Option, Some, None, unwrap_or, refl, sym, ap, subst, ◌∙◌, arith}
use Rattle.std.specs.Option.{option_and_then}
use Rattle.ms_list.specs.declared.word.Word.{Word}
use Rattle.ms_arena.specs.Diagram.{Bits, leaf_of}
use Rattle.ms_arena.specs.declared.node.Ref.{Ref}
use Rattle.ms_arena.proofs.ReachLemmas.{leaf_of-tested}
use Rattle.ms_dfa.proofs.OrdersLemmas.{count-same, has_value-same, orders_of, over-same}
use Rattle.ms_logic.specs.declared.mode.Mode.{Mode}
use Rattle.ms_logic.specs.declared.mode.Order.{Order}
use Rattle.ms_logic.specs.Assignment.{Variable}
use Rattle.ms_logic_measures.specs.CallMeasures.{HasReachedParts, LeaveSame}
use Rattle.ms_logic_measures.specs.Starts.{IsStartOver, Start, given_bit, left_by, next_at, part_of_letter, some_truth_values, state_at, whole_word, with_free_bits}
use Rattle.ms_logic_starts.specs.AtLeast.{IsAtLeastNumber}
use Rattle.ms_logic_starts.specs.ContentStarts.{HaveDistinctNumbers}
use Rattle.ms_logic_starts.specs.inner.Ranks.{rank}
use Rattle.ms_logic_starts.proofs.AtLeastLemmas.{at_most_count}
use Rattle.ms_logic_starts.proofs.RankLemmas.{given_at}
use Rattle.ms_logic_words.specs.Content.{Content, IsFollowed, IsWordOver, StateOf, is_in_letters, is_truth_value, last_state}
use Rattle.ms_logic_words.specs.declared.sign.Sign.{Sign}
use Rattle.ms_minim.specs.SignReading.{IsRead}
use Rattle.ms_product.proofs.WidenedLemmas.{followed}
use Rattle.ms_rename.proofs.LeastLemmas.{last_same}
use Rattle.ms_calls.proofs.Own.{distinct, narrowed_own}
use Rattle.ms_calls.proofs.Parts.{leave_same}

module _ (has_bit : Order → Bool) where
  rank-same : (place : ℕ) (vs ws : List Variable) → orders_of vs ≡ orders_of ws → rank has_bit place vs ≡ rank has_bit place ws
  rank-same zero vs ws same = refl
  rank-same (suc place) [] [] same = refl
  rank-same (suc place) [] (w ∷ ws) same = let never : ⊥ = cc in absurd never
  rank-same (suc place) (v ∷ vs) [] same = let never : ⊥ = cc in absurd never
  rank-same (suc place) (v ∷ vs) (w ∷ ws) same =
      let head : v.order ≡ w.order = cc in
      let tail : orders_of vs ≡ orders_of ws = cc in
      let rest = rank-same place vs ws tail in
      λ i. if has_bit (head i) then suc (rest i) else rest i

  -- the bit of a variable, by its rank
  free_at : (vs : List Variable) → HaveDistinctNumbers vs → (values : List Bool) (rest : Bits) (place : ℕ) (v : Variable) → slice_get vs place ≡ Some v
      → IsTrue (has_bit v.order)
      → with_free_bits has_bit vs values vs rest place ≡ unwrap_or (slice_get values (rank has_bit place vs)) (rest place)
  free_at vs own values rest place v held holds =
      ap (λ found. unwrap_or (option_and_then (λ (w : Variable). given_bit has_bit vs values w.name) found) (rest place)) held
      ∙ ap (λ found. unwrap_or found (rest place)) (given_at has_bit vs values place v own held holds)

module _ (content : Content Sign) (is : IsRead content) (mode : Mode) (names : List Variable) (own : HaveDistinctNumbers names) (same : orders_of content.variables ≡ orders_of names) where
  abbrev pub other : Content Sign
  other = record { mode = mode; variables = names; start = content.start; states = content.states; nodes = content.nodes }

  abbrev vs : List Variable
  vs = content.variables

  word_same : (word : Word) → IsWordOver names word → IsWordOver vs word
  word_same word over = over-same names vs (sym same) word over

  pub start_same : (start : Start) → IsStartOver names start → IsStartOver vs start
  start_same (some_truth_values values) over = let few = count-same is_truth_value vs names same in omega (arith, over, few)
  start_same (whole_word word) over = word_same word over
  start_same (part_of_letter word bits) over = (word_same word over.0, let few = count-same is_in_letters vs names same in let less = over.1 in omega (arith, less, few))

  state_same : (word : Word) → IsWordOver names word → state_at other names word ≡ state_at content vs word
  state_same word over =
      ap (last_state other) (narrowed_own names word own over)
      ∙ last_same content mode names (sym same) word
      ∙ ap (last_state content) (sym (narrowed_own vs word (distinct content is) (word_same word over)))

  -- a reference leads alike by the bits that both lists give
  leaf_same : (has_bit : Order → Bool) (root : Ref) → IsFollowed content has_bit root → (values : List Bool) (rest : Bits)
      → leaf_of content.nodes root (with_free_bits has_bit names values names rest) ≡ leaf_of content.nodes root (with_free_bits has_bit vs values vs rest)
  leaf_same has_bit root is_followed values rest =
      leaf_of-tested content.nodes is.ordered root (with_free_bits has_bit names values names rest) (with_free_bits has_bit vs values vs rest) is_followed.valid (λ place tested.
      let at = is_followed.tests place tested in
      let there = has_value-same vs names same has_bit place at in
      free_at has_bit names own values rest place there.0 there.1 there.2
      ∙ ap (λ k. unwrap_or (slice_get values k) (rest place)) (sym (rank-same has_bit place vs names same))
      ∙ sym (free_at has_bit vs (distinct content is) values rest place at.0 at.1 at.2))

  found_same : (s : ℕ) (found : Option (StateOf Sign)) → slice_get content.states s ≡ found → (values : List Bool) (rest : Bits)
      → next_at other found (with_free_bits is_in_letters names values names rest) ≡ next_at content found (with_free_bits is_in_letters vs values vs rest)
  found_same s None held values rest = refl
  found_same s (Some there) held values rest = leaf_same is_in_letters there.next (followed content [] is.closed s there held) values rest

  pub left_same : (start : Start) (rest : Bits) → IsStartOver names start → left_by other names start rest ≡ left_by content vs start rest
  left_same (some_truth_values values) rest over = leaf_same is_truth_value content.start is.closed.start values rest
  left_same (whole_word word) rest over = state_same word over
  left_same (part_of_letter word bits) rest over =
      let s = state_at content vs word in
      ap (λ state. next_at other (slice_get content.states state) (with_free_bits is_in_letters names bits names rest)) (state_same word over.0)
      ∙ found_same s (slice_get content.states s) refl bits rest

  -- so starts lead it to no more references
  pub few_same : (m n : ℕ) → HasReachedParts content m → HasReachedParts other n → n ≤ m
  few_same m n counted mine =
      let apart : IsAtLeastNumber (LeaveSame content vs) (IsStartOver vs) n = record {
        chosen = mine.chosen;
        items = λ i default within. start_same (slice_index_or mine.chosen i default) (mine.items i default within);
        different = λ i j default before within alike.
            let one = slice_index_or mine.chosen i default in
            let two = slice_index_or mine.chosen j default in
            mine.different i j default before within (λ rest.
            left_same one rest (mine.items i default (omega (arith, before, within))) ∙ alike rest ∙ sym (left_same two rest (mine.items j default within)));
        count = (let all = mine.count in omega (arith, all));
      } in
      at_most_count (LeaveSame content vs) (IsStartOver vs) (leave_same content vs) n m apart counted
