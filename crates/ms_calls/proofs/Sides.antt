-- What starts leave of a content whose variables are read at places of diagrams, in an order in which these places do not fall.
use Rattle.std.proofs.Common.{◌≡◌, ℕ, ◌<◌, ◌≤◌, ⊎_elim, Bool, List, [], ◌∷◌, ◌++◌, length, slice_get, slice_index, Option, Some, None, refl, sym, ap, ◌∙◌, arith}
use Rattle.std.proofs.lemmas.Bool.{cases_lt}
use Rattle.std.proofs.lemmas.Option.{slice_get_within}
use Rattle.ms_list.specs.declared.word.Word.{Word}
use Rattle.ms_arena.specs.Bits.{below_from}
use Rattle.ms_arena.specs.Diagram.{Bits, leaf_of}
use Rattle.ms_arena.specs.declared.node.Ref.{Ref}
use Rattle.ms_arena.proofs.BitsLemmas.{below_from-first, below_from-later}
use Rattle.ms_diagram.specs.Bring.{read_through}
use Rattle.ms_logic.specs.declared.mode.Order.{Order}
use Rattle.ms_logic.specs.Assignment.{Variable}
use Rattle.ms_logic_measures.specs.Starts.{left_by, next_at, part_of_letter, some_truth_values, state_at}
use Rattle.ms_logic_starts.specs.ContentStarts.{HaveDistinctNumbers}
use Rattle.ms_logic_words.specs.Content.{Content, IsFollowed, StateOf, count_of, is_in_letters, is_truth_value}
use Rattle.ms_logic_words.specs.declared.sign.Sign.{Sign}
use Rattle.ms_product.specs.Widened.{behind_through, next_through}
use Rattle.ms_product.proofs.WidenedLemmas.{followed}
use Rattle.ms_rename_parts.proofs.Arranged.{IsCut}
use Rattle.ms_rename_parts.proofs.Cuts.{cut_at}
use Rattle.ms_calls.specs.Products.{StandsAmong}
use Rattle.ms_calls.proofs.Given.{agree, all_values, left_first, left_next, one_first, one_next, read, state_first, state_next, values}

-- the order of starts, and for each of its places the place at which diagrams test it
module _ (order : List Variable) (distinct : HaveDistinctNumbers order) (read_at : ℕ → ℕ) (rises : (one two : ℕ) → one < two → two < length order → read_at one ≤ read_at two) where
  -- bits by the places of diagrams, as bits by those of the order
  abbrev pub ordered : Bits → Bits
  ordered bits = λ place. bits (read_at place)

  -- how many variables of the order are tested before a place
  pub cut : (var : ℕ) → (level : ℕ) × IsCut read_at var (length order) level
  cut var = cut_at read_at (length order) rises var (length order) (omega arith)

  abbrev pub first_values : (Order → Bool) → ℕ → Bits → List Bool
  first_values has_bit var first = values has_bit order distinct (cut var).0 (ordered first)

  module _ (content : Content Sign) (map : List ℕ) (at : ℕ → ℕ) (stands : StandsAmong content at order)
      (places : (place : ℕ) (v : Variable) → slice_get content.variables place ≡ Some v → slice_index map place ≡ read_at (at place)) where
    abbrev own : Bits → Bits
    own bits = read content at order distinct stands bits

    -- first bits and free ones are put together at the same place
    below_same : (var : ℕ) (first bits : Bits) (place : ℕ) (v : Variable) → slice_get content.variables place ≡ Some v
        → own (below_from (cut var).0 (ordered first) (ordered bits)) place ≡ read_through map (below_from var first bits) place
    below_same var first bits place v held =
        let p = at place in
        let within = slice_get_within order p v (stands.leads place v held) in
        let level = cut var in
        ⊎_elim
        (λ below.
        below_from-first level.0 (ordered first) (ordered bits) p below ∙ sym (below_from-first var first bits (read_at p) (level.1.below p within below)))
        (λ above.
        below_from-later level.0 (ordered first) (ordered bits) p above ∙ sym (below_from-later var first bits (read_at p) (level.1.above p within above)))
        (cases_lt p level.0)
        ∙ sym (ap (below_from var first bits) (places place v held))

    module _ (has_bit : Order → Bool) (root : Ref) (is : IsFollowed content has_bit root) where
      leads_same : (bits : Bits) → leaf_of content.nodes root (own (ordered bits)) ≡ leaf_of content.nodes root (read_through map bits)
      leads_same bits = agree content at order distinct stands has_bit root is (own (ordered bits)) (read_through map bits) (λ place v held holds. sym (ap bits (places place v held)))

      leads_below : (var : ℕ) (first bits : Bits)
          → leaf_of content.nodes root (own (below_from (cut var).0 (ordered first) (ordered bits))) ≡ leaf_of content.nodes root (read_through map (below_from var first bits))
      leads_below var first bits =
          agree content at order distinct stands has_bit root is (own (below_from (cut var).0 (ordered first) (ordered bits))) (read_through map (below_from var first bits))
          (λ place v held holds. below_same var first bits place v held)

    next_same : (s : ℕ) (found : Option (StateOf Sign)) → slice_get content.states s ≡ found → (bits : Bits) → next_at content found (own (ordered bits)) ≡ behind_through content map found bits
    next_same s None held bits = refl
    next_same s (Some state) held bits = leads_same is_in_letters state.next (followed content [] stands.closed s state held) bits

    next_below : (s : ℕ) (found : Option (StateOf Sign)) → slice_get content.states s ≡ found → (var : ℕ) (first bits : Bits)
        → next_at content found (own (below_from (cut var).0 (ordered first) (ordered bits))) ≡ behind_through content map found (below_from var first bits)
    next_below s None held var first bits = refl
    next_below s (Some state) held var first bits = leads_below is_in_letters state.next (followed content [] stands.closed s state held) var first bits

    -- all truth values, and a letter behind a word
    pub side_start : (bits : Bits) → state_at content order (record { truth = all_values is_truth_value order (ordered bits); letters = [] }) ≡ leaf_of content.nodes content.start (read_through map bits)
    side_start bits = state_first content at order distinct stands (ordered bits) ∙ leads_same is_truth_value content.start stands.closed.start bits

    pub side_next : (word : Word) (bits : Bits) → state_at content order (record { truth = word.truth; letters = word.letters ++ all_values is_in_letters order (ordered bits) ∷ [] })
        ≡ next_through content map (state_at content order word) bits
    side_next word bits =
        let s = state_at content order word in
        state_next content at order distinct stands word (ordered bits) ∙ next_same s (slice_get content.states s) refl bits

    -- first truth values, and first bits of a letter
    pub side_first : (var : ℕ) (first bits : Bits)
        → left_by content order (some_truth_values (first_values is_truth_value var first)) (own (ordered bits)) ≡ leaf_of content.nodes content.start (read_through map (below_from var first bits))
    side_first var first bits = left_first content at order distinct stands (cut var).0 (ordered first) (ordered bits) ∙ leads_below is_truth_value content.start stands.closed.start var first bits

    pub side_later : (word : Word) (var : ℕ) (first bits : Bits)
        → left_by content order (part_of_letter word (first_values is_in_letters var first)) (own (ordered bits)) ≡ next_through content map (state_at content order word) (below_from var first bits)
    side_later word var first bits =
        let s = state_at content order word in
        left_next content at order distinct stands word (cut var).0 (ordered first) (ordered bits) ∙ next_below s (slice_get content.states s) refl var first bits

    -- where nothing is free, one state is led to
    pub side_one_first : (var : ℕ) (first : Bits) → count_of is_truth_value order ≤ length (first_values is_truth_value var first) → (free other : Bits)
        → leaf_of content.nodes content.start (read_through map (below_from var first free)) ≡ leaf_of content.nodes content.start (read_through map (below_from var first other))
    side_one_first var first full free other =
        sym (leads_below is_truth_value content.start stands.closed.start var first free)
        ∙ one_first content at order distinct stands (cut var).0 (ordered first) full (ordered free) (ordered other)
        ∙ leads_below is_truth_value content.start stands.closed.start var first other

    pub side_one_next : (s var : ℕ) (first : Bits) → count_of is_in_letters order ≤ length (first_values is_in_letters var first) → (free other : Bits)
        → next_through content map s (below_from var first free) ≡ next_through content map s (below_from var first other)
    side_one_next s var first full free other =
        sym (next_below s (slice_get content.states s) refl var first free)
        ∙ one_next content at order distinct stands s (cut var).0 (ordered first) full (ordered free) (ordered other)
        ∙ next_below s (slice_get content.states s) refl var first other
