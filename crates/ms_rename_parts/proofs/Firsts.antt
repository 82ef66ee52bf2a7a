-- Words over variables in another order, and the first bits in that order.
use Rattle.std.proofs.Common.{◌≡◌, ℕ, zero, suc, ◌+◌, ◌<◌, ◌≤◌, ⊎_elim, Bool, true, false, IsTrue, if◌then◌else◌, List, [], ◌∷◌, length, map, slice_get, slice_index, Some, unwrap_or, refl, sym, ap, subst, ◌∙◌, arith}
use Rattle.std.specs.Option.{option_and_then}
use Rattle.std.proofs.lemmas.Bool.{cases_lt}
use Rattle.std.proofs.lemmas.Option.{none-some, same_Some, slice_get_past, slice_get_within}
use Rattle.ms_list.specs.declared.word.Word.{Word}
use Rattle.ms_arena.specs.Bits.{below_from}
use Rattle.ms_arena.specs.Diagram.{Bits}
use Rattle.ms_arena.proofs.BitsLemmas.{below_from-first, below_from-later}
use Rattle.ms_arena.proofs.Lists.{slice_get-held}
use Rattle.ms_diagram.specs.Bring.{read_through}
use Rattle.ms_logic.specs.declared.mode.Order.{Order}
use Rattle.ms_logic.specs.Assignment.{Variable}
use Rattle.ms_logic_measures.specs.Starts.{bits_for, given_bit, narrowed, with_free_bits}
use Rattle.ms_logic_starts.specs.ContentStarts.{HaveDistinctNumbers}
use Rattle.ms_logic_starts.specs.inner.Ranks.{bits_before, rank}
use Rattle.ms_logic_starts.proofs.RankLemmas.{bit_before, given_at, length-bits_before, own_bits, rank_below_all, rank_grows}
use Rattle.ms_logic_words.specs.Content.{AreLetters, IsWordOver, count_of, is_in_letters, is_truth_value}
use Rattle.ms_rename_parts.proofs.Arranged.{IsArranged, IsCut}
use Rattle.ms_rename_parts.proofs.Cuts.{cut_at}

module _ (has_bit : Order → Bool) (all : List Variable) where
  -- the bits for some variables are as many as these have
  pub length-bits_for : (bits : List Bool) (some : List Variable) → length (bits_for has_bit all bits some) ≡ count_of has_bit some
  length-bits_for bits [] = refl
  length-bits_for bits (v ∷ some) = by_test (has_bit v.order) (unwrap_or (given_bit has_bit all bits v.name) false) (bits_for has_bit all bits some) (count_of has_bit some) (length-bits_for bits some)
    where
      by_test : (test own : Bool) (list : List Bool) (n : ℕ) → length list ≡ n → length (if test then own ∷ list else list) ≡ (if test then n + 1 else n)
      by_test true own list n same = omega (arith, same)
      by_test false own list n same = same

  -- and stand by the ranks of these
  pub bit_for : (bits : List Bool) (some : List Variable) (at : ℕ) (v : Variable) → slice_get some at ≡ Some v → IsTrue (has_bit v.order)
      → slice_get (bits_for has_bit all bits some) (rank has_bit at some) ≡ Some (unwrap_or (given_bit has_bit all bits v.name) false)
  bit_for bits [] at v held holds = absurd (none-some v held)
  bit_for bits (w ∷ some) zero v held holds =
      subst (λ (u : Variable). slice_get (bits_for has_bit all bits (w ∷ some)) 0 ≡ Some (unwrap_or (given_bit has_bit all bits u.name) false)) (same_Some w v held)
      (by_test (has_bit w.order) (subst (λ (u : Variable). IsTrue (has_bit u.order)) (sym (same_Some w v held)) holds) (unwrap_or (given_bit has_bit all bits w.name) false) (bits_for has_bit all bits some))
    where
      by_test : (test : Bool) → IsTrue test → (own : Bool) (list : List Bool) → slice_get (if test then own ∷ list else list) 0 ≡ Some own
      by_test true is own list = refl
      by_test false is own list = (let never : ⊥ = cc in absurd never)
  bit_for bits (w ∷ some) (suc at) v held holds =
      by_test (has_bit w.order) (unwrap_or (given_bit has_bit all bits w.name) false) (bits_for has_bit all bits some) (rank has_bit at some)
      ∙ bit_for bits some at v held holds
    where
      by_test : (test own : Bool) (list : List Bool) (n : ℕ) → slice_get (if test then own ∷ list else list) (if test then suc n else n) ≡ slice_get list n
      by_test true own list n = refl
      by_test false own list n = refl

module _ (ws order : List Variable) (places : List ℕ) (own : HaveDistinctNumbers ws) (arranged : IsArranged ws order places) where
  -- bits that are brought into the order and back are these bits
  there_and_back : (has_bit : Order → Bool) (bits : List Bool) → length bits ≡ count_of has_bit ws → bits_for has_bit order (bits_for has_bit ws bits order) ws ≡ bits
  there_and_back has_bit bits long = own_bits has_bit order (bits_for has_bit ws bits order) ws bits (λ i w held holds.
      let at = arranged.stands i w held in
      let less = rank_below_all has_bit i ws w held holds in
      let bit = slice_get-held bits (rank has_bit i ws) (omega (arith, less, long)) in
      given_at has_bit order (bits_for has_bit ws bits order) at.0 w arranged.own at.1 holds
      ∙ bit_for has_bit ws bits order at.0 w at.1 holds
      ∙ ap (λ found. Some (unwrap_or found false)) (given_at has_bit ws bits i w own held holds ∙ bit.1)
      ∙ sym bit.1) long

  pub letters_back : (letters : List (List Bool)) → AreLetters ws letters
      → map (λ letter. bits_for is_in_letters order letter ws) (map (λ letter. bits_for is_in_letters ws letter order) letters) ≡ letters
  letters_back [] are = refl
  letters_back (letter ∷ letters) are =
      ap (λ (first : List Bool). first ∷ map (λ other. bits_for is_in_letters order other ws) (map (λ other. bits_for is_in_letters ws other order) letters))
      (there_and_back is_in_letters letter are.0)
      ∙ ap (λ (more : List (List Bool)). letter ∷ more) (letters_back letters are.1)

  -- so are words
  pub word_back : (word : Word) → IsWordOver ws word → narrowed order (narrowed ws word order) ws ≡ word
  word_back word over =
      let truth = there_and_back is_truth_value word.truth over.truth in
      let letters = letters_back word.letters over.letters in
      λ i. record { truth = truth i; letters = letters i }

  pub letters_over : (letters : List (List Bool)) → AreLetters order (map (λ letter. bits_for is_in_letters ws letter order) letters)
  letters_over [] = tt
  letters_over (letter ∷ letters) = (length-bits_for is_in_letters ws letter order, letters_over letters)

  pub word_over : (word : Word) → IsWordOver order (narrowed ws word order)
  word_over word = record { truth = length-bits_for is_truth_value ws word.truth order; letters = letters_over word.letters }

  module _ (has_bit : Order → Bool) (var : ℕ) (first : Bits) where
    cut : (level : ℕ) × IsCut arranged.read_at var (length order) level
    cut = cut_at arranged.read_at (length order) arranged.rises var (length order) (omega arith)

    -- the first bits of the variables that are read below a variable, in the order
    pub values : List Bool
    values = bits_before has_bit cut.0 order (λ at. first (arranged.read_at at))

    long : length values ≡ rank has_bit cut.0 order
    unfolding values
    long = length-bits_before has_bit cut.0 order (λ at. first (arranged.read_at at))

    module _ (i : ℕ) (w : Variable) (held : slice_get ws i ≡ Some w) (holds : IsTrue (has_bit w.order)) where
      at : (place : ℕ) × (slice_get order place ≡ Some w) × (slice_index places i ≡ arranged.read_at place)
      at = arranged.stands i w held

      bit_is : (rest : Bits) → with_free_bits has_bit order values ws rest i ≡ unwrap_or (slice_get values (rank has_bit at.0 order)) (rest i)
      bit_is rest =
          ap (λ found. unwrap_or (option_and_then (λ (v : Variable). given_bit has_bit order values v.name) found) (rest i)) held
          ∙ ap (λ found. unwrap_or found (rest i)) (given_at has_bit order values at.0 w arranged.own at.1 holds)

      bit_below : (rest : Bits) → at.0 < cut.0 → with_free_bits has_bit order values ws rest i ≡ first (slice_index places i)
      unfolding values
      bit_below rest below =
          bit_is rest
          ∙ ap (λ found. unwrap_or found (rest i)) (bit_before has_bit cut.0 order (λ place. first (arranged.read_at place)) at.0 w below at.1 holds)
          ∙ ap first (sym at.2)

      bit_above : (rest : Bits) → cut.0 ≤ at.0 → with_free_bits has_bit order values ws rest i ≡ rest i
      bit_above rest above =
          let past = rank_grows has_bit cut.0 at.0 order above in
          bit_is rest ∙ ap (λ found. unwrap_or found (rest i)) (slice_get_past values (rank has_bit at.0 order) (omega (arith, past, long)))

      inside : at.0 < length order
      inside = slice_get_within order at.0 w at.1

      early : at.0 < cut.0 → slice_index places i < var
      early below = let less = cut.1.below at.0 inside below in let is = at.2 in omega (arith, less, is)

      late : cut.0 ≤ at.0 → var ≤ slice_index places i
      late above = let past = cut.1.above at.0 inside above in let is = at.2 in omega (arith, past, is)

      -- these bits, and behind them free ones, are bits that are put together at the variable, read through the places
      pub bits_are : (rest : Bits) → with_free_bits has_bit order values ws (read_through places rest) i ≡ read_through places (below_from var first rest) i
      bits_are rest = ⊎_elim
          (λ below. bit_below (read_through places rest) below ∙ sym (below_from-first var first rest (slice_index places i) (early below)))
          (λ above. bit_above (read_through places rest) above ∙ sym (below_from-later var first rest (slice_index places i) (late above)))
          (cases_lt at.0 cut.0)

      -- where they are all bits, none is free
      pub none_free : count_of has_bit order ≤ length values → (rest other : Bits) → read_through places (below_from var first rest) i ≡ read_through places (below_from var first other) i
      none_free full rest other = ⊎_elim
          (λ below. below_from-first var first rest (slice_index places i) (early below) ∙ sym (below_from-first var first other (slice_index places i) (early below)))
          (λ above.
          let past = rank_grows has_bit cut.0 at.0 order above in
          let less = rank_below_all has_bit at.0 order w at.1 holds in
          absurd (omega (arith, past, less, full, long)))
          (cases_lt at.0 cut.0)
