-- A content that meets the rule has as many states as there are sets of its numbers: each set is that of a word, and no two of these
-- words lead to one state. So there are few numbers.
use Rattle.std.proofs.Common.{◌≡◌, ℕ, ◌+◌, ◌^◌, ◌/◌, ◌%◌, ◌<◌, ◌≤◌, ⊎_elim, Bool, true, false, eqb, List, [], ◌∷◌, length, sym, ap, subst, ◌∙◌, arith}
use Rattle.std.proofs.lemmas.Bool.{cases_eq, cases_lt, eq-eqb, ne_eqb}
use Rattle.std.proofs.Math.Nat.{div-div-eq-div-mul, div-one, pow-le-pow_right}
use Rattle.std_collections.proofs.IndexTableLemmas.Probe.{pigeonhole}
use Rattle.ms_arena.specs.Diagram.{Bits, leaf_of}
use Rattle.ms_arena.proofs.Lists.{slice_get-held}
use Rattle.ms_dfa.proofs.GatheredLemmas.{length-gathered}
use Rattle.ms_dfa.specs.Narrow.{gathered}
use Rattle.ms_dfa.specs.Files.{MarksOutside}
use Rattle.ms_dfa.specs.declared.plain.FileSign.{FileSign}
use Rattle.ms_list.specs.declared.word.Word.{Word}
use Rattle.ms_logic.specs.declared.mode.Order.{Order}
use Rattle.ms_logic.specs.declared.mode.Order.TheVariants.{Zero, One, Two}
use Rattle.ms_logic.specs.Lists.{AreRising}
use Rattle.ms_logic_words.specs.Content.{Content, IsContent, IsWordOver, is_truth_value, last_state, letter_bits, next_from, truth_bits}
use Rattle.ms_dfafile_outside.specs.inner.Numbers.{IsNumberAt, numbers_in, one_if, rank, set_of}
use Rattle.ms_dfafile_outside.specs.inner.Labels.{ones_at, orders_in}
use Rattle.ms_dfafile_outside.proofs.ClashLemmas.{clash}
use Rattle.ms_dfafile_outside.proofs.NumbersLemmas.{power-more, set_of-same}
use Rattle.ms_dfafile_outside.proofs.ContentLemmas.{leads-to_state}
use Rattle.ms_dfafile_outside.proofs.WordsLemmas.{last-with, letter_for, ones-with, over-with, word_with}

-- which numbers are in a set
abbrev bits_of : List Order → ℕ → Bits
bits_of orders set place = eqb (set / 2 ^ rank orders place % 2) 1

one_if-odd : (n : ℕ) → n < 2 → one_if (eqb n 1) ≡ n
one_if-odd n small = ⊎_elim (λ one. ap one_if (eq-eqb n 1 one) ∙ omega (arith, one)) (λ other. ap one_if (ne_eqb n 1 other) ∙ omega (arith, other, small)) (cases_eq n 1)

-- a set is that of the numbers in it
set_of-bits : (orders : List Order) (set : ℕ) → set < 2 ^ numbers_in orders → set_of orders (λ p. one_if (bits_of orders set p)) ≡ set
set_of-bits [] set small = omega (arith, small)
set_of-bits (Zero ∷ orders) set small = set_of-bits orders set small
set_of-bits (One ∷ orders) set small =
    let n = rank orders (length orders) in
    let half_small : set / 2 < 2 ^ n = omega (arith, small, power-more n) in
    let rest : set_of orders (λ p. one_if (eqb (set / 2 ^ (rank orders p + 1) % 2) 1)) ≡ set / 2
    = set_of-same orders (λ p. one_if (eqb (set / 2 ^ (rank orders p + 1) % 2) 1)) (λ p. one_if (bits_of orders (set / 2) p))
    (λ p number. ap (λ w. one_if (eqb (set / w % 2) 1)) (power-more (rank orders p)) ∙ ap (λ k. one_if (eqb (k % 2) 1)) (sym (div-div-eq-div-mul set 2 (2 ^ rank orders p))))
    ∙ set_of-bits orders (set / 2) half_small in
    let first : one_if (eqb (set / 1 % 2) 1) ≡ set % 2 = ap (λ k. one_if (eqb (k % 2) 1)) (div-one set) ∙ one_if-odd (set % 2) (omega arith) in
    omega (arith, rest, first)
set_of-bits (Two ∷ orders) set small = set_of-bits orders set small

module _ (content : Content FileSign) (rules : IsContent content) (rising : AreRising content.variables) (marks : MarksOutside content) where
  -- the word of one letter whose ones are these numbers
  abbrev no_letters : Word
  no_letters = record { truth = gathered is_truth_value 0 content.variables (λ p. false); letters = [] }

  abbrev word_of_set : ℕ → Word
  word_of_set set = word_with content no_letters (bits_of (orders_in content) set)

  over_set : (set : ℕ) → IsWordOver content.variables (word_of_set set)
  over_set set = over-with content no_letters (bits_of (orders_in content) set) (record { truth = length-gathered is_truth_value content.variables (λ p. false) 0; letters = tt })

  ones-set : (set place : ℕ) → IsNumberAt (orders_in content) place → ones_at content.variables (word_of_set set).letters place ≡ one_if (bits_of (orders_in content) set place)
  ones-set set place number = let all = ones-with content no_letters (bits_of (orders_in content) set) place number in omega (arith, all)

  last-below : (set : ℕ) → last_state content (word_of_set set) < length content.states
  last-below set =
      let bits = bits_of (orders_in content) set in
      let first = leads-to_state content rules content.start rules.start_named (truth_bits content.variables no_letters.truth) in
      let held = slice_get-held content.states (last_state content no_letters) first in
      let leaf : leaf_of content.nodes held.0.next (letter_bits content.variables (letter_for content bits)) ≡ last_state content (word_of_set set)
      = ap (λ found. next_from content found (letter_for content bits)) (sym held.1) ∙ sym (last-with content no_letters bits) in
      subst (λ s. s < length content.states) leaf
      (leads-to_state content rules held.0.next (rules.next_named (last_state content no_letters) held.0 held.1) (letter_bits content.variables (letter_for content bits)))

  one_if-once : (bit : Bool) → one_if bit ≤ 1
  one_if-once true = omega arith
  one_if-once false = omega arith

  sets-apart : (i j : ℕ) → i < 2 ^ numbers_in (orders_in content) → j < 2 ^ numbers_in (orders_in content) → last_state content (word_of_set i) ≡ last_state content (word_of_set j) → i ≡ j
  sets-apart i j less_i less_j same =
      let orders = orders_in content in
      let agree = clash content rising marks (word_of_set i) (word_of_set j) (over_set i) (over_set j) same
      (λ p number. omega (arith, ones-set i p number, one_if-once (bits_of orders i p))) in
      sym (set_of-bits orders i less_i)
      ∙ set_of-same orders (λ p. one_if (bits_of orders i p)) (λ p. one_if (bits_of orders j p)) (λ p number. sym (ones-set i p number) ∙ agree p number ∙ ones-set j p number)
      ∙ set_of-bits orders j less_j

  pub few-numbers : length content.states < 2 ^ 32 → numbers_in (orders_in content) < 32
  few-numbers few =
      let n = numbers_in (orders_in content) in
      let enough = pigeonhole (2 ^ n) (length content.states) (λ set. last_state content (word_of_set set)) (λ set less. last-below set) sets-apart in
      ⊎_elim (λ less. less) (λ many. let power : 2 ^ 32 ≤ 2 ^ n = pow-le-pow_right (omega arith) many in absurd (omega (arith, few, enough, power))) (cases_lt n 32)
