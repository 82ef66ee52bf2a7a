-- Sets of pairs to which starts lead, over all values of a bound variable, are counted. The label of a word is the list of those pairs of
-- states, in one order, to which it leads with some bits; all these lists are sublists of one.
use Rattle.std.proofs.Common.{◌≡◌, ℕ, inl, inr, ⊎_elim, Bool, List, length, refl, sym, ◌∙◌, ap, subst, arith}
use Rattle.ms_list.specs.declared.word.Word.{Word}
use Rattle.ms_logic.specs.declared.mode.Order.{Order}
use Rattle.ms_logic.specs.declared.mode.Order.TheVariants.{Zero, One, Two}
use Rattle.ms_logic.specs.Assignment.{Variable}
use Rattle.ms_logic_words.specs.Content.{Content, IsContent}
use Rattle.ms_logic_measures.specs.CallMeasures.{LeaveSameOfBoth, LeadsWhere, LeadToSameSet, bound_bits, others, others_and_bound, start_with, word_with}
use Rattle.ms_logic_measures.specs.Starts.{Start, some_truth_values, whole_word, part_of_letter}
use Rattle.ms_logic_counts.specs.Starts.{SetsAreCounted}
use Rattle.ms_logic_counts.proofs.BitLists.{numbers-tested, lists_of, among-lists_of}
use Rattle.ms_logic_machines.proofs.Choices.{Decided, Among, some-or, picked, among-picked, picked-among, sublists, picked-sublist, pairs-tested}
use Rattle.ms_logic_counts.proofs.Labels.{kind_of, word_in, bits_in, leave_same, starts_are_counted}
use Rattle.ms_logic_counts.proofs.StartLemmas.{states_at, state_pairs, states_listed, both-transitive}

-- how many bits the bound variable has beside a word
abbrev own_bits : Order → Word → ℕ
own_bits Zero word = 1
own_bits One word = length word.letters
own_bits Two word = length word.letters

bound_at_truth : (order : Order) (values other : List Bool) → bound_bits order (some_truth_values values) ≡ bound_bits order (some_truth_values other)
bound_at_truth Zero values other = refl
bound_at_truth One values other = refl
bound_at_truth Two values other = refl

bound_at_word : (order : Order) (word : Word) → bound_bits order (whole_word word) ≡ own_bits order word
bound_at_word Zero word = refl
bound_at_word One word = refl
bound_at_word Two word = refl

bound_in_letter : (order : Order) (word : Word) (bits : List Bool) → bound_bits order (part_of_letter word bits) ≡ own_bits order word
bound_in_letter Zero word bits = refl
bound_in_letter One word bits = refl
bound_in_letter Two word bits = refl

module _ {Body Domain : Type 0} (body : Content Body) (restriction : Content Domain) (x : Variable) where
  abbrev inside : List Variable
  inside = others_and_bound body restriction x

  -- the pair of states to which a word leads with bits of the bound variable
  abbrev pair_with : Word → List Bool → ℕ × ℕ
  pair_with word bits = states_at body restriction inside (word_with x.order bits word)

  -- some bits lead to the pair
  abbrev LedTo : Word → ℕ × ℕ → Type 0
  LedTo word pair = (bits : List Bool) × (length bits ≡ own_bits x.order word) × (pair_with word bits ≡ pair)

  led-or : (word : Word) (pair : ℕ × ℕ) → Decided (LedTo word pair)
  led-or word pair =
      ⊎_elim (λ found. inl (found.0, found.2.0, found.2.1))
      (λ none. inr (λ led. none (led.0, among-lists_of (own_bits x.order word) led.0 led.1, (led.1, led.2))))
      (some-or (λ bits. (length bits ≡ own_bits x.order word) × (pair_with word bits ≡ pair))
      (λ bits.
      ⊎_elim (λ long. ⊎_elim (λ leads. inl (long, leads)) (λ differs. inr (λ both. differs both.1))
      (pairs-tested numbers-tested numbers-tested (pair_with word bits) pair))
      (λ differs. inr (λ both. differs both.0)) (numbers-tested (length bits) (own_bits x.order word)))
      (lists_of (own_bits x.order word)))

  -- all such pairs, in one order
  abbrev set_of : Word → List (ℕ × ℕ)
  set_of word = picked (LedTo word) (led-or word) (state_pairs body restriction inside)

  module _ (body_rules : IsContent body) (restriction_rules : IsContent restriction) where
    -- where one word leads with some bits, another with the same set leads with some
    same_pair : (word other : Word) → set_of word ≡ set_of other → (bits : List Bool) → length bits ≡ own_bits x.order word
        → (other_bits : List Bool) × (length other_bits ≡ own_bits x.order other) × (pair_with word bits ≡ pair_with other other_bits)
    same_pair word other same bits long =
        let pair = pair_with word bits in
        let here : Among pair (set_of word)
        = picked-among (LedTo word) (led-or word) pair (state_pairs body restriction inside) (bits, long, refl)
        (states_listed body restriction inside body_rules restriction_rules (word_with x.order bits word)) in
        let led = (among-picked (LedTo other) (led-or other) pair (state_pairs body restriction inside) (subst (λ set. Among pair set) same here)).0 in
        (led.0, led.1, sym led.2)

    -- starts of one kind lead both contents alike where their words lead to one pair
    leave_both : (one other : Start) → kind_of one ≡ kind_of other
        → states_at body restriction inside (word_in one) ≡ states_at body restriction inside (word_in other)
        → bits_in one ≡ bits_in other → LeaveSameOfBoth body restriction inside one other
    leave_both one other kinds states bits = (
      leave_same body inside one other kinds (ap (λ (p : ℕ × ℕ). p.0) states) bits,
      leave_same restriction inside one other kinds (ap (λ (p : ℕ × ℕ). p.1) states) bits,
    )

    leads : (one other : Start) → kind_of one ≡ kind_of other → set_of (word_in one) ≡ set_of (word_in other) → bits_in one ≡ bits_in other
        → LeadsWhere body restriction x one other
    leads (some_truth_values values) (some_truth_values other) kinds sets bits inner long =
        (inner, long ∙ bound_at_truth x.order values other, leave_both (some_truth_values values) (some_truth_values other) refl refl bits)
    leads (whole_word word) (whole_word other) kinds sets bits inner long =
        let found = same_pair word other sets inner (long ∙ bound_at_word x.order word) in (
          found.0,
          found.1 ∙ sym (bound_at_word x.order other),
          leave_both (whole_word (word_with x.order inner word)) (whole_word (word_with x.order found.0 other)) refl found.2 refl,
        )
    leads (part_of_letter word own) (part_of_letter other other_own) kinds sets bits inner long =
        let found = same_pair word other sets inner (long ∙ bound_in_letter x.order word own) in (
          found.0,
          found.1 ∙ sym (bound_in_letter x.order other other_own),
          leave_both (part_of_letter (word_with x.order inner word) own) (part_of_letter (word_with x.order found.0 other) other_own) refl found.2 bits,
        )
    leads (some_truth_values values) (whole_word other) kinds sets bits inner long = absurd (omega (arith, kinds))
    leads (some_truth_values values) (part_of_letter other other_own) kinds sets bits inner long = absurd (omega (arith, kinds))
    leads (whole_word word) (some_truth_values other) kinds sets bits inner long = absurd (omega (arith, kinds))
    leads (whole_word word) (part_of_letter other other_own) kinds sets bits inner long = absurd (omega (arith, kinds))
    leads (part_of_letter word own) (some_truth_values other) kinds sets bits inner long = absurd (omega (arith, kinds))
    leads (part_of_letter word own) (whole_word other) kinds sets bits inner long = absurd (omega (arith, kinds))

    same_set : (one other : Start) → kind_of one ≡ kind_of other → set_of (word_in one) ≡ set_of (word_in other) → bits_in one ≡ bits_in other
        → LeadToSameSet body restriction x one other
    same_set one other kinds sets bits = (leads one other kinds sets bits, leads other one (sym kinds) (sym sets) (sym bits))

  leads-transitive : (one two three : Start) → LeadsWhere body restriction x one two → LeadsWhere body restriction x two three
      → LeadsWhere body restriction x one three
  leads-transitive one two three first second bits long =
      let middle = first bits long in
      let last = second middle.0 middle.1 in (
        last.0,
        last.1,
        both-transitive body restriction inside (start_with x.order bits one) (start_with x.order middle.0 two) (start_with x.order last.0 three)
            middle.2 last.2,
      )

  set-transitive : (one two three : Start) → LeadToSameSet body restriction x one two → LeadToSameSet body restriction x two three
      → LeadToSameSet body restriction x one three
  set-transitive one two three first second =
      (leads-transitive one two three first.0 second.0, leads-transitive three two one second.1 first.1)

pub sets_are_counted : {Body Domain : Type 0} → SetsAreCounted Body Domain
sets_are_counted body restriction x body_rules restriction_rules =
    starts_are_counted (set_of body restriction x) (sublists (state_pairs body restriction (inside body restriction x)))
    (λ word. picked-sublist (LedTo body restriction x word) (led-or body restriction x word) (state_pairs body restriction (inside body restriction x)))
    (others body restriction x) (LeadToSameSet body restriction x) (set-transitive body restriction x)
    (same_set body restriction x body_rules restriction_rules)
