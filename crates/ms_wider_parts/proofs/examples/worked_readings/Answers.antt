use Rattle.std.proofs.Common.{◌≡◌, ℕ, zero, suc, ◌<◌, true, false, [], ◌∷◌, length, slice_index, Some, None, refl, sym, ◌∙◌, arith}
use Rattle.std.proofs.lemmas.Bool.{false≢true}
use Rattle.ms_arena.specs.Bits.{below_from}
use Rattle.ms_arena.specs.Diagram.{Bits, leaf_of}
use Rattle.ms_arena.proofs.BitsLemmas.{below_from-first}
use Rattle.ms_build_parts.specs.Labels.{behind}
use Rattle.ms_logic_measures.proofs.FullContents.{full_subset, full_true}
use Rattle.ms_logic_words.specs.inner.ContentExamples.{encodings_content, full_subset_content}
use Rattle.ms_minim_canonical.proofs.ContentLemmas.{IsClosed-content}
use Rattle.ms_wider_parts.specs.Fixed.{led_to}
use Rattle.ms_wider_parts.proofs.Readings.{fixes_itself, rising_keep}
use Rattle.ms_wider_parts.proofs.examples.worked_readings.Goals as goal

pub returns-clause-rising : goal.returns-clause-rising
returns-clause-rising c = rising_keep 2 (3 ∷ 5 ∷ []) (record { long = refl; rising = rises })
  where
    rises : (one two : ℕ) → one < two → two < 2 → slice_index (3 ∷ 5 ∷ []) one < slice_index (3 ∷ 5 ∷ []) two
    rises zero (suc zero) less within = omega arith
    rises zero zero less within = absurd (omega (arith, less))
    rises zero (suc (suc two)) less within = absurd (omega (arith, within))
    rises (suc one) two less within = absurd (omega (arith, less, within))

ones : Bits
ones = λ place. true

zeros : Bits
zeros = λ place. false

-- at no level are both variables put together as they are once they have changed places
no_level : (level : ℕ) → below_from level ones zeros 0 ≡ false → below_from level ones zeros 1 ≡ true → ⊥
unfolding ones zeros
no_level zero first second = false≢true second
no_level (suc level) first second = false≢true (sym first ∙ below_from-first (suc level) ones zeros 0 (omega arith))

pub returns-clause-swapped : goal.returns-clause-swapped
unfolding ones zeros
returns-clause-swapped c keeps =
    let level = keeps 1 in
    no_level level.0 (sym (level.1 ones zeros 0 (omega arith))) (sym (level.1 ones zeros 1 (omega arith)))

pub returns-clause-fixed : goal.returns-clause-fixed
returns-clause-fixed c =
    let one = full_subset.canonical in
    let other = full_true.canonical in
    fixes_itself full_subset_content encodings_content one.rules.ordered (IsClosed-content full_subset_content one.rules) one.states_reached other.rules.ordered (IsClosed-content encodings_content other.rules)

-- in state 1 every letter leads to state 1, and the start leads to state 0
two_states : behind full_subset_content None (λ place. false) ≡ behind full_subset_content (Some 1) (λ place. false) → ⊥
unfolding leaf_of
two_states same = let never : 0 ≡ 1 = same in omega (arith, never)

one_state : (m n : ℕ) → m < length encodings_content.states → n < length encodings_content.states → m ≡ n
one_state m n first second = omega (arith, first, second)

pub returns-clause-not_fixed : goal.returns-clause-not_fixed
returns-clause-not_fixed c is =
    let none : Bits = λ place. false in
    let some : 1 < length full_subset_content.states = omega arith in
    two_states (is.fixed None (Some 1) tt some none none
    (one_state (led_to full_subset_content encodings_content is.first None tt none) (led_to full_subset_content encodings_content is.first (Some 1) some none)
    (is.first.states None tt (is.first.read none)) (is.first.states (Some 1) some (is.first.read none)))
    (one_state (led_to full_subset_content encodings_content is.second None tt none) (led_to full_subset_content encodings_content is.second (Some 1) some none)
    (is.second.states None tt (is.second.read none)) (is.second.states (Some 1) some (is.second.read none))))

pub returns-clause-at_place : goal.returns-clause-at_place
returns-clause-at_place c = refl

pub returns-clause-elsewhere : goal.returns-clause-elsewhere
returns-clause-elsewhere c = refl
