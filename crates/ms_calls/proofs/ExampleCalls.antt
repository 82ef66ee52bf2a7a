-- Pairs, places and needs of the full contents of P sub Q and of `true`.
use Rattle.std.proofs.Common.{◌≡◌, ℕ, ◌-◌, ◌<◌, ◌≤◌, false, true, [], ◌∷◌, slice_get, Some, refl, sym, ap, subst, ◌∙◌, arith}
use Rattle.std.proofs.lemmas.Option.{none-some, same_Some, slice_get_within}
use Rattle.ms_arena.specs.Diagram.{leaf_of}
use Rattle.ms_logic.specs.Assignment.{Variable}
use Rattle.ms_logic.specs.declared.mode.Order.TheVariants.{Two}
use Rattle.ms_logic.specs.inner.Examples.{set_P_and_Q, variable}
use Rattle.ms_logic_measures.specs.FullContent.{part_count}
use Rattle.ms_logic_measures.proofs.FullContents.{full_subset, full_true}
use Rattle.ms_logic_starts.specs.ContentStarts.{HaveDistinctNumbers}
use Rattle.ms_logic_starts.proofs.ReachedPartsLemmas.{canonical_reached}
use Rattle.ms_logic_starts.proofs.RisingLemmas.{rising_distinct}
use Rattle.ms_logic_words.specs.Content.{bits_at, last_state}
use Rattle.ms_logic_words.specs.inner.ContentExamples.{encodings_content, full_subset_content, word}
use Rattle.ms_logic_words.proofs.SubsetRuns.{last_of_true}
use Rattle.ms_minim.specs.Needed.{NeedsAtLeast}
use Rattle.ms_minim.specs.SignReading.{IsRead}
use Rattle.ms_minim.specs.inner.Quotient.{IsNumberOf}
use Rattle.ms_minim_canonical.proofs.ContentLemmas.{IsClosed-content}
use Rattle.ms_product.specs.Pairing.{IsReachedPair, Operands, from_pair, from_starts, operands_of}
use Rattle.ms_product.specs.Widened.{next_through}
use Rattle.ms_rename.specs.Renamed.{beside_itself}
use Rattle.ms_calls.specs.Products.{StandsAmong}
use Rattle.ms_calls.proofs.FewestLemmas.{few}

abbrev both : Operands
both = operands_of full_subset_content full_subset_content

pub first : IsReachedPair both (0, 0)
unfolding leaf_of
first = from_starts (λ place. false) refl

pub second : IsReachedPair both (1, 1)
unfolding leaf_of
second = from_pair (0, 0) (bits_at (true ∷ false ∷ [])) first refl

-- with P and Q in each other's place
pub turned : IsReachedPair (beside_itself full_subset_content (1 ∷ 0 ∷ [])) (1, 1)
unfolding leaf_of
turned = from_pair (0, 0) (bits_at (false ∷ true ∷ [])) (from_starts (λ place. false) refl) refl

-- both are always in one state
in_one_state : (pair : ℕ × ℕ) → IsReachedPair both pair → pair.0 ≡ pair.1
in_one_state pair (from_starts bits leads) = sym (ap (λ (p : ℕ × ℕ). p.0) leads) ∙ ap (λ (p : ℕ × ℕ). p.1) leads
in_one_state pair (from_pair before bits reached leads) =
    let same = in_one_state before reached in
    sym (ap (λ (p : ℕ × ℕ). p.0) leads) ∙ ap (λ s. next_through full_subset_content both.left_map s bits) same ∙ ap (λ (p : ℕ × ℕ). p.1) leads

pub apart : IsReachedPair both (0, 1) → ⊥
apart reached = (let same : 0 ≡ 1 = in_one_state (0, 1) reached in omega (arith, same))

pub distinct_P_and_Q : HaveDistinctNumbers set_P_and_Q
distinct_P_and_Q = rising_distinct set_P_and_Q (omega arith, (tt, tt))

pub stands : StandsAmong full_subset_content (λ place. place) set_P_and_Q
stands =
    let rules = full_subset.canonical.rules in
    record { ordered = rules.ordered; closed = IsClosed-content full_subset_content rules; distinct = distinct_P_and_Q; leads = λ place v held. held }

pub swapped : StandsAmong full_subset_content (λ place. 1 - place) set_P_and_Q → ⊥
swapped is =
    let there : variable 1 Two ≡ variable 0 Two = same_Some (variable 1 Two) (variable 0 Two) (is.leads 0 (variable 0 Two) refl) in
    let names : 1 ≡ 0 = ap (λ (v : Variable). v.name) there in
    omega (arith, names)

pub subset_read : IsRead full_subset_content
subset_read =
    let canonical = full_subset.canonical in
    record {
      ordered = canonical.rules.ordered;
      reduced = canonical.reduced;
      closed = IsClosed-content full_subset_content canonical.rules;
      rising = (omega arith, (tt, tt));
      few_states = omega arith;
    }

-- starts lead P sub Q to two states and two nodes
pub no_five : NeedsAtLeast 5 full_subset_content → ⊥
no_five needs =
    let less : 5 ≤ part_count full_subset_content = few full_subset_content subset_read 5 needs (part_count full_subset_content) (canonical_reached full_subset_content full_subset.canonical distinct_P_and_Q) in
    omega (arith, less)

only_zero : (number : ℕ) (item : ℕ × ℕ) → slice_get ((0, 0) ∷ []) number ≡ Some item → number ≡ 0
only_zero number item held = (let within : number < 1 = slice_get_within ((0, 0) ∷ []) number item held in omega (arith, within))

pub needs_one : NeedsAtLeast 1 encodings_content
needs_one = record {
  classes = 0 ∷ [];
  numbers = (0, 0) ∷ [];
  nodes = [];
  numbering = record { no_repeats = λ one two item here there. only_zero one item here ∙ sym (only_zero two item there); small = omega arith };
  reached = λ number within. (
    word [] [],
    record { truth = refl; letters = tt },
    (
        let zero : 0 ≡ number = omega (arith, within) in
        subst (IsNumberOf (0 ∷ []) ((0, 0) ∷ []) (last_state encodings_content (word [] []))) zero
        (record { class = 0; class_is = ap (slice_get (0 ∷ [])) (last_of_true (word [] [])); number_is = refl })
        ),
  );
  ordered = full_true.canonical.rules.ordered;
  reduced = full_true.canonical.reduced;
  needed = λ place node held. absurd (none-some node held);
  many = omega arith;
}
