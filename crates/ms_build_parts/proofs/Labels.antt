-- Closed contents, and those of fewest states, have labels.
use Rattle.std.proofs.Common.{◌≡◌, ℕ, ◌<◌, ◌≤◌, Bool, [], length, Some, None, refl, sym, ap, subst, ◌∙◌, arith}
use Rattle.ms_arena.specs.declared.node.Ref.{Ref}
use Rattle.ms_arena.specs.Bits.{below_from}
use Rattle.ms_arena.specs.Diagram.{Bits, leaf_of, IsOrdered}
use Rattle.ms_arena.proofs.Lists.{slice_get-held}
use Rattle.ms_dfa_explore.specs.Explored.{Origin}
use Rattle.ms_logic.specs.declared.mode.Order.{Order}
use Rattle.ms_logic_measures.specs.FullContent.{part_count}
use Rattle.ms_logic_starts.specs.AtLeast.{IsAtLeastNumber, IsLabelling}
use Rattle.ms_logic_starts.specs.FirstBits.{BitsLeave}
use Rattle.ms_logic_starts.proofs.AtLeastLemmas.{at_most_labels}
use Rattle.ms_logic_starts.proofs.FirstBitsLemmas.{first_bits_leave}
use Rattle.ms_logic_starts.proofs.Tabulated.{tabulated}
use Rattle.std.proofs.lemmas.Option.{slice_get_within}
use Rattle.ms_logic_words.specs.Content.{Content, IsClosed, IsFollowed, NamesPart, is_in_letters, is_truth_value}
use Rattle.ms_logic_words.specs.declared.sign.Sign.{Sign}
use Rattle.ms_product.proofs.WidenedLemmas.{followed}
use Rattle.ms_build_parts.specs.Labels.{IsLabelledBelow, IsOrigin, behind, behind_state}
use Rattle.ms_build_parts.specs.Laws.{ClosedContentsHaveLabels, IsMeasuredBy, MeasuredContentsHaveLabels}
use Rattle.ms_build_parts.specs.SaySame.{AreComparable}
use Rattle.ms_build_parts.specs.inner.Matched.{IsMatch, IsMatchedBy, number_of_part}
use Rattle.ms_build_parts.proofs.Matching.{AreRoots, comparable, left_named, match_held, matched_part, nexts, number_below, one_function, one_match, one_part, starts, state_match}

-- the numbers below a bound differ, and are as many
pub below_bound : (n : ℕ) → IsAtLeastNumber (λ (one other : ℕ). one ≡ other) (λ item. item < n) n
below_bound n =
    let row = tabulated n (λ i item. item ≡ i) (λ i below. (i, refl)) in
    let long = row.1 in
    record {
      chosen = row.0;
      items = λ i other below. let is = row.2 i other (omega (arith, long, below)) in omega (arith, is, long, below);
      different = λ i j other before within same. (
          let first = row.2 i other (omega (arith, long, before, within)) in
          let second = row.2 j other (omega (arith, long, within)) in
          omega (arith, first, second, same, before));
      count = omega (arith, long);
    }

-- an origin leads where a followed reference does
pub record IsRootOf (content : Content Sign) (origin : Origin) : Type 0 where
  pub has_bit : Order → Bool
  pub root : Ref
  pub followed : IsFollowed content has_bit root
  pub leads : (bits : Bits) → behind content origin bits ≡ leaf_of content.nodes root bits

pub root_of : (content : Content Sign) → IsClosed content → (origin : Origin) → IsOrigin content origin → IsRootOf content origin
root_of content closed None is = record { has_bit = is_truth_value; root = content.start; followed = closed.start; leads = λ bits. refl }
root_of content closed (Some state) is =
    let held = slice_get-held content.states state is in
    record {
      has_bit = is_in_letters;
      root = held.0.next;
      followed = followed content [] closed state held.0 held.1;
      leads = λ bits. ap (λ found. behind_state content found bits) held.1;
    }

-- the part that first bits leave is a label
module _ (content : Content Sign) (ordered : IsOrdered content.nodes) (closed : IsClosed content) where
  abbrev Root : (origin : Origin) → IsOrigin content origin → Ref
  Root origin is = (root_of content closed origin is).root

  left_of : (origin : Origin) (is : IsOrigin content origin) (level : ℕ) (first : Bits) → (reference : Ref) × BitsLeave content.nodes (Root origin is) level first reference
  left_of origin is level first = first_bits_leave content.nodes ordered (Root origin is) level first (root_of content closed origin is).followed.valid

  left_is : (origin : Origin) (is : IsOrigin content origin) (level : ℕ) (first bits : Bits) → behind content origin (below_from level first bits) ≡ leaf_of content.nodes (left_of origin is level first).0 bits
  left_is origin is level first bits = (root_of content closed origin is).leads (below_from level first bits) ∙ (left_of origin is level first).1.function bits

  named : (origin : Origin) (is : IsOrigin content origin) (level : ℕ) (first : Bits) → NamesPart content (left_of origin is level first).0
  named origin is level first =
      left_named content (Root origin is) level first (left_of origin is level first).0 (root_of content closed origin is).followed.states (left_of origin is level first).1

  pub closed_labels : IsLabelledBelow content (part_count content)
  closed_labels = record {
    ordered = ordered;
    closed = closed;
    label = λ origin is level first. number_of_part content (left_of origin is level first).0;
    below = λ origin is level first. number_below content (left_of origin is level first).0 (named origin is level first);
    alike = λ one other is_one is_other level level' first first' same bits.
        let part = one_part content (left_of one is_one level first).0 (left_of other is_other level' first').0 (named one is_one level first) (named other is_other level' first') same in
        left_is one is_one level first bits
        ∙ ap (λ (reference : Ref). leaf_of content.nodes reference bits) part
        ∙ sym (left_is other is_other level' first' bits);
    states = omega arith;
  }

pub closed_contents : ClosedContentsHaveLabels
closed_contents content ordered closed = closed_labels content ordered closed

-- so is the part of the canonical content that says the same
module _ (one other : Content Sign) (measured : IsMeasuredBy one other) where
  abbrev is : AreComparable one other
  is = comparable one other measured

  -- an origin leads where a reference does to which one of the other content corresponds
  pub record AreRootsOf (origin : Origin) : Type 0 where
    pub has_bit : Order → Bool
    pub root : Ref
    pub canonical : Ref
    pub roots : AreRoots one other is has_bit root canonical
    pub leads : (bits : Bits) → behind one origin bits ≡ leaf_of one.nodes root bits

  roots_of : (origin : Origin) → IsOrigin one origin → AreRootsOf origin
  roots_of None within = record { has_bit = is_truth_value; root = one.start; canonical = other.start; roots = starts one other is; leads = λ bits. refl }
  roots_of (Some state) within =
      let held = slice_get-held one.states state within in
      let match = state_match one other is state within in
      let there = match_held one other is state match.0 match.1 in
      record {
        has_bit = is_in_letters;
        root = held.0.next;
        canonical = there.0.next;
        roots = nexts one other is state match.0 held.0 there.0 match.1 held.1 there.1;
        leads = λ bits. ap (λ found. behind_state one found bits) held.1;
      }

  part_of : (origin : Origin) (within : IsOrigin one origin) (level : ℕ) (first : Bits)
      → (number : ℕ) × (number < part_count other) × IsMatchedBy one other (λ bits. leaf_of one.nodes (roots_of origin within).root (below_from level first bits)) number
  part_of origin within level first =
      let roots = roots_of origin within in
      matched_part one other is roots.has_bit roots.root roots.canonical roots.roots level first

  -- each state matches another one
  state_labels : IsLabelling (λ (p q : ℕ). p ≡ q) (λ p. p < length one.states) (λ p q v. IsMatch one other p q) (length other.states) 1
  state_labels = record {
    labelled = λ p within.
        let match = state_match one other is p within in
        let held = match_held one other is p match.0 match.1 in
        (match.0, 0, slice_get_within other.states match.0 held.0 held.1, omega arith, match.1);
    alike = λ p p' within also q v first second. one_match one other is p p' q first second;
  }

  no_more_states : length one.states ≤ part_count other
  no_more_states =
      let few = at_most_labels (λ (p q : ℕ). p ≡ q) (λ p. p < length one.states) (λ p q v. IsMatch one other p q) (length other.states) 1 (length one.states) state_labels (below_bound (length one.states)) in
      omega (arith, few)

  pub measured_labels : IsLabelledBelow one (part_count other)
  measured_labels = record {
    ordered = is.ordered;
    closed = is.closed;
    label = λ origin within level first. (part_of origin within level first).0;
    below = λ origin within level first. (part_of origin within level first).1;
    alike = λ origin another within also level level' first first' same bits.
        let left = part_of origin within level first in
        let right = part_of another also level' first' in
        let here : Bits → ℕ = λ k. leaf_of one.nodes (roots_of origin within).root (below_from level first k) in
        let there : Bits → ℕ = λ k. leaf_of one.nodes (roots_of another also).root (below_from level' first' k) in
        (roots_of origin within).leads (below_from level first bits)
        ∙ one_function one other is here there right.0 (subst (λ n. IsMatchedBy one other here n) same left.2) right.2 bits
        ∙ sym ((roots_of another also).leads (below_from level' first' bits));
    states = no_more_states;
  }

pub measured_contents : MeasuredContentsHaveLabels
measured_contents one other is = measured_labels one other is
