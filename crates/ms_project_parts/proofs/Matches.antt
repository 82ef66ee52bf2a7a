-- Automata of fewest states match the canonical contents that say the same, and what is built of a product matches pairs of their states.
use Rattle.std.proofs.Common.{◌≡◌, ℕ, zero, suc, ◌<◌, List, [], length, slice_get, slice_index, Option, Some, None, refl, sym, ap, subst, ◌∙◌, arith}
use Rattle.std.proofs.lemmas.Option.{slice_get_within}
use Rattle.ms_arena.specs.Diagram.{Bits, leaf_of}
use Rattle.ms_arena.proofs.Lists.{slice_get-held}
use Rattle.ms_arena.proofs.Paths.{leaf_of-leaf}
use Rattle.ms_arena.proofs.ReachLemmas.{leaf_of-tested}
use Rattle.ms_build_parts.proofs.Matching.{comparable, match_held, nexts, one_match, starts}
use Rattle.ms_build_parts.specs.Labels.{behind_state}
use Rattle.ms_build_parts.specs.Laws.{IsMeasuredBy}
use Rattle.ms_build_parts.specs.inner.Matched.{IsMatch}
use Rattle.ms_dfa.proofs.States.{state_in}
use Rattle.ms_dfa_explore.specs.Tracks.{places_among}
use Rattle.ms_dfa_explore.proofs.AmongLemmas.{leads_to, one_place}
use Rattle.ms_diagram.specs.Bring.{read_through}
use Rattle.ms_logic.specs.Lists.{AreRising}
use Rattle.ms_logic.specs.declared.mode.Mode.{Mode}
use Rattle.ms_logic_measures.specs.CallMeasures.{no_restriction}
use Rattle.ms_logic_measures.specs.Starts.{next_at}
use Rattle.ms_logic_words.specs.Content.{Content, IsContent, StateOf}
use Rattle.ms_logic_words.specs.declared.sign.Sign.{Sign}
use Rattle.ms_minim_canonical.proofs.ContentLemmas.{IsClosed-content, next_followed}
use Rattle.ms_product.specs.Pairing.{IsPairedIn, behind_pair, next_pair}
use Rattle.ms_product.specs.Widened.{behind_through}
use Rattle.ms_product.specs.declared.op.Op.TheVariants.{And}
use Rattle.ms_project.specs.Always.{always}
use Rattle.ms_project.specs.Paired.{operands_for}
use Rattle.ms_project.specs.Subsets.{next_of, next_ref}
use Rattle.ms_project.specs.Subsetting.{Subsetting, paired}
use Rattle.ms_project_parts.specs.inner.Matched.{AreMatched, IsMatchedByPairs, IsRead}

-- a content with the rules of a file reads the variables with a bit alone
module _ {Kind : Type 0} (content : Content Kind) (rules : IsContent content) where
  read_next : (state : ℕ) (one two : Bits) → ((found : StateOf Kind) → slice_get content.states state ≡ Some found → leaf_of content.nodes found.next one ≡ leaf_of content.nodes found.next two)
      → (found : Option (StateOf Kind)) → slice_get content.states state ≡ found → next_at content found one ≡ next_at content found two
  read_next state one two same None held = refl
  read_next state one two same (Some found) held = same found held

  read_by_rules : IsRead content
  read_by_rules = record {
    start = λ one two same.
        let closed = (IsClosed-content content rules).start in
        leaf_of-tested content.nodes rules.ordered content.start one two closed.valid (λ place tested. let found = closed.tests place tested in same place found.0 found.1 found.2);
    next = λ state one two same.
        read_next state one two
        (λ found held.
        let followed = next_followed content rules state found held in
        leaf_of-tested content.nodes rules.ordered found.next one two followed.valid (λ place tested. let at = followed.tests place tested in same place at.0 at.1 at.2))
        (slice_get content.states state) refl;
  }

-- an automaton of fewest states matches the canonical content
pub measured_matches : (one canonical : Content Sign) → IsMeasuredBy one canonical → AreMatched one canonical
measured_matches one canonical is = (let both = comparable one canonical is in record {
  Matches = IsMatch one canonical;
  single = one_match one canonical both;
  first = λ bits. (starts one canonical both).matched bits;
  next = λ p q bits match.
      let found = slice_get-held one.states p match.within in
      let there = match_held one canonical both p q match in
      subst (λ at. IsMatch one canonical (behind_state one at bits) (next_at canonical (slice_get canonical.states q) bits)) (sym found.1)
      (subst (λ at. IsMatch one canonical (leaf_of one.nodes found.0.next bits) (next_at canonical at bits)) (sym there.1)
      ((nexts one canonical both p q found.0 there.0 match found.1 there.1).matched bits));
  read = read_by_rules canonical is.is_canonical.rules;
})

-- truth matches a missing restriction
truth_next : (mode : Mode) (p : ℕ) (bits : Bits) → p ≡ 0 → behind_state (always mode) (slice_get (always mode).states p) bits ≡ 0
truth_next mode p bits is = ap (λ n. behind_state (always mode) (slice_get (always mode).states n) bits) is ∙ leaf_of-leaf [] bits 0

truth_read : (mode : Mode) (state : ℕ) (one two : Bits) → next_at (no_restriction mode) (slice_get (no_restriction mode).states state) one ≡ next_at (no_restriction mode) (slice_get (no_restriction mode).states state) two
truth_read mode zero one two = leaf_of-leaf [] one 0 ∙ sym (leaf_of-leaf [] two 0)
truth_read mode (suc state) one two = refl

pub truth_matches : (mode mode' : Mode) → AreMatched (always mode) (no_restriction mode')
truth_matches mode mode' = record {
  Matches = λ p q. p ≡ 0;
  single = λ p p' q first second. first ∙ sym second;
  first = λ bits. leaf_of-leaf [] bits 0;
  next = λ p q bits is. truth_next mode p bits is;
  read = record { start = λ one two same. leaf_of-leaf [] one 0 ∙ sym (leaf_of-leaf [] two 0); next = λ state one two same. truth_read mode' state one two };
}

through_is : (content : Content Sign) (map : List ℕ) (found : Option (StateOf Sign)) (bits : Bits) → behind_through content map found bits ≡ behind_state content found (read_through map bits)
through_is content map None bits = refl
through_is content map (Some state) bits = refl

module _ {Domain : Type 0} (body domain canonical : Content Sign) (restriction : Content Domain) (left : AreMatched body canonical) (right : AreMatched domain restriction)
    (rising : AreRising body.variables) (long : length canonical.variables ≡ length body.variables)
    (v : Subsetting) (pairs : List (ℕ × ℕ)) (is : IsPairedIn v.inner.nodes And (operands_for body domain) pairs v.start v.states) where
  abbrev pub map : List ℕ
  map = places_among domain.variables body.variables

  abbrev own_map : List ℕ
  own_map = places_among body.variables body.variables

  -- the body is read at its own places
  own_place : (place : ℕ) → place < length canonical.variables → slice_index own_map place ≡ place
  own_place place within =
      let held = slice_get-held body.variables place (omega (arith, within, long)) in
      one_place body.variables rising (slice_index own_map place) place held.0 (leads_to body.variables body.variables rising rising (λ w among. among) place held.0 held.1) held.1

  -- the states of a pair match those of both contents
  abbrev Matches : ℕ → ℕ → ℕ → Type 0
  Matches s p q = (pair : ℕ × ℕ) × (slice_get pairs s ≡ Some pair) × left.Matches pair.0 p × right.Matches pair.1 q

  one_pair : (s s' p q : ℕ) → Matches s p q → Matches s' p q → s ≡ s'
  one_pair s s' p q first second =
      let same_left = left.single first.0.0 second.0.0 p first.2 second.2 in
      let same_right = right.single first.0.1 second.0.1 q first.3 second.3 in
      is.numbering.no_repeats s s' second.0 (first.1 ∙ ap Some (λ k. (same_left k, same_right k))) second.1

  first_matches : (bits : Bits) → Matches (leaf_of v.inner.nodes v.start bits) (leaf_of canonical.nodes canonical.start bits) (leaf_of restriction.nodes restriction.start (λ place. bits (slice_index map place)))
  first_matches bits = (
    (leaf_of body.nodes body.start (read_through own_map bits), leaf_of domain.nodes domain.start (read_through map bits)),
    is.starts.meets bits,
    subst (left.Matches (leaf_of body.nodes body.start (read_through own_map bits)))
        (left.read.start (read_through own_map bits) bits (λ place w held holds. ap bits (own_place place (slice_get_within canonical.variables place w held))))
        (left.first (read_through own_map bits)),
    right.first (read_through map bits),
  )

  module _ (s p q : ℕ) (bits : Bits) (matches : Matches s p q) where
    abbrev pair : ℕ × ℕ
    pair = matches.0

    next_pair_is : slice_get pairs (leaf_of v.inner.nodes (next_of (paired v) s) bits) ≡ Some (next_pair (operands_for body domain) pair bits)
    next_pair_is =
        let within = slice_get_within pairs s pair matches.1 in
        let all = is.all in
        let state = slice_get-held v.states s (omega (arith, within, all)) in
        let meets = (is.follows s state.0 state.1).0.meets bits in
        ap (λ root. slice_get pairs (leaf_of v.inner.nodes root bits)) (ap next_ref (state_in v.states s state.0 state.1))
        ∙ subst (λ found. behind_pair (operands_for body domain) pairs found bits (leaf_of v.inner.nodes state.0.next bits)) matches.1 meets

    next_matches : Matches (leaf_of v.inner.nodes (next_of (paired v) s) bits) (next_at canonical (slice_get canonical.states p) bits) (next_at restriction (slice_get restriction.states q) (λ place. bits (slice_index map place)))
    next_matches = (
      next_pair (operands_for body domain) pair bits,
      next_pair_is,
      subst (λ n. left.Matches n (next_at canonical (slice_get canonical.states p) bits)) (sym (through_is body own_map (slice_get body.states pair.0) bits))
          (subst (left.Matches (behind_state body (slice_get body.states pair.0) (read_through own_map bits)))
          (left.read.next p (read_through own_map bits) bits (λ place w held holds. ap bits (own_place place (slice_get_within canonical.variables place w held))))
          (left.next pair.0 p (read_through own_map bits) matches.2)),
      subst (λ n. right.Matches n (next_at restriction (slice_get restriction.states q) (λ place. bits (slice_index map place)))) (sym (through_is domain map (slice_get domain.states pair.1) bits))
          (right.next pair.1 q (read_through map bits) matches.3),
    )

  pub pairs_match : IsMatchedByPairs (paired v) canonical restriction (λ place. slice_index map place)
  pairs_match = record {
    Matches = Matches;
    single = one_pair;
    first = first_matches;
    next = λ s p q bits matches. next_matches s p q bits matches;
    body_read = left.read;
    domain_read = right.read;
  }
