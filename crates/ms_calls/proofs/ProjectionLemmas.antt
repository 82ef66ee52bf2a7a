-- What quantifiers need of automata is within their measures: states match themselves, and pairs that are reached are led to.
use Rattle.std.proofs.Common.{◌≡◌, ℕ, ◌+◌, ◌*◌, ◌<◌, ◌≤◌, ⊎_elim, Bool, List, [], ◌∷◌, length, slice_get, slice_index, Option, Some, None, refl, sym, ap, ◌∙◌, arith}
use Rattle.std.proofs.Math.Nat.{mul-le-mul_right}
use Rattle.std.proofs.lemmas.Option.{none-some}
use Rattle.ms_list.specs.declared.word.Word.{Word}
use Rattle.ms_arena.specs.Diagram.{Bits, leaf_of}
use Rattle.ms_arena.specs.declared.node.Ref.{Ref}
use Rattle.ms_arena.specs.declared.node.Ref.TheVariants.{Leaf}
use Rattle.ms_arena.proofs.Paths.{leaf_of-leaf}
use Rattle.ms_arena.proofs.ReachLemmas.{leaf_of-tested}
use Rattle.ms_build_parts.specs.Labels.{behind_state}
use Rattle.ms_dfa.specs.Automaton.{IsAutomaton}
use Rattle.ms_dfa.specs.declared.state.State.{State}
use Rattle.ms_diagram.specs.Store.{Contents}
use Rattle.ms_product.proofs.WidenedLemmas.{followed}
use Rattle.ms_dfa_explore.specs.Tracks.{places_among}
use Rattle.ms_dfa_explore.proofs.AmongLemmas.{leads_to}
use Rattle.ms_dfa_explore.proofs.TracksLemmas.{place_of-among}
use Rattle.ms_logic.specs.Assignment.{Variable}
use Rattle.ms_logic.specs.Lists.{AreRising, without}
use Rattle.ms_logic.specs.declared.mode.Mode.{Mode}
use Rattle.ms_logic_measures.specs.CallMeasures.{IsNumberOf, LeadToPairs, LeadToSameSet, LeaveSameOfBoth, call_measure, no_restriction}
use Rattle.ms_logic_measures.specs.Starts.{IsStartOver, Start, left_by, narrowed, next_at, part_of_letter, some_truth_values, state_at, whole_word, with_free_bits}
use Rattle.ms_logic_measures.proofs.Counting.{number_along}
use Rattle.ms_logic_starts.proofs.RisingLemmas.{rising_distinct}
use Rattle.ms_logic_words.specs.Content.{Content, StateOf, is_in_letters, is_truth_value, letter_bits, state_after, truth_bits}
use Rattle.ms_logic_words.specs.declared.sign.Sign.{Sign}
use Rattle.ms_logic_words.specs.declared.sign.Sign.TheVariants.{Yes}
use Rattle.ms_product.specs.Pairing.{IsPairedIn, ReachedAreAtLeast}
use Rattle.ms_product.specs.declared.op.Op.TheVariants.{And}
use Rattle.ms_project.specs.Always.{always}
use Rattle.ms_project.specs.Paired.{operands_for}
use Rattle.ms_project.specs.Projection.{ReachedNeedsAtLeast, SetsOfAnswerAreAtLeast, begun_behind}
use Rattle.ms_project.specs.Subsetting.{SetsAreAtLeast}
use Rattle.ms_project.proofs.AlwaysLemmas.{IsAutomaton-always}
use Rattle.ms_project_parts.proofs.Found.{few_outer}
use Rattle.ms_project_parts.proofs.Matches.{truth_matches}
use Rattle.ms_project_parts.specs.Laws.{IsBoundAs}
use Rattle.ms_project_parts.specs.inner.Matched.{AreMatched, IsRead}
use Rattle.ms_calls.specs.Projections.{IsBody, IsRange, ProjectionsAreWithinMeasure, ProjectionsNeedFewSets, UnrestrictedAreWithinMeasure, UnrestrictedNeedFewSets}
use Rattle.ms_calls.proofs.ConnectiveLemmas.{stands_among}
use Rattle.ms_calls.proofs.Pairs.{products_need_few_pairs}

-- an automaton reads the variables with a bit alone, and matches itself
module _ (content : Content Sign) (automaton : IsAutomaton content) where
  read_next : (state : ℕ) (one two : Bits) → ((found : StateOf Sign) → slice_get content.states state ≡ Some found → leaf_of content.nodes found.next one ≡ leaf_of content.nodes found.next two)
      → (found : Option (StateOf Sign)) → slice_get content.states state ≡ found → next_at content found one ≡ next_at content found two
  read_next state one two same None held = refl
  read_next state one two same (Some found) held = same found held

  own_read : IsRead content
  own_read = record {
    start = λ one two same.
        let closed = automaton.closed.start in
        leaf_of-tested content.nodes automaton.ordered content.start one two closed.valid (λ place tested. let found = closed.tests place tested in same place found.0 found.1 found.2);
    next = λ state one two same.
        read_next state one two
        (λ found held.
        let closed = followed content [] automaton.closed state found held in
        leaf_of-tested content.nodes automaton.ordered found.next one two closed.valid (λ place tested. let at = closed.tests place tested in same place at.0 at.1 at.2))
        (slice_get content.states state) refl;
  }

  behind_is : (found : Option (StateOf Sign)) (bits : Bits) → behind_state content found bits ≡ next_at content found bits
  behind_is None bits = refl
  behind_is (Some found) bits = refl

  own_matches : AreMatched content content
  own_matches = record {
    Matches = λ p q. p ≡ q;
    single = λ p p' q first second. first ∙ sym second;
    first = λ bits. refl;
    next = λ p q bits same. ap (λ s. behind_state content (slice_get content.states s) bits) same ∙ behind_is (slice_get content.states q) bits;
    read = own_read;
  }

-- a content of one state over no variables
abbrev one_state : {S : Type 0} → Mode → S → Content S
one_state mode sign = record { mode = mode; variables = []; start = Leaf 0; states = record { sign = sign; next = Leaf 0 } ∷ []; nodes = [] }

module _ {S : Type 0} (mode : Mode) (sign : S) (variables : List Variable) where
  after_letters : (letters : List (List Bool)) → state_after (one_state mode sign) 0 letters ≡ 0
  after_letters [] = refl
  after_letters (letter ∷ letters) = ap (λ s. state_after (one_state mode sign) s letters) (leaf_of-leaf [] (letter_bits [] letter) 0) ∙ after_letters letters

  at_word : (word : Word) → state_at (one_state mode sign) variables word ≡ 0
  at_word word =
      let few = narrowed variables word [] in
      ap (λ s. state_after (one_state mode sign) s few.letters) (leaf_of-leaf [] (truth_bits [] few.truth) 0) ∙ after_letters few.letters

  one_state_left : (start : Start) (rest : Bits) → left_by (one_state mode sign) variables start rest ≡ 0
  one_state_left (some_truth_values values) rest = leaf_of-leaf [] (with_free_bits is_truth_value variables values [] rest) 0
  one_state_left (whole_word word) rest = at_word word
  one_state_left (part_of_letter word bits) rest =
      ap (λ s. next_at (one_state mode sign) (slice_get (one_state mode sign).states s) (with_free_bits is_in_letters variables bits [] rest)) (at_word word)
      ∙ leaf_of-leaf [] (with_free_bits is_in_letters variables bits [] rest) 0

-- so starts lead a body and such a content to the same pairs, whatever its one sign is
truth_pairs : (body : Content Sign) (mode : Mode) (n : ℕ) → LeadToPairs body (no_restriction mode) body.variables n → LeadToPairs body (always body.mode) body.variables n
truth_pairs body mode n =
    number_along (LeaveSameOfBoth body (no_restriction mode) body.variables) (LeaveSameOfBoth body (always body.mode) body.variables) (IsStartOver body.variables) (IsStartOver body.variables) n
    (λ one other. (
      λ same. (same.0, λ rest. one_state_left body.mode Yes body.variables one rest ∙ sym (one_state_left body.mode Yes body.variables other rest)),
      λ same. (same.0, λ rest. one_state_left mode tt body.variables one rest ∙ sym (one_state_left mode tt body.variables other rest)),
    ))
    (λ start. (λ over. over, λ over. over))

bound_as_itself : (body : Content Sign) (bound : Variable) → IsBody body bound → IsBoundAs body body bound bound
bound_as_itself body bound is = record { rising = is.automaton.rising; among = is.among; stands = place_of-among body.variables bound is.automaton.rising is.among }

module _ (body domain : Content Sign) (bound : Variable) (is_body : IsBody body bound) (is_range : IsRange body domain) where
  rising : AreRising body.variables
  rising = is_body.automaton.rising

  few_pairs : (count : ℕ) → ReachedAreAtLeast count And (operands_for body domain) → (n : ℕ) → LeadToPairs body domain body.variables n → count ≤ n
  few_pairs count needs n counted =
      products_need_few_pairs And (operands_for body domain) body.variables (rising_distinct body.variables rising)
      (stands_among body body.variables is_body.automaton rising (λ v there. there)) (stands_among domain body.variables is_range.automaton rising is_range.for_body.among) count needs n counted

  -- the content by which the domain is measured has states that match its own, and its variables stand where those of the domain do
  module _ {Domain : Type 0} (restriction : Content Domain) (right : AreMatched domain restriction)
      (stands : (place : ℕ) (w : Variable) → slice_get restriction.variables place ≡ Some w → slice_get body.variables (slice_index (places_among domain.variables body.variables) place) ≡ Some w)
      (m : ℕ) (counted : IsNumberOf (LeadToSameSet body restriction bound) (IsStartOver (without bound.name body.variables)) m) where
    -- what is found behind a product
    few_found : (inner : Contents) (start : Ref) (states : List State) (pairs : List (ℕ × ℕ)) → IsPairedIn inner.nodes And (operands_for body domain) pairs start states
        → (count : ℕ) → SetsAreAtLeast count (begun_behind body bound.name inner start states) → count ≤ m
    few_found inner start states pairs paired count sets =
        let few = few_outer body domain body restriction bound bound (bound_as_itself body bound is_body) (rising_distinct body.variables rising) refl is_range.automaton.rising is_range.for_body.among stands
        (own_matches body is_body.automaton) right m counted inner start states pairs paired sets.found sets.outer sets.behind in
        let many = sets.many in
        omega (arith, few, many)

    few_answer : (count : ℕ) → SetsOfAnswerAreAtLeast count body domain bound.name → count ≤ m
    few_answer count answer = few_found answer.inner answer.start answer.states answer.pairs answer.paired count answer.sets

    few : (count : ℕ) → ReachedNeedsAtLeast count body domain bound.name → (n : ℕ) → LeadToPairs body domain body.variables n → count ≤ n + 2 * m
    few count needs n pairs = ⊎_elim
        (λ product. let less = few_pairs count product n pairs in omega (arith, less))
        (λ reached.
        let product = reached.sets in
        let less = few_found product.inner product.start product.states product.pairs product.paired count product.sets in
        omega (arith, less))
        needs

-- what is at most the pairs that are read and twice the sets is below the measure
below_twice : (limit n parts m r : ℕ) → limit ≤ n + 2 * m → r ≡ n + parts → limit < call_measure m r
below_twice limit n parts m r few read =
    let t = m + r + 2 in
    let square : 1 * t ≤ t * t = mul-le-mul_right t (let one : 1 ≤ t = omega arith in one) in
    omega (arith, square, few, read)

-- the variables of a domain stand where they are said to
stands_at : (body domain : Content Sign) (bound : Variable) → IsBody body bound → IsRange body domain → (place : ℕ) (w : Variable) → slice_get domain.variables place ≡ Some w
    → slice_get body.variables (slice_index (places_among domain.variables body.variables) place) ≡ Some w
stands_at body domain bound is_body is_range = leads_to domain.variables body.variables is_range.automaton.rising is_body.automaton.rising is_range.for_body.among

pub projections_are_within_measure : ProjectionsAreWithinMeasure
projections_are_within_measure body domain bound is_body is_range limit needs m r measure =
    below_twice limit measure.pairs measure.parts m r
    (few body domain bound is_body is_range domain (own_matches domain is_range.automaton) (stands_at body domain bound is_body is_range) m measure.made limit needs measure.pairs measure.pairs_read) measure.read

pub projections_need_few_sets : ProjectionsNeedFewSets
projections_need_few_sets body domain bound is_body is_range count answer m r measure =
    few_answer body domain bound is_body is_range domain (own_matches domain is_range.automaton) (stands_at body domain bound is_body is_range) m measure.made count answer

pub always_range : (body : Content Sign) → IsRange body (always body.mode)
always_range body = record { automaton = IsAutomaton-always body.mode; for_body = record { mode = refl; among = λ v none. absurd none } }

pub unrestricted_are_within_measure : UnrestrictedAreWithinMeasure
unrestricted_are_within_measure body bound mode is_body limit needs m r measure =
    below_twice limit measure.pairs measure.parts m r
    (few body (always body.mode) bound is_body (always_range body) (no_restriction mode) (truth_matches body.mode mode) (λ place w held. absurd (none-some w held)) m measure.made limit needs measure.pairs
    (truth_pairs body mode measure.pairs measure.pairs_read)) measure.read

pub unrestricted_need_few_sets : UnrestrictedNeedFewSets
unrestricted_need_few_sets body bound mode is_body count answer m r measure =
    few_answer body (always body.mode) bound is_body (always_range body) (no_restriction mode) (truth_matches body.mode mode) (λ place w held. absurd (none-some w held)) m measure.made count answer
