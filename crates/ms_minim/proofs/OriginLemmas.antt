-- From where nodes and states are reached, and that words lead to all states where each is reached from the start or from a state with
-- a lesser number.
use Rattle.std.proofs.Common.{◌≡◌, ℕ, zero, suc, ◌+◌, ◌<◌, ◌≤◌, ⊎_elim, Bool, false, true, List, [], ◌∷◌, ◌++◌, length, slice_get, Option, Some, None, IfSome, refl, sym, ap, subst, ◌∙◌, arith}
use Rattle.std.proofs.lemmas.Bool.{cases_lt}
use Rattle.std.proofs.lemmas.Option.{same_Some, slice_get_within, slice_get-get_or}
use Rattle.std.specs.Prelude.{get_or, slice_index}
use Rattle.ms_arena.specs.declared.node.Ref.{Ref}
use Rattle.ms_arena.specs.declared.node.Ref.TheVariants.{Leaf, Inner}
use Rattle.ms_arena.specs.declared.node.Node.{Node}
use Rattle.ms_arena.specs.Bits.{with_bit}
use Rattle.ms_arena.specs.Diagram.{Bits, leaf_of, IsBefore, IsValid}
use Rattle.ms_arena.proofs.Canonicity.{end_for, leaf_of-end_for}
use Rattle.ms_arena.proofs.Lists.{slice_get-held}
use Rattle.ms_arena.proofs.Paths.{IsBefore-later, leaf_of-leaf}
use Rattle.ms_logic.specs.declared.mode.Order.{Order}
use Rattle.ms_logic_words.specs.declared.sign.Sign.{Sign}
use Rattle.ms_logic_words.specs.Content.{StateOf, Content, IsFollowed, is_truth_value, first_state, state_after}
use Rattle.ms_dfa.specs.Narrow.{gathered}
use Rattle.ms_dfa.proofs.GatheredLemmas.{length-gathered}
use Rattle.ms_dfa.proofs.NarrowLemmas.{leaf_of-gathered}
use Rattle.ms_minim.specs.declared.origins.Origins.{Origins}
use Rattle.ms_minim.specs.inner.Origin.{nowhere, next_of, root_at, ComesFrom, origin_at, HasPlace, IsSeen, IsNoted, OriginsSoFar, AreOrigins, IsReachedState}
use Rattle.ms_minim.specs.inner.Partition.{behind, next_by}
use Rattle.ms_minim.specs.SignReading.{IsRead}
use Rattle.ms_minim.proofs.LettersLemmas.{AreLetters-append, state_after-append}
use Rattle.ms_minim.proofs.PartitionLemmas.{some_state}
use Rattle.ms_minim.proofs.ResidualLemmas.{letter_for, length-letter_for, next_state-letter_for, state_followed}

-- an item within a list, whatever stands for one that is not there
pub same_item : (list : List ℕ) (place other : ℕ) → place < length list → get_or list place other ≡ slice_index list place
same_item list place other within = same_Some (get_or list place other) (slice_index list place) (sym (slice_get-get_or list place other within) ∙ slice_get-get_or list place 0 within)

-- there is as much room as before
place_back : (early late : Origins) (reference : Ref) (origin : ℕ) → IsNoted early late reference origin → (other : Ref) → HasPlace late other → HasPlace early other
place_back early late reference origin noted (Leaf state) there = let same = noted.states in omega (arith, there, same)
place_back early late reference origin noted (Inner place) there = let same = noted.nodes in omega (arith, there, same)

-- what was seen is seen
pub seen_later : (early late : Origins) (reference : Ref) (origin : ℕ) → IsNoted early late reference origin → (other : Ref) → IsSeen early other → IsSeen late other
seen_later early late reference origin noted other seen = let lower = noted.lower other in omega (arith, lower, seen)

-- the diagram of each state is reached
pub seen_next : (content : Content Sign) (origins : Origins) → AreOrigins content origins → (state : ℕ) → (within : state < length content.states) → (root : Ref)
    → IfSome (slice_get content.states state) (λ (found : StateOf Sign). root ≡ found.next) → IsSeen origins root
seen_next content origins are state within root next =
    let held = slice_get-held content.states state within in
    let root_is : root ≡ held.0.next = subst (λ found. IfSome found (λ (s : StateOf Sign). root ≡ s.next)) held.1 next in
    subst (IsSeen origins) (ap next_of held.1 ∙ sym root_is) (are.next state within)

abbrev IsSound : Content Sign → Origins → Type 0
IsSound content origins = (reference : Ref) → HasPlace origins reference → IsSeen origins reference → ComesFrom content (origin_at origins reference) reference

-- what is noted stays right
sound_later : (content : Content Sign) (early late : Origins) (reference : Ref) (origin : ℕ) → IsNoted early late reference origin → IsSound content early → ComesFrom content origin reference → IsSound content late
sound_later content early late reference origin noted sound comes other place seen = ⊎_elim
    (λ same. subst (λ from. ComesFrom content from other) (sym same) (sound other (place_back early late reference origin noted other place) (subst (λ from. from < nowhere) same seen)))
    (λ own. subst (λ from. ComesFrom content from other) (sym own.1) (subst (ComesFrom content origin) (sym own.0) comes))
    (noted.only other)

module _ (content : Content Sign) (automaton : IsRead content) where
  -- the diagram of an origin leads to states
  root_leaves : (origin : ℕ) (bits : Bits) → leaf_of content.nodes (root_at content origin) bits < length content.states
  root_leaves zero bits = automaton.closed.start.states bits
  root_leaves (suc state) bits = by (slice_get content.states state) refl
    where
      by : (found : Option (StateOf Sign)) → slice_get content.states state ≡ found → leaf_of content.nodes (next_of found) bits < length content.states
      by None same = subst (λ n. n < length content.states) (sym (leaf_of-leaf content.nodes bits 0)) (let some = some_state content automaton in omega (arith, some))
      by (Some there) same = (state_followed content automaton.ordered automaton.closed state there same).states bits

  -- what is reached from an origin leads to states
  pub comes_leaves : (origin : ℕ) (reference : Ref) → ComesFrom content origin reference → (bits : Bits) → leaf_of content.nodes reference bits < length content.states
  comes_leaves origin reference comes bits = let first = comes bits in subst (λ n. n < length content.states) first.1 (root_leaves origin first.0)

  module _ (origins : Origins) (nodes : length origins.nodes.items ≡ length content.nodes) (states : length origins.states.items ≡ length content.states) where
    -- there is room for all that leads to states
    pub has_place : (reference : Ref) → IsValid content.nodes reference → ((bits : Bits) → leaf_of content.nodes reference bits < length content.states) → HasPlace origins reference
    has_place (Leaf state) valid leaves =
        let none : Bits = λ var. false in
        let within = leaves none in
        let own = leaf_of-leaf content.nodes none state in
        omega (arith, within, own, states)
    has_place (Inner place) valid leaves = omega (arith, valid, nodes)

    pub has_place_root : (has_value : Order → Bool) (root : Ref) → IsFollowed content has_value root → HasPlace origins root
    has_place_root has_value root is = has_place root is.valid is.states

  -- the start is reached from itself
  pub OriginsSoFar-start : (early late : Origins) → length early.nodes.items ≡ length content.nodes → length early.states.items ≡ length content.states
      → ((reference : Ref) → HasPlace early reference → ¬ IsSeen early reference) → IsNoted early late content.start 0 → OriginsSoFar content late 0 (length content.nodes)
  OriginsSoFar-start early late nodes states none noted = record {
    nodes = noted.nodes ∙ nodes;
    states_long = noted.states ∙ states;
    sound = sound_later content early late content.start 0 noted (λ reference place seen. absurd (none reference place seen)) (λ bits. (bits, refl));
    start = (let own = noted.own (has_place_root early nodes states is_truth_value content.start automaton.closed.start) in omega (arith, own));
    next = λ state less. absurd (omega (arith, less));
    closed = λ place node past held seen. absurd (let within = slice_get_within content.nodes place node held in omega (arith, within, past));
  }

  -- one state more is an origin
  pub OriginsSoFar-next : (early late : Origins) (state : ℕ) → OriginsSoFar content early state (length content.nodes) → (within : state < length content.states) → (root : Ref)
      → IfSome (slice_get content.states state) (λ (found : StateOf Sign). root ≡ found.next) → state + 1 < nowhere → IsNoted early late root (state + 1)
      → OriginsSoFar content late (state + 1) (length content.nodes)
  OriginsSoFar-next early late state was within root next few noted =
      let held = slice_get-held content.states state within in
      let root_is : root ≡ next_of (slice_get content.states state)
      = subst (λ found. IfSome found (λ (s : StateOf Sign). root ≡ s.next)) held.1 next ∙ ap next_of (sym held.1) in
      let followed = state_followed content automaton.ordered automaton.closed state held.0 held.1 in
      let root_followed = subst (IsFollowed content _) (sym (subst (λ found. IfSome found (λ (s : StateOf Sign). root ≡ s.next)) held.1 next)) followed in
      let comes : ComesFrom content (state + 1) root =
      subst (λ n. ComesFrom content n root) (let moved : suc state ≡ state + 1 = omega arith in moved)
      (λ bits. (bits, ap (λ r. leaf_of content.nodes r bits) (sym root_is))) in
      record {
        nodes = noted.nodes ∙ was.nodes;
        states_long = noted.states ∙ was.states_long;
        sound = sound_later content early late root (state + 1) noted was.sound comes;
        start = seen_later early late root (state + 1) noted content.start was.start;
        next = λ other less. ⊎_elim
            (λ before. seen_later early late root (state + 1) noted (next_of (slice_get content.states other)) (was.next other before))
            (λ past.
            let last : other ≡ state = omega (arith, less, past) in
            let own = noted.own (has_place_root early was.nodes was.states_long _ root root_followed) in
            subst (IsSeen late) (root_is ∙ ap (λ s. next_of (slice_get content.states s)) (sym last)) (omega (arith, own, few)))
            (cases_lt other state);
        closed = λ place node past_all held seen. absurd (let inside = slice_get_within content.nodes place node held in omega (arith, inside, past_all));
      }

  -- an end is reached from where its node is
  comes_end : (origin place : ℕ) (node : Node) (bit : Bool) → slice_get content.nodes place ≡ Some node → IsValid content.nodes (end_for node bit) → ComesFrom content origin (Inner place)
      → ComesFrom content origin (end_for node bit)
  comes_end origin place node bit held valid comes bits =
      let first = comes (with_bit bits node.var bit) in
      (first.0, first.1 ∙ leaf_of-end_for content.nodes automaton.ordered place node bit bits held valid)

  module _ (early : Origins) (states place : ℕ) (was : OriginsSoFar content early states (place + 1)) (node : Node) (held : slice_get content.nodes place ≡ Some node) where
    place_within : place < length content.nodes
    place_within = slice_get_within content.nodes place node held

    -- nothing is reached from a node that is not
    pub OriginsSoFar-unseen : (IsSeen early (Inner place) → ⊥) → OriginsSoFar content early states place
    OriginsSoFar-unseen unseen = record {
      nodes = was.nodes;
      states_long = was.states_long;
      sound = was.sound;
      start = was.start;
      next = was.next;
      closed = λ other there past is seen. ⊎_elim
          (λ more. was.closed other there (omega (arith, more)) is seen)
          (λ less. absurd (let same : other ≡ place = omega (arith, less, past) in unseen (subst (λ p. IsSeen early (Inner p)) same seen)))
          (cases_lt place other);
    }

    valid_low : IsValid content.nodes node.low
    valid_low = IsBefore-later place (length content.nodes) node.low (omega (arith, place_within)) (automaton.ordered.earlier_low place node held)

    valid_high : IsValid content.nodes node.high
    valid_high = IsBefore-later place (length content.nodes) node.high (omega (arith, place_within)) (automaton.ordered.earlier_high place node held)

    module _ (seen : IsSeen early (Inner place)) (origin : ℕ) (is : origin ≡ origin_at early (Inner place)) where
      comes_node : ComesFrom content origin (Inner place)
      comes_node = subst (λ from. ComesFrom content from (Inner place)) (sym is) (was.sound (Inner place) (let same = was.nodes in omega (arith, place_within, same)) seen)

      small : origin < nowhere
      small = subst (λ from. from < nowhere) (sym is) seen

      comes_low : ComesFrom content origin node.low
      comes_low = comes_end origin place node false held valid_low comes_node

      comes_high : ComesFrom content origin node.high
      comes_high = comes_end origin place node true held valid_high comes_node

      -- both ends of a node that is reached
      pub OriginsSoFar-ends : (middle late : Origins) → IsNoted early middle node.low origin → IsNoted middle late node.high origin → OriginsSoFar content late states place
      OriginsSoFar-ends middle late low high = record {
        nodes = high.nodes ∙ low.nodes ∙ was.nodes;
        states_long = high.states ∙ low.states ∙ was.states_long;
        sound = sound_later content middle late node.high origin high (sound_later content early middle node.low origin low was.sound comes_low) comes_high;
        start = both content.start was.start;
        next = λ state less. both (next_of (slice_get content.states state)) (was.next state less);
        closed = λ other there past held_other seen_other. ⊎_elim
            (λ more.
            let before = seen_before other more seen_other in
            let ends = was.closed other there (omega (arith, more)) held_other before in
            (both there.low ends.0, both there.high ends.1))
            (λ less.
            let same : place ≡ other = omega (arith, less, past) in
            let node_is : node ≡ there = same_Some node there (sym held ∙ ap (slice_get content.nodes) same ∙ held_other) in
            subst (λ (n : Node). IsSeen late n.low × IsSeen late n.high) node_is (low_seen, high_seen))
            (cases_lt place other);
      }
        where
          both : (reference : Ref) → IsSeen early reference → IsSeen late reference
          both reference was_seen = seen_later middle late node.high origin high reference (seen_later early middle node.low origin low reference was_seen)

          low_seen : IsSeen late node.low
          low_seen =
              let own = low.own (has_place early was.nodes was.states_long node.low valid_low (comes_leaves origin node.low comes_low)) in
              let lower = high.lower node.low in
              let few = small in
              omega (arith, own, lower, few)

          high_seen : IsSeen late node.high
          high_seen =
              let own = high.own (has_place middle (low.nodes ∙ was.nodes) (low.states ∙ was.states_long) node.high valid_high (comes_leaves origin node.high comes_high)) in
              let few = small in
              omega (arith, own, few)

          -- an end stands before its node
          no_end : (end : Ref) (other : ℕ) → place < other → IsBefore place end → Inner other ≡ end → ⊥
          no_end end other more before same = let less : other < place = subst (IsBefore place) (sym same) before in omega (arith, less, more)

          seen_before : (other : ℕ) → place < other → IsSeen late (Inner other) → IsSeen early (Inner other)
          seen_before other more seen_late = ⊎_elim
              (λ same_late. ⊎_elim
              (λ same_middle. subst (λ from. from < nowhere) (same_late ∙ same_middle) seen_late)
              (λ own. absurd (no_end node.low other more (automaton.ordered.earlier_low place node held) own.0))
              (low.only (Inner other)))
              (λ own. absurd (no_end node.high other more (automaton.ordered.earlier_high place node held) own.0))
              (high.only (Inner other))

  -- words lead to each state, where each is reached from the start or from a state with a lesser number
  module _ (origins : Origins) (are : AreOrigins content origins) (earlier : (state : ℕ) → state < length origins.states.items → origin_at origins (Leaf state) ≤ state) where
    none : Bits
    none = λ var. false

    -- the state, where words lead to those with lesser numbers
    reached_by : (state : ℕ) → state < length content.states → ((other : ℕ) → other < state → other < length content.states → IsReachedState content other) → (origin : ℕ)
        → origin_at origins (Leaf state) ≡ origin
        → (first : Bits) × (leaf_of content.nodes (root_at content origin) first ≡ leaf_of content.nodes (Leaf state) none) → origin ≤ state → IsReachedState content state
    reached_by state within before zero is comes least =
        let start = automaton.closed.start in
        let truth : List Bool = gathered is_truth_value 0 content.variables comes.0 in (
          record { truth = truth; letters = [] },
          record { truth = length-gathered is_truth_value content.variables comes.0 0; letters = tt },
          leaf_of-gathered content.nodes is_truth_value content.variables content.start comes.0 automaton.ordered start.valid start.tests
              ∙ comes.1 ∙ leaf_of-leaf content.nodes none state,
        )
    reached_by state within before (suc other) is comes least =
        let inside : other < length content.states = omega (arith, least, within) in
        let word = before other (omega (arith, least)) inside in
        let letter : List Bool = letter_for content automaton.ordered automaton.closed comes.0 in
        let there = slice_get-held content.states other inside in
        let leads : next_by content other comes.0 ≡ state
        = ap (λ found. behind content found comes.0) there.1 ∙ ap (λ found. leaf_of content.nodes (next_of found) comes.0) (sym there.1)
        ∙ comes.1 ∙ leaf_of-leaf content.nodes none state in (
          record { truth = word.0.truth; letters = word.0.letters ++ letter ∷ [] },
          record {
            truth = word.1.truth;
            letters = AreLetters-append content.variables word.0.letters (letter ∷ []) word.1.letters (length-letter_for content automaton.ordered automaton.closed comes.0, tt);
          },
          state_after-append content (first_state content word.0.truth) word.0.letters (letter ∷ [])
              ∙ ap (λ s. state_after content s (letter ∷ [])) word.2
              ∙ next_state-letter_for content automaton.ordered automaton.closed other inside comes.0 ∙ leads,
        )

    reached_below : (count state : ℕ) → state < count → state < length content.states → IsReachedState content state
    reached_below zero state below within = absurd (omega (arith, below))
    reached_below (suc count) state below within =
        let place : state < length origins.states.items = let same = are.states_long in omega (arith, within, same) in
        let least = earlier state place in
        let few = automaton.few_states in
        let seen : origin_at origins (Leaf state) < nowhere = omega (arith, least, within, few) in
        reached_by state within (λ other less inside. reached_below count other (omega (arith, less, below)) inside) (origin_at origins (Leaf state)) refl (are.sound (Leaf state) place seen none) least

    pub reached_all : (state : ℕ) → state < length content.states → IsReachedState content state
    reached_all state within = reached_below (suc state) state (omega arith) within
