-- A machine whose reached states differ is a canonical content.
use Rattle.std.proofs.Common.{◌≡◌, ℕ, ◌<◌, inl, inr, ⊎_elim, Bool, false, List, [], ◌∷◌, length, replicate, slice_get, Some, refl, sym, ap, subst, ◌∙◌, arith}
use Rattle.std.specs.List.{flat_map}
use Rattle.std.specs.Option.{option_map}
use Rattle.std.proofs.lemmas.Bool.{cases_lt}
use Rattle.std.proofs.lemmas.List.{length-replicate}
use Rattle.std.proofs.lemmas.Option.{same_Some, none-some, slice_get_within}
use Rattle.ms_list.specs.declared.word.Word.{Word}
use Rattle.ms_arena.specs.declared.node.Ref.{Ref}
use Rattle.ms_arena.specs.declared.node.Ref.TheVariants.{Leaf, Inner}
use Rattle.ms_arena.specs.declared.node.Node.{Node}
use Rattle.ms_arena.specs.Diagram.{IsBefore, IsValid}
use Rattle.ms_arena.proofs.Lists.{slice_get-held}
use Rattle.ms_arena.proofs.Paths.{IsBefore-later}
use Rattle.ms_logic.specs.Assignment.{Variable}
use Rattle.ms_logic.specs.FiniteSet.{numbers_below}
use Rattle.ms_logic.specs.declared.mode.Mode.{Mode}
use Rattle.ms_logic_words.specs.Canonical.{IsCanonical, IsNodeReached, first_sights_of, seen_leaves, seen_nodes}
use Rattle.ms_logic_words.specs.Content.{StateOf, Content, IsContent, IsWordOver, AreLetters, NamesPart, count_of, first_state, is_in_letters, is_truth_value, last_state, letter_bits, next_from, next_state, sign_at, sign_of, state_after, truth_bits}
use Rattle.ms_logic_machines.specs.Laws.{HasCanonicalContent}
use Rattle.ms_logic_machines.specs.Machine.{Machine, machine_after, machine_sign}
use Rattle.ms_logic_machines.proofs.Diagrams.{IsDiagram, diagram-extends}
use Rattle.ms_logic_machines.proofs.Exploring.{Explored, IsStateAt, explore}
use Rattle.ms_logic_machines.proofs.MadeNodes.{make}
use Rattle.ms_logic_machines.proofs.Making.{Made}
use Rattle.ms_logic_machines.proofs.Runs.{HaveEqualSigns, IsReachedBy, reached_start}
use Rattle.ms_logic_machines.proofs.Sights.{Sees, first_sights-sees, sees-append}
use Rattle.ms_logic_machines.proofs.Stores.{IsStore, NamesLeaf}
use Rattle.ms_logic_machines.proofs.Walks.{leaves_from, places_from, leaves-extends, places-extends, reaches-extends}

-- at first there are neither states nor nodes
no_store : (variables : ℕ) (P : ℕ → Type 0) → IsStore variables P [] []
no_store variables P = record {
  ordered = record {
    earlier_low = λ place node held. absurd (none-some node held);
    earlier_high = λ place node held. absurd (none-some node held);
    rising_low = λ place node held. absurd (none-some node held);
    rising_high = λ place node held. absurd (none-some node held);
  };
  reduced = record {
    ends_differ = λ place node held. absurd (none-some node held);
    distinct = λ one two node held other. absurd (none-some node held);
  };
  sound = λ place node held. absurd (none-some node held);
  distinct = λ one two state held other. absurd (none-some state held);
  good = λ place state held. absurd (none-some state held);
}

-- a reference to a state and a node of the content
named_part : {Sign : Type 0} (content : Content Sign) (reference : Ref) → IsValid content.nodes reference → NamesLeaf (length content.states) reference
    → NamesPart content reference
named_part content (Leaf state) valid leaf = leaf
named_part content (Inner place) valid leaf = valid

module _ {Sign : Type 0} (mode : Mode) (variables : List Variable) (machine : Machine Sign)
    (made : Made variables is_truth_value (IsReachedBy variables machine) [] [] variables 0 machine.start)
    (explored : Explored variables machine made.after made.nodes_after 0) where
  abbrev pub content : Content Sign
  content = record { mode = mode; variables = variables; start = made.root; states = explored.states; nodes = explored.nodes_after }

  as_many : length explored.after ≡ length explored.states
  as_many = let many = explored.many in omega (arith, many)

  start_is : IsDiagram variables is_truth_value explored.after explored.nodes_after variables 0 machine.start made.root
  start_is =
      diagram-extends variables is_truth_value made.after explored.after made.nodes_after explored.nodes_after variables 0 machine.start made.root
      made.store.ordered explored.grows explored.extends made.is

  state_is : (place : ℕ) (state : StateOf Sign) → slice_get explored.states place ≡ Some state
      → IsStateAt variables machine explored.after explored.nodes_after place state
  state_is place state held = subst (λ n. IsStateAt variables machine explored.after explored.nodes_after n state) (omega arith) (explored.led place state held)

  -- the state at a place where one was found
  state_at : (place own : ℕ) → slice_get explored.after place ≡ Some own
      → (state : StateOf Sign) × (slice_get explored.states place ≡ Some state) × (state.sign ≡ machine.sign own)
      × IsDiagram variables is_in_letters explored.after explored.nodes_after variables 0 (machine.next own) state.next
  state_at place own held =
      let within = slice_get_within explored.after place own held in
      let there = slice_get-held explored.states place (omega (arith, within, as_many)) in
      let is = state_is place there.0 there.1 in
      let same : is.own ≡ own = same_Some is.own own (sym is.held ∙ held) in (
        there.0,
        there.1,
        is.sign ∙ ap machine.sign same,
        subst (λ n. IsDiagram variables is_in_letters explored.after explored.nodes_after variables 0 (machine.next n) there.0.next) same is.is,
      )

  -- a word leads in the content to the place of the state to which it leads in the machine
  first_is : (truth : List Bool) → length truth ≡ count_of is_truth_value variables
      → slice_get explored.after (first_state content truth) ≡ Some (machine.start truth)
  first_is truth long = start_is.right (truth_bits variables truth) truth long (λ i. ap (truth_bits variables truth) (omega arith))

  next_is : (place own : ℕ) (letter : List Bool) → slice_get explored.after place ≡ Some own → length letter ≡ count_of is_in_letters variables
      → slice_get explored.after (next_state content place letter) ≡ Some (machine.next own letter)
  next_is place own letter held long =
      let there = state_at place own held in
      ap (slice_get explored.after) (ap (λ found. next_from content found letter) there.1)
      ∙ there.3.right (letter_bits variables letter) letter long (λ i. ap (letter_bits variables letter) (omega arith))

  after_is : (letters : List (List Bool)) (place own : ℕ) → slice_get explored.after place ≡ Some own → AreLetters variables letters
      → slice_get explored.after (state_after content place letters) ≡ Some (machine_after machine own letters)
  after_is [] place own held are = held
  after_is (letter ∷ letters) place own held are =
      after_is letters (next_state content place letter) (machine.next own letter) (next_is place own letter held are.0) are.1

  last_is : (word : Word) → IsWordOver variables word
      → slice_get explored.after (last_state content word) ≡ Some (machine_after machine (machine.start word.truth) word.letters)
  last_is word over = after_is word.letters (first_state content word.truth) (machine.start word.truth) (first_is word.truth over.truth) over.letters

  sign_is : (place own : ℕ) → slice_get explored.after place ≡ Some own → sign_at content place ≡ Some (machine.sign own)
  sign_is place own held =
      let there = state_at place own held in
      ap (option_map (λ (state : StateOf Sign). state.sign)) there.1 ∙ ap Some there.2

  -- so it has its sign there
  pub signs : (word : Word) → IsWordOver variables word → sign_of content word ≡ Some (machine_sign machine word)
  signs word over = sign_is (last_state content word) (machine_after machine (machine.start word.truth) word.letters) (last_is word over)

  states_reached : (i : ℕ) → i < length explored.states → (word : Word) × IsWordOver variables word × (last_state content word ≡ i)
  states_reached i within =
      let there = slice_get-held explored.after i (omega (arith, within, as_many)) in
      let reached = explored.store.good i there.0 there.1 in (
        reached.0,
        reached.1,
        explored.store.distinct (last_state content reached.0) i there.0 (last_is reached.0 reached.1 ∙ ap Some reached.2) there.1,
      )

  nodes_reached : (place : ℕ) → place < length explored.nodes_after → IsNodeReached content place
  nodes_reached place within = ⊎_elim
      (λ early. inl (reaches-extends made.nodes_after explored.nodes_after explored.extends (made.reached place (omega arith) early)))
      (λ later. inr (explored.reached place later within))
      (cases_lt place (length made.nodes_after))

  numbered : (first_sights_of (seen_leaves content) ≡ numbers_below (length explored.states))
      × (first_sights_of (seen_nodes content) ≡ numbers_below (length explored.nodes_after))
  numbered =
      let leaves = leaves-extends made.nodes_after explored.nodes_after made.store.ordered explored.extends made.root made.is.valid in
      let places = places-extends made.nodes_after explored.nodes_after made.store.ordered explored.extends made.root made.is.valid in (
        first_sights-sees (length explored.after) (seen_leaves content)
            (sees-append 0 (length made.after) (length explored.after) (leaves_from explored.nodes_after made.root)
            (flat_map (λ (state : StateOf Sign). leaves_from explored.nodes_after state.next) explored.states)
            (subst (λ list. Sees 0 list (length made.after)) (sym leaves) made.leaves) explored.leaves)
            ∙ ap numbers_below as_many,
        first_sights-sees (length explored.nodes_after) (seen_nodes content)
            (sees-append 0 (length made.nodes_after) (length explored.nodes_after) (places_from explored.nodes_after made.root)
            (flat_map (λ (state : StateOf Sign). places_from explored.nodes_after state.next) explored.states)
            (subst (λ list. Sees 0 list (length made.nodes_after)) (sym places) made.places) explored.places),
      )

  rules : IsContent content
  rules =
      let named : (reference : Ref) → IsValid explored.nodes_after reference → NamesLeaf (length explored.after) reference → NamesPart content reference
      = λ reference valid leaf. named_part content reference valid (subst (λ n. NamesLeaf n reference) as_many leaf) in
      let before : (place : ℕ) (node : Node) (reference : Ref) → slice_get explored.nodes_after place ≡ Some node → IsBefore place reference
      → IsValid explored.nodes_after reference
      = λ place node reference held before.
      let within = slice_get_within explored.nodes_after place node held in
      IsBefore-later place (length explored.nodes_after) reference (omega (arith, within)) before in
      record {
        some_state =
            let truth = replicate (count_of is_truth_value variables) false in
            let within = slice_get_within explored.after (first_state content truth) (machine.start truth)
            (first_is truth (length-replicate (count_of is_truth_value variables) false)) in
            omega (arith, within, as_many);
        ordered = explored.store.ordered;
        start_named = named made.root start_is.valid start_is.leaf;
        next_named = λ i state held. let is = state_is i state held in named state.next is.is.valid is.is.leaf;
        low_named = λ place node held.
            named node.low (before place node node.low held (explored.store.ordered.earlier_low place node held)) (explored.store.sound place node held).low;
        high_named = λ place node held.
            named node.high (before place node node.high held (explored.store.ordered.earlier_high place node held))
            (explored.store.sound place node held).high;
        variables = λ place node held. (explored.store.sound place node held).variable;
        start_tests = start_is.tests;
        next_tests = λ i state held. (state_is i state held).is.tests;
      }

  -- where reached states with the same signs after all letters are equal, the content is canonical
  pub canonical : ((one other : ℕ) → IsReachedBy variables machine one → IsReachedBy variables machine other → HaveEqualSigns variables machine one other
      → one ≡ other)
      → IsCanonical content
  canonical apart = record {
    rules = rules;
    states_reached = states_reached;
    states_differ = λ one two within within_too same.
        let first = slice_get-held explored.after one (omega (arith, within, as_many)) in
        let second = slice_get-held explored.after two (omega (arith, within_too, as_many)) in
        let equal : first.0 ≡ second.0
        = apart first.0 second.0 (explored.store.good one first.0 first.1) (explored.store.good two second.0 second.1) (λ letters are.
        same_Some (machine.sign (machine_after machine first.0 letters)) (machine.sign (machine_after machine second.0 letters))
        (sym (sign_is (state_after content one letters) (machine_after machine first.0 letters) (after_is letters one first.0 first.1 are))
        ∙ (same letters are ∙ sign_is (state_after content two letters) (machine_after machine second.0 letters)
        (after_is letters two second.0 second.1 are)))) in
        explored.store.distinct one two second.0 (first.1 ∙ ap Some equal) second.1;
    reduced = explored.store.reduced;
    nodes_reached = nodes_reached;
    states_numbered = numbered.0;
    nodes_numbered = numbered.1;
  }

module _ {Sign : Type 0} (mode : Mode) (variables : List Variable) (machine : Machine Sign)
    (apart : (one other : ℕ) → IsReachedBy variables machine one → IsReachedBy variables machine other → HaveEqualSigns variables machine one other
    → one ≡ other) where
  pub canonical_content : HasCanonicalContent mode variables machine
  canonical_content =
      let made = make variables is_truth_value (IsReachedBy variables machine) variables 0 machine.start [] []
      (λ i v there. ap (slice_get variables) (omega arith) ∙ there)
      (no_store (length variables) (IsReachedBy variables machine)) (reached_start machine variables) in
      let explored = explore variables machine machine.count made.after made.nodes_after 0 (omega arith) (omega arith) made.store in
      let is = canonical mode variables machine made explored apart in
      (content mode variables machine made explored, is, refl, refl, signs mode variables machine made explored)
