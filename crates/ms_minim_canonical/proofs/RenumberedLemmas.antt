-- Renumbering keeps runs: a state and its new number lead by each letter to a state and its new number.
use Rattle.std.proofs.Common.{◌≡◌, ℕ, ◌<◌, Bool, List, [], ◌∷◌, length, map, slice_get, Some, sym, ap, subst, ◌∙◌, arith}
use Rattle.std.specs.Option.{option_map}
use Rattle.std.proofs.lemmas.List.{length-map}
use Rattle.std.proofs.lemmas.Option.{same_Some, slice_get_within, slice_get-map, get_or_from_slice_get}
use Rattle.ms_list.specs.declared.word.Word.{Word}
use Rattle.ms_arena.specs.declared.node.Node.{Node}
use Rattle.ms_arena.specs.declared.node.Ref.{Ref}
use Rattle.ms_arena.specs.declared.node.Ref.TheVariants.{Leaf, Inner}
use Rattle.ms_arena.specs.Diagram.{IsOrdered, IsReduced}
use Rattle.ms_arena.proofs.Lists.{slice_get-held}
use Rattle.ms_dfa.specs.declared.plain.FileSign.{FileSign}
use Rattle.ms_dfa.specs.declared.plain.FileState.{FileState}
use Rattle.ms_dfa.specs.declared.plain.FileVersion.{FileVersion}
use Rattle.ms_dfa.specs.declared.state.State.{State}
use Rattle.ms_logic.specs.declared.mode.Mode.{Mode}
use Rattle.ms_logic.specs.Assignment.{Variable}
use Rattle.ms_logic_words.specs.Content.{StateOf, Content, IsClosed, IsFollowed, NamesPart, is_in_letters, first_state, next_from, next_state, state_after, last_state, sign_at, sign_of, letter_bits, truth_bits}
use Rattle.ms_dfa.specs.Files.{file_sign, file_states_of}
use Rattle.ms_minim_canonical.specs.inner.Renumbering.{IsNodeOf, IsRenamed, IsRenumbered, IsStateOf, LeadsBelow}
use Rattle.ms_minim_canonical.proofs.ImageLemmas.{AreImages, AreSame, IsAt, IsImage, leaf-image, same-renamed, seen-before}
use Rattle.ms_minim_canonical.proofs.NotedLemmas.{AllOf}
use Rattle.ms_minim_canonical.proofs.Paired.{paired-at, paired-length}
use Rattle.ms_minim_canonical.proofs.PostorderLemmas.{IsPosted}
use Rattle.ms_minim_canonical.proofs.WalkedLemmas.{next_seen, order-apart, places-apart, posts, start_seen}

-- a state with the sign of a file of a version
abbrev pub filed_state : FileVersion → State → StateOf FileSign
filed_state version state = record { sign = file_sign version state.sign; next = state.next }

abbrev pub filed_states : FileVersion → List State → List (StateOf FileSign)
filed_states version states = map (filed_state version) states

-- an automaton with the signs of a file of a version
abbrev pub filed : FileVersion → Mode → List Variable → List Node → Ref → List State → Content FileSign
filed version mode variables nodes start states = record { mode = mode; variables = variables; start = start; states = filed_states version states; nodes = nodes }

-- a state under its new number
pub record IsStateImage (version : FileVersion) (states : List State) (order places : List ℕ) (made_states : List FileState) (at n : ℕ) : Type 0 where
  pub state : State
  pub held : slice_get states n ≡ Some state
  pub made : FileState
  pub made_is : slice_get made_states at ≡ Some made
  pub sign : made.sign ≡ file_sign version state.sign
  pub same : AreSame order places state.next made.next

-- the node of a place whose ends were seen before it, under its new number
image-posted : (nodes : List Node) (order places : List ℕ) (at place : ℕ) (made : Node) → IsAt places place at
    → IsPosted nodes (λ n. (at : ℕ) × IsAt order n at) places at place → IsNodeOf nodes order places place made → IsImage nodes order places at made
image-posted nodes order places at place made there posted is =
    let own : posted.node ≡ is.0 = same_Some posted.node is.0 (sym posted.held ∙ is.1) in
    record {
      place = place;
      place_is = there;
      node = posted.node;
      node_is = posted.held;
      same = record {
        var = is.2.var ∙ ap (λ (node : Node). node.var) (sym own);
        low = same-renamed order places posted.node.low made.low (subst (λ (node : Node). IsRenamed order places node.low made.low) (sym own) is.2.low) (seen-before order places at posted.node.low posted.low);
        high = same-renamed order places posted.node.high made.high (subst (λ (node : Node). IsRenamed order places node.high made.high) (sym own) is.2.high) (seen-before order places at posted.node.high posted.high);
      };
      low = posted.low;
      high = posted.high;
    }

module _ (version : FileVersion) (mode : Mode) (variables : List Variable) (nodes : List Node) (start : Ref) (states : List State) (ordered : IsOrdered nodes) (reduced : IsReduced nodes)
    (closed : IsClosed (filed version mode variables nodes start states)) where
  abbrev pub old : Content FileSign
  old = filed version mode variables nodes start states

  long_states : length (filed_states version states) ≡ length states
  long_states = length-map states (filed_state version)

  pub old_at : (n : ℕ) (state : State) → slice_get states n ≡ Some state → slice_get old.states n ≡ Some (filed_state version state)
  old_at n state held = slice_get-map (filed_state version) states n ∙ ap (option_map (filed_state version)) held

  pub old_followed : (n : ℕ) (state : State) → slice_get states n ≡ Some state → IsFollowed old is_in_letters state.next
  old_followed n state held =
      let there = old_at n state held in
      subst (λ (found : StateOf FileSign). IsFollowed old is_in_letters found.next) (get_or_from_slice_get old.states n (filed_state version state) (filed_state version state) there)
      (closed.next n (filed_state version state) (slice_get_within old.states n (filed_state version state) there))

  pub leads_start : LeadsBelow nodes (length states) start
  leads_start = record { valid = closed.start.valid; below = λ bits. (let less = closed.start.states bits in omega (arith, less, long_states)) }

  pub leads_next : (n : ℕ) (state : State) → slice_get states n ≡ Some state → LeadsBelow nodes (length states) state.next
  leads_next n state held =
      let is = old_followed n state held in
      record { valid = is.valid; below = λ bits. (let less = is.states bits in omega (arith, less, long_states)) }

  module _ (made_start : Ref) (made_states : List FileState) (made_nodes : List Node) (renumbered : IsRenumbered version nodes start states made_start made_states made_nodes) where
    abbrev pub order : List ℕ
    order = renumbered.order

    abbrev pub places : List ℕ
    places = renumbered.places

    abbrev pub new : Content FileSign
    new = record { mode = mode; variables = variables; start = made_start; states = file_states_of made_states; nodes = made_nodes }

    pub long_order : length new.states ≡ length order
    long_order = length-map made_states (λ state. record { sign = state.sign; next = state.next }) ∙ sym (paired-length (IsStateOf version states order places) order made_states renumbered.states_are)

    pub apart : (one two n : ℕ) → IsAt order n one → IsAt order n two → one ≡ two
    apart one two n first second = order-apart nodes ordered start states leads_start leads_next order places renumbered.order_is one two n first second

    state_of_order : (at n : ℕ) → IsAt order n at → (made : FileState) × (slice_get made_states at ≡ Some made) × IsStateOf version states order places n made
    state_of_order at n there =
        let long = paired-length (IsStateOf version states order places) order made_states renumbered.states_are in
        let less = slice_get_within order at n there in
        let held = slice_get-held made_states at (omega (arith, less, long)) in
        (held.0, held.1, paired-at (IsStateOf version states order places) order made_states renumbered.states_are at n held.0 there held.1)

    pub below : AllOf (λ n. n < length states) order
    below at n there = let is = state_of_order at n there in slice_get_within states n is.2.0 is.2.1

    pub image_at : (at n : ℕ) → IsAt order n at → IsStateImage version states order places made_states at n
    image_at at n there =
        let is = state_of_order at n there in
        record {
          state = is.2.0;
          held = is.2.1;
          made = is.0;
          made_is = is.1;
          sign = is.2.2;
          same = same-renamed order places is.2.0.next is.0.next is.2.3
              (next_seen nodes ordered start states leads_start leads_next order places renumbered.order_is below renumbered.places_is at n is.2.0 there is.2.1);
        }

    pub new_at : (at n : ℕ) (image : IsStateImage version states order places made_states at n) → slice_get new.states at ≡ Some (record { sign = image.made.sign; next = image.made.next })
    new_at at n image =
        slice_get-map (λ (state : FileState). record { sign = state.sign; next = state.next }) made_states at
        ∙ ap (option_map (λ (state : FileState). record { sign = state.sign; next = state.next })) image.made_is

    pub same_start : AreSame order places start made_start
    same_start = same-renamed order places start made_start renumbered.start_is
        (start_seen nodes ordered start states leads_start leads_next order places renumbered.order_is below renumbered.places_is)

    node_image : (at : ℕ) (made : Node) → slice_get made_nodes at ≡ Some made → IsImage nodes order places at made
    node_image at made there =
        let long = paired-length (IsNodeOf nodes order places) places made_nodes renumbered.nodes_are in
        let less = slice_get_within made_nodes at made there in
        let place = slice_get-held places at (omega (arith, less, long)) in
        image-posted nodes order places at place.0 made place.1
        (posts nodes ordered start states leads_start leads_next order places renumbered.order_is below renumbered.places_is at place.0 place.1)
        (paired-at (IsNodeOf nodes order places) places made_nodes renumbered.nodes_are at place.0 made place.1 there)

    pub images : AreImages nodes made_nodes order places
    images = record {
      ordered = ordered;
      reduced = reduced;
      order_apart = apart;
      places_apart = places-apart nodes ordered start states leads_start leads_next order places renumbered.order_is below renumbered.places_is;
      long = sym (paired-length (IsNodeOf nodes order places) places made_nodes renumbered.nodes_are);
      each = node_image;
    }

    -- runs stay together
    run_first : (truth : List Bool) → IsAt order (first_state old truth) (first_state new truth)
    run_first truth = leaf-image nodes made_nodes order places images (truth_bits variables truth) start made_start same_start

    run_next : (at n : ℕ) (letter : List Bool) → IsAt order n at → IsAt order (next_state old n letter) (next_state new at letter)
    run_next at n letter there =
        let image = image_at at n there in
        subst (λ found. IsAt order (next_from old found letter) (next_state new at letter)) (sym (old_at n image.state image.held))
        (subst (λ found. IsAt order (next_from old (Some (filed_state version image.state)) letter) (next_from new found letter)) (sym (new_at at n image))
        (leaf-image nodes made_nodes order places images (letter_bits variables letter) image.state.next image.made.next image.same))

    pub run_after : (at n : ℕ) (letters : List (List Bool)) → IsAt order n at → IsAt order (state_after old n letters) (state_after new at letters)
    run_after at n [] there = there
    run_after at n (letter ∷ letters) there = run_after (next_state new at letter) (next_state old n letter) letters (run_next at n letter there)

    pub run_last : (word : Word) → IsAt order (last_state old word) (last_state new word)
    run_last word = run_after (first_state new word.truth) (first_state old word.truth) word.letters (run_first word.truth)

    -- and have one sign
    pub same_sign : (at n : ℕ) → IsAt order n at → sign_at new at ≡ sign_at old n
    same_sign at n there =
        let image = image_at at n there in
        ap (option_map (λ (found : StateOf FileSign). found.sign)) (new_at at n image) ∙ ap Some image.sign
        ∙ sym (ap (option_map (λ (found : StateOf FileSign). found.sign)) (old_at n image.state image.held))

    pub same_word_sign : (word : Word) → sign_of new word ≡ sign_of old word
    same_word_sign word = same_sign (last_state new word) (last_state old word) (run_last word)

    -- a reference that is one of the old under new numbers names a part
    pub names-same : (root made : Ref) → AreSame order places root made → NamesPart new made
    names-same (Leaf value) (Leaf at) same = let less = slice_get_within order at value same in omega (arith, less, long_order)
    names-same (Leaf value) (Inner at) same = absurd same
    names-same (Inner place) (Leaf at) same = absurd same
    names-same (Inner place) (Inner at) same = let less = slice_get_within places at place same in let long = images.long in omega (arith, less, long)
