-- What is renumbered is canonical, where its states are reached and differ in their residuals.
use Rattle.std.proofs.Common.{◌≡◌, ℕ, ◌<◌, Bool, false, List, [], length, slice_get, Some, refl, sym, ap, subst, ◌∙◌, arith}
use Rattle.std.specs.List.{flat_map}
use Rattle.std.proofs.lemmas.Option.{same_Some, slice_get_within}
use Rattle.ms_list.specs.declared.word.Word.{Word}
use Rattle.ms_arena.specs.declared.node.Node.{Node}
use Rattle.ms_arena.specs.declared.node.Ref.{Ref}
use Rattle.ms_arena.specs.declared.node.Ref.TheVariants.{Inner}
use Rattle.ms_arena.specs.Diagram.{Bits, IsOrdered, IsReduced, IsValid}
use Rattle.ms_arena.specs.Leaves.{leaves_within}
use Rattle.ms_arena.specs.Reach.{Reaches, TestsOnly}
use Rattle.ms_arena.proofs.Lists.{slice_get-held}
use Rattle.ms_dfa.specs.declared.plain.FileSign.{FileSign}
use Rattle.ms_dfa.specs.declared.plain.FileState.{FileState}
use Rattle.ms_dfa.specs.declared.plain.FileVersion.{FileVersion}
use Rattle.ms_dfa.specs.declared.state.State.{State}
use Rattle.ms_logic.specs.declared.mode.Mode.{Mode}
use Rattle.ms_logic.specs.declared.mode.Order.{Order}
use Rattle.ms_logic.specs.Assignment.{Variable}
use Rattle.ms_logic_words.specs.Canonical.{HaveSameSigns, IsCanonical, first_sights_of, nodes_within, seen_leaves, seen_nodes}
use Rattle.ms_logic_words.specs.Content.{StateOf, Content, HasValueAt, IsClosed, IsContent, IsWordOver, is_in_letters, is_truth_value, last_state}
use Rattle.ms_logic.specs.FiniteSet.{numbers_below}
use Rattle.ms_dfa.specs.Files.{file_states_of}
use Rattle.ms_minim_canonical.specs.inner.Renumbering.{ArePaired, IsRenumbered, from_state, leaves_from, nodes_from, walk_over}
use Rattle.ms_minim_canonical.proofs.FirstSightLemmas.{paired-unseen}
use Rattle.ms_minim_canonical.proofs.ImageLemmas.{AreSame, IsAt, IsMatching-at, leaf-image, ordered-image, reduced-image, tests-image, valid-image}
use Rattle.ms_minim_canonical.proofs.NodeLemmas.{IsMatching-places}
use Rattle.ms_minim_canonical.proofs.NotedLemmas.{AllOf, all-append, all-flat_map, all-implies, all-none, all-noted, noted-first_sights}
use Rattle.ms_minim_canonical.proofs.Paired.{paired-all, paired-append, paired-flat_map}
use Rattle.ms_minim_canonical.proofs.ReachedLemmas.{own_numbers, reach_all, reached-numbered}
use Rattle.ms_minim_canonical.proofs.RenumberedLemmas.{below, apart, filed, image_at, images, leads_next, leads_start, long_order, names-same, new_at, old_followed, run_after, run_last, same_sign, same_start}
use Rattle.ms_minim_canonical.proofs.ShapeLemmas.{AreAlike, AreAlikePlaces, AreComparable}
use Rattle.ms_minim_canonical.proofs.WalkLemmas.{paired-leaves, paired-nodes}

module _ (version : FileVersion) (mode : Mode) (variables : List Variable) (nodes : List Node) (start : Ref) (states : List State) (ordered : IsOrdered nodes) (reduced : IsReduced nodes)
    (closed : IsClosed (filed version mode variables nodes start states)) (made_start : Ref) (made_states : List FileState) (made_nodes : List Node)
    (renumbered : IsRenumbered version nodes start states made_start made_states made_nodes) where
  abbrev old : Content FileSign
  old = filed version mode variables nodes start states

  abbrev new : Content FileSign
  new = record { mode = mode; variables = variables; start = made_start; states = file_states_of made_states; nodes = made_nodes }

  abbrev order : List ℕ
  order = renumbered.order

  abbrev places : List ℕ
  places = renumbered.places

  are : AreComparable nodes made_nodes (IsAt order)
  are =
      let images_are = images version mode variables nodes start states ordered reduced closed made_start made_states made_nodes renumbered in
      record {
        ordered = ordered;
        reduced = reduced;
        ordered_too = ordered-image nodes made_nodes order places images_are;
        reduced_too = reduced-image nodes made_nodes order places images_are;
        matching = IsMatching-at order images_are.order_apart;
      }

  alike : (root made : Ref) → AreSame order places root made → AreAlike nodes made_nodes (IsAt order) root made
  alike root made same bits = leaf-image nodes made_nodes order places (images version mode variables nodes start states ordered reduced closed made_start made_states made_nodes renumbered) bits root made same

  start_same : AreSame order places start made_start
  start_same = same_start version mode variables nodes start states ordered reduced closed made_start made_states made_nodes renumbered

  valid_new : (root made : Ref) → AreSame order places root made → IsValid made_nodes made
  valid_new = valid-image nodes made_nodes order places (images version mode variables nodes start states ordered reduced closed made_start made_states made_nodes renumbered)

  -- the state at a place, and that of which it is the image
  record IsImageOf (n : ℕ) (found : StateOf FileSign) : Type 0 where
    pub state : State
    pub held : slice_get states n ≡ Some state
    pub same : AreSame order places state.next found.next

  image_of : (at n : ℕ) (found : StateOf FileSign) → slice_get order at ≡ Some n → slice_get new.states at ≡ Some found → IsImageOf n found
  image_of at n found there there_too =
      let image = image_at version mode variables nodes start states ordered reduced closed made_start made_states made_nodes renumbered at n there in
      let made : StateOf FileSign = record { sign = image.made.sign; next = image.made.next } in
      let is : made ≡ found = same_Some made found (sym (new_at version mode variables nodes start states ordered reduced closed made_start made_states made_nodes renumbered at n image) ∙ there_too) in
      record { state = image.state; held = image.held; same = subst (λ (s : StateOf FileSign). AreSame order places image.state.next s.next) is image.same }

  many : length order ≡ length new.states
  many = sym (long_order version mode variables nodes start states ordered reduced closed made_start made_states made_nodes renumbered)

  -- both walks go over related leaves, and over alike nodes
  abbrev leaves_at : ℕ → List ℕ
  leaves_at n = from_state (leaves_from nodes) (slice_get states n)

  abbrev new_leaves : StateOf FileSign → List ℕ
  new_leaves found = leaves_within made_nodes (length made_nodes) found.next

  paired_leaves : ArePaired (IsAt order) (walk_over (leaves_from nodes) start states order) (seen_leaves new)
  paired_leaves =
      paired-append (IsAt order) (leaves_from nodes start) (leaves_within made_nodes (length made_nodes) made_start) (flat_map leaves_at order) (flat_map new_leaves new.states)
      (paired-leaves nodes made_nodes (IsAt order) are (length nodes) (length made_nodes) start made_start
      (leads_start version mode variables nodes start states ordered reduced closed).valid (omega arith) (valid_new start made_start start_same) (omega arith) (alike start made_start start_same))
      (paired-flat_map (λ n found. ArePaired (IsAt order) (leaves_at n) (new_leaves found)) (IsAt order) leaves_at new_leaves (λ n found paired. paired) order new.states
      (paired-all (λ n found. ArePaired (IsAt order) (leaves_at n) (new_leaves found)) order new.states many (λ at n found there there_too.
      let is = image_of at n found there there_too in
      subst (λ list. ArePaired (IsAt order) list (new_leaves found)) (ap (from_state (leaves_from nodes)) (sym is.held))
      (paired-leaves nodes made_nodes (IsAt order) are (length nodes) (length made_nodes) is.state.next found.next
      (leads_next version mode variables nodes start states ordered reduced closed n is.state is.held).valid (omega arith) (valid_new is.state.next found.next is.same) (omega arith)
      (alike is.state.next found.next is.same)))))

  abbrev Places : ℕ → ℕ → Type 0
  Places = AreAlikePlaces nodes made_nodes (IsAt order)

  abbrev nodes_at : ℕ → List ℕ
  nodes_at n = from_state (nodes_from nodes) (slice_get states n)

  abbrev new_nodes : StateOf FileSign → List ℕ
  new_nodes found = nodes_within (length made_nodes) made_nodes found.next

  paired_nodes : ArePaired Places (walk_over (nodes_from nodes) start states order) (seen_nodes new)
  paired_nodes =
      paired-append Places (nodes_from nodes start) (nodes_within (length made_nodes) made_nodes made_start) (flat_map nodes_at order) (flat_map new_nodes new.states)
      (paired-nodes nodes made_nodes (IsAt order) are (length nodes) (length made_nodes) start made_start
      (leads_start version mode variables nodes start states ordered reduced closed).valid (omega arith) (valid_new start made_start start_same) (omega arith) (alike start made_start start_same))
      (paired-flat_map (λ n found. ArePaired Places (nodes_at n) (new_nodes found)) Places nodes_at new_nodes (λ n found paired. paired) order new.states
      (paired-all (λ n found. ArePaired Places (nodes_at n) (new_nodes found)) order new.states many (λ at n found there there_too.
      let is = image_of at n found there there_too in
      subst (λ list. ArePaired Places list (new_nodes found)) (ap (from_state (nodes_from nodes)) (sym is.held))
      (paired-nodes nodes made_nodes (IsAt order) are (length nodes) (length made_nodes) is.state.next found.next
      (leads_next version mode variables nodes start states ordered reduced closed n is.state is.held).valid (omega arith) (valid_new is.state.next found.next is.same) (omega arith)
      (alike is.state.next found.next is.same)))))

  -- so states and nodes are numbered by first sight
  states-numbered : first_sights_of (seen_leaves new) ≡ numbers_below (length new.states)
  states-numbered =
      let paired = subst (λ list. ArePaired (IsAt order) list (first_sights_of (seen_leaves new))) (sym (noted-first_sights (walk_over (leaves_from nodes) start states order)) ∙ sym renumbered.order_is)
      (paired-unseen (IsAt order) are.matching [] [] (walk_over (leaves_from nodes) start states order) (seen_leaves new) tt paired_leaves) in
      own_numbers (IsAt order) order (first_sights_of (seen_leaves new)) paired
      (λ at n k there is. apart version mode variables nodes start states ordered reduced closed made_start made_states made_nodes renumbered k at n is there)
      ∙ ap numbers_below many

  nodes-numbered : first_sights_of (seen_nodes new) ≡ numbers_below (length new.nodes)
  nodes-numbered =
      let images_are = images version mode variables nodes start states ordered reduced closed made_start made_states made_nodes renumbered in
      let long = images_are.long in
      let paired = subst (λ list. ArePaired Places list (first_sights_of (seen_nodes new))) (sym (noted-first_sights (walk_over (nodes_from nodes) start states order)) ∙ sym renumbered.places_is)
      (paired-unseen Places (IsMatching-places nodes made_nodes (IsAt order) are) [] [] (walk_over (nodes_from nodes) start states order) (seen_nodes new) tt paired_nodes) in
      own_numbers Places places (first_sights_of (seen_nodes new)) paired
      (λ at place k there is.
      let less = slice_get_within places at place there in
      let own : Places place at = record { alike = alike (Inner place) (Inner at) there; within = is.within; within_too = omega (arith, less, long) } in
      (IsMatching-places nodes made_nodes (IsAt order) are).right place k at is own)
      ∙ ap numbers_below (sym long)

  -- nodes that are reached test variables of the list
  abbrev IsVariable : ℕ → Type 0
  IsVariable place = (node : Node) → slice_get nodes place ≡ Some node → node.var < length variables

  variables_from : (has_value : Order → Bool) (root : Ref) → TestsOnly nodes (HasValueAt variables has_value) root → AllOf IsVariable (nodes_from nodes root)
  variables_from has_value root tests =
      all-implies (Reaches nodes root) IsVariable (nodes_from nodes root)
      (λ place path node held. let has = tests node.var (place, node, path, held, refl) in slice_get_within variables node.var has.0 has.1)
      (reach_all nodes (length nodes) root)

  all_variables : AllOf IsVariable places
  all_variables =
      subst (AllOf IsVariable) (sym renumbered.places_is)
      (all-noted IsVariable [] (walk_over (nodes_from nodes) start states order) (all-none IsVariable)
      (all-append IsVariable (nodes_from nodes start) (flat_map nodes_at order) (variables_from is_truth_value start closed.start.tests)
      (all-flat_map IsVariable nodes_at order (λ at n there.
      let image = image_at version mode variables nodes start states ordered reduced closed made_start made_states made_nodes renumbered at n there in
      subst (AllOf IsVariable) (ap (from_state (nodes_from nodes)) (sym image.held))
      (variables_from is_in_letters image.state.next (old_followed version mode variables nodes start states ordered reduced closed n image.state image.held).tests)))))

  state_there : (at : ℕ) (found : StateOf FileSign) → slice_get new.states at ≡ Some found → (n : ℕ) × IsAt order n at × IsImageOf n found
  state_there at found there =
      let less = slice_get_within new.states at found there in
      let n = slice_get-held order at (omega (arith, less, many)) in
      (n.0, n.1, image_of at n.0 found n.1 there)

  is_content : IsContent new
  is_content =
      let images_are = images version mode variables nodes start states ordered reduced closed made_start made_states made_nodes renumbered in
      let names = names-same version mode variables nodes start states ordered reduced closed made_start made_states made_nodes renumbered in
      record {
        some_state =
            let none : Bits = λ var. false in
            let less = slice_get_within order _ _ (alike start made_start start_same none) in
            omega (arith, less, many);
        ordered = are.ordered_too;
        start_named = names start made_start start_same;
        next_named = λ at found there. (let is = state_there at found there in names is.2.state.next found.next is.2.same);
        low_named = λ at made there. (let is = images_are.each at made there in names is.node.low made.low is.same.low);
        high_named = λ at made there. (let is = images_are.each at made there in names is.node.high made.high is.same.high);
        variables = λ at made there.
            let is = images_are.each at made there in
            let less = all_variables at is.place is.place_is is.node is.node_is in
            let var = is.same.var in
            omega (arith, less, var);
        start_tests = tests-image nodes made_nodes order places images_are (HasValueAt variables is_truth_value) start made_start start_same closed.start.tests;
        next_tests = λ at found there.
            let is = state_there at found there in
            tests-image nodes made_nodes order places images_are (HasValueAt variables is_in_letters) is.2.state.next found.next is.2.same
            (old_followed version mode variables nodes start states ordered reduced closed is.0 is.2.state is.2.held).tests;
      }

  pub canonical-renumbered : ((n : ℕ) → n < length states → (word : Word) × IsWordOver variables word × (last_state old word ≡ n))
      → ((one two : ℕ) → one < length states → two < length states → HaveSameSigns old one two → one ≡ two) → IsCanonical new
  canonical-renumbered reached differ = record {
    rules = is_content;
    states_reached = λ at less.
        let n = slice_get-held order at (omega (arith, less, many)) in
        let word = reached n.0 (below version mode variables nodes start states ordered reduced closed made_start made_states made_nodes renumbered at n.0 n.1) in
        let last = run_last version mode variables nodes start states ordered reduced closed made_start made_states made_nodes renumbered word.0 in (
          word.0,
          word.1,
          apart version mode variables nodes start states ordered reduced closed made_start made_states made_nodes renumbered (last_state new word.0) at n.0
              (subst (λ m. IsAt order m (last_state new word.0)) word.2 last) n.1,
        );
    states_differ = λ one two less_one less_two same.
        let n = slice_get-held order one (omega (arith, less_one, many)) in
        let m = slice_get-held order two (omega (arith, less_two, many)) in
        let within = below version mode variables nodes start states ordered reduced closed made_start made_states made_nodes renumbered in
        let after = run_after version mode variables nodes start states ordered reduced closed made_start made_states made_nodes renumbered in
        let sign = same_sign version mode variables nodes start states ordered reduced closed made_start made_states made_nodes renumbered in
        let equal = differ n.0 m.0 (within one n.0 n.1) (within two m.0 m.1) (λ letters areletters.
        sym (sign _ _ (after one n.0 letters n.1)) ∙ same letters areletters ∙ sign _ _ (after two m.0 letters m.1)) in
        apart version mode variables nodes start states ordered reduced closed made_start made_states made_nodes renumbered one two n.0 n.1 (m.1 ∙ ap Some (sym equal));
    reduced = are.reduced_too;
    nodes_reached = reached-numbered new nodes-numbered;
    states_numbered = states-numbered;
    nodes_numbered = nodes-numbered;
  }
