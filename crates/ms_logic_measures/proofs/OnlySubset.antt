-- There is one full content of P sub Q over P and Q, and one of `true`.
use Rattle.std.proofs.Common.{◌≡◌, ℕ, zero, suc, ◌<◌, ◌⊎◌, inl, inr, ⊎_elim, Bool, true, false, cond, ◌&&◌, List, [], ◌∷◌, ◌++◌, length, flat_map, slice_get, Some, IsTrue, refl, sym, ◌∙◌, ap, subst, arith}
use Rattle.std.specs.Option.{option_map}
use Rattle.std.proofs.lemmas.Bool.{cases_lt, false≢true}
use Rattle.std.proofs.lemmas.Option.{same_Some, none-some, slice_get_cases, slice_get_within}
use Rattle.ms_arena.specs.declared.node.Ref.{Ref}
use Rattle.ms_arena.specs.declared.node.Ref.TheVariants.{Leaf, Inner}
use Rattle.ms_arena.specs.declared.node.Node.{Node}
use Rattle.ms_arena.specs.Diagram.{Bits, leaf_of, IsBefore, IsValid}
use Rattle.ms_arena.specs.Leaves.{leaves_within}
use Rattle.ms_arena.specs.Reach.{Reaches, IsTested}
use Rattle.ms_arena.proofs.Lists.{slice_get-held}
use Rattle.ms_arena.proofs.Paths.{leaf_of-leaf}
use Rattle.ms_arena.proofs.ReachLemmas.{IsTested-own, leaf_of-tested}
use Rattle.ms_list.specs.declared.word.Word.{Word}
use Rattle.ms_logic_words.specs.declared.sign.Sign.{Sign}
use Rattle.ms_logic_words.specs.declared.sign.Sign.TheVariants as sign
use Rattle.ms_logic.specs.declared.mode.Mode.TheVariants.{Ws1s}
use Rattle.ms_logic.specs.declared.mode.Order.TheVariants.{Two}
use Rattle.ms_logic_core.specs.declared.core_formula.Basic.TheVariants.{Sub}
use Rattle.ms_logic_words.specs.inner.ContentExamples.{full_subset_content, encodings_content, word}
use Rattle.ms_logic_words.specs.Canonical.{IsCanonical, first_sights_of}
use Rattle.ms_logic_words.specs.Content.{Content, StateOf, NamesPart, IsWordOver, AreLetters, HasValueAt, is_truth_value, is_in_letters, letter_bits, truth_bits, first_state, next_from, next_state, state_after, last_state, sign_at, sign_of}
use Rattle.ms_logic_core.specs.CoreForm.{CoreForm, basic, truth}
use Rattle.ms_logic.specs.inner.Examples.{set_P_and_Q, variable}
use Rattle.ms_logic.specs.FiniteSet.{numbers_below}
use Rattle.ms_logic_measures.specs.FullContent.{HasValueOn, IsFullContent}
use Rattle.ms_logic_words.proofs.SubsetWords.{is_within}
use Rattle.ms_logic_measures.proofs.OnlyDiagrams.{node_P, node_Q, constant, only_P, none_reached, reached_from_P}
use Rattle.ms_logic_measures.proofs.Runs.{state_after-append, letters-append, is_within-append, sign_when, subset_value, true_value}

-- a walk of a leaf sees the leaf
leaves_within-leaf : (nodes : List Node) (steps value : ℕ) → leaves_within nodes steps (Leaf value) ≡ value ∷ []
leaves_within-leaf nodes zero value = refl
leaves_within-leaf nodes (suc steps) value = refl

-- the first of the numbers below another is 0
first_is_zero : (n first : ℕ) (more : List ℕ) → 0 < n → first ∷ more ≡ numbers_below n → first ≡ 0
first_is_zero zero first more below is = absurd (omega (arith, below))
first_is_zero (suc n) first more below is = cc

-- a list of two items
two_items : {A : Type 0} (items : List A) (first second : A) → length items ≡ 2 → slice_get items 0 ≡ Some first → slice_get items 1 ≡ Some second → items ≡ first ∷ second ∷ []
two_items [] first second long at_first at_second = absurd (omega (arith, long))
two_items (a ∷ []) first second long at_first at_second = absurd (omega (arith, long))
two_items (a ∷ b ∷ c ∷ more) first second long at_first at_second = absurd (omega (arith, long))
two_items (a ∷ b ∷ []) first second long at_first at_second =
    let one = same_Some a first at_first in let two = same_Some b second at_second in λ i. one i ∷ two i ∷ []

one_item : {A : Type 0} (items : List A) (first : A) → length items ≡ 1 → slice_get items 0 ≡ Some first → items ≡ first ∷ []
one_item [] first long at_first = absurd (omega (arith, long))
one_item (a ∷ b ∷ more) first long at_first = absurd (omega (arith, long))
one_item (a ∷ []) first long at_first = let one = same_Some a first at_first in λ i. one i ∷ []

no_item : {A : Type 0} (items : List A) → length items ≡ 0 → items ≡ []
no_item [] long = refl
no_item (a ∷ more) long = absurd (omega (arith, long))

-- P and Q are no truth values, and are in letters at the places 0 and 1
no_truth_value : (var : ℕ) → HasValueAt set_P_and_Q is_truth_value var → ⊥
no_truth_value zero has = false≢true (subst (λ v. IsTrue (is_truth_value v.order)) (sym (same_Some (variable 0 Two) has.0 has.1)) has.2)
no_truth_value (suc zero) has = false≢true (subst (λ v. IsTrue (is_truth_value v.order)) (sym (same_Some (variable 1 Two) has.0 has.1)) has.2)
no_truth_value (suc (suc var)) has = none-some has.0 has.1

two_places : (bits : Bits) (var : ℕ) → HasValueAt set_P_and_Q is_in_letters var → bits var ≡ letter_bits set_P_and_Q (bits 0 ∷ bits 1 ∷ []) var
two_places bits zero has = refl
two_places bits (suc zero) has = refl
two_places bits (suc (suc var)) has = absurd (none-some has.0 has.1)

module _ (start : Ref) (states : List (StateOf Sign)) (nodes : List Node) where
  abbrev content : Content Sign
  content = record { mode = Ws1s; variables = set_P_and_Q; start = start; states = states; nodes = nodes }

  -- a state with a sign is there
  sign_within : (s : ℕ) (value : Sign) → sign_at content s ≡ Some value → s < length states
  sign_within s value is = ⊎_elim (λ found. found.1)
      (λ past. absurd (none-some value (ap (option_map (λ state. state.sign)) (sym past.1) ∙ is)))
      (slice_get_cases states s).1

  module _ (canonical : IsCanonical content) where
    start_is_zero : (reference : Ref) → start ≡ reference → start ≡ Leaf 0
    start_is_zero (Inner place) is =
        let named : place < length nodes = subst (NamesPart content) is canonical.rules.start_named in
        let held = slice_get-held nodes place named in
        let tested : IsTested nodes start held.0.var = subst (λ r. IsTested nodes r held.0.var) (sym is) (IsTested-own nodes place held.0 held.1) in
        absurd (no_truth_value held.0.var (canonical.rules.start_tests held.0.var tested))
    start_is_zero (Leaf value) is =
        let leaves = ap (leaves_within nodes (length nodes)) is ∙ leaves_within-leaf nodes (length nodes) value in
        let seen = ap (λ first. first_sights_of (first ++ flat_map (λ state. leaves_within nodes (length nodes) state.next) states)) (sym leaves) ∙ canonical.states_numbered in
        is ∙ ap Leaf (first_is_zero (length states) value _ canonical.rules.some_state seen)

    valid_named : (reference : Ref) → NamesPart content reference → IsValid nodes reference
    valid_named (Leaf value) named = tt
    valid_named (Inner place) named = named

    first_is : first_state content [] ≡ 0
    first_is = ap (λ r. leaf_of nodes r (truth_bits set_P_and_Q [])) (start_is_zero start refl) ∙ leaf_of-leaf nodes (truth_bits set_P_and_Q []) 0

    -- a state's function reads the bits of P and Q
    by_letter : (i : ℕ) (state : StateOf Sign) → slice_get states i ≡ Some state → (bits : Bits) →
        leaf_of nodes state.next bits ≡ next_state content i (bits 0 ∷ bits 1 ∷ [])
    by_letter i state held bits =
        leaf_of-tested nodes canonical.rules.ordered state.next bits (letter_bits set_P_and_Q (bits 0 ∷ bits 1 ∷ [])) (valid_named state.next (canonical.rules.next_named i state held))
        (λ var tested. two_places bits var (canonical.rules.next_tests i state held var tested))
        ∙ ap (λ found. next_from content found (bits 0 ∷ bits 1 ∷ [])) (sym held)

    module _ (signs : (w : Word) → IsWordOver set_P_and_Q w → sign_of content w ≡ Some (sign_when (is_within w.letters))) where
      later_sign : (w : Word) → IsWordOver set_P_and_Q w → (letters : List (List Bool)) → AreLetters set_P_and_Q letters →
          sign_at content (state_after content (last_state content w) letters) ≡ Some (sign_when (is_within w.letters && is_within letters))
      later_sign w over letters are =
          ap (sign_at content) (sym (state_after-append content (first_state content w.truth) w.letters letters))
          ∙ (signs (word w.truth (w.letters ++ letters)) (record { truth = over.truth; letters = letters-append w.letters letters over.letters are })
          ∙ ap (λ b. Some (sign_when b)) (is_within-append w.letters letters))

      last_within : (w : Word) → IsWordOver set_P_and_Q w → last_state content w < length states
      last_within w over = sign_within (last_state content w) (sign_when (is_within w.letters)) (signs w over)

      -- words with one value lead to one state
      same_state : (w v : Word) → IsWordOver set_P_and_Q w → IsWordOver set_P_and_Q v → is_within w.letters ≡ is_within v.letters → last_state content w ≡ last_state content v
      same_state w v over other_over same =
          canonical.states_differ (last_state content w) (last_state content v) (last_within w over) (last_within v other_over)
          (λ letters are. later_sign w over letters are ∙ (ap (λ b. Some (sign_when (b && is_within letters))) same ∙ sym (later_sign v other_over letters are)))

      abbrev inside : Word
      inside = word [] []

      abbrev outside : Word
      outside = word [] ((true ∷ false ∷ []) ∷ [])

      inside_over : IsWordOver set_P_and_Q inside
      inside_over = record { truth = refl; letters = tt }

      outside_over : IsWordOver set_P_and_Q outside
      outside_over = record { truth = refl; letters = (refl, tt) }

      -- the state of a word by its value
      state_of : (w : Word) → IsWordOver set_P_and_Q w → (within : Bool) → is_within w.letters ≡ within → last_state content w ≡ cond within 0 (last_state content outside)
      unfolding is_within
      state_of w over true is = same_state w inside over inside_over is ∙ first_is
      state_of w over false is = same_state w outside over outside_over is

      each_state : (i : ℕ) → i < length states → (i ≡ 0) ⊎ (i ≡ last_state content outside)
      each_state i below =
          let found = canonical.states_reached i below in by_test found.0 found.1 found.2 (is_within found.0.letters) refl
        where
          by_test : (w : Word) → IsWordOver set_P_and_Q w → last_state content w ≡ i → (within : Bool) → is_within w.letters ≡ within → (i ≡ 0) ⊎ (i ≡ last_state content outside)
          by_test w over is true within = inl (sym is ∙ state_of w over true within)
          by_test w over is false within = inr (sym is ∙ state_of w over false within)

      sign_inside : sign_at content 0 ≡ Some sign.Yes
      unfolding is_within
      sign_inside = ap (sign_at content) (sym first_is) ∙ signs inside inside_over

      sign_outside : sign_at content (last_state content outside) ≡ Some sign.No
      unfolding is_within
      sign_outside = signs outside outside_over

      outside_is_one : last_state content outside ≡ 1
      outside_is_one = by_number (last_state content outside) refl
        where
          by_number : (s : ℕ) → last_state content outside ≡ s → last_state content outside ≡ 1
          by_number zero is = let same : Some sign.Yes ≡ Some sign.No = sym sign_inside ∙ (ap (sign_at content) (sym is) ∙ sign_outside) in grind (arith, same)
          by_number (suc zero) is = is
          by_number (suc (suc s)) is =
              let below = last_within outside outside_over in
              ⊎_elim (λ none. absurd (omega (arith, none))) (λ one. sym one) (each_state 1 (omega (arith, below, is)))

      two_states : length states ≡ 2
      two_states =
          let below = last_within outside outside_over in
          let one = outside_is_one in
          ⊎_elim
          (λ more. ⊎_elim (λ none. absurd (omega (arith, none))) (λ other. absurd (omega (arith, other, one))) (each_state 2 more))
          (λ few. omega (arith, few, below, one)) (cases_lt 2 (length states))

      -- the functions of both states
      by_letters : (letters : List (List Bool)) (p q : Bool) → AreLetters set_P_and_Q letters → (within : Bool) → is_within (letters ++ (p ∷ q ∷ []) ∷ []) ≡ within →
          next_state content (last_state content (word [] letters)) (p ∷ q ∷ []) ≡ cond within 0 1
      by_letters letters p q are within is =
          sym (state_after-append content (first_state content []) letters ((p ∷ q ∷ []) ∷ []))
          ∙ (state_of (word [] (letters ++ (p ∷ q ∷ []) ∷ [])) (record { truth = refl; letters = letters-append letters ((p ∷ q ∷ []) ∷ []) are (refl, tt) }) within is
          ∙ ap (cond within 0) outside_is_one)

      from_inside : (p q : Bool) → next_state content 0 (p ∷ q ∷ []) ≡ cond p (cond q 0 1) 0
      unfolding is_within
      from_inside true true = ap (λ s. next_state content s (true ∷ true ∷ [])) (sym first_is) ∙ by_letters [] true true tt true refl
      from_inside true false = ap (λ s. next_state content s (true ∷ false ∷ [])) (sym first_is) ∙ by_letters [] true false tt false refl
      from_inside false q = ap (λ s. next_state content s (false ∷ q ∷ [])) (sym first_is) ∙ by_letters [] false q tt true refl

      from_outside : (p q : Bool) → next_state content 1 (p ∷ q ∷ []) ≡ 1
      unfolding is_within
      from_outside p q = ap (λ s. next_state content s (p ∷ q ∷ [])) (sym outside_is_one) ∙ by_letters ((true ∷ false ∷ []) ∷ []) p q (refl, tt) false refl

      sign_held : (i : ℕ) (state : StateOf Sign) (value : Sign) → slice_get states i ≡ Some state → sign_at content i ≡ Some value → state.sign ≡ value
      sign_held i state value held is = same_Some state.sign value (ap (option_map (λ s. s.sign)) (sym held) ∙ is)

      variables_below : (place : ℕ) (node : Node) → slice_get nodes place ≡ Some node → node.var < 2
      variables_below = canonical.rules.variables

      module _ (first second : StateOf Sign) (at_first : slice_get states 0 ≡ Some first) (at_second : slice_get states 1 ≡ Some second) where
        first_diagram : (place inner : ℕ) × (first.next ≡ Inner place) × (slice_get nodes place ≡ Some (node_P inner)) × (slice_get nodes inner ≡ Some node_Q)
        first_diagram =
            only_P nodes canonical.rules.ordered canonical.reduced variables_below first.next (valid_named first.next (canonical.rules.next_named 0 first at_first))
            (λ bits. by_letter 0 first at_first bits ∙ from_inside (bits 0) (bits 1))

        second_leaf : second.next ≡ Leaf 1
        second_leaf =
            constant nodes canonical.rules.ordered canonical.reduced variables_below second.next (valid_named second.next (canonical.rules.next_named 1 second at_second)) 1
            (λ bits. by_letter 1 second at_second bits ∙ from_outside (bits 0) (bits 1))

        module _ (place inner : ℕ) (next_is : first.next ≡ Inner place) (at_P : slice_get nodes place ≡ Some (node_P inner)) (at_Q : slice_get nodes inner ≡ Some node_Q) where
          -- the nodes are those two
          each_node : (goal : ℕ) → goal < length nodes → (goal ≡ place) ⊎ (goal ≡ inner)
          each_node goal below = ⊎_elim
              (λ from_start. absurd (none_reached nodes canonical.rules.ordered canonical.reduced variables_below start 0 goal (start_is_zero start refl) from_start))
              (λ found. by_state found.0 found.1 found.2 found.3)
              (canonical.nodes_reached goal below)
            where
              by_state : (i : ℕ) (state : StateOf Sign) → slice_get states i ≡ Some state → Reaches nodes state.next goal → (goal ≡ place) ⊎ (goal ≡ inner)
              by_state zero state held reaches =
                  let same : state ≡ first = same_Some state first (sym held ∙ at_first) in
                  reached_from_P nodes canonical.rules.ordered canonical.reduced variables_below place inner goal at_P at_Q
                  (subst (λ r. Reaches nodes r goal) (ap (λ s. s.next) same ∙ next_is) reaches)
              by_state (suc zero) state held reaches =
                  let same : state ≡ second = same_Some state second (sym held ∙ at_second) in
                  absurd (none_reached nodes canonical.rules.ordered canonical.reduced variables_below state.next 1 goal (ap (λ s. s.next) same ∙ second_leaf) reaches)
              by_state (suc (suc i)) state held reaches =
                  let below = slice_get_within states (suc (suc i)) state held in absurd (omega (arith, below, two_states))

          inner_before : inner < place
          inner_before = canonical.rules.ordered.earlier_high place (node_P inner) at_P

          place_below : place < length nodes
          place_below = slice_get_within nodes place (node_P inner) at_P

          inner_is : inner ≡ 0
          inner_is =
              let before = inner_before in
              let below = place_below in
              ⊎_elim (λ at. absurd (omega (arith, at, before))) (λ at. sym at) (each_node 0 (omega (arith, below)))

          place_is : place ≡ 1
          place_is =
              let before = inner_before in
              let below = place_below in
              let none = inner_is in
              ⊎_elim (λ at. sym at) (λ at. absurd (omega (arith, at, none))) (each_node 1 (omega (arith, below, before)))

          two_nodes : length nodes ≡ 2
          two_nodes =
              let below = place_below in
              let one = place_is in
              let none = inner_is in
              ⊎_elim
              (λ more. ⊎_elim (λ at. absurd (omega (arith, at, one))) (λ at. absurd (omega (arith, at, none))) (each_node 2 more))
              (λ few. omega (arith, few, below, one)) (cases_lt 2 (length nodes))

          same_content : content ≡ full_subset_content
          same_content =
              let at_first_node : slice_get nodes 0 ≡ Some node_Q = ap (slice_get nodes) (sym inner_is) ∙ at_Q in
              let at_second_node : slice_get nodes 1 ≡ Some (node_P 0) = ap (slice_get nodes) (sym place_is) ∙ (at_P ∙ ap (λ k. Some (node_P k)) inner_is) in
              let same_nodes : nodes ≡ node_Q ∷ node_P 0 ∷ [] = two_items nodes node_Q (node_P 0) two_nodes at_first_node at_second_node in
              let first_sign = sign_held 0 first sign.Yes at_first sign_inside in
              let first_next : first.next ≡ Inner 1 = next_is ∙ ap Inner place_is in
              let second_sign = sign_held 1 second sign.No at_second (ap (sign_at content) (sym outside_is_one) ∙ sign_outside) in
              let second_next = second_leaf in
              let first_state_is : first ≡ record { sign = sign.Yes; next = Inner 1 } = λ i. record { sign = first_sign i; next = first_next i } in
              let second_state_is : second ≡ record { sign = sign.No; next = Leaf 1 } = λ i. record { sign = second_sign i; next = second_next i } in
              let same_states : states ≡ first ∷ second ∷ [] = two_items states first second two_states at_first at_second in
              let same_states_too : first ∷ second ∷ [] ≡ full_subset_content.states = λ i. first_state_is i ∷ second_state_is i ∷ [] in
              let all_states = same_states ∙ same_states_too in
              let same_start = start_is_zero start refl in
              λ i. record { mode = Ws1s; variables = set_P_and_Q; start = same_start i; states = all_states i; nodes = same_nodes i }

      same_as_subset : content ≡ full_subset_content
      same_as_subset =
          let long = two_states in
          let first = slice_get-held states 0 (omega (arith, long)) in
          let second = slice_get-held states 1 (omega (arith, long)) in
          let diagram = first_diagram first.0 second.0 first.1 second.1 in
          same_content first.0 second.0 first.1 second.1 diagram.0 diagram.1 diagram.2 diagram.3 diagram.4

    -- where each word is Yes, there is one state and no node
    module _ (signs : (w : Word) → IsWordOver set_P_and_Q w → sign_of content w ≡ Some sign.Yes) where
      always_yes : (i : ℕ) → i < length states → (letters : List (List Bool)) → AreLetters set_P_and_Q letters → sign_at content (state_after content i letters) ≡ Some sign.Yes
      always_yes i below letters are =
          let found = canonical.states_reached i below in
          let w = found.0 in
          ap (λ s. sign_at content (state_after content s letters)) (sym found.2)
          ∙ (ap (sign_at content) (sym (state_after-append content (first_state content w.truth) w.letters letters))
          ∙ signs (word w.truth (w.letters ++ letters)) (record { truth = found.1.truth; letters = letters-append w.letters letters found.1.letters are }))

      only_zero : (i : ℕ) → i < length states → i ≡ 0
      only_zero i below =
          canonical.states_differ i 0 below canonical.rules.some_state
          (λ letters are. always_yes i below letters are ∙ sym (always_yes 0 canonical.rules.some_state letters are))

      one_state : length states ≡ 1
      one_state =
          let some = canonical.rules.some_state in
          ⊎_elim (λ more. let never = only_zero 1 more in absurd (omega (arith, never))) (λ few. omega (arith, few, some)) (cases_lt 1 (length states))

      zero_leaf : (reference : Ref) → NamesPart content reference → length nodes ≡ 0 → reference ≡ Leaf 0
      zero_leaf (Leaf value) named none = ap Leaf (only_zero value named)
      zero_leaf (Inner place) named none = absurd (omega (arith, named, none))

      end_leaf : (reference : Ref) → NamesPart content reference → IsBefore 0 reference → reference ≡ Leaf 0
      end_leaf (Leaf value) named before = ap Leaf (only_zero value named)
      end_leaf (Inner place) named before = absurd (omega (arith, before))

      no_nodes : length nodes ≡ 0
      no_nodes = ⊎_elim
          (λ some.
          let held = slice_get-held nodes 0 some in
          let low = end_leaf held.0.low (canonical.rules.low_named 0 held.0 held.1) (canonical.rules.ordered.earlier_low 0 held.0 held.1) in
          let high = end_leaf held.0.high (canonical.rules.high_named 0 held.0 held.1) (canonical.rules.ordered.earlier_high 0 held.0 held.1) in
          absurd (canonical.reduced.ends_differ 0 held.0 held.1 (low ∙ sym high)))
          (λ none. omega (arith, none)) (cases_lt 0 (length nodes))

      same_as_true : content ≡ encodings_content
      same_as_true =
          let first = slice_get-held states 0 canonical.rules.some_state in
          let first_sign : first.0.sign ≡ sign.Yes = same_Some first.0.sign sign.Yes (ap (option_map (λ s. s.sign)) (sym first.1) ∙ always_yes 0 canonical.rules.some_state [] tt) in
          let first_next = zero_leaf first.0.next (canonical.rules.next_named 0 first.0 first.1) no_nodes in
          let same_states : states ≡ first.0 ∷ [] = one_item states first.0 one_state first.1 in
          let same_first : first.0 ∷ [] ≡ encodings_content.states = λ i. record { sign = first_sign i; next = first_next i } ∷ [] in
          let all_states = same_states ∙ same_first in
          let same_nodes = no_item nodes no_nodes in
          let same_start = start_is_zero start refl in
          λ i. record { mode = Ws1s; variables = set_P_and_Q; start = same_start i; states = all_states i; nodes = same_nodes i }

-- a full content over P and Q, field by field
module _ (f : CoreForm) (content : Content Sign) (full : IsFullContent [] Ws1s set_P_and_Q f content) where
  abbrev by_fields : Content Sign
  by_fields = record { mode = Ws1s; variables = set_P_and_Q; start = content.start; states = content.states; nodes = content.nodes }

  same_fields : content ≡ by_fields
  same_fields i = record { mode = full.same_mode i; variables = full.same_variables i; start = content.start; states = content.states; nodes = content.nodes }

  canonical_fields : IsCanonical by_fields
  canonical_fields = subst IsCanonical same_fields full.canonical

  signs_by : (expected : Word → Sign) → ((w : Word) → IsWordOver set_P_and_Q w → (value : Sign) → HasValueOn [] Ws1s set_P_and_Q f w value → value ≡ expected w) →
      (w : Word) → IsWordOver set_P_and_Q w → sign_of by_fields w ≡ Some (expected w)
  signs_by expected value_is w over =
      let has = full.values w over in
      ap (λ c. sign_of c w) (sym same_fields) ∙ (has.1 ∙ ap Some (value_is w over has.0 has.2))

-- there is one full content of P sub Q, and one of `true`
pub only_subset : (content : Content Sign) → IsFullContent [] Ws1s set_P_and_Q (basic (Sub 0 1)) content → content ≡ full_subset_content
only_subset content full =
    same_fields (basic (Sub 0 1)) content full
    ∙ same_as_subset content.start content.states content.nodes (canonical_fields (basic (Sub 0 1)) content full)
    (signs_by (basic (Sub 0 1)) content full (λ w. sign_when (is_within w.letters)) subset_value)

pub only_true : (content : Content Sign) → IsFullContent [] Ws1s set_P_and_Q truth content → content ≡ encodings_content
only_true content full =
    same_fields truth content full
    ∙ same_as_true content.start content.states content.nodes (canonical_fields truth content full) (signs_by truth content full (λ w. sign.Yes) true_value)
