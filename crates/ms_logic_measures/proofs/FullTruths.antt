-- The full contents of B => A and of A.
use Rattle.std.proofs.Common.{◌≡◌, ℕ, ◌-◌, ◌<◌, Bool, true, false, inl, inr, List, [], ◌∷◌, Option, Some, None, refl, ap, subst, arith}
use Rattle.std.proofs.lemmas.Bool.{false≢true}
use Rattle.std.proofs.lemmas.Option.{same_Some}
use Rattle.ms_arena.specs.declared.node.Ref.TheVariants.{Leaf, Inner}
use Rattle.ms_arena.specs.declared.node.Node.{Node}
use Rattle.ms_arena.specs.Diagram.{leaf_of}
use Rattle.ms_arena.specs.Reach.{here, through_high, TestsOnly}
use Rattle.ms_list.specs.declared.word.Word.{Word}
use Rattle.ms_logic_words.specs.declared.sign.Sign.{Sign}
use Rattle.ms_logic_words.specs.declared.sign.Sign.TheVariants as sign
use Rattle.ms_logic.specs.declared.mode.Mode.TheVariants.{Ws1s}
use Rattle.ms_logic.specs.declared.mode.Order.TheVariants.{Zero}
use Rattle.ms_logic_measures.specs.inner.BudgetExamples.{is_truth}
use Rattle.ms_logic_words.specs.Canonical.{IsCanonical, IsNodeReached}
use Rattle.ms_logic_words.specs.Content.{IsContent, NamesPart, IsWordOver, HasValueAt, is_truth_value, is_in_letters, last_state, sign_at, sign_of}
use Rattle.ms_logic_words.specs.inner.Decoding.{decoded}
use Rattle.ms_logic.specs.inner.Examples.{variable}
use Rattle.ms_logic_words.specs.inner.ContentExamples.{word}
use Rattle.ms_logic_measures.specs.FullContent.{HasValueOn, IsFullContent}
use Rattle.ms_logic_words.proofs.DecodedWords.{decoded_is_encoded}
use Rattle.ms_logic_words.proofs.SubsetContent.{leaf_reaches}
use Rattle.ms_logic_measures.specs.inner.MeasuredContents.{implies_content, truth_content}
use Rattle.ms_logic_measures.specs.inner.MeasureExamples.{implies_truth, truth_B_and_A, truth_A}
use Rattle.ms_logic_measures.proofs.Counting.{at_place, at_number}
use Rattle.ms_logic_measures.proofs.ShortContents.{ordered_by_place, reduced_by_place, states_differ_by_sign}
use Rattle.ms_logic_measures.proofs.TruthStarts.{implies_stays, truth_stays}

-- the states of both contents, by their signs
implies_state : Option Sign → ℕ
implies_state None = 0
implies_state (Some sign.Yes) = 0
implies_state (Some sign.No) = 1
implies_state (Some sign.Undefined) = 0
implies_state (Some sign.Outside) = 0

truth_state : Option Sign → ℕ
truth_state None = 0
truth_state (Some sign.Yes) = 1
truth_state (Some sign.No) = 0
truth_state (Some sign.Undefined) = 0
truth_state (Some sign.Outside) = 0

-- B => A
implies_tests : TestsOnly implies_content.nodes (HasValueAt truth_B_and_A is_truth_value) (Inner 1)
implies_tests var tested =
    let P : ℕ → Node → Type 0 = λ place node. node.var ≡ var → HasValueAt truth_B_and_A is_truth_value var in
    let Q : ℕ → Type 0 = HasValueAt truth_B_and_A is_truth_value in
    at_place P implies_content.nodes ((λ is. subst Q is (variable 1 Zero, refl, refl)), ((λ is. subst Q is (variable 0 Zero, refl, refl)), tt)) tested.0 tested.1 tested.3 tested.4

implies_rules : IsContent implies_content
implies_rules = record {
  some_state = omega arith;
  ordered = ordered_by_place implies_content.nodes (
    record { earlier_low = tt; earlier_high = tt; rising_low = tt; rising_high = tt },
    (
      record {
        earlier_low = tt;
        earlier_high = omega arith;
        rising_low = tt;
        rising_high = λ node held. subst (λ n. 0 < n.var) (same_Some (record { var = 1; low = Leaf 1; high = Leaf 0 }) node held) (omega arith);
      },
      tt,
    ),
  );
  start_named = omega arith;
  next_named = at_place (λ i state. NamesPart implies_content state.next) implies_content.states (omega arith, (omega arith, tt));
  low_named = at_place (λ place node. NamesPart implies_content node.low) implies_content.nodes (omega arith, (omega arith, tt));
  high_named = at_place (λ place node. NamesPart implies_content node.high) implies_content.nodes (omega arith, (omega arith, tt));
  variables = at_place (λ place node. node.var < 2) implies_content.nodes (omega arith, (omega arith, tt));
  start_tests = implies_tests;
  next_tests = at_place (λ i state. TestsOnly implies_content.nodes (HasValueAt truth_B_and_A is_in_letters) state.next) implies_content.states
      ((λ var tested. absurd (leaf_reaches implies_content.nodes 0 tested.0 tested.2)), ((λ var tested. absurd (leaf_reaches implies_content.nodes 1 tested.0 tested.2)), tt));
}

implies_canonical : IsCanonical implies_content
unfolding leaf_of implies_state
implies_canonical = record {
  rules = implies_rules;
  states_reached = at_number 2 (λ i. (w : Word) × IsWordOver truth_B_and_A w × (last_state implies_content w ≡ i))
      ((word (false ∷ false ∷ []) [], record { truth = refl; letters = tt }, refl), ((word (true ∷ false ∷ []) [], record { truth = refl; letters = tt }, refl), tt));
  states_differ = states_differ_by_sign implies_content 2 implies_state (refl, (refl, tt));
  reduced = reduced_by_place implies_content.nodes (λ node. 1 - node.var) ((λ same. grind (arith, same)), ((λ same. grind (arith, same)), tt)) (refl, (refl, tt));
  nodes_reached = at_number 2 (IsNodeReached implies_content)
      (inl (through_high (record { var = 0; low = Leaf 0; high = Inner 0 }) refl here), (inl here, tt));
  states_numbered = refl;
  nodes_numbered = refl;
}

implies_value : (truth : List Bool) (letters : List (List Bool)) → IsWordOver truth_B_and_A (word truth letters) →
    (value : Sign) × (sign_of implies_content (word truth letters) ≡ Some value) × HasValueOn [] Ws1s truth_B_and_A implies_truth (word truth letters) value
unfolding leaf_of
implies_value [] letters over = absurd (let short = over.truth in omega (arith, short))
implies_value (b ∷ []) letters over = absurd (let short = over.truth in omega (arith, short))
implies_value (b ∷ a ∷ c ∷ more) letters over = absurd (let long = over.truth in omega (arith, long))
implies_value (true ∷ true ∷ []) letters over =
    let w = word (true ∷ true ∷ []) letters in
    let encoding = decoded_is_encoded Ws1s truth_B_and_A w (omega arith, (tt, tt)) over (tt, (tt, tt)) in
    (sign.Yes, ap (sign_at implies_content) (implies_stays true true letters), (decoded Ws1s truth_B_and_A w, encoding.0, encoding.1, (inl refl, inl refl, inr refl)))
implies_value (true ∷ false ∷ []) letters over =
    let w = word (true ∷ false ∷ []) letters in
    let encoding = decoded_is_encoded Ws1s truth_B_and_A w (omega arith, (tt, tt)) over (tt, (tt, tt)) in
    (sign.No, ap (sign_at implies_content) (implies_stays true false letters), (decoded Ws1s truth_B_and_A w, encoding.0, encoding.1, (refl, false≢true)))
implies_value (false ∷ true ∷ []) letters over =
    let w = word (false ∷ true ∷ []) letters in
    let encoding = decoded_is_encoded Ws1s truth_B_and_A w (omega arith, (tt, tt)) over (tt, (tt, tt)) in
    (sign.Yes, ap (sign_at implies_content) (implies_stays false true letters), (decoded Ws1s truth_B_and_A w, encoding.0, encoding.1, (inr false≢true, inl refl, inl false≢true)))
implies_value (false ∷ false ∷ []) letters over =
    let w = word (false ∷ false ∷ []) letters in
    let encoding = decoded_is_encoded Ws1s truth_B_and_A w (omega arith, (tt, tt)) over (tt, (tt, tt)) in
    (sign.Yes, ap (sign_at implies_content) (implies_stays false false letters), (decoded Ws1s truth_B_and_A w, encoding.0, encoding.1, (inr false≢true, inr false≢true, inl false≢true)))

pub full_implies : IsFullContent [] Ws1s truth_B_and_A implies_truth implies_content
full_implies = record {
  covers = λ w listed. listed;
  canonical = implies_canonical;
  same_mode = refl;
  same_variables = refl;
  values = λ w over. implies_value w.truth w.letters over;
}

-- A
truth_tests : TestsOnly truth_content.nodes (HasValueAt truth_A is_truth_value) (Inner 0)
truth_tests var tested =
    let P : ℕ → Node → Type 0 = λ place node. node.var ≡ var → HasValueAt truth_A is_truth_value var in
    at_place P truth_content.nodes ((λ is. subst (HasValueAt truth_A is_truth_value) is (variable 1 Zero, refl, refl)), tt) tested.0 tested.1 tested.3 tested.4

truth_rules : IsContent truth_content
truth_rules = record {
  some_state = omega arith;
  ordered = ordered_by_place truth_content.nodes (record { earlier_low = tt; earlier_high = tt; rising_low = tt; rising_high = tt }, tt);
  start_named = omega arith;
  next_named = at_place (λ i state. NamesPart truth_content state.next) truth_content.states (omega arith, (omega arith, tt));
  low_named = at_place (λ place node. NamesPart truth_content node.low) truth_content.nodes (omega arith, tt);
  high_named = at_place (λ place node. NamesPart truth_content node.high) truth_content.nodes (omega arith, tt);
  variables = at_place (λ place node. node.var < 1) truth_content.nodes (omega arith, tt);
  start_tests = truth_tests;
  next_tests = at_place (λ i state. TestsOnly truth_content.nodes (HasValueAt truth_A is_in_letters) state.next) truth_content.states
      ((λ var tested. absurd (leaf_reaches truth_content.nodes 0 tested.0 tested.2)), ((λ var tested. absurd (leaf_reaches truth_content.nodes 1 tested.0 tested.2)), tt));
}

truth_canonical : IsCanonical truth_content
unfolding leaf_of truth_state
truth_canonical = record {
  rules = truth_rules;
  states_reached = at_number 2 (λ i. (w : Word) × IsWordOver truth_A w × (last_state truth_content w ≡ i))
      ((word (false ∷ []) [], record { truth = refl; letters = tt }, refl), ((word (true ∷ []) [], record { truth = refl; letters = tt }, refl), tt));
  states_differ = states_differ_by_sign truth_content 2 truth_state (refl, (refl, tt));
  reduced = reduced_by_place truth_content.nodes (λ node. node.var) ((λ same. grind (arith, same)), tt) (refl, tt);
  nodes_reached = at_number 1 (IsNodeReached truth_content) (inl here, tt);
  states_numbered = refl;
  nodes_numbered = refl;
}

truth_value : (truth : List Bool) (letters : List (List Bool)) → IsWordOver truth_A (word truth letters) →
    (value : Sign) × (sign_of truth_content (word truth letters) ≡ Some value) × HasValueOn [] Ws1s truth_A (is_truth 1) (word truth letters) value
unfolding leaf_of
truth_value [] letters over = absurd (let short = over.truth in omega (arith, short))
truth_value (a ∷ b ∷ more) letters over = absurd (let long = over.truth in omega (arith, long))
truth_value (true ∷ []) letters over =
    let w = word (true ∷ []) letters in
    let encoding = decoded_is_encoded Ws1s truth_A w (tt, tt) over (tt, tt) in
    (sign.Yes, ap (sign_at truth_content) (truth_stays true letters), (decoded Ws1s truth_A w, encoding.0, encoding.1, refl))
truth_value (false ∷ []) letters over =
    let w = word (false ∷ []) letters in
    let encoding = decoded_is_encoded Ws1s truth_A w (tt, tt) over (tt, tt) in
    (sign.No, ap (sign_at truth_content) (truth_stays false letters), (decoded Ws1s truth_A w, encoding.0, encoding.1, false≢true))

pub full_truth : IsFullContent [] Ws1s truth_A (is_truth 1) truth_content
full_truth = record {
  covers = λ w listed. listed;
  canonical = truth_canonical;
  same_mode = refl;
  same_variables = refl;
  values = λ w over. truth_value w.truth w.letters over;
}
