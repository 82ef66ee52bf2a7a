-- The full contents of ex1 x: true over no variables, on strings and in WS1S.
use Rattle.std.proofs.Common.{◌≡◌, ℕ, ◌<◌, Bool, inr, List, [], ◌∷◌, Option, Some, None, refl, ap, arith}
use Rattle.ms_arena.specs.Diagram.{leaf_of}
use Rattle.ms_arena.specs.Reach.{TestsOnly}
use Rattle.ms_list.specs.declared.word.Word.{Word}
use Rattle.ms_logic.specs.declared.assignment.Value.TheVariants.{Number}
use Rattle.ms_logic_words.specs.declared.sign.Sign.{Sign}
use Rattle.ms_logic_words.specs.declared.sign.Sign.TheVariants as sign
use Rattle.ms_logic.specs.declared.mode.Mode.TheVariants.{Ws1s, M2lStr}
use Rattle.ms_logic_words.specs.Canonical.{IsCanonical}
use Rattle.ms_logic_words.specs.Content.{IsContent, NamesPart, IsWordOver, HasValueAt, is_in_letters, last_state, state_after, sign_at, sign_of}
use Rattle.ms_logic_words.specs.inner.Decoding.{decoded}
use Rattle.ms_logic_words.specs.inner.ContentExamples.{word}
use Rattle.ms_logic_measures.specs.FullContent.{HasValueOn, IsFullContent}
use Rattle.ms_logic_words.proofs.DecodedWords.{decoded_is_encoded}
use Rattle.ms_logic_words.proofs.SubsetContent.{leaf_reaches}
use Rattle.ms_logic.proofs.Values.{each_value}
use Rattle.ms_logic_measures.specs.inner.MeasuredContents.{position_content, number_content}
use Rattle.ms_logic_measures.specs.inner.MeasureExamples.{some_number}
use Rattle.ms_logic_measures.proofs.Counting.{at_place, at_number}
use Rattle.ms_logic_measures.proofs.ShortContents.{ordered_by_place, reduced_by_place, states_differ_by_sign}

-- on strings
after_second : (letters : List (List Bool)) → state_after position_content 1 letters ≡ 1
unfolding leaf_of
after_second [] = refl
after_second (letter ∷ letters) = after_second letters

-- the states, by their signs
state_by : Option Sign → ℕ
state_by None = 0
state_by (Some sign.Yes) = 1
state_by (Some sign.No) = 0
state_by (Some sign.Undefined) = 0
state_by (Some sign.Outside) = 0

position_rules : IsContent position_content
position_rules = record {
  some_state = omega arith;
  ordered = ordered_by_place [] tt;
  start_named = omega arith;
  next_named = at_place (λ i state. NamesPart position_content state.next) position_content.states (omega arith, (omega arith, tt));
  low_named = at_place (λ place node. NamesPart position_content node.low) [] tt;
  high_named = at_place (λ place node. NamesPart position_content node.high) [] tt;
  variables = at_place (λ place node. node.var < 0) [] tt;
  start_tests = λ var tested. absurd (leaf_reaches [] 0 tested.0 tested.2);
  next_tests =
      at_place (λ i state. TestsOnly [] (HasValueAt [] is_in_letters) state.next) position_content.states
      ((λ var tested. absurd (leaf_reaches [] 1 tested.0 tested.2)), ((λ var tested. absurd (leaf_reaches [] 1 tested.0 tested.2)), tt));
}

position_canonical : IsCanonical position_content
unfolding leaf_of state_by
position_canonical = record {
  rules = position_rules;
  states_reached =
      at_number 2 (λ i. (w : Word) × IsWordOver [] w × (last_state position_content w ≡ i))
      ((word [] [], record { truth = refl; letters = tt }, refl), ((word [] ([] ∷ []), record { truth = refl; letters = (refl, tt) }, refl), tt));
  states_differ = states_differ_by_sign position_content 2 state_by (refl, (refl, tt));
  reduced = reduced_by_place [] (λ node. 0) tt tt;
  nodes_reached = λ place below. absurd (omega arith);
  states_numbered = refl;
  nodes_numbered = refl;
}

position_value : (truth : List Bool) (letters : List (List Bool)) → IsWordOver [] (word truth letters) →
    (value : Sign) × (sign_of position_content (word truth letters) ≡ Some value) × HasValueOn [] M2lStr [] some_number (word truth letters) value
unfolding leaf_of
position_value truth [] over =
    let encoding = decoded_is_encoded M2lStr [] (word truth []) tt over tt in (
      sign.No,
      refl,
      (
        decoded M2lStr [] (word truth []),
        encoding.0,
        encoding.1,
        (each_value _ (λ b in_range. absurd in_range.0) (λ n in_range holds. omega (arith, in_range.0)) (λ s in_range. absurd in_range.0), inr (each_value _ (λ b in_range. absurd in_range.0) (λ n in_range. omega (arith, in_range.0)) (λ s in_range. absurd in_range.0))),
      ),
    )
position_value truth (letter ∷ letters) over =
    let encoding = decoded_is_encoded M2lStr [] (word truth (letter ∷ letters)) tt over tt in
    (sign.Yes, ap (sign_at position_content) (after_second letters), (decoded M2lStr [] (word truth (letter ∷ letters)), encoding.0, encoding.1, (Number 0, (omega arith, tt), tt)))

pub full_position : IsFullContent [] M2lStr [] some_number position_content
full_position = record {
  covers = λ w listed. absurd (let below = listed.1 in omega (arith, below));
  canonical = position_canonical;
  same_mode = refl;
  same_variables = refl;
  values = λ w over. position_value w.truth w.letters over;
}

-- in WS1S
after_only : (letters : List (List Bool)) → state_after number_content 0 letters ≡ 0
unfolding leaf_of
after_only [] = refl
after_only (letter ∷ letters) = after_only letters

last_of_number : (w : Word) → last_state number_content w ≡ 0
unfolding leaf_of
last_of_number w = after_only w.letters

number_rules : IsContent number_content
number_rules = record {
  some_state = omega arith;
  ordered = ordered_by_place [] tt;
  start_named = omega arith;
  next_named = at_place (λ i state. NamesPart number_content state.next) number_content.states (omega arith, tt);
  low_named = at_place (λ place node. NamesPart number_content node.low) [] tt;
  high_named = at_place (λ place node. NamesPart number_content node.high) [] tt;
  variables = at_place (λ place node. node.var < 0) [] tt;
  start_tests = λ var tested. absurd (leaf_reaches [] 0 tested.0 tested.2);
  next_tests =
      at_place (λ i state. TestsOnly [] (HasValueAt [] is_in_letters) state.next) number_content.states ((λ var tested. absurd (leaf_reaches [] 0 tested.0 tested.2)), tt);
}

number_canonical : IsCanonical number_content
number_canonical = record {
  rules = number_rules;
  states_reached = at_number 1 (λ i. (w : Word) × IsWordOver [] w × (last_state number_content w ≡ i)) ((word [] [], record { truth = refl; letters = tt }, last_of_number (word [] [])), tt);
  states_differ = λ one two one_below two_below same. omega arith;
  reduced = reduced_by_place [] (λ node. 0) tt tt;
  nodes_reached = λ place below. absurd (omega arith);
  states_numbered = refl;
  nodes_numbered = refl;
}

pub full_number : IsFullContent [] Ws1s [] some_number number_content
full_number = record {
  covers = λ w listed. absurd (let below = listed.1 in omega (arith, below));
  canonical = number_canonical;
  same_mode = refl;
  same_variables = refl;
  values = λ w over.
      let encoding = decoded_is_encoded Ws1s [] w tt over tt in
      (sign.Yes, ap (sign_at number_content) (last_of_number w), (decoded Ws1s [] w, encoding.0, encoding.1, (Number 0, (tt, tt), tt)));
}
