-- The full contents of P sub Q and of `true` over P and Q.
use Rattle.std.proofs.Common.{◌≡◌, ℕ, zero, suc, ◌<◌, Bool, true, false, cond, [], slice_get, Some, refl, sym, ◌∙◌, ap, subst, arith}
use Rattle.std.proofs.lemmas.Bool.{false≢true}
use Rattle.std.proofs.lemmas.Option.{same_Some, none-some}
use Rattle.ms_arena.specs.declared.node.Ref.TheVariants.{Leaf}
use Rattle.ms_arena.specs.declared.node.Node.{Node}
use Rattle.ms_arena.specs.Reach.{TestsOnly}
use Rattle.ms_list.specs.declared.word.Word.{Word}
use Rattle.ms_logic_words.specs.declared.sign.Sign.{Sign}
use Rattle.ms_logic_words.specs.declared.sign.Sign.TheVariants as sign
use Rattle.ms_logic.specs.declared.mode.Mode.TheVariants.{Ws1s}
use Rattle.ms_logic_core.specs.declared.core_formula.Basic.TheVariants.{Sub}
use Rattle.ms_logic_words.specs.inner.ContentExamples.{full_subset_content, encodings_content, word}
use Rattle.ms_logic.specs.Assignment.{IsAssignment}
use Rattle.ms_logic_words.specs.Canonical.{IsCanonical}
use Rattle.ms_logic_words.specs.Content.{StateOf, IsContent, NamesPart, IsWordOver, HasValueAt, is_in_letters, sign_at, sign_of}
use Rattle.ms_logic_core.specs.CoreForm.{basic, truth}
use Rattle.ms_logic_words.specs.inner.Decoding.{decoded}
use Rattle.ms_logic_words.specs.Word.{Encodes}
use Rattle.ms_logic.specs.inner.Examples.{set_P_and_Q}
use Rattle.ms_logic_measures.specs.FullContent.{HasValueOn, IsFullContent}
use Rattle.ms_logic_words.proofs.SubsetRuns.{last_of_subset, last_of_true}
use Rattle.ms_logic_words.proofs.SubsetWords.{is_within, decoded_P_and_Q, decoded_within}
use Rattle.ms_logic_words.proofs.SubsetContent.{subset_content_canonical, leaf_reaches}

module _ (w : Word) (over : IsWordOver set_P_and_Q w) where
  abbrev HasItsValue : Type 0
  HasItsValue = (value : Sign) × (sign_of full_subset_content w ≡ Some value) × HasValueOn [] Ws1s set_P_and_Q (basic (Sub 0 1)) w value

  abbrev encoded : IsAssignment Ws1s set_P_and_Q (decoded Ws1s set_P_and_Q w) × Encodes set_P_and_Q w (decoded Ws1s set_P_and_Q w)
  encoded = decoded_P_and_Q w over

  by_test : (within : Bool) → is_within w.letters ≡ within → HasItsValue
  by_test true is =
      (sign.Yes, ap (sign_at full_subset_content) (last_of_subset w over ∙ ap (λ b. cond b 0 1) is), (decoded Ws1s set_P_and_Q w, encoded.0, encoded.1, decoded_within w ∙ is))
  by_test false is =
      (sign.No, ap (sign_at full_subset_content) (last_of_subset w over ∙ ap (λ b. cond b 0 1) is), (decoded Ws1s set_P_and_Q w, encoded.0, encoded.1, λ holds. false≢true (sym is ∙ (sym (decoded_within w) ∙ holds))))

yes_is_not_no : sign.Yes ≡ sign.No → ⊥
yes_is_not_no same = grind arith

-- P sub Q over P and Q
pub full_subset : IsFullContent [] Ws1s set_P_and_Q (basic (Sub 0 1)) full_subset_content
full_subset = record {
  covers = λ w listed. listed;
  canonical = subset_content_canonical sign.Yes sign.No yes_is_not_no;
  same_mode = refl;
  same_variables = refl;
  values = λ w over. by_test w over (is_within w.letters) refl;
}

only_state : (P : ℕ → StateOf Sign → Type 0) → P 0 (record { sign = sign.Yes; next = Leaf 0 }) →
    (place : ℕ) (state : StateOf Sign) → slice_get encodings_content.states place ≡ Some state → P place state
only_state P holds zero state held = subst (P 0) (same_Some (record { sign = sign.Yes; next = Leaf 0 }) state held) holds
only_state P holds (suc place) state held = absurd (none-some state held)

no_node : (P : ℕ → Node → Type 0) → (place : ℕ) (node : Node) → slice_get {X = Node} [] place ≡ Some node → P place node
no_node P place node held = absurd (none-some node held)

zero_alone : (i : ℕ) → i < 1 → 0 ≡ i
zero_alone i below = omega arith

rules_of_true : IsContent encodings_content
rules_of_true = record {
  some_state = omega arith;
  ordered = record {
    earlier_low = no_node _;
    earlier_high = no_node _;
    rising_low = no_node _;
    rising_high = no_node _;
  };
  start_named = omega arith;
  next_named = only_state (λ i state. NamesPart encodings_content state.next) (omega arith);
  low_named = no_node _;
  high_named = no_node _;
  variables = no_node _;
  start_tests = λ var tested. absurd (leaf_reaches [] 0 tested.0 tested.2);
  next_tests =
      only_state (λ i state. TestsOnly [] (HasValueAt encodings_content.variables is_in_letters) state.next) (λ var tested. absurd (leaf_reaches [] 0 tested.0 tested.2));
}

canonical_of_true : IsCanonical encodings_content
canonical_of_true = record {
  rules = rules_of_true;
  states_reached = λ i below. (word [] [], record { truth = refl; letters = tt }, last_of_true (word [] []) ∙ zero_alone i below);
  states_differ = λ one two one_below two_below same. omega arith;
  reduced = record { ends_differ = no_node _; distinct = λ one two node one_held two_held. absurd (none-some node one_held) };
  nodes_reached = λ place below. absurd (omega arith);
  states_numbered = refl;
  nodes_numbered = refl;
}

-- `true` over P and Q
pub full_true : IsFullContent [] Ws1s set_P_and_Q truth encodings_content
full_true = record {
  covers = λ w listed. absurd (let below = listed.1 in omega (arith, below));
  canonical = canonical_of_true;
  same_mode = refl;
  same_variables = refl;
  values = λ w over. let encoded = decoded_P_and_Q w over in (sign.Yes, ap (sign_at encodings_content) (last_of_true w), (decoded Ws1s set_P_and_Q w, encoded.0, encoded.1, tt));
}
