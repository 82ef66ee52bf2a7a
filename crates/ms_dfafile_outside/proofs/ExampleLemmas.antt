-- What the worked examples need.
use Rattle.std.proofs.Common.{◌≡◌, ◌≢◌, ℕ, zero, suc, ◌<◌, inl, inr, true, List, [], ◌∷◌, length, slice_get, Option, Some, refl, sym, ap, subst, ◌∙◌, arith}
use Rattle.std.proofs.lemmas.Option.{same_Some}
use Rattle.ms_arena.specs.declared.node.Node.{Node}
use Rattle.ms_arena.specs.declared.node.Ref.{Ref}
use Rattle.ms_arena.specs.declared.node.Ref.TheVariants.{Leaf, Inner}
use Rattle.ms_arena.specs.Diagram.{IsBefore, TestsAbove, leaf_of}
use Rattle.ms_arena.specs.Reach.{TestsOnly}
use Rattle.ms_dfa.proofs.FunctionLemmas.{TestsOnly-leaf}
use Rattle.ms_dfa.specs.Files.{MarksOutside}
use Rattle.ms_dfa.specs.declared.plain.FileSign.{FileSign}
use Rattle.ms_dfa.specs.declared.plain.FileSign.TheVariants.{Plus, Zero, Outside}
use Rattle.ms_list.specs.declared.word.Word.{Word}
use Rattle.ms_logic.specs.declared.mode.Order.{Order}
use Rattle.ms_logic.specs.declared.mode.Order.TheVariants.{One}
use Rattle.ms_logic_words.specs.Content.{Content, HasValueAt, IsContent, IsWordOver, NamesPart, StateOf, is_in_letters, is_truth_value, last_state, sign_at, sign_of}
use Rattle.ms_dfafile_outside.specs.declared.label.Label.{Label}
use Rattle.ms_dfafile_outside.specs.declared.label.Label.TheVariants.{Lost, Seen}
use Rattle.ms_dfafile_outside.specs.inner.Examples.{number, number_undefined, number_with, set}
use Rattle.ms_dfafile_outside.specs.inner.Labels.{IsKnown, IsSettled, IsSettledNode, IsSettledState}
use Rattle.ms_dfafile_outside.proofs.ClashLemmas.{encodes}
use Rattle.ms_dfafile_outside.proofs.ClosedLemmas.{marks-closed}
use Rattle.ms_dfafile_outside.proofs.ShortLists.{at_none, at_one, at_three, at_two}
use Rattle.ms_dfafile_outside.proofs.LabelLemmas.{with-once, with-twice}

module _ (before behind : FileSign) where
  abbrev content : Content FileSign
  content = number_with before behind

  abbrev low_node : Node
  low_node = record { var = 0; low = Leaf 0; high = Leaf 1 }

  abbrev high_node : Node
  high_node = record { var = 0; low = Leaf 1; high = Leaf 2 }

  at_nodes : (P : ℕ → Node → Type 0) → P 0 low_node → P 1 high_node → (place : ℕ) (node : Node) → slice_get content.nodes place ≡ Some node → P place node
  at_nodes P one two = at_two P low_node high_node one two

  at_states : (P : ℕ → StateOf FileSign → Type 0) → P 0 (record { sign = before; next = Inner 0 }) → P 1 (record { sign = Plus; next = Inner 1 }) → P 2 (record { sign = behind; next = Leaf 2 })
      → (place : ℕ) (state : StateOf FileSign) → slice_get content.states place ≡ Some state → P place state
  at_states P one two three = at_three P (record { sign = before; next = Inner 0 }) (record { sign = Plus; next = Inner 1 }) (record { sign = behind; next = Leaf 2 }) one two three

  rules : IsContent content
  rules = record {
    some_state = omega arith;
    ordered = record {
      earlier_low = at_nodes (λ place node. IsBefore place node.low) tt tt;
      earlier_high = at_nodes (λ place node. IsBefore place node.high) tt tt;
      rising_low = at_nodes (λ place node. TestsAbove content.nodes node.var node.low) tt tt;
      rising_high = at_nodes (λ place node. TestsAbove content.nodes node.var node.high) tt tt;
    };
    start_named = omega arith;
    next_named = at_states (λ place state. NamesPart content state.next) (omega arith) (omega arith) (omega arith);
    low_named = at_nodes (λ place node. NamesPart content node.low) (omega arith) (omega arith);
    high_named = at_nodes (λ place node. NamesPart content node.high) (omega arith) (omega arith);
    variables = at_nodes (λ place node. node.var < 1) (omega arith) (omega arith);
    start_tests = TestsOnly-leaf content.nodes (HasValueAt content.variables is_truth_value) 0;
    next_tests = λ place state held var tested.
        let only : tested.1.var ≡ 0 = at_nodes (λ p node. node.var ≡ 0) refl refl tested.0 tested.1 tested.3 in
        subst (HasValueAt content.variables is_in_letters) (sym only ∙ tested.4) (record { name = 0; order = One }, refl, refl);
  }

-- the labels of the states and the nodes
abbrev number_labels : List (Option Label)
number_labels = Some (Seen 0) ∷ Some (Seen 1) ∷ Some Lost ∷ Some (Seen 0) ∷ Some (Seen 1) ∷ []

label_is : (found : Option (Option Label)) (one label : Label) → found ≡ Some (Some one) → found ≡ Some (Some label) → one ≡ label
label_is found one label first second = same_Some one label (same_Some (Some one) (Some label) (sym first ∙ second))

abbrev number_orders : List Order
number_orders = One ∷ []

abbrev state_settled : Ref → FileSign → Label → Type 0
state_settled next sign label = IsSettledState number number_labels (record { sign = sign; next = next }) label

differ : (one two : ℕ) → one < two → Seen one ≢ Seen two
differ one two less same = let sets : one ≡ two = cc in omega (arith, less, sets)

before_settled : state_settled (Inner 0) Outside (Seen 0)
before_settled = record {
  sign = (λ is same. differ 0 1 (omega arith) same, λ partial. refl);
  next = record { is_known = refl; no_gap = inr (omega arith) };
}

once_settled : state_settled (Inner 1) Plus (Seen 1)
once_settled = record {
  sign = (λ is. let never : ⊥ = cc in absurd never, λ partial. absurd (partial refl));
  next = record { is_known = refl; no_gap = inr (omega arith) };
}

behind_settled : state_settled (Leaf 2) Outside Lost
behind_settled = record {
  sign = (λ is same. cc, λ partial. refl);
  next = record { is_known = refl; no_gap = inl refl };
}

low_settled : IsSettledNode number number_labels (low_node Outside Outside) (Seen 0)
low_settled = record {
  low = record { is_known = refl; no_gap = inr (omega arith) };
  more = Seen 1;
  with_own = with-once number_orders 0 0 refl refl;
  high = record { is_known = refl; no_gap = inr (omega arith) };
}

high_settled : IsSettledNode number number_labels (high_node Outside Outside) (Seen 1)
high_settled = record {
  low = record { is_known = refl; no_gap = inr (omega arith) };
  more = Lost;
  with_own = with-twice number_orders 0 1 refl refl;
  high = record { is_known = refl; no_gap = inl refl };
}

number_settled : (reference : Ref) (label : Label) → NamesPart number reference → IsKnown number number_labels reference label → IsSettled number number_labels reference label
number_settled (Leaf zero) label named known =
    subst (IsSettled number number_labels (Leaf 0)) (label_is (Some (Some (Seen 0))) (Seen 0) label refl known) (λ state held.
    subst (λ (s : StateOf FileSign). IsSettledState number number_labels s (Seen 0)) (same_Some (record { sign = Outside; next = Inner 0 }) state held) before_settled)
number_settled (Leaf (suc zero)) label named known =
    subst (IsSettled number number_labels (Leaf 1)) (label_is (Some (Some (Seen 1))) (Seen 1) label refl known) (λ state held.
    subst (λ (s : StateOf FileSign). IsSettledState number number_labels s (Seen 1)) (same_Some (record { sign = Plus; next = Inner 1 }) state held) once_settled)
number_settled (Leaf (suc (suc zero))) label named known =
    subst (IsSettled number number_labels (Leaf 2)) (label_is (Some (Some Lost)) Lost label refl known) (λ state held.
    subst (λ (s : StateOf FileSign). IsSettledState number number_labels s Lost) (same_Some (record { sign = Outside; next = Leaf 2 }) state held) behind_settled)
number_settled (Leaf (suc (suc (suc place)))) label named known = absurd (omega (arith, named))
number_settled (Inner zero) label named known =
    subst (IsSettled number number_labels (Inner 0)) (label_is (Some (Some (Seen 0))) (Seen 0) label refl known) (λ node held.
    subst (λ (n : Node). IsSettledNode number number_labels n (Seen 0)) (same_Some (low_node Outside Outside) node held) low_settled)
number_settled (Inner (suc zero)) label named known =
    subst (IsSettled number number_labels (Inner 1)) (label_is (Some (Some (Seen 1))) (Seen 1) label refl known) (λ node held.
    subst (λ (n : Node). IsSettledNode number number_labels n (Seen 1)) (same_Some (high_node Outside Outside) node held) high_settled)
number_settled (Inner (suc (suc place))) label named known = absurd (omega (arith, named))

pub number_marks : MarksOutside number
number_marks = marks-closed number (rules Outside Outside) (tt, tt) number_labels number_settled (record { is_known = refl; no_gap = inr (omega arith) })

-- a word with two 1s has the sign 0
abbrev twice : Word
twice = record { truth = []; letters = (true ∷ []) ∷ (true ∷ []) ∷ [] }

twice_last : last_state number_undefined twice ≡ 2
unfolding leaf_of
twice_last = refl

pub undefined_fails : ¬ MarksOutside number_undefined
undefined_fails marks =
    let over : IsWordOver number_undefined.variables twice = record { truth = refl; letters = (refl, (refl, tt)) } in
    let sign : sign_of number_undefined twice ≡ Some Zero = ap (sign_at number_undefined) twice_last in
    let encoding = encodes number_undefined (tt, tt) twice over in
    let outside = (marks twice over).1 (λ found. let one : 2 ≡ 1 = encoding.0 found 0 refl in omega (arith, one)) in
    let same : Zero ≡ Outside = same_Some Zero Outside (sym sign ∙ outside) in cc

-- the set's only state has the label of no number, which is all
abbrev set_labels : List (Option Label)
set_labels = Some (Seen 0) ∷ []

abbrev set_state : StateOf FileSign
set_state = record { sign = Plus; next = Leaf 0 }

set_rules : IsContent set
set_rules = record {
  some_state = omega arith;
  ordered = record {
    earlier_low = at_none (λ place node. IsBefore place node.low);
    earlier_high = at_none (λ place node. IsBefore place node.high);
    rising_low = at_none (λ place node. TestsAbove [] node.var node.low);
    rising_high = at_none (λ place node. TestsAbove [] node.var node.high);
  };
  start_named = omega arith;
  next_named = at_one (λ place state. NamesPart set state.next) set_state (omega arith);
  low_named = at_none (λ place node. NamesPart set node.low);
  high_named = at_none (λ place node. NamesPart set node.high);
  variables = at_none (λ place node. node.var < length set.variables);
  start_tests = TestsOnly-leaf set.nodes (HasValueAt set.variables is_truth_value) 0;
  next_tests = at_one (λ place state. TestsOnly set.nodes (HasValueAt set.variables is_in_letters) state.next) set_state (TestsOnly-leaf set.nodes (HasValueAt set.variables is_in_letters) 0);
}

set_settled : (reference : Ref) (label : Label) → NamesPart set reference → IsKnown set set_labels reference label → IsSettled set set_labels reference label
set_settled (Leaf zero) label named known =
    subst (IsSettled set set_labels (Leaf 0)) (label_is (Some (Some (Seen 0))) (Seen 0) label refl known) (λ state held.
    subst (λ (s : StateOf FileSign). IsSettledState set set_labels s (Seen 0)) (same_Some set_state state held) (record {
      sign = (λ is. let never : ⊥ = cc in absurd never, λ partial. absurd (partial refl));
      next = record { is_known = refl; no_gap = inr (omega arith) };
    }))
set_settled (Leaf (suc place)) label named known = absurd (omega (arith, named))
set_settled (Inner place) label named known = absurd (omega (arith, named))

pub set_marks : MarksOutside set
set_marks = marks-closed set set_rules (tt, tt) set_labels set_settled (record { is_known = refl; no_gap = inr (omega arith) })
