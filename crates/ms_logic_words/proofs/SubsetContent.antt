-- The content of P sub Q over P and Q is canonical.
use Rattle.std.proofs.Common.{◌≡◌, ◌≢◌, ℕ, zero, suc, ◌<◌, true, false, inr, List, [], ◌∷◌, slice_get, Some, refl, sym, ◌∙◌, ap, subst, arith}
use Rattle.std.proofs.lemmas.Option.{same_Some, none-some}
use Rattle.ms_arena.specs.declared.node.Ref.{Ref}
use Rattle.ms_arena.specs.declared.node.Ref.TheVariants.{Leaf, Inner}
use Rattle.ms_arena.specs.declared.node.Node.{Node}
use Rattle.ms_arena.specs.Diagram.{leaf_of, IsBefore, TestsAbove, IsOrdered, IsReduced}
use Rattle.ms_arena.specs.Reach.{Reaches, here, through_high, TestsOnly}
use Rattle.ms_list.specs.declared.word.Word.{Word}
use Rattle.ms_logic.specs.declared.mode.Order.TheVariants.{Two}
use Rattle.ms_logic_words.specs.Canonical.{IsCanonical, HaveSameSigns, IsNodeReached}
use Rattle.ms_logic_words.specs.Content.{Content, StateOf, IsContent, NamesPart, IsWordOver, HasValueAt, is_in_letters, last_state}
use Rattle.ms_logic_words.specs.inner.ContentExamples.{subset_content_with, word}
use Rattle.ms_logic.specs.inner.Examples.{variable}

-- what holds of both items of a list of two, each at its place, holds of each item
pub each_of_two : {A : Type 0} (P : ℕ → A → Type 0) (first second : A) → P 0 first → P 1 second →
    (place : ℕ) (item : A) → slice_get (first ∷ second ∷ []) place ≡ Some item → P place item
each_of_two P first second one other zero item held = subst (P 0) (same_Some first item held) one
each_of_two P first second one other (suc zero) item held = subst (P 1) (same_Some second item held) other
each_of_two P first second one other (suc (suc place)) item held = absurd (none-some item held)

-- a leaf reaches no node
pub leaf_reaches : (nodes : List Node) (value place : ℕ) → Reaches nodes (Leaf value) place → ⊥
leaf_reaches nodes value place reaches = elim reaches [ ]

abbrev node_Q : Node
node_Q = record { var = 1; low = Leaf 1; high = Leaf 0 }

abbrev node_P : Node
node_P = record { var = 0; low = Leaf 0; high = Inner 0 }

abbrev nodes : List Node
nodes = node_Q ∷ node_P ∷ []

-- what holds of both nodes holds of each
each_node : (P : ℕ → Node → Type 0) → P 0 node_Q → P 1 node_P → (place : ℕ) (node : Node) → slice_get nodes place ≡ Some node → P place node
each_node P one other = each_of_two P node_Q node_P one other

nodes_differ : node_Q ≡ node_P → ⊥
nodes_differ same = let vars : 1 ≡ 0 = ap (λ n. n.var) same in omega (arith, vars)

leaves_differ : Leaf 1 ≡ Leaf 0 → ⊥
leaves_differ same = grind arith

leaf_is_no_node : Leaf 0 ≡ Inner 0 → ⊥
leaf_is_no_node same = grind arith

ordered : IsOrdered nodes
ordered = record {
  earlier_low = each_node (λ place node. IsBefore place node.low) tt tt;
  earlier_high = each_node (λ place node. IsBefore place node.high) tt (omega arith);
  rising_low = each_node (λ place node. TestsAbove nodes node.var node.low) tt tt;
  rising_high = each_node (λ place node. TestsAbove nodes node.var node.high) tt (λ node held. subst (λ n. 0 < n.var) (same_Some node_Q node held) (omega arith));
}

reduced : IsReduced nodes
reduced = record {
  ends_differ = each_node (λ place node. node.low ≢ node.high) leaves_differ leaf_is_no_node;
  distinct = λ one two node one_held two_held.
      each_node (λ place found. found ≡ node → place ≡ two)
      (λ is. each_node (λ place found. found ≡ node → 0 ≡ place) (λ same. refl) (λ same. absurd (nodes_differ (is ∙ sym same))) two node two_held refl)
      (λ is. each_node (λ place found. found ≡ node → 1 ≡ place) (λ same. absurd (nodes_differ (same ∙ sym is))) (λ same. refl) two node two_held refl)
      one node one_held refl;
}

module _ {Sign : Type 0} (for_yes for_no : Sign) where
  abbrev content : Content Sign
  content = subset_content_with for_yes for_no

  abbrev first_state : StateOf Sign
  first_state = record { sign = for_yes; next = Inner 1 }

  abbrev second_state : StateOf Sign
  second_state = record { sign = for_no; next = Leaf 1 }

  tests_letters : (reference : Ref) → TestsOnly nodes (HasValueAt content.variables is_in_letters) reference
  tests_letters reference var tested =
      each_node (λ place node. node.var ≡ var → HasValueAt content.variables is_in_letters var)
      (λ is. subst (HasValueAt content.variables is_in_letters) is (variable 1 Two, refl, refl))
      (λ is. subst (HasValueAt content.variables is_in_letters) is (variable 0 Two, refl, refl))
      tested.0 tested.1 tested.3 tested.4

  each_state : (P : ℕ → StateOf Sign → Type 0) → P 0 first_state → P 1 second_state →
      (place : ℕ) (state : StateOf Sign) → slice_get content.states place ≡ Some state → P place state
  each_state P one other = each_of_two P first_state second_state one other

  rules : IsContent content
  rules = record {
    some_state = omega arith;
    ordered = ordered;
    start_named = omega arith;
    next_named = each_state (λ i state. NamesPart content state.next) (omega arith) (omega arith);
    low_named = each_node (λ place node. NamesPart content node.low) (omega arith) (omega arith);
    high_named = each_node (λ place node. NamesPart content node.high) (omega arith) (omega arith);
    variables = each_node (λ place node. node.var < 2) (omega arith) (omega arith);
    start_tests = λ var tested. absurd (leaf_reaches nodes 0 tested.0 tested.2);
    next_tests = λ i state held. tests_letters state.next;
  }

  states_reached : (i : ℕ) → i < 2 → (w : Word) × IsWordOver content.variables w × (last_state content w ≡ i)
  unfolding leaf_of
  states_reached zero below = (word [] [], record { truth = refl; letters = tt }, refl)
  states_reached (suc zero) below = (word [] ((true ∷ false ∷ []) ∷ []), record { truth = refl; letters = (refl, tt) }, refl)
  states_reached (suc (suc i)) below = absurd (omega arith)

  module _ (differ : for_yes ≡ for_no → ⊥) where
    states_differ : (one two : ℕ) → one < 2 → two < 2 → HaveSameSigns content one two → one ≡ two
    states_differ zero zero below other_below same = refl
    states_differ zero (suc zero) below other_below same = absurd (differ (same_Some for_yes for_no (same [] tt)))
    states_differ (suc zero) zero below other_below same = absurd (differ (sym (same_Some for_no for_yes (same [] tt))))
    states_differ (suc zero) (suc zero) below other_below same = refl
    states_differ zero (suc (suc two)) below other_below same = absurd (omega arith)
    states_differ (suc zero) (suc (suc two)) below other_below same = absurd (omega arith)
    states_differ (suc (suc one)) two below other_below same = absurd (omega arith)

    nodes_reached : (place : ℕ) → place < 2 → IsNodeReached content place
    nodes_reached zero below = inr (0, first_state, refl, through_high node_P refl here)
    nodes_reached (suc zero) below = inr (0, first_state, refl, here)
    nodes_reached (suc (suc place)) below = absurd (omega arith)

    pub subset_content_canonical : IsCanonical content
    subset_content_canonical = record {
      rules = rules;
      states_reached = states_reached;
      states_differ = states_differ;
      reduced = reduced;
      nodes_reached = nodes_reached;
      states_numbered = refl;
      nodes_numbered = refl;
    }
