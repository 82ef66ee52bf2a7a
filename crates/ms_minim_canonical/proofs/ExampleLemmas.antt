-- The content of P sub Q is canonical.
use Rattle.std.proofs.Common.{◌≡◌, ◌≢◌, ℕ, zero, suc, ◌<◌, true, false, List, [], ◌∷◌, get_or, slice_get, Some, refl, ap, subst, ◌∙◌, arith}
use Rattle.std.proofs.lemmas.Option.{none-some, same_Some}
use Rattle.ms_list.specs.declared.word.Word.{Word}
use Rattle.ms_arena.specs.declared.node.Node.{Node}
use Rattle.ms_arena.specs.declared.node.Ref.TheVariants.{Leaf, Inner}
use Rattle.ms_arena.specs.Diagram.{leaf_of, IsBefore, IsOrdered, IsReduced, TestsAbove}
use Rattle.ms_arena.proofs.Paths.{leaf_of-leaf}
use Rattle.ms_dfa.specs.declared.plain.FileSign.{FileSign}
use Rattle.ms_dfa.specs.declared.plain.FileSign.TheVariants.{Plus, Minus}
use Rattle.ms_logic.specs.declared.mode.Order.TheVariants.{Two}
use Rattle.ms_logic_words.specs.Canonical.{HaveSameSigns, IsCanonical}
use Rattle.ms_logic_words.specs.Content.{StateOf, HasValueAt, IsContent, IsWordOver, NamesPart, is_in_letters, is_truth_value, last_state, letter_bits, state_after, truth_bits}
use Rattle.ms_dfa.proofs.FunctionLemmas.{TestsOnly-leaf}
use Rattle.ms_minim_canonical.specs.inner.Examples.{subset, swapped_nodes, swapped_states}
use Rattle.ms_minim_canonical.proofs.ReachedLemmas.{reached-numbered}

-- its nodes
abbrev inner : Node
inner = record { var = 1; low = Leaf 1; high = Leaf 0 }

abbrev outer : Node
outer = record { var = 0; low = Leaf 0; high = Inner 0 }

at_nodes : (P : ℕ → Node → Type 0) → P 0 inner → P 1 outer → (place : ℕ) (node : Node) → slice_get subset.nodes place ≡ Some node → P place node
at_nodes P first second zero node held = subst (P 0) (same_Some inner node held) first
at_nodes P first second (suc zero) node held = subst (P 1) (same_Some outer node held) second
at_nodes P first second (suc (suc place)) node held = absurd (none-some node held)

-- and its states
abbrev holds : StateOf FileSign
holds = record { sign = Plus; next = Inner 1 }

abbrev fails : StateOf FileSign
fails = record { sign = Minus; next = Leaf 1 }

at_states : (P : ℕ → StateOf FileSign → Type 0) → P 0 holds → P 1 fails → (place : ℕ) (state : StateOf FileSign) → slice_get subset.states place ≡ Some state → P place state
at_states P first second zero state held = subst (P 0) (same_Some holds state held) first
at_states P first second (suc zero) state held = subst (P 1) (same_Some fails state held) second
at_states P first second (suc (suc place)) state held = absurd (none-some state held)

subset-ordered : IsOrdered subset.nodes
subset-ordered = record {
  earlier_low = at_nodes (λ place node. IsBefore place node.low) tt tt;
  earlier_high = at_nodes (λ place node. IsBefore place node.high) tt (omega arith);
  rising_low = at_nodes (λ place node. TestsAbove subset.nodes node.var node.low) tt tt;
  rising_high = at_nodes (λ place node. TestsAbove subset.nodes node.var node.high) tt
      (λ node held. subst (λ (n : Node). 0 < n.var) (same_Some inner node held) (omega arith));
}

one_place : (place : ℕ) → slice_get subset.nodes place ≡ Some inner → 0 ≡ place
one_place zero held = refl
one_place (suc zero) held = let var : 0 ≡ 1 = ap (λ (n : Node). n.var) (same_Some outer inner held) in absurd (omega (arith, var))
one_place (suc (suc place)) held = absurd (none-some inner held)

other_place : (place : ℕ) → slice_get subset.nodes place ≡ Some outer → 1 ≡ place
other_place zero held = let var : 1 ≡ 0 = ap (λ (n : Node). n.var) (same_Some inner outer held) in absurd (omega (arith, var))
other_place (suc zero) held = refl
other_place (suc (suc place)) held = absurd (none-some outer held)

subset-reduced : IsReduced subset.nodes
subset-reduced = record {
  ends_differ = at_nodes (λ place node. node.low ≢ node.high) (λ same. cc) (λ same. cc);
  distinct = λ one two node first second. at_nodes (λ place found. slice_get subset.nodes two ≡ Some found → place ≡ two) (one_place two) (other_place two) one node first second;
}

has_letter : (var : ℕ) → var < 2 → HasValueAt subset.variables is_in_letters var
has_letter zero less = (record { name = 0; order = Two }, refl, refl)
has_letter (suc zero) less = (record { name = 1; order = Two }, refl, refl)
has_letter (suc (suc var)) less = absurd (omega (arith, less))

below_two : (place : ℕ) (node : Node) → slice_get subset.nodes place ≡ Some node → node.var < 2
below_two = at_nodes (λ place node. node.var < 2) (omega arith) (omega arith)

subset-rules : IsContent subset
subset-rules = record {
  some_state = omega arith;
  ordered = subset-ordered;
  start_named = omega arith;
  next_named = at_states (λ place state. NamesPart subset state.next) (omega arith) (omega arith);
  low_named = at_nodes (λ place node. NamesPart subset node.low) (omega arith) (omega arith);
  high_named = at_nodes (λ place node. NamesPart subset node.high) (omega arith) (omega arith);
  variables = below_two;
  start_tests = TestsOnly-leaf subset.nodes (HasValueAt subset.variables is_truth_value) 0;
  next_tests = λ place state held var tested.
      has_letter var (subst (λ n. n < 2) tested.4 (below_two tested.0 tested.1 tested.3));
}

-- the letter with P alone leads to where it fails
leads_to_fails : leaf_of subset.nodes (Inner 1) (letter_bits subset.variables (true ∷ false ∷ [])) ≡ 1
unfolding leaf_of
leads_to_fails = refl

reached : (place : ℕ) → place < 2 → (word : Word) × IsWordOver subset.variables word × (last_state subset word ≡ place)
reached zero less = (
  record { truth = []; letters = [] },
  record { truth = refl; letters = tt },
  leaf_of-leaf subset.nodes (truth_bits subset.variables []) 0,
)
reached (suc zero) less = (
  record { truth = []; letters = (true ∷ false ∷ []) ∷ [] },
  record { truth = refl; letters = (refl, tt) },
  ap (λ state. state_after subset state ((true ∷ false ∷ []) ∷ [])) (leaf_of-leaf subset.nodes (truth_bits subset.variables []) 0) ∙ leads_to_fails,
)
reached (suc (suc place)) less = absurd (omega (arith, less))

differ : (one two : ℕ) → one < 2 → two < 2 → HaveSameSigns subset one two → one ≡ two
differ zero zero less less_too same = refl
differ zero (suc zero) less less_too same = let signs : Some Plus ≡ Some Minus = same [] tt in absurd (let never : ⊥ = cc in never)
differ (suc zero) zero less less_too same = let signs : Some Minus ≡ Some Plus = same [] tt in absurd (let never : ⊥ = cc in never)
differ (suc zero) (suc zero) less less_too same = refl
differ (suc (suc one)) two less less_too same = absurd (omega (arith, less))
differ one (suc (suc two)) less less_too same = absurd (omega (arith, less_too))

pub subset-canonical : IsCanonical subset
subset-canonical = record {
  rules = subset-rules;
  states_reached = reached;
  states_differ = differ;
  reduced = subset-reduced;
  nodes_reached = reached-numbered subset refl;
  states_numbered = refl;
  nodes_numbered = refl;
}

-- other numbers are not those of first sight
pub states_swapped : ¬ IsCanonical swapped_states
states_swapped canonical = let first : 1 ≡ 0 = ap (λ (list : List ℕ). get_or list 0 0) canonical.states_numbered in absurd (omega (arith, first))

pub nodes_swapped : ¬ IsCanonical swapped_nodes
nodes_swapped canonical = let second : 2 ≡ 1 = ap (λ (list : List ℕ). get_or list 1 0) canonical.nodes_numbered in absurd (omega (arith, second))
