-- Laws of connectives by the pairs of references to which starts lead their operands.
use Rattle.std.specs.Prelude.{◌≡◌, ℕ, ◌<◌, ◌≤◌, List, slice_get, slice_index, Some}
use Rattle.ms_arena.specs.Diagram.{IsOrdered}
use Rattle.ms_dfa.specs.Automaton.{IsAutomaton}
use Rattle.ms_logic.specs.Assignment.{Variable}
use Rattle.ms_logic_measures.specs.CallMeasures.{IsCombineMeasure, LeadToPairs, call_measure}
use Rattle.ms_logic_starts.specs.ContentStarts.{HaveDistinctNumbers}
use Rattle.ms_logic_words.specs.Content.{Content, IsClosed}
use Rattle.ms_logic_words.specs.declared.sign.Sign.{Sign}
use Rattle.ms_product.specs.Combined.{HaveEqualOrders}
use Rattle.ms_product.specs.Pairing.{Operands, ReachedAreAtLeast, operands_of}
use Rattle.ms_product.specs.declared.op.Op.{Op}

-- a closed content of ordered diagrams, each variable of which stands among others at the place that is said for it
pub record StandsAmong (content : Content Sign) (at : ℕ → ℕ) (others : List Variable) : Type 0 where
  pub ordered : IsOrdered content.nodes
  pub closed : IsClosed content
  pub distinct : HaveDistinctNumbers content.variables
  pub leads : (place : ℕ) (v : Variable) → slice_get content.variables place ≡ Some v → slice_get others (at place) ≡ Some v

-- two automata, of whose variables those with one number have one order
pub record AreAutomata (one other : Content Sign) : Type 0 where
  pub left : IsAutomaton one
  pub right : IsAutomaton other
  pub equal : HaveEqualOrders one.variables other.variables

-- what a product needs of pairs that are reached is no more than the pairs of references to which starts over all its variables lead
-- both operands
abbrev pub ProductsNeedFewPairs : Type 0
ProductsNeedFewPairs =
    (op : Op) (operands : Operands) (variables : List Variable) → HaveDistinctNumbers variables → StandsAmong operands.left (slice_index operands.left_map) variables
    → StandsAmong operands.right (slice_index operands.right_map) variables → (count : ℕ) → ReachedAreAtLeast count op operands
    → (m : ℕ) → LeadToPairs operands.left operands.right variables m → count ≤ m

-- so a connective of automata needs no more states and nodes than the number m of its measure
abbrev pub ConnectivesNeedFewPairs : Type 0
ConnectivesNeedFewPairs =
    (op : Op) (left right : Content Sign) → AreAutomata left right → (count : ℕ) → ReachedAreAtLeast count op (operands_of left right)
    → (m r : ℕ) → IsCombineMeasure left right m r → count ≤ m

-- and is short of nodes only under a limit below its measure
abbrev pub ConnectivesAreWithinMeasure : Type 0
ConnectivesAreWithinMeasure =
    (op : Op) (left right : Content Sign) → AreAutomata left right → (limit : ℕ) → ReachedAreAtLeast limit op (operands_of left right)
    → (m r : ℕ) → IsCombineMeasure left right m r → limit < call_measure m r
