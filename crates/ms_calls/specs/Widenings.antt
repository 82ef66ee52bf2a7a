-- Laws of widenings: conjunctions with what holds at each value of the variables that an automaton comes to have.
use Rattle.std.specs.Prelude.{ℕ, ◌<◌, ◌≤◌, List}
use Rattle.ms_dfa.specs.Automaton.{IsAutomaton}
use Rattle.ms_logic.specs.Assignment.{Variable}
use Rattle.ms_logic_measures.specs.CallMeasures.{IsCombineMeasure, call_measure}
use Rattle.ms_logic_words.specs.Content.{Content}
use Rattle.ms_logic_words.specs.declared.sign.Sign.{Sign}
use Rattle.ms_product.specs.Combined.{HaveEqualOrders}
use Rattle.ms_rename.specs.Whole.{IsSmallWhole, ReachedBesideWhole}

-- what a widening needs is no more than the number m of the measure of a conjunction: that with an automaton of few states and nodes
-- which holds at each value of these variables
abbrev pub WideningsNeedFewPairs : Type 0
WideningsNeedFewPairs =
    (content : Content Sign) (vs : List Variable) → IsAutomaton content → HaveEqualOrders content.variables vs → (count : ℕ) → ReachedBesideWhole count vs content
    → (other : Content Sign) × IsSmallWhole vs other × ((m r : ℕ) → IsCombineMeasure content other m r → count ≤ m)

-- so it is short of nodes only under a limit below that measure
abbrev pub WideningsAreWithinMeasure : Type 0
WideningsAreWithinMeasure =
    (content : Content Sign) (vs : List Variable) → IsAutomaton content → HaveEqualOrders content.variables vs → (limit : ℕ) → ReachedBesideWhole limit vs content
    → (other : Content Sign) × IsSmallWhole vs other × ((m r : ℕ) → IsCombineMeasure content other m r → limit < call_measure m r)

-- each measure of a conjunction is above 32, the most states and nodes of what holds at each value
abbrev pub MeasuresAreAboveFew : Type 0
MeasuresAreAboveFew = (left right : Content Sign) (m r : ℕ) → IsCombineMeasure left right m r → 32 < call_measure m r
