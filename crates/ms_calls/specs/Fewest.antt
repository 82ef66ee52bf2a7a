-- Laws of the operations that leave fewest states, by the parts of an automaton to which starts lead.
use Rattle.std.specs.Prelude.{◌≡◌, ℕ, ◌<◌, ◌≤◌}
use Rattle.ms_dfa.specs.Automaton.{IsAutomaton}
use Rattle.ms_logic_measures.specs.CallMeasures.{HasReachedParts, IsMinimiseMeasure, call_measure}
use Rattle.ms_logic_measures.specs.FullContent.{part_count}
use Rattle.ms_logic_words.specs.Content.{Content}
use Rattle.ms_logic_words.specs.declared.sign.Sign.{Sign}
use Rattle.ms_minim.specs.Needed.{NeedsAtLeast}
use Rattle.ms_logic_words.specs.Residual.{HaveDifferentResiduals, HaveEqualSigns}

-- starts lead an automaton to no more references than it has states and nodes
abbrev pub ReachedPartsAreParts : Type 0
ReachedPartsAreParts = (content : Content Sign) → IsAutomaton content → (n : ℕ) → HasReachedParts content n → n ≤ part_count content

-- what is needed for fewest states is no more than the number m of the measure
abbrev pub FewestNeedFewParts : Type 0
FewestNeedFewParts =
    (content : Content Sign) → IsAutomaton content → (count : ℕ) → NeedsAtLeast count content → (m r : ℕ) → IsMinimiseMeasure content m r → count ≤ m

-- so these operations are short of nodes only under a limit below their measure
abbrev pub FewestAreWithinMeasure : Type 0
FewestAreWithinMeasure =
    (content : Content Sign) → IsAutomaton content → (limit : ℕ) → NeedsAtLeast limit content → (m r : ℕ) → IsMinimiseMeasure content m r → limit < call_measure m r

-- an automaton of the same signs whose states differ has no more parts to which starts lead
abbrev pub FewestHaveFewParts : Type 0
FewestHaveFewParts =
    (content made : Content Sign) → IsAutomaton content → IsAutomaton made → made.variables ≡ content.variables → HaveEqualSigns content made → HaveDifferentResiduals made
    → (m n : ℕ) → HasReachedParts content m → HasReachedParts made n → n ≤ m
