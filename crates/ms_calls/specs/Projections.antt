-- Laws of quantifiers by the sets of pairs of references to which starts that do not speak of the bound variable lead.
use Rattle.std.specs.Prelude.{ℕ, ◌<◌, ◌≤◌}
use Rattle.ms_dfa.specs.Automaton.{IsAutomaton}
use Rattle.ms_logic.specs.Assignment.{Variable}
use Rattle.ms_logic.specs.Lists.{IsAmong}
use Rattle.ms_logic.specs.declared.mode.Mode.{Mode}
use Rattle.ms_logic_measures.specs.CallMeasures.{IsProjectMeasure, call_measure, no_restriction}
use Rattle.ms_logic_words.specs.Content.{Content}
use Rattle.ms_logic_words.specs.declared.sign.Sign.{Sign}
use Rattle.ms_project.specs.Always.{always}
use Rattle.ms_project.specs.Paired.{IsDomainFor}
use Rattle.ms_project.specs.Projection.{ReachedNeedsAtLeast, SetsOfAnswerAreAtLeast}

-- an automaton, one of whose variables is bound
pub record IsBody (body : Content Sign) (bound : Variable) : Type 0 where
  pub automaton : IsAutomaton body
  pub among : IsAmong body.variables bound

-- and an automaton over some of its variables, which restricts the bound one
pub record IsRange (body domain : Content Sign) : Type 0 where
  pub automaton : IsAutomaton domain
  pub for_body : IsDomainFor body domain

-- a quantifier is short of nodes only under a limit below its measure
abbrev pub ProjectionsAreWithinMeasure : Type 0
ProjectionsAreWithinMeasure =
    (body domain : Content Sign) (bound : Variable) → IsBody body bound → IsRange body domain → (limit : ℕ) → ReachedNeedsAtLeast limit body domain bound.name
    → (m r : ℕ) → IsProjectMeasure body domain bound m r → limit < call_measure m r

-- and without a restriction
abbrev pub UnrestrictedAreWithinMeasure : Type 0
UnrestrictedAreWithinMeasure =
    (body : Content Sign) (bound : Variable) (mode : Mode) → IsBody body bound → (limit : ℕ) → ReachedNeedsAtLeast limit body (always body.mode) bound.name
    → (m r : ℕ) → IsProjectMeasure body (no_restriction mode) bound m r → limit < call_measure m r

-- it makes no more states and nodes than the number m of its measure
abbrev pub ProjectionsNeedFewSets : Type 0
ProjectionsNeedFewSets =
    (body domain : Content Sign) (bound : Variable) → IsBody body bound → IsRange body domain → (count : ℕ) → SetsOfAnswerAreAtLeast count body domain bound.name
    → (m r : ℕ) → IsProjectMeasure body domain bound m r → count ≤ m

abbrev pub UnrestrictedNeedFewSets : Type 0
UnrestrictedNeedFewSets =
    (body : Content Sign) (bound : Variable) (mode : Mode) → IsBody body bound → (count : ℕ) → SetsOfAnswerAreAtLeast count body (always body.mode) bound.name
    → (m r : ℕ) → IsProjectMeasure body (no_restriction mode) bound m r → count ≤ m
