-- Laws of how many states and nodes the projection of a quantifier needs.
use Rattle.std.specs.Prelude.{◌≡◌, ℕ, ◌+◌, ◌*◌, ◌<◌, ◌≤◌, slice_get, Some}
use Rattle.ms_build_parts.specs.Laws.{IsMeasuredBy}
use Rattle.ms_dfa_explore.specs.Tracks.{place_of}
use Rattle.ms_logic.specs.Assignment.{Variable}
use Rattle.ms_logic.specs.Lists.{AreRising, IsAmong, without}
use Rattle.ms_logic.specs.declared.mode.Mode.{Mode}
use Rattle.ms_logic_measures.specs.Budgets.{budget}
use Rattle.ms_logic_measures.specs.CallMeasures.{IsNumberOf, IsProjectMeasure, LeadToSameSet, no_restriction}
use Rattle.ms_logic_measures.specs.FullContent.{part_count}
use Rattle.ms_logic_measures.specs.Starts.{IsStartOver}
use Rattle.ms_logic_words.specs.Content.{Content}
use Rattle.ms_logic_words.specs.declared.sign.Sign.{Sign}
use Rattle.ms_project.specs.Always.{always}
use Rattle.ms_project.specs.Projection.{NeedsAtLeast}

-- the variables of a body rise, and one of them is bound; at its place in the canonical content that says the same stands x
pub record IsBoundAs (body canonical : Content Sign) (bound x : Variable) : Type 0 where
  pub rising : AreRising body.variables
  pub among : IsAmong body.variables bound
  pub stands : slice_get canonical.variables (place_of bound.name body.variables) ≡ Some x

-- a domain is over some variables of the body, and the content that says the same as the domain is over the corresponding ones
pub record IsOverSome (body domain canonical restriction : Content Sign) : Type 0 where
  pub rising : AreRising domain.variables
  pub among : (v : Variable) → IsAmong domain.variables v → IsAmong body.variables v
  pub stands :
      (place : ℕ) (v w : Variable) → slice_get domain.variables place ≡ Some v → slice_get restriction.variables place ≡ Some w
      → slice_get canonical.variables (place_of v.name body.variables) ≡ Some w

-- where body and domain have fewest states, and canonical contents say the same, whatever their variables are called, what a projection
-- needs is at most twice the pairs of parts of these contents and twice the sets of pairs to which starts lead them over all values of
-- the bound variable
abbrev pub ProjectionsNeedFewSets : Type 0
ProjectionsNeedFewSets =
    (body domain canonical restriction : Content Sign) (bound x : Variable) → IsBoundAs body canonical bound x → IsOverSome body domain canonical restriction
    → IsMeasuredBy body canonical → IsMeasuredBy domain restriction
    → (count : ℕ) → NeedsAtLeast count body domain bound.name
    → (m : ℕ) → IsNumberOf (LeadToSameSet canonical restriction x) (IsStartOver (without x.name canonical.variables)) m
    → count ≤ 2 * (part_count canonical * part_count restriction) + 2 * m

-- so it is short of nodes only under a limit below the budget of each measure of these contents
abbrev pub ProjectionsAreWithinBudget : Type 0
ProjectionsAreWithinBudget =
    (body domain canonical restriction : Content Sign) (bound x : Variable) → IsBoundAs body canonical bound x → IsOverSome body domain canonical restriction
    → IsMeasuredBy body canonical → IsMeasuredBy domain restriction
    → (limit : ℕ) → NeedsAtLeast limit body domain bound.name
    → (m r : ℕ) → IsProjectMeasure canonical restriction x m r → limit < budget m r

-- and so it is without a domain
abbrev pub UnrestrictedAreWithinBudget : Type 0
UnrestrictedAreWithinBudget =
    (body canonical : Content Sign) (mode : Mode) (bound x : Variable) → IsBoundAs body canonical bound x → IsMeasuredBy body canonical
    → (limit : ℕ) → NeedsAtLeast limit body (always body.mode) bound.name
    → (m r : ℕ) → IsProjectMeasure canonical (no_restriction mode) x m r → limit < budget m r
