-- What a source of M2L-Str tells of traces.
use Rattle.std.specs.Prelude.{◌≡◌, ℕ, ◌<◌, ◌↔◌, Some, None}
use Rattle.ms_logic.specs.Assignment.{Universe, Env}
use Rattle.ms_logic.specs.Verdict.{Problem, Assigns, MainYes, MainNo, HasExample, HasCounterexample}
use Rattle.ms_ltlf.specs.Tree.{Temporal}
use Rattle.ms_ltlf.specs.Trace.{FiniteTrace, IsTrace, HoldsAt}

-- the length of a string
abbrev pub length_of : Universe → ℕ
length_of None = 0
length_of (Some size) = size

-- the trace that an assignment is: as long as the string, each proposition at the positions in the set of its number
abbrev pub trace_of : Env → FiniteTrace
trace_of e = record { length = length_of e.universe; positions = e.set }

-- The main value of a source at a trace is Yes where a formula holds at the first position, and No where it does not. On the
-- empty string, which is no trace, it is Undefined.
pub record TellsTruth (f : Temporal) (problem : Problem) : Type 0 where
  pub yes : (e : Env) → Assigns problem e → 0 < (trace_of e).length → MainYes problem e ↔ HoldsAt (trace_of e) f 0
  pub no : (e : Env) → Assigns problem e → 0 < (trace_of e).length → MainNo problem e ↔ (¬ HoldsAt (trace_of e) f 0)
  pub empty : (e : Env) → Assigns problem e → (trace_of e).length ≡ 0 → (¬ MainYes problem e) × (¬ MainNo problem e)

-- The assignments of a source are the traces of this many propositions, and those of the empty string.
pub record IsOverTraces (count : ℕ) (problem : Problem) : Type 0 where
  pub each_assignment : (e : Env) → Assigns problem e → 0 < (trace_of e).length → IsTrace count (trace_of e)
  pub each_trace : (t : FiniteTrace) → IsTrace count t → (e : Env) × Assigns problem e × (trace_of e ≡ t)

-- A source has an example exactly where a formula holds on some trace of this many propositions, and a counterexample exactly
-- where it fails on one.
pub record TellsVerdict (count : ℕ) (f : Temporal) (problem : Problem) : Type 0 where
  pub example : HasExample problem ↔ ((t : FiniteTrace) × IsTrace count t × HoldsAt t f 0)
  pub counterexample : HasCounterexample problem ↔ ((t : FiniteTrace) × IsTrace count t × ¬ HoldsAt t f 0)
