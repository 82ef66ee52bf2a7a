-- A sink in memory, and what one call of it does.
use Rattle.std.specs.Prelude.{◌≡◌, ℕ, ◌-◌, List, length, ◌++◌, take, min, Some, ◌⊎◌, Contains}
use Rattle.ms_edge.specs.Counts.{counted}
use Rattle.ms_edge.specs.Sink.{SinkTold}

-- what the sink has taken, the most that it takes in one call and at all, the numbers of the calls that fail,
-- the number of the next call, and how often it has failed
pub record SinkInMemory : Type 0 where
  pub taken : List ℕ
  pub piece : ℕ
  pub room : ℕ
  pub failing : List ℕ
  pub calls : ℕ
  pub faults : ℕ

-- what a sink in memory tells, which is all
abbrev pub told_of : SinkInMemory → SinkTold
told_of sink = record { taken = Some sink.taken; faults = sink.faults }

-- the next call fails: its number is listed, or no room is left
abbrev pub Fails : SinkInMemory → Type 0
Fails sink = Contains sink.failing sink.calls ⊎ (length sink.taken ≡ sink.room)

-- how many of the bytes a call takes: all, but no more than a piece and the room that is left
abbrev pub part_taken : SinkInMemory → List ℕ → ℕ
part_taken sink bytes = min (length bytes) (min sink.piece (sink.room - length sink.taken))

-- after a call that took this many of the bytes
abbrev pub after_taking : SinkInMemory → ℕ → List ℕ → SinkInMemory
after_taking sink count bytes = record sink { taken = sink.taken ++ take count bytes; calls = counted sink.calls }

-- after a call that failed
abbrev pub after_failing : SinkInMemory → SinkInMemory
after_failing sink = record sink { calls = counted sink.calls; faults = counted sink.faults }
