use Rattle.std.proofs.Common.{take}
use Rattle.ms_dfa.specs.Automaton.{variables_of}
use Rattle.ms_build.specs.inner.Lacked.{IsLacked}
use Rattle.ms_build.proofs.LackedLemmas.{AreBelowLater}
use Rattle.ms_build.proofs.lacked.lacked_tracks.Given as goal

-- what is lacked of the wanted tracks so far; and the own ones that were passed are below all that are left
abbrev pub invariant-loop-track : goal.invariant-loop-track
invariant-loop-track l =
    IsLacked (variables_of l.own) (take l.track-index (variables_of l.wanted)) l.lacked × AreBelowLater (variables_of l.own) (variables_of l.wanted) l.place l.track-index
