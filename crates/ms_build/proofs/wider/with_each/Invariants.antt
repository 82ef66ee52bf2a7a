use Rattle.std.proofs.Common.{◌≡◌, ◌⊎◌, take}
use Rattle.ms_dfa.specs.Automaton.{variables_of}
use Rattle.ms_build.specs.Built.{IsWithin}
use Rattle.ms_logic_words.specs.Residual.{IsLeast}
use Rattle.ms_build.specs.Wider.{IsWider}
use Rattle.ms_build.proofs.wider.with_each.Given as goal

-- the automaton over the tracks so far, as it was or with fewest states, within the limit
abbrev pub invariant-loop-track : goal.invariant-loop-track
invariant-loop-track l =
    IsWider l.fn.part (take l.track-index (variables_of l.tracks)) l.made × ((l.made ≡ l.fn.part) ⊎ IsLeast l.made) × IsWithin l.plan.limit l.made
