use Rattle.std.proofs.Common.{◌-◌}
use Rattle.ms_dfa.specs.Files.{content_of_file}
use Rattle.ms_cert.specs.inner.Levels.{HasBegun, reached_of}
use Rattle.ms_cert.proofs.levels.shortest_words.Given as goal

-- the states so far
abbrev pub invariant-loop-done : goal.invariant-loop-done
invariant-loop-done l = HasBegun (content_of_file l.plain) (reached_of l.found) l.done

-- an order is no longer than a number of the machine
abbrev pub decreases-loop-done : goal.decreases-loop-done
decreases-loop-done l = 18446744073709551616 - l.done
