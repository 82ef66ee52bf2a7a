use Rattle.std.proofs.Common.{◌≡◌, ℕ, ◌<◌, slice_get, Some}
use Rattle.ms_dfa.specs.Files.{content_of_file}
use Rattle.ms_cert.specs.inner.Refinement.{AreAlike}
use Rattle.ms_cert.proofs.refinement.difference_among.Given as goal

-- the states so far are like the first one
abbrev pub invariant-loop-state : goal.invariant-loop-state
invariant-loop-state l =
    (place state : ℕ) → place < l.state-index → slice_get l.states place ≡ Some state → AreAlike (content_of_file l.round.file.now.plain.now) l.round.classes.now l.first state
