use Rattle.ms_dfa.specs.Files.{content_of_file}
use Rattle.ms_cert.proofs.ShortestLemmas.{IsBest}
use Rattle.ms_cert.proofs.shortest.shortest.Given as goal

-- the least number of letters so far
abbrev pub invariant-loop-place : goal.invariant-loop-place
invariant-loop-place l = IsBest (content_of_file l.plain) l.words l.sign l.place l.best
