use Rattle.std.proofs.Common.{◌≡◌, ℕ, ◌<◌, Some, slice_get}
use Rattle.ms_dfa.specs.Files.{content_of_file}
use Rattle.ms_cert.specs.Certificate.{IsLineOver}
use Rattle.ms_cert.specs.declared.cert.TreeLine.{TreeLine}
use Rattle.ms_cert.proofs.words.are_lines_over.Given as goal

-- the lines so far
abbrev pub invariant-loop-line : goal.invariant-loop-line
invariant-loop-line l = (place : ℕ) (line : TreeLine) → place < l.line-index → slice_get l.lines place ≡ Some line → IsLineOver (content_of_file l.plain).variables line
