use Rattle.std.proofs.Common.{take}
use Rattle.ms_app.specs.inner.Files.{AreSpelled, pairs_of}
use Rattle.ms_app.proofs.files.export_files.Given as goal

-- the files so far are those of the first exports
abbrev pub invariant-loop-place : goal.invariant-loop-place
invariant-loop-place l = AreSpelled (take l.place l.exports) (take l.place l.contents) (pairs_of l.files)
