use Rattle.std.specs.Prelude.{◌≡◌}
use Rattle.ms_edge.specs.Files.{NoCountFell}
use Rattle.ms_app.specs.inner.Files.{pairs_of}
use Rattle.ms_app.proofs.Written.{AreWritten}
use Rattle.ms_app.proofs.write.write_each.Given as goal

-- the files so far are written, no count fell, and nothing was done before the first
abbrev pub invariant-loop-place : goal.invariant-loop-place
invariant-loop-place g l = AreWritten l.place (g.F.Files.told l.initial.files).held (g.F.Files.told l.files).held (pairs_of l.written) × NoCountFell (g.F.Files.told l.initial.files) (g.F.Files.told l.files) × (l.place ≡ 0 → g.F.Files.told l.files ≡ g.F.Files.told l.initial.files)
