use Rattle.std.proofs.Common.{◌≡◌, take}
use Rattle.indexmap.specs.IndexMap.{get_by_text}
use Rattle.ms_edge.specs.Files.{OnlyRead}
use Rattle.ms_dfafile_imports.specs.inner.Taken.{AreHeld, AreTaken}
use Rattle.ms_dfafile_imports.proofs.source.imports.Given as goal

-- the imports so far are taken, by the contents that are noted
abbrev pub invariant-loop-used : goal.invariant-loop-used
invariant-loop-used g l =
    (l.taking.mode ≡ l.checked.mode) × (l.taking.limit ≡ l.limit) × OnlyRead (g.F.Files.told l.fn.files) (g.F.Files.told l.files)
    × AreHeld (g.F.Files.told l.fn.files).held (λ n. get_by_text l.taking.contents n)
    × AreTaken l.limit l.checked.mode (λ n. get_by_text l.taking.contents n) (take l.used-index l.used-items) l.taking.automata
