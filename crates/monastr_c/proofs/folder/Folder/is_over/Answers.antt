use Rattle.std.proofs.lemmas.Bool.Decides.{Decides-eqb}
use Rattle.std.proofs.lemmas.Slice.Eq.{slice_eq-Decides}
use Rattle.monastr_c.proofs.SameLengths.{lengths-Decides}
use Rattle.monastr_c.proofs.folder.Folder.is_over.Goals as goal

pub returns-then-eq : goal.returns-then-eq
returns-then-eq c =
    let files = slice_eq-Decides Decides-eqb _ _ _ c.eq.ensures in
    let lengths = slice_eq-Decides lengths-Decides _ _ _ c.eq-then-eq.ensures in
    (λ same. (files.0 c.if-eq.true, lengths.0 same), λ same. lengths.1 same.1)
