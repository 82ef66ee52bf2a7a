use Rattle.std.proofs.Common.{rules, ◌≡◌, string_bytes, sym, subst}
use Rattle.indexmap.specs.IndexMap.{get_by_text}
use Rattle.ms_dfafile_imports.specs.Imports.{IsHeld}
use Rattle.ms_dfafile_imports.proofs.Noted.{held-noted}
use Rattle.ms_dfafile_imports.proofs.contents.know.Goals as goal

pub returns-in-Ok-open-clause-held : goal.returns-in-Ok-open-clause-held
returns-in-Ok-open-clause-held g c =
    let held = (g.F.Files.told c.args.files.now).held in
    let plain = c.in-Ok-open.plain in
    let named : string_bytes c.in-Ok.name ≡ c.args.used.now.name = search rules in
    held-noted held (λ n. get_by_text c.args.contents.now n) (λ n. get_by_text c.note.new.contents n) (string_bytes c.in-Ok.name) plain c.note.result c.requires
    (subst (λ name. IsHeld held name plain) (sym named) c.in-Ok-open.ensures.held) c.note.ensures.noted
