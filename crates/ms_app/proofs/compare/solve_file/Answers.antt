use Rattle.std.proofs.Common.{[], length}
use Rattle.ms_edge.specs.Files.{between}
use Rattle.ms_app.specs.Source.{file_of}
use Rattle.ms_app.proofs.Adopted.{are_lent}
use Rattle.ms_app.proofs.Decisions.{answers, are, solved_of, unsolved_of}
use Rattle.ms_app.proofs.compare.solve_file.Goals as goal

pub solve-requires-clause-imports : goal.solve-requires-clause-imports
solve-requires-clause-imports g c =
    let made = c.in-Ok.ensures.taken in
    let checked = c.in-Ok.taken.source.checked in
    are_lent c.args.limit checked.mode checked.imports made.1 c.in-Ok.taken.imports made.3

pub returns-in-Ok-solve-clause-solved : goal.returns-in-Ok-solve-clause-solved
returns-in-Ok-solve-clause-solved g c =
    let origin = file_of (between (g.F.Files.told c.args.files.now) (g.F.Files.told c.take_file.new.files)) (length c.args.names.now) c.args.name.now in
    let made = c.in-Ok.ensures.taken in
    let taken = c.in-Ok.taken in
    let checked = taken.source.checked in
    let solved = c.in-Ok-solve.ensures in (
      made.0,
      made.1,
      solved_of checked c.args.limit made.1 taken.imports made.3 origin [] made.0 made.2 solved.within,
      solved.solution (answers checked c.args.limit made.1 taken.imports made.3) (are checked c.args.limit made.1 taken.imports made.3),
      made.5,
      made.6,
    )

pub returns-in-Err-solve-clause-refused : goal.returns-in-Err-solve-clause-refused
returns-in-Err-solve-clause-refused g c =
    let origin = file_of (between (g.F.Files.told c.args.files.now) (g.F.Files.told c.take_file.new.files)) (length c.args.names.now) c.args.name.now in
    let made = c.in-Ok.ensures.taken in
    let taken = c.in-Ok.taken in
    unsolved_of taken.source.checked c.args.limit made.1 taken.imports made.3 origin [] made.0 made.2 c.in-Ok.ensures.right c.in-Err-solve.refusal c.args.names.now c.take_file.new.names made.6 c.in-Err-solve.ensures.refused
