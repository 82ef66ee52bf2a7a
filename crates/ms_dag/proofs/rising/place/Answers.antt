use Rattle.std.proofs.Common.{Some, Ok, Err, ap, ◌∙◌, arith}
use Rattle.std.proofs.lemmas.List.Sorted.{searched}
use Rattle.std.proofs.lemmas.Option.{slice_get-get_or}
use Rattle.ms_dag.proofs.RisingLemmas.{rising_at_least, rising_not_down, not_between}
use Rattle.ms_dag.proofs.rising.place.Goals as goal

pub overflow_cast-result : goal.overflow_cast-result
overflow_cast-result c =
    let at_least = rising_at_least c.args.among.now c.in-Ok.i c.requires.rising c.in-Ok.ensures.bound in
    let fits = c.type_inv.among c.in-Ok.i in
    omega (arith, at_least, fits)

pub returns-in-Ok : goal.returns-in-Ok
returns-in-Ok c =
    let found = searched c.args.among.now c.args.name (Ok c.in-Ok.i) c.in-Ok.ensures.position (rising_not_down c.args.among.now c.requires.rising) in
    slice_get-get_or c.args.among.now c.in-Ok.i 0 found.0 ∙ ap Some found.1

pub returns-in-Err : goal.returns-in-Err
returns-in-Err c =
    let missing = searched c.args.among.now c.args.name (Err c.in-Err.field-0) c.in-Err.ensures.position (rising_not_down c.args.among.now c.requires.rising) in
    absurd (not_between c.args.among.now c.args.name c.in-Err.field-0 missing.1 missing.2 c.requires.there)
