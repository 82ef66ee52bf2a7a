use Rattle.std.proofs.Common.{refl, sym, ◌∙◌, arith}
use Rattle.std.proofs.lemmas.Option.{slice_get_read}
use Rattle.ms_app.proofs.GoalLemmas.{asked_at, none_is}
use Rattle.ms_app.proofs.found.is_main_asked.Goals as goal

pub returns-then-is_none : goal.returns-then-is_none
returns-then-is_none c =
    let fs = c.args.formulas.now in
    let at = slice_get_read fs _ c.loop-placed.placed-index c.placed-item.result refl c.loop-placed-test.true c.placed-item.is in
    asked_at fs c.loop-placed.placed-index c.placed-item.result at (none_is c.placed-item.result.title (c.if-is_none.ensures))
