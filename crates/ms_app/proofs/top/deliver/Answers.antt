use Rattle.std.proofs.Common.{◌≡◌, [], inr, subst, sym, List}
use Rattle.ms_app.specs.inner.Files.{pairs_of}
use Rattle.ms_app.specs.Written.{AreHeldUpTo}
use Rattle.ms_app.specs.declared.files.AutomatonFile.{AutomatonFile}
use Rattle.ms_app.proofs.Written.{name_of_pair}
use Rattle.ms_app.proofs.top.deliver.Goals as goal

pub returns-in-Err-clause-delivered : goal.returns-in-Err-clause-delivered
returns-in-Err-clause-delivered g c =
    let files = c.args.given.now.files in
    let place = c.in-Err.place in
    let held = subst (λ (list : List AutomatonFile). AreHeldUpTo place (g.F.Files.told c.args.files.now).held (g.F.Files.told c.write_each.new.files).held (pairs_of list)) c.slice.ensures c.in-Err.ensures.stopped in
    inr (place, c.get.result.now.name, held, name_of_pair files place c.get.result.now c.get.ensures, c.in-Err.ensures.cause, c.print_unwritten.ensures.printed)

pub returns-in-Err-clause-untouched : goal.returns-in-Err-clause-untouched
returns-in-Err-clause-untouched g c none = c.in-Err.ensures.untouched (subst (λ (list : List AutomatonFile). pairs_of list ≡ []) (sym c.slice.ensures) none)
