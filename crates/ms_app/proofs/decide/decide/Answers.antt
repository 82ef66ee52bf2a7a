use Rattle.std.proofs.Common.{Option, sym, subst}
use Rattle.ms_report.specs.declared.found.Stats.{Stats}
use Rattle.ms_app.specs.Counts.{HasStats}
use Rattle.ms_app.proofs.Decisions.{as_many, goals_as_many, names_good, writable}
use Rattle.ms_app.proofs.decide.decide.Goals as goal

pub made_of-requires-clause-names : goal.made_of-requires-clause-names
made_of-requires-clause-names c =
    let taken = c.args.taken.now in names_good taken.source.checked c.requires.right taken.imports c.requires.imports c.in-Ok.solution c.in-Ok.ensures.solution

pub made_of-requires-clause-long : goal.made_of-requires-clause-long
made_of-requires-clause-long c =
    let taken = c.args.taken.now in as_many taken.source.checked c.requires.right taken.imports c.requires.imports c.in-Ok.solution c.args.options.format c.in-Ok.ensures.exports

pub made_of-requires-clause-writable : goal.made_of-requires-clause-writable
made_of-requires-clause-writable c =
    let taken = c.args.taken.now in writable taken.source.checked c.requires.right taken.imports c.requires.imports c.in-Ok.solution c.args.options.format c.in-Ok.ensures.exports c.in-Ok.ensures.spellable

pub found-requires : goal.found-requires
found-requires c =
    let taken = c.args.taken.now in goals_as_many taken.source.checked c.requires.right taken.imports c.requires.imports c.in-Ok.solution c.in-Ok.ensures.solution

pub returns-in-Ok-found-clause-found : goal.returns-in-Ok-found-clause-found
returns-in-Ok-found-clause-found c = λ answers are.
    let source = c.args.taken.now.source in
    let is = c.in-Ok.ensures.solution answers are in
    let made = c.in-Ok-made_of.ensures in
    let P : Option Stats → Type 0 = HasStats c.args.options.stats source.checked answers source.files in (
      c.in-Ok-found.ensures.found answers is,
      subst P (sym c.in-Ok-found.ensures.stats) (made.stats answers is),
      made.files answers is (c.in-Ok.ensures.exports answers are),
    )
