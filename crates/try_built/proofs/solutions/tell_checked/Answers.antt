use Rattle.std.proofs.Common.{[], sym, subst}
use Rattle.ms_build_source.specs.Imported.{AreLentFor}
use Rattle.try_built.proofs.solutions.tell_checked.Goals as goal

pub solve-answer-requires-clause-exports : goal.solve-answer-requires-clause-exports
solve-answer-requires-clause-exports c = c.requires.rules.exports

pub solve-answer-requires-clause-imports : goal.solve-answer-requires-clause-imports
solve-answer-requires-clause-imports c =
    let mode = c.args.checked.now.mode in
    subst (λ uses. AreLentFor mode uses c.new-imports.result) (sym c.requires.none) (subst (AreLentFor mode []) (sym c.new-imports.ensures) tt)
