use Rattle.std.proofs.Common.{[], sym, ap, length, List}
use Rattle.ms_logic.specs.declared.checked.ImportUse.{ImportUse}
use Rattle.ms_logic.specs.View.{main_question}
use Rattle.ms_app_solved.proofs.Alone.{nothing-answered, nothing-lent, refused-for}
use Rattle.ms_app_solved.proofs.solved.solved_answer.Goals as goal

pub solve-requires-clause-imports : goal.solve-requires-clause-imports
solve-requires-clause-imports c = nothing-lent c.args.source.now c.requires.alone c.new.result c.new.ensures

pub returns-in-Ok-answer-clause-answer : goal.returns-in-Ok-answer-clause-answer
returns-in-Ok-answer-clause-answer c =
    let source = c.args.source.now in
    let solved = c.in-Ok.ensures.solution [] (nothing-answered source c.requires.alone c.new.result c.new.ensures) in
    c.in-Ok-answer.ensures (main_question source []) solved.value

pub returns-in-Ok-answer-clause-within : goal.returns-in-Ok-answer-clause-within
returns-in-Ok-answer-clause-within c = c.in-Ok.ensures.within []

pub returns-in-Err-clause-refused : goal.returns-in-Err-clause-refused
returns-in-Err-clause-refused c =
    let none = ap (λ (uses : List ImportUse). length uses) c.requires.alone in
    refused-for c.args.source.now c.requires.alone c.requires.numbered c.args.limit c.in-Err.refusal c.new.result c.new.ensures (c.in-Err.ensures.refused [] (sym none))
