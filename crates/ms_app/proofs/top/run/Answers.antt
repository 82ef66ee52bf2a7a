use Rattle.std.proofs.Common.{refl, subst}
use Rattle.ms_edge.specs.Files.{between}
use Rattle.ms_app_words.proofs.OneCommand.{one_command}
use Rattle.ms_app.specs.Answer.{IsGeneration}
use Rattle.ms_app.specs.Answer as answers
use Rattle.ms_app.proofs.Commands.{limited}
use Rattle.ms_app.proofs.Complete.{complete, favoured}
use Rattle.ms_app.proofs.top.run.Goals as goal

pub answer-requires : goal.answer-requires
answer-requires g c = limited c.args.words.now c.in-Ok.command c.in-Ok.ensures.command

pub returns-in-Ok-clause-answered : goal.returns-in-Ok-clause-answered
returns-in-Ok-clause-answered g c = answers.asked c.in-Ok.command c.in-Ok.ensures.command c.answer.ensures.answered

pub returns-in-Ok-clause-complete : goal.returns-in-Ok-clause-complete
returns-in-Ok-clause-complete g c =
    complete c.args.words.now (g.S.Sink.told c.args.out.now) (g.S.Sink.told c.answer.new.out) (between (g.F.Files.told c.args.files.now) (g.F.Files.told c.answer.new.files)) c.answer.result
    (answers.asked c.in-Ok.command c.in-Ok.ensures.command c.answer.ensures.answered)

pub returns-in-Err-Usage-clause-answered : goal.returns-in-Err-Usage-clause-answered
returns-in-Err-Usage-clause-answered g c = answers.no_command (c.in-Err-Usage.ensures.usage c.in-Err-Usage.field-0-is) refl c.print.ensures

pub returns-in-Err-Usage-clause-complete : goal.returns-in-Err-Usage-clause-complete
returns-in-Err-Usage-clause-complete g c =
    complete c.args.words.now (g.S.Sink.told c.args.out.now) (g.S.Sink.told c.print.new.out) (between (g.F.Files.told c.args.files.now) (g.F.Files.told c.args.files.now)) c.print.result
    (answers.no_command (c.in-Err-Usage.ensures.usage c.in-Err-Usage.field-0-is) refl c.print.ensures)

pub returns-in-Err-NoMemory-clause-complete : goal.returns-in-Err-NoMemory-clause-complete
returns-in-Err-NoMemory-clause-complete g c =
    complete c.args.words.now (g.S.Sink.told c.args.out.now) (g.S.Sink.told c.out_of_memory.new.out) (between (g.F.Files.told c.args.files.now) (g.F.Files.told c.args.files.now)) c.out_of_memory.result
    (answers.no_words refl c.out_of_memory.ensures)

pub returns-in-Ok-clause-generated : goal.returns-in-Ok-clause-generated
returns-in-Ok-clause-generated g c command is generation =
    c.answer.ensures.generated (subst IsGeneration (one_command c.args.words.now command c.in-Ok.command is c.in-Ok.ensures.command) generation)

pub returns-in-Ok-clause-favoured : goal.returns-in-Ok-clause-favoured
returns-in-Ok-clause-favoured g c =
    favoured c.args.words.now (g.S.Sink.told c.args.out.now) (g.S.Sink.told c.answer.new.out) (between (g.F.Files.told c.args.files.now) (g.F.Files.told c.answer.new.files)) c.answer.result
    (answers.asked c.in-Ok.command c.in-Ok.ensures.command c.answer.ensures.answered)

pub returns-in-Err-Usage-clause-favoured : goal.returns-in-Err-Usage-clause-favoured
returns-in-Err-Usage-clause-favoured g c =
    favoured c.args.words.now (g.S.Sink.told c.args.out.now) (g.S.Sink.told c.print.new.out) (between (g.F.Files.told c.args.files.now) (g.F.Files.told c.args.files.now)) c.print.result
    (answers.no_command (c.in-Err-Usage.ensures.usage c.in-Err-Usage.field-0-is) refl c.print.ensures)

pub returns-in-Err-NoMemory-clause-favoured : goal.returns-in-Err-NoMemory-clause-favoured
returns-in-Err-NoMemory-clause-favoured g c =
    favoured c.args.words.now (g.S.Sink.told c.args.out.now) (g.S.Sink.told c.out_of_memory.new.out) (between (g.F.Files.told c.args.files.now) (g.F.Files.told c.args.files.now)) c.out_of_memory.result
    (answers.no_words refl c.out_of_memory.ensures)
