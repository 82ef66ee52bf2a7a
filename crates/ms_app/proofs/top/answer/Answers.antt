use Rattle.std.proofs.Common.{⊎_elim, ◌∙◌}
use Rattle.ms_edge.specs.Files.{between}
use Rattle.ms_edge.specs.declared.refusal.Refusal.TheVariants.{Memory}
use Rattle.ms_app.specs.Answer as answers
use Rattle.ms_app.specs.inner.Files.{pairs_of}
use Rattle.ms_app.proofs.Commands.{memory_refuses}
use Rattle.ms_app.proofs.Told.{command-told}
use Rattle.ms_app.proofs.top.answer.Goals as goal

pub refuse-requires-clause-has_line : goal.refuse-requires-clause-has_line
refuse-requires-clause-has_line g c =
    (command-told c.args.command.now (between (g.F.Files.told c.args.files.now) (g.F.Files.told c.given.new.files)) c.in-Err.refusal c.given.new.names c.in-Err.ensures.refused).0

pub refuse-requires-clause-is_placed : goal.refuse-requires-clause-is_placed
refuse-requires-clause-is_placed g c =
    (command-told c.args.command.now (between (g.F.Files.told c.args.files.now) (g.F.Files.told c.given.new.files)) c.in-Err.refusal c.given.new.names c.in-Err.ensures.refused).1

pub returns-clause-answered : goal.returns-clause-answered
returns-clause-answered g c =
    let seen = between (g.F.Files.told c.args.files.now) (g.F.Files.told c.given.new.files) in
    let command = c.args.command.now in
    ⊎_elim (λ whole. answers.refused c.in-Err.ensures.only_read c.in-Err.refusal c.given.new.names c.in-Err.ensures.refused whole)
    (λ short. answers.refused c.in-Err.ensures.only_read Memory c.given.new.names (memory_refuses command seen c.given.new.names) short)
    c.refuse.ensures.printed

pub returns-in-Ok-clause-answered : goal.returns-in-Ok-clause-answered
returns-in-Ok-clause-answered g c =
    let middle = g.F.Files.told c.given.new.files in
    let given = c.in-Ok.given in
    let made = c.in-Ok.ensures in
    ⊎_elim
    (λ all. answers.done given.text (record { middle = middle; reads = made.only_read; written = pairs_of given.files; is_given = made.given; held = all.0 }) all.1)
    (λ some.
    answers.unwritten some.1
    (record { middle = middle; reads = made.only_read; text = given.text; written = pairs_of given.files; is_given = made.given; count = some.0; held = some.2; next = some.3; rose = some.4 })
    some.5)
    c.deliver.ensures.delivered

pub returns-in-Ok-clause-generated : goal.returns-in-Ok-clause-generated
returns-in-Ok-clause-generated g c generation = c.deliver.ensures.untouched (c.in-Ok.ensures.no_files generation) ∙ c.in-Ok.ensures.generated generation
