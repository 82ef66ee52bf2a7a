use Rattle.std.proofs.Common.{refl}
use Rattle.std.proofs.lemmas.Bool.{false≢true}
use Rattle.ms_parse_print.proofs.Prefixes.{entries_step, entries_stop}
use Rattle.ms_parse_print.proofs.said.can_say_all.Goals as goal

pub returns-then-not-can_be_said : goal.returns-then-not-can_be_said
returns-then-not-can_be_said g c = (
  λ never. absurd (false≢true never),
  λ all. c.if-not-can_be_said.ensures.1 (entries_stop g.T.Entry.symbols c.args.entries.now c.loop-entry.entry-index c.entry-item.result c.loop-entry-test.true c.entry-item.is all),
)

pub loop-entry-preserved : goal.loop-entry-preserved
loop-entry-preserved g c =
    entries_step g.T.Entry.symbols c.args.entries.now c.loop-entry.entry-index c.entry-item.result c.loop-entry-test.true c.entry-item.is c.loop-entry.invariant (c.if-not-can_be_said.ensures.0 refl)
