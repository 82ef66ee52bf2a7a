use Rattle.std.proofs.Common.{Some, sym, ap, ◌∙◌, arith}
use Rattle.std.proofs.lemmas.Option.{same_Some}
use Rattle.ms_dfa.specs.Files.{content_of_file}
use Rattle.ms_logic.specs.declared.mode.Order.{Order}
use Rattle.ms_logic.specs.declared.mode.Order.TheVariants.{One}
use Rattle.ms_dfafile_outside.specs.inner.Labels.{orders_in}
use Rattle.ms_dfafile_outside.proofs.FileLemmas.{length-orders, order-at}
use Rattle.ms_dfafile_outside.proofs.LabelLemmas.{with-other}
use Rattle.ms_dfafile_outside.proofs.SetsLemmas.{set-at, set-small}
use Rattle.ms_dfafile_outside.proofs.settling.with_variable.Goals as goal

pub bounds-sets-var : goal.bounds-sets-var
bounds-sets-var c = omega (arith, c.requires.sets.long, length-orders c.args.plain.now)

pub with_number-requires-clause-few : goal.with_number-requires-clause-few
with_number-requires-clause-few c =
    set-small (orders_in (content_of_file c.args.plain.now)) c.args.sets.now c.args.var c.requires.sets (omega (arith, length-orders c.args.plain.now))

pub returns-in-One : goal.returns-in-One
returns-in-One c =
    let orders = orders_in (content_of_file c.args.plain.now) in
    c.with_number.ensures orders c.args.var (order-at c.args.plain.now c.args.var c.get.result.now c.get.ensures ∙ ap (λ (o : Order). Some o) c.in-One.is)
    (set-at orders c.args.sets.now c.args.var c.requires.sets (omega (arith, length-orders c.args.plain.now)))

pub returns-in_default : goal.returns-in_default
returns-in_default c =
    with-other (orders_in (content_of_file c.args.plain.now)) c.args.var c.args.label
    (λ number. c.in_default.not-One (same_Some c.get.result.now.order One (sym (order-at c.args.plain.now c.args.var c.get.result.now c.get.ensures) ∙ number)))
