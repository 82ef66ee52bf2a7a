use Rattle.std.proofs.Common.{length, Some, sym, ap, ◌∙◌}
use Rattle.ms_dfa.specs.Files.{content_of_file}
use Rattle.ms_logic.specs.declared.mode.Order.{Order}
use Rattle.ms_dfafile_outside.specs.inner.Labels.{level_by}
use Rattle.ms_dfafile_outside.proofs.FileLemmas.{length-variables, order-at}
use Rattle.ms_dfafile_outside.proofs.settling.level_behind.Goals as goal

pub returns-in-Zero : goal.returns-in-Zero
returns-in-Zero c =
    c.len.ensures ∙ sym (length-variables c.args.plain.now)
    ∙ sym (ap (level_by (length (content_of_file c.args.plain.now).variables) c.args.var)
    (order-at c.args.plain.now c.args.var c.get.result.now c.get.ensures ∙ ap (λ (o : Order). Some o) c.in-Zero.is))

pub returns-in-One : goal.returns-in-One
returns-in-One c =
    sym (ap (level_by (length (content_of_file c.args.plain.now).variables) c.args.var)
    (order-at c.args.plain.now c.args.var c.get.result.now c.get.ensures ∙ ap (λ (o : Order). Some o) c.in-One.is))

pub returns-in-Two : goal.returns-in-Two
returns-in-Two c =
    sym (ap (level_by (length (content_of_file c.args.plain.now).variables) c.args.var)
    (order-at c.args.plain.now c.args.var c.get.result.now c.get.ensures ∙ ap (λ (o : Order). Some o) c.in-Two.is))
