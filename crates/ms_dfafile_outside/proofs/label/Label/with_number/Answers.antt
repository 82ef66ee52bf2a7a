use Rattle.std.proofs.Common.{◌+◌, sym, subst}
use Rattle.ms_dfafile_outside.specs.declared.label.Label.{Label}
use Rattle.ms_dfafile_outside.specs.declared.label.Label.TheVariants.{Lost, Seen}
use Rattle.ms_dfafile_outside.specs.inner.Labels.{IsLabelWith}
use Rattle.ms_dfafile_outside.proofs.LabelLemmas.{with-lost, with-number-once, with-number-twice}
use Rattle.ms_dfafile_outside.proofs.label.Label.with_number.Goals as goal

pub returns-in-Lost : goal.returns-in-Lost
returns-in-Lost c orders place number is = subst (λ (l : Label). IsLabelWith orders place l Lost) (sym c.in-Lost.is) (with-lost orders place)

pub returns-then-set-own-eq1 : goal.returns-then-set-own-eq1
returns-then-set-own-eq1 c orders place number is =
    subst (λ (l : Label). IsLabelWith orders place l Lost) (sym c.in-Seen.is) (with-number-twice orders place c.in-Seen.set (c.args.before + 1) number is c.if-set-own-eq1.true)

pub returns-else-set-own-eq1 : goal.returns-else-set-own-eq1
returns-else-set-own-eq1 c orders place number is =
    subst (λ (l : Label). IsLabelWith orders place l (Seen (c.in-Seen.set + (c.args.before + 1)))) (sym c.in-Seen.is)
    (with-number-once orders place c.in-Seen.set (c.args.before + 1) number is c.if-set-own-eq1.false)
