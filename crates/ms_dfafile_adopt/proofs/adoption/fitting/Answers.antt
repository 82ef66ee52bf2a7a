use Rattle.std.proofs.Common.{rules, subst}
use Rattle.ms_dfafile_adopt.specs.Naming.{IsNaming}
use Rattle.ms_dfafile_adopt.proofs.MapLemmas.{HasVariables-by}
use Rattle.ms_dfafile_adopt.proofs.adoption.fitting.Goals as goal

pub returns-in-Ok-Some-clause-fits : goal.returns-in-Ok-Some-clause-fits
returns-in-Ok-Some-clause-fits c = (
  search rules,
  HasVariables-by c.args.plain.now c.args.used.now.pairs c.in-Ok-Some.places c.requires
      (subst (λ pairs. IsNaming c.args.plain.now pairs c.in-Ok-Some.places) c.slice.ensures (rw c.in-Ok-Some.field-0-is at c.in-Ok-Some.ensures.some)),
)
