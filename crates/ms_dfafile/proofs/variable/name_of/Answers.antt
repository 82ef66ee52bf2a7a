use Rattle.std.proofs.Common.{IsUtf8, sym, subst}
use Rattle.ms_dfafile.proofs.LineLemmas.{name-text}
use Rattle.ms_dfafile.proofs.variable.name_of.Goals as goal

pub returns-in_default : goal.returns-in_default
returns-in_default c = λ name is same. c.in_default.ensures.cases.0 (subst IsUtf8 (sym same) (name-text name is))
