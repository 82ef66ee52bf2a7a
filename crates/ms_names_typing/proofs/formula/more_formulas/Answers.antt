use Rattle.std.proofs.Common.{rules}
use Rattle.ms_names_rules.proofs.Operands.{forms_of-more}
use Rattle.ms_names_typing.proofs.formula.more_formulas.Goals as goal

pub returns : goal.returns
returns c = search (rules, forms_of-more)
