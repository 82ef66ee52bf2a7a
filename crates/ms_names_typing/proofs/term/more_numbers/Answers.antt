use Rattle.std.proofs.Common.{rules}
use Rattle.ms_names_rules.proofs.Operands.{terms_of-more}
use Rattle.ms_names_typing.proofs.term.more_numbers.Goals as goal

pub returns : goal.returns
returns c = search (rules, terms_of-more)
