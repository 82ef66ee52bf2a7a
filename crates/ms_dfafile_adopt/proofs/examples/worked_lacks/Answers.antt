use Rattle.std.proofs.Common.{inl, arith}
use Rattle.ms_dfafile_adopt.proofs.ShortExamples as examples
use Rattle.ms_dfafile_adopt.proofs.examples.worked_lacks.Goals as goal

pub returns-clause-too_many_nodes : goal.returns-clause-too_many_nodes
returns-clause-too_many_nodes c = inl (omega arith)

pub returns-clause-few_for_numbers : goal.returns-clause-few_for_numbers
returns-clause-few_for_numbers c = examples.few_for_numbers

pub returns-clause-sets_alone : goal.returns-clause-sets_alone
returns-clause-sets_alone c = examples.sets_alone
