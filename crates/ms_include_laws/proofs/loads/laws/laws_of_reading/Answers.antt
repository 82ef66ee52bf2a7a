use Rattle.ms_include_laws.proofs.of_loads.Refusals.{one_read, one_refusal, read_or_refused}
use Rattle.ms_include_laws.proofs.of_loads.Stops.{one_grammar_fault}
use Rattle.ms_include_laws.proofs.loads.laws.laws_of_reading.Goals as goal

pub returns-clause-source : goal.returns-clause-source
returns-clause-source c = one_read

pub returns-clause-read : goal.returns-clause-read
returns-clause-read c = read_or_refused

pub returns-clause-grammar : goal.returns-clause-grammar
returns-clause-grammar c = one_grammar_fault

pub returns-clause-refusal : goal.returns-clause-refusal
returns-clause-refusal c = one_refusal
