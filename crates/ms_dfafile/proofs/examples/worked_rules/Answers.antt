use Rattle.ms_dfafile.proofs.ExampleLemmas.{emptiness-file, named_by_word-no_file, own_node-no_file, same_variable-no_file, set_from_start-no_file, truth_value_from_state-no_file, first_version-no_file, two_bits-no_file}
use Rattle.ms_dfafile.proofs.examples.worked_rules.Goals as goal

pub returns-clause-emptiness : goal.returns-clause-emptiness
returns-clause-emptiness c = emptiness-file

pub returns-clause-named_by_word : goal.returns-clause-named_by_word
returns-clause-named_by_word c = named_by_word-no_file

pub returns-clause-set_from_start : goal.returns-clause-set_from_start
returns-clause-set_from_start c = set_from_start-no_file

pub returns-clause-truth_value_from_state : goal.returns-clause-truth_value_from_state
returns-clause-truth_value_from_state c = truth_value_from_state-no_file

pub returns-clause-own_node : goal.returns-clause-own_node
returns-clause-own_node c = own_node-no_file

pub returns-clause-same_variable : goal.returns-clause-same_variable
returns-clause-same_variable c = same_variable-no_file

pub returns-clause-two_bits : goal.returns-clause-two_bits
returns-clause-two_bits c = two_bits-no_file

pub returns-clause-first_version : goal.returns-clause-first_version
returns-clause-first_version c = first_version-no_file
