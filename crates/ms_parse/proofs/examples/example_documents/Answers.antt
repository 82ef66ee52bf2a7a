use Rattle.std.proofs.Common.{refl}
use Rattle.ms_parse.proofs.Trials.{reads_by_trial}
use Rattle.ms_parse.proofs.examples.example_documents.Goals as goal

pub returns-clause-nothing : goal.returns-clause-nothing
returns-clause-nothing c = reads_by_trial 40 _ _ refl

pub returns-clause-empty_literal : goal.returns-clause-empty_literal
returns-clause-empty_literal c = reads_by_trial 40 _ _ refl

pub returns-clause-literal : goal.returns-clause-literal
returns-clause-literal c = reads_by_trial 40 _ _ refl

pub returns-clause-empty_set : goal.returns-clause-empty_set
returns-clause-empty_set c = reads_by_trial 40 _ _ refl

pub returns-clause-is_empty : goal.returns-clause-is_empty
returns-clause-is_empty c = reads_by_trial 40 _ _ refl

pub returns-clause-bare_name : goal.returns-clause-bare_name
returns-clause-bare_name c = reads_by_trial 40 _ _ refl

pub returns-clause-empty_call : goal.returns-clause-empty_call
returns-clause-empty_call c = reads_by_trial 40 _ _ refl

pub returns-clause-call : goal.returns-clause-call
returns-clause-call c = reads_by_trial 40 _ _ refl

pub returns-clause-in_in_brackets : goal.returns-clause-in_in_brackets
returns-clause-in_in_brackets c = reads_by_trial 40 _ _ refl

pub returns-clause-header : goal.returns-clause-header
returns-clause-header c = reads_by_trial 40 _ _ refl

pub returns-clause-second_header : goal.returns-clause-second_header
returns-clause-second_header c = reads_by_trial 40 _ _ refl

pub returns-clause-kinds : goal.returns-clause-kinds
returns-clause-kinds c = reads_by_trial 40 _ _ refl

pub returns-clause-restricted_variable : goal.returns-clause-restricted_variable
returns-clause-restricted_variable c = reads_by_trial 40 _ _ refl

pub returns-clause-first_in : goal.returns-clause-first_in
returns-clause-first_in c = reads_by_trial 40 _ _ refl
