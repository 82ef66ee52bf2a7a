use Rattle.ms_logic.proofs.Consistent.{yes_is_not_no}
use Rattle.ms_logic.proofs.FreeVariables.{value_depends_on_free_variables}
use Rattle.ms_logic.proofs.laws.laws_of_truth.Goals as goal

pub returns-clause-yes_excludes_no : goal.returns-clause-yes_excludes_no
returns-clause-yes_excludes_no c = yes_is_not_no

pub returns-clause-double_negation : goal.returns-clause-double_negation
returns-clause-double_negation c = λ given f e. ((λ h. h, λ h. h), (λ h. h, λ h. h))

pub returns-clause-ex_is_dual : goal.returns-clause-ex_is_dual
returns-clause-ex_is_dual c = λ given o x d f e. ((λ h. h, λ h. h), (λ h. h, λ h. h))

pub returns-clause-all_is_dual : goal.returns-clause-all_is_dual
returns-clause-all_is_dual c = λ given o x d f e. ((λ h. h, λ h. h), (λ h. h, λ h. h))

pub returns-clause-depends_on_free_variables : goal.returns-clause-depends_on_free_variables
returns-clause-depends_on_free_variables c = value_depends_on_free_variables
