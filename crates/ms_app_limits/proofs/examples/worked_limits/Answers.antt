use Rattle.ms_app_limits.proofs.EmptySource as empty
use Rattle.ms_app_limits.proofs.examples.worked_limits.Goals as goal

pub returns-clause-enough : goal.returns-clause-enough
returns-clause-enough c = empty.enough

pub returns-clause-too_little : goal.returns-clause-too_little
returns-clause-too_little c = empty.too_little
