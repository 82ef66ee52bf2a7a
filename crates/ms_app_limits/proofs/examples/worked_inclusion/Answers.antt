use Rattle.ms_app_limits.proofs.Inclusion as inclusion
use Rattle.ms_app_limits.proofs.examples.worked_inclusion.Goals as goal

pub returns-clause-enough : goal.returns-clause-enough
returns-clause-enough c = inclusion.enough

pub returns-clause-too_little : goal.returns-clause-too_little
returns-clause-too_little c = inclusion.too_little

pub returns-clause-favoured : goal.returns-clause-favoured
returns-clause-favoured c = inclusion.favoured
