use Rattle.ms_build_source.proofs.ExampleLimits.{always_yes, never_no}
use Rattle.ms_build_source.proofs.examples.worked_imports.Goals as goal

pub returns-clause-always : goal.returns-clause-always
returns-clause-always c = always_yes

pub returns-clause-never : goal.returns-clause-never
returns-clause-never c = never_no
