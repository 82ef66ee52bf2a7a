use Rattle.ms_dfafile_adopt.proofs.OpenLemmas.{first_by, none_by}
use Rattle.ms_dfafile_adopt.proofs.in_mode.first_change.Goals as goal

pub returns-clause-first : goal.returns-clause-first
returns-clause-first c = first_by c.args.a.now c.in_ok-changes.changes c.in_ok-changes.ensures c.first.result c.first.ensures.first

pub returns-clause-none : goal.returns-clause-none
returns-clause-none c = none_by c.args.a.now c.in_ok-changes.changes c.in_ok-changes.ensures c.first.result c.first.ensures.none
