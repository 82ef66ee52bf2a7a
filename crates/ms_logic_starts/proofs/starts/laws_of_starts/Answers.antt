use Rattle.ms_logic_starts.proofs.ContentStartsLemmas.{start_leaves_part, part_is_left}
use Rattle.ms_logic_starts.proofs.ReachedPartsLemmas.{reached_parts, canonical_reached}
use Rattle.ms_logic_starts.proofs.starts.laws_of_starts.Goals as goal

pub returns-clause-parts : goal.returns-clause-parts
returns-clause-parts g c = start_leaves_part

pub returns-clause-left : goal.returns-clause-left
returns-clause-left g c = part_is_left

pub returns-clause-counted : goal.returns-clause-counted
returns-clause-counted g c = reached_parts

pub returns-clause-canonical : goal.returns-clause-canonical
returns-clause-canonical g c = canonical_reached
