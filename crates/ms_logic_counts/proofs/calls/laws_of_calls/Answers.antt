use Rattle.ms_logic_counts.proofs.CallLemmas.{adopts_are_measured, combines_are_measured, free_projects_are_measured, minimises_are_measured, projects_are_measured, renames_are_measured, widenings_are_paired}
use Rattle.ms_logic_counts.proofs.calls.laws_of_calls.Goals as goal

pub returns : goal.returns
returns g c = record {
  combines = combines_are_measured;
  minimises = minimises_are_measured;
  projects = projects_are_measured;
  free = free_projects_are_measured;
  renames = renames_are_measured;
  adopts = adopts_are_measured;
  widenings = widenings_are_paired;
}
