use Rattle.std.proofs.Common.{refl, inr}
use Rattle.ms_logic_measures.specs.inner.MeasuredContents.{implies_content, truth_content}
use Rattle.ms_logic_measures.proofs.FullTruths.{full_implies, full_truth}
use Rattle.ms_logic_measures.proofs.TruthStarts.{implies_references, truth_references, truth_pairs, truth_project}
use Rattle.ms_logic_measures.proofs.examples.calls.worked_restricted_quantifier.Goals as goal

pub returns : goal.returns
returns c = record {
  body_parts = implies_references;
  restriction_parts = truth_references;
  pairs = truth_pairs;
  project = truth_project;
  step = inr (implies_content, truth_content, full_implies, full_truth, truth_project);
  step_budget = refl;
}
