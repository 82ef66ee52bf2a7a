-- The size and the depth of a source, and the limits on them.
use Rattle.std.specs.Prelude.{◌≡◌, ℕ, ◌<◌, ◌≤◌}
use Rattle.ms_list.specs.declared.at.At.{At}
use Rattle.ms_edge.specs.declared.refusal.Refusal.{Refusal}
use Rattle.ms_edge.specs.declared.refusal.Refusal.TheVariants.{Depth, CoreSize}
use Rattle.ms_logic.specs.declared.checked.Checked.{Checked}
use Rattle.ms_logic_core.specs.Size.{size_of_source, depth_of_source}
use Rattle.ms_logic.specs.Verdict.{Problem}
use Rattle.ms_logic.specs.View.{problem_of, Answers}
use Rattle.ms_lower.specs.TooDeep.{IsFirstTooDeep, parts_of}

-- the size and the depth of a source, which are within the limits
pub record IsMeasure (problem : Problem) (size depth : ℕ) : Type 0 where
  pub size_is : size ≡ size_of_source problem
  pub depth_is : depth ≡ depth_of_source problem
  pub size_within : size ≤ 1000000
  pub depth_within : depth ≤ 300

-- the refusal of a source that is too deep: it tells the first declaration that makes it so
pub record IsDepthRefusal (checked : Checked) (answers : Answers) (refusal : Refusal) : Type 0 where
  pub at : At
  pub is : refusal ≡ Depth at
  pub too_deep : 300 < depth_of_source (problem_of checked answers)
  pub first : IsFirstTooDeep (parts_of checked) at

-- the refusal of a source that is too large, and not too deep
pub record IsSizeRefusal (checked : Checked) (answers : Answers) (refusal : Refusal) : Type 0 where
  pub is : refusal ≡ CoreSize
  pub not_deep : depth_of_source (problem_of checked answers) ≤ 300
  pub too_large : 1000000 < size_of_source (problem_of checked answers)
