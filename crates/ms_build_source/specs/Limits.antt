-- The limits of a source, and why one that is past them is not solved.
use Rattle.std.specs.Prelude.{◌≡◌, ◌⊎◌, ℕ, ◌+◌, ◌≤◌, List, length}
use Rattle.ms_edge.specs.declared.refusal.Refusal.{Refusal}
use Rattle.ms_edge.specs.declared.refusal.Refusal.TheVariants.{Nodes}
use Rattle.ms_logic.specs.declared.checked.Checked.{Checked}
use Rattle.ms_logic_core.specs.Size.{depth_of_source, size_of_source}
use Rattle.ms_logic.specs.Verdict.{Problem}
use Rattle.ms_logic.specs.View.{problem_of, Answers}
use Rattle.ms_dag.specs.declared.dag.Dag.{Dag}
use Rattle.ms_build.specs.Short.{IsPlanOf, NodeLacks, RootLacks}
use Rattle.ms_build.specs.declared.plan.Plan.{Plan}
use Rattle.ms_build_source.specs.Graph.{IsGraphOf}
use Rattle.ms_logic_words.specs.Content.{Content}
use Rattle.ms_logic_words.specs.declared.sign.Sign.{Sign}
use Rattle.ms_lower.specs.Measure.{IsDepthRefusal, IsSizeRefusal}

-- the source is within the limits of depth and size
pub record IsWithinLimits (problem : Problem) : Type 0 where
  pub depth : depth_of_source problem ≤ 300
  pub size : size_of_source problem ≤ 1000000

-- nothing is made of a source that is too deep, or else too large
pub data IsTooLarge (checked : Checked) (answers : Answers) (refusal : Refusal) : Type 0 where
  too_deep : (why : IsDepthRefusal checked answers refusal) → IsTooLarge checked answers refusal
  too_large : (why : IsSizeRefusal checked answers refusal) → IsTooLarge checked answers refusal

-- a step of a source lacks nodes under a limit, over these automata of its imports: a node of its graph, or a root, which count behind
-- the nodes
pub record LacksNodes (checked : Checked) (answers : Answers) (contents : List (Content Sign)) (limit step : ℕ) : Type 0 where
  pub dag : Dag
  pub is_graph : IsGraphOf checked answers dag
  pub plan : Plan
  pub is_plan : IsPlanOf contents checked.mode dag limit plan
  pub lacks : NodeLacks plan step ⊎ ((root : ℕ) × (step ≡ length dag.entries + root) × RootLacks plan root)

-- A source is not solved over these automata of its imports: it is too large; or it is not, and a step of it lacks nodes under this limit on
-- nodes and states.
pub data IsUnsolved (checked : Checked) (answers : Answers) (contents : List (Content Sign)) (limit : ℕ) (refusal : Refusal) : Type 0 where
  not_made : (why : IsTooLarge checked answers refusal) → IsUnsolved checked answers contents limit refusal
  lacks_nodes : (within : IsWithinLimits (problem_of checked answers)) (step : ℕ) (why : LacksNodes checked answers contents limit step) (is : refusal ≡ Nodes step limit)
      → IsUnsolved checked answers contents limit refusal
