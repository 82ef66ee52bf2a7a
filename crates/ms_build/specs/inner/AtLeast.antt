-- A quantifier that looks for a number z with x = z + n: some number is so much less than x exactly where x is at least n.
use Rattle.std.specs.Prelude.{◌≡◌, ◌<◌, ℕ, List, [], ◌∷◌, Some}
use Rattle.ms_dag.specs.declared.node.Child.{Child}
use Rattle.ms_dag.specs.declared.node.DagNode.TheVariants.{Basic}
use Rattle.ms_dag.specs.Unfolds.{node_at}
use Rattle.ms_dfa.specs.Values.{Meaning, meaning_by}
use Rattle.ms_logic.specs.Assignment.{Variable}
use Rattle.ms_logic.specs.declared.mode.Order.{Order}
use Rattle.ms_logic.specs.declared.mode.Order.TheVariants.{One}
use Rattle.ms_logic.specs.declared.mode.Quant.TheVariants.{Ex}
use Rattle.ms_logic_core.specs.declared.core_formula.Basic.TheVariants.{Plus}
use Rattle.ms_project.specs.Quantified.{quantified}
use Rattle.ms_project.specs.declared.quantifier.Quantifier.{Quantifier}
use Rattle.ms_build.specs.Built.{entries_of}
use Rattle.ms_build.specs.declared.plan.Plan.{Plan}

-- x, and the number that is looked for
abbrev pub first : Variable
first = record { name = 0; order = One }

abbrev pub second : Variable
second = record { name = 1; order = One }

-- the quantifier looks for a second number of which the first is n more
pub record LooksBelow (plan : Plan) (orders : List Order) (quantifier : Quantifier) (body : Child) (n : ℕ) : Type 0 where
  pub some : quantifier.quant ≡ Ex
  pub number : quantifier.track.order ≡ One
  pub one : orders ≡ One ∷ []
  pub map : body.map ≡ 0 ∷ 1 ∷ []
  pub sum : node_at (entries_of plan) body.node ≡ Some (Basic (Plus 0 1 n))

-- the first number is not below the second
abbrev pub not_below : Meaning
not_below = meaning_by (λ e. ¬ (e.number 0 < e.number 1)) (λ e. e.number 0 < e.number 1)

-- x is at least n: some number is n, and x is not below it
abbrev pub at_least : ℕ → Meaning
at_least n = quantified Ex second (λ there. there.number 1 ≡ n) not_below
