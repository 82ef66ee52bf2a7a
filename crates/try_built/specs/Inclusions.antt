-- The conjunction of three inclusions between two sets.
use Rattle.std.specs.Prelude.{◌≡◌, ◌⊎◌, List, [], ◌∷◌, length}
use Rattle.ms_logic.specs.Assignment.{Variable}
use Rattle.ms_logic.specs.declared.mode.Order.{Order}
use Rattle.ms_logic.specs.declared.mode.Order.TheVariants.{Two}
use Rattle.ms_logic_core.specs.Calls.{Calls}
use Rattle.ms_logic_core.specs.CoreForm.{truth}
use Rattle.ms_logic_core.specs.declared.core_formula.Basic.{Basic}
use Rattle.ms_logic_core.specs.declared.core_formula.Basic.TheVariants.{Sub}
use Rattle.ms_logic_core.specs.declared.core_formula.Core.{Core}
use Rattle.ms_logic_core.specs.declared.core_formula.Core.TheVariants as core
use Rattle.ms_logic_core.specs.declared.core_formula.Lowered.{Lowered}
use Rattle.ms_logic_core.specs.declared.core_formula.Root.{Root}
use Rattle.ms_dag.specs.declared.dag.Dag.{Dag}
use Rattle.ms_dag.specs.Imports.{RootsImportBelow}
use Rattle.ms_dag.specs.Lowered.{IsLowered}
use Rattle.ms_dag.specs.Share.{IsDagOf}

-- nothing is called, and what would be called is true
abbrev pub true_calls : Calls
true_calls import xs = truth

-- the sets, and their orders
abbrev pub sets : List Variable
sets = record { name = 0; order = Two } ∷ record { name = 1; order = Two } ∷ []

abbrev pub orders_of_sets : List Order
orders_of_sets = Two ∷ Two ∷ []

-- one set in the other one
abbrev pub IsInclusion : Basic → Type 0
IsInclusion relation = (relation ≡ Sub 0 1) ⊎ (relation ≡ Sub 1 0)

-- the first set in the second one, twice, and a third relation
abbrev pub three : Basic → List Core
three third = core.Basic (Sub 0 1) ∷ core.Basic (Sub 0 1) ∷ core.Basic third ∷ []

abbrev pub root_of : Basic → Root
root_of third = record { variables = 0 ∷ 1 ∷ []; core = core.And (three third) }

-- a source with one root, where each variable stands in its scope and nothing is imported
pub record IsSample (lowered : Lowered) : Type 0 where
  pub is_lowered : IsLowered [] true_calls lowered
  pub imports : RootsImportBelow true_calls 0 lowered.roots
  pub one : length lowered.roots ≡ 1

-- the graph of such a source
abbrev pub IsSampleGraph : Dag → Type 0
IsSampleGraph dag = (lowered : Lowered) × IsSample lowered × IsDagOf true_calls lowered dag
