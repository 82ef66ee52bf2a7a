-- Where the nodes of a graph occur in the formulas of its source.
use Rattle.std.specs.Prelude.{◌≡◌, ℕ, List, length, map, slice_get, Some}
use Rattle.std.specs.List.{zip}
use Rattle.std.specs.List.Sorted.{IsStrictlyIncreasing}
use Rattle.std.specs.Option.{option_map}
use Rattle.ms_logic.specs.declared.mode.Order.{Order}
use Rattle.ms_logic.specs.Assignment.{Variable}
use Rattle.ms_logic_core.specs.declared.core_formula.Root.{Root}
use Rattle.ms_logic_core.specs.CoreForm.{CoreForm, core_form_of}
use Rattle.ms_logic_core.specs.Calls.{Calls, filled}
use Rattle.ms_logic_core.specs.Operands.{variable}
use Rattle.ms_dag.specs.declared.node.Entry.{Entry}
use Rattle.ms_dag.specs.Dag.{own_orders}
use Rattle.ms_dag.specs.Unfolds.{Unfolds}
use Rattle.ms_dag_steps.specs.Subformulas.{IsSubformula}

-- the formula of a root, with what its imports stand for in their places
abbrev pub whole_formula : Calls → Root → CoreForm
whole_formula calls root = filled calls (core_form_of root.core)

-- the node at a place is a subformula of a whole formula, where its own variables, one after the other, have these rising names
pub record Occurs (whole : CoreForm) (entries : List Entry) (f : CoreForm) (names : List ℕ) (place : ℕ) : Type 0 where
  pub subformula : IsSubformula f whole
  pub rising : IsStrictlyIncreasing names
  pub own : option_map length (own_orders entries place) ≡ Some (length names)
  pub unfolds : Unfolds entries f names place

-- the node at a place occurs in the formula of one of the roots
pub record OccursInRoot (calls : Calls) (roots : List Root) (entries : List Entry) (place : ℕ) : Type 0 where
  pub number : ℕ
  pub root : Root
  pub is_root : slice_get roots number ≡ Some root
  pub formula : CoreForm
  pub names : List ℕ
  pub occurs : Occurs (whole_formula calls root) entries formula names place

-- the variables with these names, each with its order
abbrev pub variables_named : List ℕ → List Order → List Variable
variables_named names orders = map (λ p. variable p.0 p.1) (zip names orders)
