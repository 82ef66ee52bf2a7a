-- What the automata of a source stand for.
use Rattle.std.specs.Prelude.{◌↔◌, List}
use Rattle.ms_logic_core.specs.declared.core_formula.Lowered.{Lowered}
use Rattle.ms_logic.specs.declared.mode.Order.{Order}
use Rattle.ms_logic_words.specs.declared.sign.Sign.{Sign}
use Rattle.ms_logic.specs.Assignment.{Env}
use Rattle.ms_logic_core.specs.CoreForm.{CoreForm}
use Rattle.ms_logic.specs.Truth.{Import}
use Rattle.ms_logic_core.specs.Calls.{Calls}
use Rattle.ms_dag.specs.declared.dag.Dag.{Dag}
use Rattle.ms_dag.specs.declared.node.Child.{Child}
use Rattle.ms_dag.specs.declared.node.Entry.{Entry}
use Rattle.ms_dag.specs.Laws.{HaveTheirOrders}
use Rattle.ms_dag.specs.Lowered.{IsLowered}
use Rattle.ms_dag.specs.Share.{IsDagOf}
use Rattle.ms_dag.specs.Unfolds.{Unfolds}
use Rattle.ms_dfa.specs.Values.{core_meaning}
use Rattle.ms_build.specs.Built.{child_meaning}
use Rattle.ms_build.specs.Roots.{AreRootsRead}

-- a child that unfolds to a core formula has its value
abbrev pub ChildHasValueOfFormula : Type 0
ChildHasValueOfFormula =
    (imports : List Import) (entries : List Entry) (orders : List Order) (f : CoreForm) (child : Child) (e : Env) (sign : Sign)
    → HaveTheirOrders imports orders f → Unfolds entries f child.map child.node → child_meaning imports entries child e sign ↔ core_meaning imports f e sign

-- the roots of a source in its graph are read at the variables of the source, whatever its calls stand for
abbrev pub RootsAreRead : Type 0
RootsAreRead = (imports : List Import) (calls : Calls) (lowered : Lowered) (dag : Dag) → IsLowered imports calls lowered → IsDagOf calls lowered dag → AreRootsRead dag
