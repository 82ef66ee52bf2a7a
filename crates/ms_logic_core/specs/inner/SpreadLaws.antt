-- The spread keeps the value of a formula.
use Rattle.std.specs.Prelude.{◌↔◌, List}
use Rattle.ms_logic.specs.declared.mode.Mode.{Mode}
use Rattle.ms_logic.specs.Assignment.{Env, Variable, IsAssignment}
use Rattle.ms_logic_core.specs.CoreForm.{CoreYes, CoreNo}
use Rattle.ms_logic.specs.FreeVariables.{IsFree, IsListed}
use Rattle.ms_logic_core.specs.Roots.{first_free}
use Rattle.ms_logic_core.specs.Spread.{spread, own_names}
use Rattle.ms_logic.specs.Tree.{Form, truth, falsity, truth_variable, negation, conjunction, disjunction, implication, equivalence, comparison, set_comparison, membership, emptiness, quantified, where_let, call, restrict, imported, exported, default_at, Forms, no_forms, more_forms, Restriction, unrestricted, restricted}
use Rattle.ms_logic.specs.Truth.{Given, Yes, No}

-- no call, no default restriction and no `let` stands in the formula
abbrev mutual
  pub IsWrittenOut : Form → Type 0
  IsWrittenOut truth = Unit {0}
  IsWrittenOut falsity = Unit {0}
  IsWrittenOut (truth_variable x) = Unit {0}
  IsWrittenOut (negation f) = IsWrittenOut f
  IsWrittenOut (conjunction fs) = AreWrittenOut fs
  IsWrittenOut (disjunction fs) = AreWrittenOut fs
  IsWrittenOut (implication f g) = IsWrittenOut f × IsWrittenOut g
  IsWrittenOut (equivalence f g) = IsWrittenOut f × IsWrittenOut g
  IsWrittenOut (comparison r t u) = Unit {0}
  IsWrittenOut (set_comparison r s t) = Unit {0}
  IsWrittenOut (membership positive t s) = Unit {0}
  IsWrittenOut (emptiness s) = Unit {0}
  IsWrittenOut (quantified q o x d f) = IsWrittenOutIn d × IsWrittenOut f
  IsWrittenOut (where_let xs right_sides f) = ⊥
  IsWrittenOut (call p given) = ⊥
  IsWrittenOut (restrict f) = IsWrittenOut f
  IsWrittenOut (imported i) = Unit {0}
  IsWrittenOut (exported i f) = IsWrittenOut f
  IsWrittenOut (default_at p x) = ⊥

  pub AreWrittenOut : Forms → Type 0
  AreWrittenOut no_forms = Unit {0}
  AreWrittenOut (more_forms f fs) = IsWrittenOut f × AreWrittenOut fs

  pub IsWrittenOutIn : Restriction → Type 0
  IsWrittenOutIn unrestricted = Unit {0}
  IsWrittenOutIn (restricted d) = IsWrittenOut d

-- at each assignment of variables with its free ones among them, such a formula and its spread have one value
abbrev pub SpreadKeepsValue : Type 0
SpreadKeepsValue =
    (given : Given) (mode : Mode) (variables : List Variable) (f : Form) (e : Env)
    → IsWrittenOut f → IsAssignment mode variables e → ((w : Variable) → IsFree given f w → IsListed variables w)
    → (Yes given f e ↔ CoreYes given.imports (spread given f own_names (first_free variables)) e)
    × (No given f e ↔ CoreNo given.imports (spread given f own_names (first_free variables)) e)
