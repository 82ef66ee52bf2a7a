-- The variables of the names in scope, as code keeps them: in a table, by the names. Only the contracts and proofs inside this crate
-- cite it.
use Rattle.std.specs.Prelude.{◌≡◌, ℕ, zero, suc, ◌+◌, ◌<◌, ◌^◌, List, [], ◌∷◌, unwrap_or}
use Rattle.indexmap.specs.IndexMap.{get_by_text}
use Rattle.ms_logic.specs.declared.mode.Order.TheVariants.{Two}
use Rattle.ms_logic.specs.declared.mode.Quant.{Quant}
use Rattle.ms_logic.specs.Lists.{Each}
use Rattle.ms_logic.specs.Tree.{Form, unrestricted}
use Rattle.ms_logic.specs.Tree as sets
use Rattle.ms_presburger.specs.declared.linear.Part.{Part}
use Rattle.ms_presburger.specs.declared.linear.Part.TheVariants.{Number, Var, Times}
use Rattle.ms_presburger.specs.declared.scope.Bindings.{Bindings}
use Rattle.ms_presburger.specs.Sets.{Scope, with_variable}
use Rattle.ms_presburger.specs.Tree.{Arithmetic, truth, falsity, comparison, brackets, negation, conjunction, disjunction, implication, equivalence, quantified, Arithmetics, no_arithmetics, more_arithmetics}

-- with these names bound from x on, one after the other
abbrev pub bound_in : ℕ → Scope → List (List ℕ) → Scope
bound_in x scope [] = scope
bound_in x scope (name ∷ names) = bound_in (x + 2) (with_variable name x scope) names

-- the variables that they have before each is bound
abbrev pub hidden_by : ℕ → Scope → List (List ℕ) → List ℕ
hidden_by x scope [] = []
hidden_by x scope (name ∷ names) = scope name ∷ hidden_by (x + 2) (with_variable name x scope) names

-- the variable of a name in the table
abbrev pub variable_in : Bindings → Scope
variable_in bindings = λ name. unwrap_or (get_by_text bindings.variables name) bindings.others

-- each name has the variable in the table that it has in the scope
abbrev pub IsAsIn : Scope → Bindings → Type 0
IsAsIn scope bindings = (name : List ℕ) → variable_in bindings name ≡ scope name

-- a formula with as many sets bound around it, from x on
abbrev pub wrapped : Quant → ℕ → ℕ → Form → Form
wrapped q zero x f = f
wrapped q (suc count) x f = sets.quantified q Two x unrestricted (wrapped q count (x + 2) f)

-- the factors of a formula have 64 bits
abbrev pub IsFactorSmall : Part → Type 0
IsFactorSmall (Number n) = Unit {0}
IsFactorSmall (Var x) = Unit {0}
IsFactorSmall (Times n x) = n < 2 ^ 64

abbrev mutual
  pub AreFactorsSmall : Arithmetic → Type 0
  AreFactorsSmall truth = Unit {0}
  AreFactorsSmall falsity = Unit {0}
  AreFactorsSmall (comparison r left right) = Each IsFactorSmall left × Each IsFactorSmall right
  AreFactorsSmall (brackets f) = AreFactorsSmall f
  AreFactorsSmall (negation f) = AreFactorsSmall f
  AreFactorsSmall (conjunction fs) = AreAllFactorsSmall fs
  AreFactorsSmall (disjunction fs) = AreAllFactorsSmall fs
  AreFactorsSmall (implication f g) = AreFactorsSmall f × AreFactorsSmall g
  AreFactorsSmall (equivalence f g) = AreFactorsSmall f × AreFactorsSmall g
  AreFactorsSmall (quantified q xs f) = AreFactorsSmall f

  pub AreAllFactorsSmall : Arithmetics → Type 0
  AreAllFactorsSmall no_arithmetics = Unit {0}
  AreAllFactorsSmall (more_arithmetics f fs) = AreFactorsSmall f × AreAllFactorsSmall fs
