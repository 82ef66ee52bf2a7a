-- Small declarations.
use Rattle.std.specs.Prelude.{[], ◌∷◌, codes}
use Rattle.ms_list.specs.declared.at.At.{At}
use Rattle.ms_logic.specs.declared.mode.Order.TheVariants.{Two}
use Rattle.ms_parse_grammar.specs.Tree.{imported, no_variables, and_variable, unrestricted, Declaration, Expression, atom, variables, formula, goal}
use Rattle.ms_names_rules.specs.Scope.{Bytes}

abbrev pub nowhere : At
nowhere = record { file = 0; place = 0 }

-- var2 with this name;
abbrev pub declares : Bytes → Declaration
declares n = variables (and_variable no_variables nowhere Two n unrestricted)

-- import("a", with this name -> X)
abbrev pub import_of : Bytes → Expression
import_of n = atom nowhere (imported (codes "a") (record { at = nowhere; left = n; at_right = nowhere; right = codes "X" } ∷ []))

-- that import as a formula declaration, and as a goal whose title is a word of the language
abbrev pub imports : Bytes → Declaration
imports n = formula (import_of n)

abbrev pub goal_imports : Bytes → Declaration
goal_imports n = goal nowhere (codes "where") (import_of n)
