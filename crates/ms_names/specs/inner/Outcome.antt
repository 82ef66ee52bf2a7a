-- What a declaration gives, and a check after it.
use Rattle.std.specs.Prelude.{ℕ, true, List, ◌++◌, flat_map, map, Option}
use Rattle.std.specs.Option.{option_map}
use Rattle.ms_logic.specs.Tree as tree
use Rattle.ms_logic.specs.Tree.{Form}
use Rattle.ms_logic.specs.View as code
use Rattle.ms_names_rules.specs.declared.meaning.Reading.{Reading}
use Rattle.ms_names_rules.specs.Before.{Before}
use Rattle.ms_names_rules.specs.inner.Binder.{restricted_variables}
use Rattle.ms_names_rules.specs.Declarations.{Known, after_declaration, exports_in, faults_in, occurrences_in}
use Rattle.ms_names_rules.specs.Fault.{first_fault}
use Rattle.ms_names_rules.specs.Scope.{Scope}
use Rattle.ms_parse_grammar.specs.Tree.{Declaration, variables, constant, predicate, included, default_restriction, formula, goal}
use Rattle.ms_names_rules.specs.Typed.{formula_in, typed}
use Rattle.ms_names_rules.specs.TypedSource.{typed_default, typed_predicate}
use Rattle.ms_names_rules.specs.Uses.{import_at}
use Rattle.ms_names.specs.declared.outcome.Outcome.{Outcome}
use Rattle.ms_names.specs.declared.outcome.Outcome.TheVariants.{Globals, Predicate, Formula, Nothing}
use Rattle.ms_names_scopes.specs.inner.Found.{Found}

pub data Made : Type 0 where
  made_globals : (vs : Option (List tree.Declaration)) → Made
  made_predicate : (p : Option tree.Predicate) → Made
  made_formula : (f : Option Form) → Made
  made_nothing : Made

-- what a declaration gives, where the numbers of globals go on from x
abbrev pub made_in : Scope → ℕ → Before → Declaration → Made
made_in s x b (variables vs) = made_globals (restricted_variables true s x b vs)
made_in s x b (constant at n is) = made_nothing
made_in s x b (predicate is_pred at n vs e) = made_predicate (typed_predicate s b vs e)
made_in s x b (included text_at file) = made_nothing
made_in s x b (default_restriction o n e) = made_predicate (typed_default s b o n e)
made_in s x b (formula e) = made_formula (formula_in (typed s b e))
made_in s x b (goal name_at title e) = made_formula (formula_in (typed s b e))

abbrev pub outcome_of : Outcome → Made
outcome_of (Globals vs) = made_globals (option_map (λ ps. map code.declaration_of ps.items) vs)
outcome_of (Predicate p) = made_predicate (option_map code.predicate_of p)
outcome_of (Formula f) = made_formula (option_map code.formula_of f)
outcome_of Nothing = made_nothing

-- a check after a declaration, with what was read
abbrev pub declared_in : Found → Known → Declaration → List Reading → Found
declared_in s k d reads = record {
  scope = (after_declaration k d).scope;
  before = (after_declaration k d).before;
  first = first_fault (faults_in k d);
  reads = reads;
  imports = s.imports ++ flat_map import_at (occurrences_in k d);
  exports = s.exports ++ exports_in k d;
}
