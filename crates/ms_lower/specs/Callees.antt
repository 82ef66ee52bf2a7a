-- What calls and imports stand for in what is lowered, over the tables of a source.
use Rattle.std.specs.Prelude.{◌≡◌, ℕ, Bool, true, false, List, [], length, map, slice_get, take}
use Rattle.ms_logic.specs.declared.checked.Checked.{Checked}
use Rattle.ms_logic.specs.declared.checked.ImportUse.{ImportUse}
use Rattle.ms_logic.specs.declared.checked.Predicate.{Predicate}
use Rattle.ms_logic_core.specs.declared.core_formula.Basic.{Basic}
use Rattle.ms_logic_core.specs.CoreForm.{CoreForm, restrict, falsity, basic, negation, disjunction, core_forms}
use Rattle.ms_logic_core.specs.Spread.{Callees, Names, spread_under}
use Rattle.ms_logic.specs.Tree.{Form}
use Rattle.ms_logic.specs.View.{predicate_of}
use Rattle.ms_logic_core.specs.Calls.{calling_with_all}
use Rattle.ms_lower.specs.declared.tables.Tables.{Tables}
use Rattle.ms_lower.specs.Numbering.{numbering_of, renumbered, variables_of_use}

-- the tables of a source, all of whose predicates may be called
pub record IsTablesOf (checked : Checked) (tables : Tables) : Type 0 where
  pub kept : tables.kept ≡ tables.globals
  pub globals : tables.globals ≡ length checked.globals
  pub callable : tables.callable ≡ length checked.predicates
  pub predicates : tables.predicates.now ≡ checked.predicates
  pub imports : tables.imports.now ≡ checked.imports

-- the imports alone: a predicate that is not there is nowhere Yes or No
abbrev pub callees_of_uses : List ImportUse → Callees
callees_of_uses imports = record {
  parameters = λ p. [];
  body = λ p names free. restrict falsity;
  default = λ p x names free. restrict falsity;
  imported = λ i. variables_of_use (slice_get imports i);
}

-- the predicates that may be called: the first so many
abbrev pub callable : Tables → List Predicate
callable tables = take tables.callable tables.predicates.now

-- what they stand for, and the imports: a call stands as an import behind these
abbrev pub callees_in : Tables → Callees
callees_in tables = calling_with_all (length tables.imports.now) (callees_of_uses tables.imports.now) 0 (map predicate_of (callable tables))

-- a basic relation, or where it is not positive its negation
abbrev pub basic_or_not : Bool → Basic → CoreForm
basic_or_not true b = basic b
basic_or_not false b = negation (basic b)

abbrev pub disjunction_over : List CoreForm → CoreForm
disjunction_over fs = disjunction (core_forms fs)

-- the core formula of a formula, with the numbers of the answer
abbrev pub spread_in : Tables → Form → Names → ℕ → CoreForm
spread_in tables f names free = renumbered (numbering_of tables) (spread_under (callees_in tables) f names free)
