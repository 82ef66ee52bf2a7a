-- Names of the language, in a source and in what it becomes.
use Rattle.std.specs.Prelude.{map}
use Rattle.ms_logic.specs.declared.checked.Checked.{Checked}
use Rattle.ms_logic.specs.declared.checked.ExportUse.{ExportUse}
use Rattle.ms_logic.specs.declared.checked.Global.{Global}
use Rattle.ms_logic.specs.declared.checked.ImportUse.{ImportUse}
use Rattle.ms_logic.specs.declared.checked.MapPair.{MapPair}
use Rattle.ms_logic.specs.declared.source.Rename.{Rename}
use Rattle.ms_text.specs.declared.token.Kind.TheVariants as kinds
use Rattle.ms_text.specs.Spelling.{Spells}
use Rattle.ms_logic.specs.Lists.{Each}
use Rattle.ms_parse_grammar.specs.Tree.{imported, Expression, atom, prefixed, binary, joined, shifted, enclosed, listed, quantified, let_in, Expressions, no_expressions, and_expression, Variables, no_variables, and_variable, Domain, unrestricted, restricted, Parts, no_parts, and_part, Declaration, variables, constant, predicate, included, default_restriction, formula, goal, Atom}
use Rattle.ms_names_rules.specs.Scope.{Bytes}

-- the bytes spell a name
abbrev pub IsName : Bytes → Type 0
IsName n = Spells kinds.Name n

-- each variable of a file that is imported has a name of the language
abbrev pub ImportsNames : Atom → Type 0
ImportsNames (imported file rs) = Each (λ (r : Rename). IsName r.left) rs
ImportsNames _ = Unit {0}

-- each variable that an expression binds has a name of the language, and so has each variable of a file that it imports
abbrev mutual
  pub BindsNames : Expression → Type 0
  BindsNames (atom at a) = ImportsNames a
  BindsNames (prefixed at op e) = BindsNames e
  BindsNames (binary at op e f) = BindsNames e × BindsNames f
  BindsNames (joined at op es) = EachBindsNames es
  BindsNames (shifted at e i) = BindsNames e
  BindsNames (enclosed at k e) = BindsNames e
  BindsNames (listed at l es) = EachBindsNames es
  BindsNames (quantified at q o vs e) = BoundsHaveNames vs × BindsNames e
  BindsNames (let_in at o ps e) = PartsHaveNames ps × BindsNames e

  pub EachBindsNames : Expressions → Type 0
  EachBindsNames no_expressions = Unit {0}
  EachBindsNames (and_expression es e) = EachBindsNames es × BindsNames e

  pub BoundsHaveNames : Variables → Type 0
  BoundsHaveNames no_variables = Unit {0}
  BoundsHaveNames (and_variable vs at o n d) = BoundsHaveNames vs × IsName n × DomainBindsNames d

  pub DomainBindsNames : Domain → Type 0
  DomainBindsNames unrestricted = Unit {0}
  DomainBindsNames (restricted e) = BindsNames e

  pub PartsHaveNames : Parts → Type 0
  PartsHaveNames no_parts = Unit {0}
  PartsHaveNames (and_part ps at n e) = PartsHaveNames ps × IsName n × BindsNames e

-- each variable that a declaration declares or binds has a name of the language
abbrev pub DeclaresNames : Declaration → Type 0
DeclaresNames (variables vs) = BoundsHaveNames vs
DeclaresNames (constant at n is) = Unit {0}
DeclaresNames (predicate is_pred at n vs e) = BoundsHaveNames vs × BindsNames e
DeclaresNames (included at file) = Unit {0}
DeclaresNames (default_restriction o n e) = IsName n × BindsNames e
DeclaresNames (formula e) = BindsNames e
DeclaresNames (goal at title e) = BindsNames e

-- the globals, the variables of exports and those of imported files have names of the language
pub record HasNames (checked : Checked) : Type 0 where
  pub globals : Each IsName (map (λ (g : Global). g.name) checked.globals)
  pub exports : Each (λ (used : ExportUse). Each IsName used.names) checked.exports
  pub imports : Each (λ (used : ImportUse). Each (λ (pair : MapPair). IsName pair.name) used.pairs) checked.imports
