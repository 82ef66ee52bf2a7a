-- Sources for worked examples. A number in front is the place of a token, in bytes from 0.
use Rattle.std.specs.Prelude.{ℕ, Bool, true, List, [], ◌∷◌, map, codes, Option}
use Rattle.std.specs.Option.{option_map}
use Rattle.ms_list.specs.declared.at.At.{At}
use Rattle.ms_logic.specs.declared.mode.Mode.TheVariants.{Ws1s, M2lStr}
use Rattle.ms_logic.specs.declared.mode.Order.{Order}
use Rattle.ms_logic.specs.declared.mode.Order.TheVariants.{Zero}
use Rattle.ms_logic.specs.declared.mode.Quant.TheVariants.{Ex, All}
use Rattle.ms_logic.specs.declared.mode.Rel.{Rel}
use Rattle.ms_logic.specs.declared.mode.Rel.TheVariants.{Equal, Less}
use Rattle.ms_logic.specs.declared.source.Int.TheVariants.{Number, Constant}
use Rattle.ms_logic.specs.declared.source.PlacedInt.{PlacedInt}
use Rattle.ms_logic.specs.declared.source.Rename.{Rename}
use Rattle.ms_logic.specs.declared.checked.ExportUse.{ExportUse}
use Rattle.ms_logic.specs.declared.checked.ImportUse.{ImportUse}
use Rattle.ms_logic.specs.declared.checked.MapPair.{MapPair}
use Rattle.ms_logic.specs.Tree as tree
use Rattle.ms_logic.specs.Tree.{Term, SetTerm, Form, Forms, Restriction, Arguments, Predicate}
use Rattle.ms_parse_grammar.specs.Tree as syntax
use Rattle.ms_parse_grammar.specs.declared.operator.Binary.TheVariants as binary
use Rattle.ms_parse_grammar.specs.declared.operator.Bracket.TheVariants as bracket
use Rattle.ms_parse_grammar.specs.declared.operator.Junction.TheVariants as junction
use Rattle.ms_parse_grammar.specs.declared.operator.Listing.TheVariants as listing
use Rattle.ms_parse_grammar.specs.declared.operator.Prefix.TheVariants as prefix
use Rattle.ms_names_rules.specs.Scope.{Bytes}
use Rattle.ms_parse_grammar.specs.Tree.{Expression, Declaration, Declared}
use Rattle.ms_names_rules.specs.Rules.{place}
use Rattle.ms_parse_grammar.specs.View.{Variable, Part, expressions_behind, variables_behind, parts_behind}
use Rattle.ms_names_rules.specs.declared.fault.Fault.{Fault}
use Rattle.ms_names_rules.specs.Declarations.{first_fault_of}
use Rattle.ms_names_rules.specs.TypedSource.{globals_of_source, predicates_of_source, imports_of_source, exports_of_source, formulas_of_source}

abbrev pub byte : ℕ → At
byte p = record { file = 0; place = p }

-- the first fault of a source of natural numbers
abbrev pub fault_in : List Declared → Option Fault
fault_in ds = first_fault_of Ws1s ds

-- the first fault of a source of strings
abbrev pub fault_on_strings : List Declared → Option Fault
fault_on_strings ds = first_fault_of M2lStr ds

-- declarations

abbrev pub declared : ℕ → Declaration → Declared
declared p d = record { at = byte p; declaration = d }

-- var0, var1 or var2
abbrev pub vars : ℕ → List Variable → Declared
vars p vs = declared p (syntax.variables (variables_behind syntax.no_variables vs))

abbrev pub const_is : ℕ → ℕ → Bytes → List PlacedInt → Declared
const_is p q n is = declared p (syntax.constant (byte q) n is)

abbrev pub pred_is : ℕ → ℕ → Bytes → List Variable → Expression → Declared
pred_is p q n vs e = declared p (syntax.predicate true (byte q) n (variables_behind syntax.no_variables vs) e)

abbrev pub no_vars : List Variable
no_vars = []

-- defaultwhere1 or defaultwhere2
abbrev pub default_is : ℕ → Order → Bytes → Expression → Declared
default_is p o n e = declared p (syntax.default_restriction o n e)

abbrev pub holds : ℕ → Expression → Declared
holds p e = declared p (syntax.formula e)

abbrev pub goal_is : ℕ → ℕ → Bytes → Expression → Declared
goal_is p q title e = declared p (syntax.goal (byte q) title e)

-- variables, names of a `let`, numbers and names of constants, pairs of imports

abbrev pub var : ℕ → Order → Bytes → Variable
var p o n = record { at = byte p; order = o; name = n; domain = syntax.unrestricted }

abbrev pub var_where : ℕ → Order → Bytes → Expression → Variable
var_where p o n e = record { at = byte p; order = o; name = n; domain = syntax.restricted e }

abbrev pub part : ℕ → Bytes → Expression → Part
part p n e = record { at = byte p; name = n; value = e }

-- true where `-` stands before it
abbrev pub int : ℕ → ℕ → Bool → PlacedInt
int p n minus = record { at = byte p; value = Number n; minus = minus }

abbrev pub int_named : ℕ → Bytes → Bool → PlacedInt
int_named p n minus = record { at = byte p; value = Constant n; minus = minus }

abbrev pub rename : ℕ → Bytes → ℕ → Bytes → Rename
rename p left q right = record { at = byte p; left = left; at_right = byte q; right = right }

-- expressions

abbrev pub yes : ℕ → Expression
yes p = syntax.atom (byte p) syntax.truth

abbrev pub everything : ℕ → Expression
everything p = syntax.atom (byte p) syntax.whole

abbrev pub nothing : ℕ → Expression
nothing p = syntax.atom (byte p) syntax.empty_set

abbrev pub named : ℕ → Bytes → Expression
named p n = syntax.atom (byte p) (syntax.named n)

abbrev pub num : ℕ → ℕ → Expression
num p n = syntax.atom (byte p) (syntax.numeral n)

abbrev pub bits : ℕ → PlacedInt → Expression
bits p i = syntax.atom (byte p) (syntax.pconst i)

abbrev pub paren : ℕ → Expression → Expression
paren p e = syntax.enclosed (byte p) bracket.Parentheses e

abbrev pub set_of : ℕ → List Expression → Expression
set_of p es = syntax.listed (byte p) listing.Literal (expressions_behind syntax.no_expressions es)

abbrev pub called : ℕ → Bytes → List Expression → Expression
called p n es = syntax.listed (byte p) (listing.Call n) (expressions_behind syntax.no_expressions es)

abbrev pub negated : ℕ → Expression → Expression
negated p e = syntax.prefixed (byte p) prefix.Negation e

abbrev pub all_of : Expression → List Expression → Expression
all_of e es = syntax.joined (place e) junction.Conjunction (expressions_behind syntax.no_expressions (e ∷ es))

abbrev pub any_of : Expression → List Expression → Expression
any_of e es = syntax.joined (place e) junction.Disjunction (expressions_behind syntax.no_expressions (e ∷ es))

abbrev pub implies : Expression → Expression → Expression
implies e f = syntax.binary (place e) binary.Implication e f

abbrev pub iff : Expression → Expression → Expression
iff e f = syntax.binary (place e) binary.Equivalence e f

abbrev pub related : Rel → Expression → Expression → Expression
related r e f = syntax.binary (place e) (binary.Relation r) e f

abbrev pub is_empty : ℕ → Expression → Expression
is_empty p e = syntax.enclosed (byte p) bracket.Emptiness e

abbrev pub united : Expression → Expression → Expression
united e f = syntax.binary (place e) binary.Union e f

abbrev pub met : Expression → Expression → Expression
met e f = syntax.binary (place e) binary.Intersection e f

abbrev pub without : Expression → Expression → Expression
without e f = syntax.binary (place e) binary.Difference e f

abbrev pub moved : Expression → PlacedInt → Expression
moved e i = syntax.shifted (place e) e i

abbrev pub least : ℕ → Expression → Expression
least p e = syntax.prefixed (byte p) prefix.Minimum e

abbrev pub greatest : ℕ → Expression → Expression
greatest p e = syntax.prefixed (byte p) prefix.Maximum e

-- the order of the variables of a quantifier
abbrev pub order_of_variables : List Variable → Order
order_of_variables [] = Zero
order_of_variables (v ∷ vs) = v.order

abbrev pub exists : ℕ → List Variable → Expression → Expression
exists p vs e = syntax.quantified (byte p) Ex (order_of_variables vs) (variables_behind syntax.no_variables vs) e

abbrev pub for_all : ℕ → List Variable → Expression → Expression
for_all p vs e = syntax.quantified (byte p) All (order_of_variables vs) (variables_behind syntax.no_variables vs) e

abbrev pub let_in : ℕ → Order → List Part → Expression → Expression
let_in p o ps e = syntax.let_in (byte p) o (parts_behind syntax.no_parts ps) e

abbrev pub restricted_to : ℕ → Expression → Expression
restricted_to p e = syntax.enclosed (byte p) bracket.Restriction e

abbrev pub import_of : ℕ → Bytes → List Rename → Expression
import_of p file rs = syntax.atom (byte p) (syntax.imported file rs)

abbrev pub export_to : ℕ → ℕ → Bytes → Expression → Expression
export_to p q file e = syntax.enclosed (byte p) (bracket.Export (byte q) file) e

-- what a source of natural numbers becomes: its formulas, the restrictions of its globals, its predicates, its imports and
-- its exports

abbrev pub formulas_in : List Declared → List (Option Form)
formulas_in ds = map (λ f. option_map (λ typed. typed.formula) f) (formulas_of_source Ws1s ds)

abbrev pub restrictions_in : List Declared → List (Option Restriction)
restrictions_in ds = map (λ g. option_map (λ typed. typed.restriction) g) (globals_of_source Ws1s ds)

abbrev pub predicates_in : List Declared → List (Option Predicate)
predicates_in ds = predicates_of_source Ws1s ds

abbrev pub imports_in : List Declared → List ImportUse
imports_in ds = imports_of_source Ws1s ds

abbrev pub exports_in : List Declared → List ExportUse
exports_in ds = exports_of_source Ws1s ds

-- an export of the name "a"
abbrev pub export_of : ℕ → List ℕ → List Bytes → ExportUse
export_of p variables names = record { at = byte p; name = codes "a"; variables = variables; names = names }

-- a pair of an import
abbrev pub pair : Bytes → ℕ → Order → MapPair
pair n x o = record { name = n; variable = x; order = o }

abbrev pub import_with : ℕ → List MapPair → ImportUse
import_with p pairs = record { at = byte p; name = codes "a"; pairs = pairs }

-- parameters, and a predicate with them and its body

abbrev pub parameter : ℕ → Order → Restriction → tree.Declaration
parameter x o d = record { variable = record { name = x; order = o }; restriction = d }

abbrev pub predicate_with : List tree.Declaration → Form → Predicate
predicate_with parameters body = record { parameters = parameters; body = body }

-- relations of two numbers and of two sets

abbrev pub less : Term → Term → Form
less t u = tree.comparison Less t u

abbrev pub equal : Term → Term → Form
equal t u = tree.comparison Equal t u

abbrev pub same_sets : SetTerm → SetTerm → Form
same_sets s t = tree.set_comparison Equal s t

abbrev pub ex : Order → ℕ → Restriction → Form → Form
ex o x d f = tree.quantified Ex o x d f

abbrev pub one_number : Term → Arguments
one_number t = tree.more_arguments (tree.number_argument t) tree.no_arguments

abbrev pub two_numbers : Term → Term → Arguments
two_numbers t u = tree.more_arguments (tree.number_argument t) (one_number u)

abbrev pub two_formulas : Form → Form → Forms
two_formulas f g = tree.more_forms f (tree.more_forms g tree.no_forms)

abbrev pub no : ℕ → Expression
no p = syntax.atom (byte p) syntax.falsity
