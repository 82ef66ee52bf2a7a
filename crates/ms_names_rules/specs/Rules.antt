-- The rules of names, orders, constants and places: what is wrong with an expression that stands somewhere, beside what
-- is wrong with those inside it.
use Rattle.std.specs.Prelude.{ℕ, ◌==◌, Bool, true, false, not, if◌then◌else◌, nat_lt, List, [], ◌∷◌, ◌++◌, length, bytes_eq, Option, Some, None}
use Rattle.ms_list.specs.declared.at.At.{At}
use Rattle.ms_logic.specs.declared.checked.ExportUse.{ExportUse}
use Rattle.ms_logic.specs.declared.mode.Mode.{Mode}
use Rattle.ms_logic.specs.declared.mode.Mode.TheVariants.{Ws1s, M2lStr}
use Rattle.ms_logic.specs.declared.source.Int.{Int}
use Rattle.ms_logic.specs.declared.source.Int.TheVariants.{Number, Constant}
use Rattle.ms_logic.specs.declared.source.PlacedInt.{PlacedInt}
use Rattle.ms_logic.specs.declared.source.Rename.{Rename}
use Rattle.ms_parse_grammar.specs.Tree.{whole, named, numeral, pconst, imported, Expression, atom, prefixed, binary, joined, shifted, enclosed, listed, quantified, let_in, Variables, no_variables, and_variable, Parts, no_parts, and_part}
use Rattle.ms_parse_grammar.specs.declared.operator.Bracket.TheVariants.{Export}
use Rattle.ms_parse_grammar.specs.declared.operator.Listing.TheVariants.{Call}
use Rattle.ms_names_rules.specs.Scope.{Bytes, Scope, count, meaning_of}
use Rattle.ms_names_rules.specs.declared.meaning.Meaning.{Meaning}
use Rattle.ms_names_rules.specs.declared.meaning.Meaning.TheVariants as meaning
use Rattle.ms_names_rules.specs.declared.wanted.Wanted.{Wanted}
use Rattle.ms_names_rules.specs.Order.{order_of, fits}
use Rattle.ms_names_rules.specs.Constant.{value_of, greatest_in_terms}
use Rattle.ms_names_rules.specs.declared.fault.Fault.{Fault}
use Rattle.ms_names_rules.specs.declared.fault.Fault.TheVariants.{UnknownName, NamedTwice, WrongOrder, WrongCount, OutOfRange, NotHere}
use Rattle.ms_names_rules.specs.Occurrence.{Occurrence}

-- a fault where a condition holds
abbrev pub in_case : Bool → Fault → List Fault
in_case true f = f ∷ []
in_case false f = []

abbrev pub is_name_among : Bytes → List Bytes → Bool
is_name_among n [] = false
is_name_among n (m ∷ more) = if bytes_eq m n then true else is_name_among n more

-- the place of the first token
abbrev pub place : Expression → At
place (atom at a) = at
place (prefixed at op e) = at
place (binary at op l r) = at
place (joined at op es) = at
place (shifted at e i) = at
place (enclosed at k e) = at
place (listed at l es) = at
place (quantified at q o vs e) = at
place (let_in at o ps e) = at

-- 22: the order is not the wanted one, at the first token
abbrev pub faults_of_order : Scope → Wanted → Expression → List Fault
faults_of_order s w e = if fits w (order_of s e) then [] else WrongOrder (place e) ∷ []

-- a name by itself: 20 where it is unknown; 23 where it is a predicate with parameters; 24 where it is a constant that is
-- too large for a term
abbrev pub faults_of_name : At → Bytes → Option Meaning → List Fault
faults_of_name at n None = UnknownName at n ∷ []
faults_of_name at n (Some (meaning.Variable x o)) = []
faults_of_name at n (Some (meaning.Constant value)) = in_case (nat_lt greatest_in_terms value) (OutOfRange at)
faults_of_name at n (Some (meaning.Predicate p parameters)) = in_case (nat_lt 0 (length parameters)) (WrongCount at n 0 (length parameters))

-- a name before brackets, with a number of arguments: 20 where it is unknown; 22 where it is no predicate or macro; 23
-- where it has another number of parameters
abbrev pub faults_of_call : At → Bytes → ℕ → Option Meaning → List Fault
faults_of_call at n given None = UnknownName at n ∷ []
faults_of_call at n given (Some (meaning.Variable x o)) = WrongOrder at ∷ []
faults_of_call at n given (Some (meaning.Constant value)) = WrongOrder at ∷ []
faults_of_call at n given (Some (meaning.Predicate p parameters)) =
    if given == length parameters then [] else WrongCount at n given (length parameters) ∷ []

-- a name in the place of a number: 20 where it is unknown; 22 where it is no constant
abbrev pub faults_of_constant : At → Bytes → Option Meaning → List Fault
faults_of_constant at n None = UnknownName at n ∷ []
faults_of_constant at n (Some (meaning.Variable x o)) = WrongOrder at ∷ []
faults_of_constant at n (Some (meaning.Constant value)) = []
faults_of_constant at n (Some (meaning.Predicate p parameters)) = WrongOrder at ∷ []

abbrev pub faults_of_int : Scope → At → Int → List Fault
faults_of_int s at (Number n) = []
faults_of_int s at (Constant n) = faults_of_constant at n (meaning_of s n)

abbrev pub faults_of_placed : Scope → PlacedInt → List Fault
faults_of_placed s i = faults_of_int s i.at i.value

-- 24: a number after `+` or `-` in a term that is too large
abbrev pub faults_of_offset : At → Option ℕ → List Fault
faults_of_offset at None = []
faults_of_offset at (Some n) = in_case (nat_lt greatest_in_terms n) (OutOfRange at)

-- 25: `$` stands in M2L-Str alone
abbrev pub faults_of_whole : Mode → At → List Fault
faults_of_whole Ws1s at = NotHere at ∷ []
faults_of_whole M2lStr at = []

-- 21: a name that is among those before it
abbrev pub faults_of_repeat : At → Bytes → List Bytes → List Fault
faults_of_repeat at n earlier = in_case (is_name_among n earlier) (NamedTwice at n)

-- the names of a list, the last first, before those that come earlier
abbrev pub with_names_of_bounds : List Bytes → Variables → List Bytes
with_names_of_bounds earlier no_variables = earlier
with_names_of_bounds earlier (and_variable vs at o n d) = n ∷ with_names_of_bounds earlier vs

abbrev pub with_names_of_parts : List Bytes → Parts → List Bytes
with_names_of_parts earlier no_parts = earlier
with_names_of_parts earlier (and_part ps at n e) = n ∷ with_names_of_parts earlier ps

-- in one list of variables or parameters
abbrev pub faults_of_bounds : List Bytes → Variables → List Fault
faults_of_bounds earlier no_variables = []
faults_of_bounds earlier (and_variable vs at o n d) =
    faults_of_bounds earlier vs ++ faults_of_repeat at n (with_names_of_bounds earlier vs)

-- in one `let`
abbrev pub faults_of_parts : List Bytes → Parts → List Fault
faults_of_parts earlier no_parts = []
faults_of_parts earlier (and_part ps at n e) =
    faults_of_parts earlier ps ++ faults_of_repeat at n (with_names_of_parts earlier ps)

-- the right name of an import: 20 where it is unknown; 22 where it is no variable
abbrev pub faults_of_variable : At → Bytes → Option Meaning → List Fault
faults_of_variable at n None = UnknownName at n ∷ []
faults_of_variable at n (Some (meaning.Variable x o)) = []
faults_of_variable at n (Some (meaning.Constant value)) = WrongOrder at ∷ []
faults_of_variable at n (Some (meaning.Predicate p parameters)) = WrongOrder at ∷ []

-- in an import, whose left names and whose right names are two lists
abbrev pub faults_of_renames : Scope → List Bytes → List Bytes → List Rename → List Fault
faults_of_renames s lefts rights [] = []
faults_of_renames s lefts rights (r ∷ rs) =
    faults_of_repeat r.at r.left lefts
    ++ (faults_of_variable r.at_right r.right (meaning_of s r.right)
    ++ (faults_of_repeat r.at_right r.right rights ++ faults_of_renames s (r.left ∷ lefts) (r.right ∷ rights) rs))

-- what is wrong with an expression by its own form
abbrev pub faults_of_form : Scope → Expression → List Fault
faults_of_form s (atom at whole) = faults_of_whole s.mode at
faults_of_form s (atom at (named n)) = faults_of_name at n (meaning_of s n)
-- 24: a number that is too large for a term
faults_of_form s (atom at (numeral n)) = in_case (nat_lt greatest_in_terms n) (OutOfRange at)
faults_of_form s (atom at (pconst i)) = faults_of_placed s i
faults_of_form s (listed at (Call n) es) = faults_of_call at n (count es) (meaning_of s n)
faults_of_form s (shifted at e i) = faults_of_placed s i ++ faults_of_offset i.at (value_of s i)
faults_of_form s (quantified at q o vs e) = faults_of_bounds [] vs
faults_of_form s (let_in at o ps e) = faults_of_parts [] ps
faults_of_form s (atom at (imported file rs)) = faults_of_renames s [] [] rs
-- 25: an export where none may stand
faults_of_form s (enclosed at (Export text_at file) e) = in_case (not s.exports_allowed) (NotHere at)
faults_of_form s _ = []

-- what is wrong with an expression where it stands
abbrev pub faults_at : Occurrence → List Fault
faults_at o = faults_of_order o.scope o.wanted o.expression ++ faults_of_form o.scope o.expression

-- the first name of a list that stands there twice
abbrev pub first_name_twice : List Bytes → Option Bytes
first_name_twice [] = None
first_name_twice (n ∷ more) = if is_name_among n more then Some n else first_name_twice more

abbrev pub faults_of_names : At → Option Bytes → List Fault
faults_of_names at None = []
faults_of_names at (Some n) = NamedTwice at n ∷ []

-- 21 at the text of an export: an export with one of these file names comes earlier and has its file name, or else two of
-- its variables have one name
abbrev pub faults_of_export : List Bytes → ExportUse → List Fault
faults_of_export earlier x =
    if is_name_among x.name earlier then NamedTwice x.at x.name ∷ [] else faults_of_names x.at (first_name_twice x.names)

abbrev pub faults_of_exports : List Bytes → List ExportUse → List Fault
faults_of_exports earlier [] = []
faults_of_exports earlier (x ∷ xs) = faults_of_export earlier x ++ faults_of_exports (x.name ∷ earlier) xs
