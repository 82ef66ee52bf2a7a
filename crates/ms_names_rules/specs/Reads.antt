-- What expressions read, and the variables that are free in them: through the predicates that they call and the default
-- restrictions of the variables that they bind.
use Rattle.std.specs.Prelude.{ℕ, ◌==◌, Bool, true, false, if◌then◌else◌, List, [], ◌∷◌, ◌++◌, length, filter, flat_map, Option, Some, None}
use Rattle.ms_logic.specs.declared.source.Rename.{Rename}
use Rattle.ms_names_rules.specs.declared.meaning.Meaning.{Meaning}
use Rattle.ms_names_rules.specs.declared.meaning.Meaning.TheVariants as meaning
use Rattle.ms_names_rules.specs.declared.meaning.Reading.{Reading}
use Rattle.ms_names_rules.specs.declared.meaning.Reading.TheVariants.{Variable, Predicate}
use Rattle.ms_parse_grammar.specs.Tree.{named, imported, Expression, atom, listed, quantified, Variables, no_variables, and_variable, unrestricted, restricted}
use Rattle.ms_parse_grammar.specs.declared.operator.Listing.TheVariants.{Call}
use Rattle.ms_names_rules.specs.Scope.{Scope, meaning_of, default_of, Named, variables_among}
use Rattle.ms_names_rules.specs.Before.{Before}
use Rattle.ms_names_rules.specs.Order.{formula_wanted}
use Rattle.ms_names_rules.specs.Occurrence.{Occurrence, occurrences}

-- a name by itself: a variable, or a predicate that is called
abbrev pub readings_of_name : Option Meaning → List Reading
readings_of_name None = []
readings_of_name (Some (meaning.Variable x o)) = Variable x ∷ []
readings_of_name (Some (meaning.Constant value)) = []
readings_of_name (Some (meaning.Predicate p parameters)) = Predicate p ∷ []

-- a name before brackets; a variable there is misused and is not read
abbrev pub readings_of_call : Option Meaning → List Reading
readings_of_call None = []
readings_of_call (Some (meaning.Variable x o)) = []
readings_of_call (Some (meaning.Constant value)) = []
readings_of_call (Some (meaning.Predicate p parameters)) = Predicate p ∷ []

abbrev pub readings_of_default : Option ℕ → List Reading
readings_of_default None = []
readings_of_default (Some p) = Predicate p ∷ []

-- the default restrictions of the variables of a list that have none of their own
abbrev pub readings_of_bounds : Scope → Variables → List Reading
readings_of_bounds s no_variables = []
readings_of_bounds s (and_variable vs at o n unrestricted) = readings_of_bounds s vs ++ readings_of_default (default_of s o)
readings_of_bounds s (and_variable vs at o n (restricted e)) = readings_of_bounds s vs

-- a name on the right of an import
abbrev pub readings_of_variable : Option Meaning → List Reading
readings_of_variable None = []
readings_of_variable (Some (meaning.Variable x o)) = Variable x ∷ []
readings_of_variable (Some (meaning.Constant value)) = []
readings_of_variable (Some (meaning.Predicate p parameters)) = []

abbrev pub readings_of_renames : Scope → List Rename → List Reading
readings_of_renames s [] = []
readings_of_renames s (r ∷ rs) = readings_of_variable (meaning_of s r.right) ++ readings_of_renames s rs

-- what an expression reads itself, beside those inside it
abbrev pub readings_of_form : Scope → Expression → List Reading
readings_of_form s (atom at (named n)) = readings_of_name (meaning_of s n)
readings_of_form s (listed at (Call n) es) = readings_of_call (meaning_of s n)
readings_of_form s (quantified at q o vs e) = readings_of_bounds s vs
readings_of_form s (atom at (imported file rs)) = readings_of_renames s rs
readings_of_form s _ = []

abbrev pub readings_at : Occurrence → List Reading
readings_at o = readings_of_form o.scope o.expression

abbrev pub reads_predicate : ℕ → List Reading → Bool
reads_predicate p [] = false
reads_predicate p (Variable x ∷ more) = reads_predicate p more
reads_predicate p (Predicate q ∷ more) = if p == q then true else reads_predicate p more

abbrev pub reads_variable : ℕ → List Reading → Bool
reads_variable x [] = false
reads_variable x (Variable y ∷ more) = if x == y then true else reads_variable x more
reads_variable x (Predicate q ∷ more) = reads_variable x more

-- with what is read through predicates: a predicate that is read adds what it reads itself. A predicate reads only those
-- before it, and the last stands first.
abbrev pub with_predicates : List (List Reading) → List Reading → List Reading
with_predicates [] rs = rs
with_predicates (last ∷ earlier) rs = with_predicates earlier (if reads_predicate (length earlier) rs then rs ++ last else rs)

-- those variables of a scope that are read, through predicates too: the globals in their order, then the others, the
-- outermost first
abbrev pub variables_read : Scope → List Reading → List Named
variables_read s rs =
    let all = with_predicates s.readings rs in
    filter (λ v. reads_variable v.number all) (variables_among s.names)

-- the free variables of a formula: those that it reads and that are bound outside it
abbrev pub free_variables : Scope → Before → Expression → List Named
free_variables s b e = variables_read s (flat_map readings_at (occurrences s b formula_wanted e))
