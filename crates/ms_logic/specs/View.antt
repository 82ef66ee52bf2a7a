-- The mathematical tree that a tree of the code stands for.
use Rattle.std.specs.Prelude.{ℕ, ◌+◌, List, [], ◌∷◌, Option, Some, None, filter, map}
use Rattle.std.specs.Option.{is_none, is_some, option_map}
use Rattle.std.specs.List.{zip}
use Rattle.ms_logic.specs.declared.term.Term1.{Term1}
use Rattle.ms_logic.specs.declared.term.Term2.{Term2}
use Rattle.ms_logic.specs.declared.term.Term1.TheOpen.{Term1-F, Term2-F}
use Rattle.ms_logic.specs.declared.term.Term1.TheFolds.{fold-Term1, fold-Term2}
use Rattle.ms_logic.specs.declared.formula.Arg.{Arg}
use Rattle.ms_logic.specs.declared.formula.Binding.{Binding}
use Rattle.ms_logic.specs.declared.formula.Formula.{Formula}
use Rattle.ms_logic.specs.declared.formula.Arg.TheOpen.{Formula-F, Arg-F, Binding-F}
use Rattle.ms_logic.specs.declared.formula.Arg.TheFolds.{fold-Formula, fold-Arg, fold-Binding}
use Rattle.ms_logic.specs.declared.checked.Checked.{Checked}
use Rattle.ms_logic.specs.declared.checked.Global.{Global}
use Rattle.ms_logic.specs.declared.checked.ImportUse.{ImportUse}
use Rattle.ms_logic.specs.declared.checked.Param.{Param}
use Rattle.ms_logic.specs.declared.checked.Placed.{Placed}
use Rattle.ms_logic.specs.declared.checked.Predicate as code
use Rattle.ms_logic.specs.declared.assignment.Value.{Value}
use Rattle.ms_logic.specs.Assignment.{Universe}
use Rattle.ms_logic.specs.Truth.{Answer, Import}
use Rattle.ms_logic.specs.Verdict.{Problem}
use Rattle.ms_logic.specs.Tree.{Term, number_variable, numeral, plus, minus, minimum, maximum, SetTerm, set_variable, empty_set, whole, literal, pconst, union, intersection, difference, shift_up, shift_down, Terms, no_terms, more_terms}
use Rattle.ms_logic.specs.Tree.{Form, truth, falsity, truth_variable, negation, conjunction, disjunction, implication, equivalence, comparison, set_comparison, membership, emptiness, quantified, where_let, call, restrict, imported, exported, default_at, Forms, no_forms, more_forms, Restriction, unrestricted, restricted, Argument, truth_argument, number_argument, set_argument, Arguments, no_arguments, more_arguments, Declaration, Predicate}

abbrev pub terms : List Term → Terms
terms [] = no_terms
terms (t ∷ ts) = more_terms t (terms ts)

-- one level of a term of order 1
abbrev pub term_at : Term1-F Term SetTerm → Term
term_at (Term1-F.«Term1::Var» x) = number_variable x
term_at (Term1-F.Number n) = numeral n
term_at (Term1-F.Plus t n) = plus t n
term_at (Term1-F.«Term1::Minus» t n) = minus t n
term_at (Term1-F.Min s) = minimum s
term_at (Term1-F.Max s) = maximum s

-- one level of a term of order 2
abbrev pub set_term_at : Term2-F Term SetTerm → SetTerm
set_term_at (Term2-F.«Term2::Var» x) = set_variable x
set_term_at Term2-F.EmptySet = empty_set
set_term_at Term2-F.Whole = whole
set_term_at (Term2-F.Literal ts) = literal (terms ts)
set_term_at (Term2-F.Pconst n) = pconst n
set_term_at (Term2-F.Union s t) = union s t
set_term_at (Term2-F.Inter s t) = intersection s t
set_term_at (Term2-F.«Term2::Minus» s t) = difference s t
set_term_at (Term2-F.Up s n) = shift_up s n
set_term_at (Term2-F.Down s n) = shift_down s n

abbrev pub term_of : Term1 → Term
term_of t = fold-Term1 Term SetTerm term_at set_term_at t

abbrev pub set_term_of : Term2 → SetTerm
set_term_of s = fold-Term2 Term SetTerm term_at set_term_at s

abbrev pub forms : List Form → Forms
forms [] = no_forms
forms (f ∷ fs) = more_forms f (forms fs)

abbrev pub restriction : Option Form → Restriction
restriction None = unrestricted
restriction (Some d) = restricted d

abbrev pub arguments : List Argument → Arguments
arguments [] = no_arguments
arguments (a ∷ more) = more_arguments a (arguments more)

abbrev pub argument_at : Arg-F Argument Form (ℕ × Argument) → Argument
argument_at (Arg-F.Zero f) = truth_argument f
argument_at (Arg-F.One t) = number_argument (term_of t)
argument_at (Arg-F.Two s) = set_argument (set_term_of s)

-- a name of a `let` with its right side
abbrev pub binding_at : Binding-F Argument Form (ℕ × Argument) → ℕ × Argument
binding_at b = (b.variable, b.value)

-- one level of a formula
abbrev pub form_at : Formula-F Argument Form (ℕ × Argument) → Form
form_at Formula-F.True = truth
form_at Formula-F.False = falsity
form_at (Formula-F.Var x) = truth_variable x
form_at (Formula-F.Not f) = negation f
form_at (Formula-F.And fs) = conjunction (forms fs)
form_at (Formula-F.Or fs) = disjunction (forms fs)
form_at (Formula-F.Implies f g) = implication f g
form_at (Formula-F.Iff f g) = equivalence f g
form_at (Formula-F.Compare r t u) = comparison r (term_of t) (term_of u)
form_at (Formula-F.CompareSets r s t) = set_comparison r (set_term_of s) (set_term_of t)
form_at (Formula-F.Member positive t s) = membership positive (term_of t) (set_term_of s)
form_at (Formula-F.IsEmpty s) = emptiness (set_term_of s)
form_at (Formula-F.Bind q o x d f) = quantified q o x (restriction d) f
form_at (Formula-F.Let bindings f) = where_let (map (λ b. b.0) bindings) (arguments (map (λ b. b.1) bindings)) f
form_at (Formula-F.Call p given) = call p (arguments given)
form_at (Formula-F.Restrict f) = restrict f
form_at (Formula-F.Import i) = imported i
form_at (Formula-F.Export i f) = exported i f
form_at (Formula-F.Domain p x) = default_at p x

-- the formula that a tree of the code stands for
abbrev pub formula_of : Formula → Form
formula_of f = fold-Formula Argument Form (ℕ × Argument) argument_at form_at binding_at f

abbrev pub argument_of : Arg → Argument
argument_of a = fold-Arg Argument Form (ℕ × Argument) argument_at form_at binding_at a

abbrev pub binding_of : Binding → ℕ × Argument
binding_of b = fold-Binding Argument Form (ℕ × Argument) argument_at form_at binding_at b

-- a parameter
abbrev pub declaration_of : Param → Declaration
declaration_of p = record {
  variable = record { name = p.variable; order = p.order };
  restriction = restriction (option_map formula_of p.domain);
}

abbrev pub predicate_of : code.Predicate → Predicate
predicate_of p = record { parameters = map declaration_of p.params; body = formula_of p.body }

-- the globals, whose numbers as variables go on from a count
abbrev pub globals_from : ℕ → List Global → List Declaration
globals_from count [] = []
globals_from count (g ∷ more) =
    record { variable = record { name = count; order = g.order }; restriction = restriction (option_map formula_of g.domain) }
    ∷ globals_from (count + 1) more

-- an import of an automaton with these answers
abbrev pub import_of : ImportUse → (Universe → List Value → Answer) → Import
import_of used answer = record { variables = map (λ p. record { name = p.variable; order = p.order }) used.pairs; answer = answer }

-- the answers of imported automata, one after the other
abbrev pub Answers : Type 0
Answers = List (Universe → List Value → Answer)

-- What some formulas of a source ask, where its imported automata have these answers: their value is that of their conjunction, under the
-- restrictions of all globals.
abbrev pub question_of : Checked → Answers → List Placed → Problem
question_of checked answers asked = record {
  mode = checked.mode;
  globals = globals_from 0 checked.globals;
  given = record {
    predicates = map predicate_of checked.predicates;
    imports = map (λ p. import_of p.0 p.1) (zip checked.imports answers);
  };
  formulas = forms (map (λ placed. formula_of placed.formula) asked);
}

-- the source that a checked one stands for, with all its formulas
abbrev pub problem_of : Checked → Answers → Problem
problem_of checked answers = question_of checked answers checked.formulas

-- the formulas of the formula declarations, and the goals
abbrev pub declared_in : Checked → List Placed
declared_in checked = filter (λ placed. is_none placed.title) checked.formulas

abbrev pub goals_in : Checked → List Placed
goals_in checked = filter (λ placed. is_some placed.title) checked.formulas

-- what the formula declarations ask, and what a goal asks
abbrev pub main_question : Checked → Answers → Problem
main_question checked answers = question_of checked answers (declared_in checked)

abbrev pub goal_question : Checked → Answers → Placed → Problem
goal_question checked answers goal = question_of checked answers (goal ∷ [])
