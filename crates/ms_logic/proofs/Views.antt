-- The mathematical tree of each form of the code's trees, for the crates that build them or take them apart.
use Rattle.std.proofs.Common.{◌≡◌, ℕ, Bool, List, map, Some, None, ap, sym, ◌∙◌}
use Rattle.ms_logic.specs.declared.mode.Order.{Order}
use Rattle.ms_logic.specs.declared.mode.Quant.{Quant}
use Rattle.ms_logic.specs.declared.mode.Rel.{Rel}
use Rattle.ms_logic.specs.declared.term.Term1.{Term1}
use Rattle.ms_logic.specs.declared.term.Term2.{Term2}
use Rattle.ms_logic.specs.declared.term.Term1.TheVariants as one
use Rattle.ms_logic.specs.declared.term.Term2.TheVariants as two
use Rattle.ms_logic.specs.declared.term.Term1.TheOpen.{Term1-F, Term2-F}
use Rattle.ms_logic.specs.declared.term.Term1.TheFolds.{fold-roll-Term1, fold-roll-Term2}
use Rattle.ms_logic.specs.declared.formula.Formula.{Formula}
use Rattle.ms_logic.specs.declared.formula.Formula.TheVariants as form
use Rattle.ms_logic.specs.declared.formula.Arg.{Arg}
use Rattle.ms_logic.specs.declared.formula.Arg.TheVariants as arg
use Rattle.ms_logic.specs.declared.formula.Binding.{Binding}
use Rattle.ms_logic.specs.declared.formula.Arg.TheOpen.{Formula-F, Arg-F}
use Rattle.ms_logic.specs.declared.formula.Arg.TheFolds.{fold-roll-Formula, fold-roll-Arg}
use Rattle.ms_logic.specs.Tree.{Term, number_variable, numeral, plus, minus, minimum, maximum, SetTerm, set_variable, empty_set, whole, literal, pconst, union, intersection, difference, shift_up, shift_down, Form, truth, falsity, truth_variable, negation, conjunction, disjunction, implication, equivalence, comparison, set_comparison, membership, emptiness, quantified, where_let, call, restrict, imported, exported, default_at, unrestricted, restricted, Argument, truth_argument, number_argument, set_argument}
use Rattle.ms_logic.specs.View.{terms, term_at, set_term_at, term_of, set_term_of, forms, arguments, argument_at, binding_at, form_at, formula_of, argument_of, binding_of}

-- one level of a term, of a formula and of a core formula

pub term_of-Var : (x : ℕ) → term_of (one.Var x) ≡ number_variable x
term_of-Var x = ap term_of (sym (one.rolls-Var x)) ∙ fold-roll-Term1 Term SetTerm term_at set_term_at (Term1-F.«Term1::Var» x)

pub term_of-Number : (n : ℕ) → term_of (one.Number n) ≡ numeral n
term_of-Number n = ap term_of (sym (one.rolls-Number n)) ∙ fold-roll-Term1 Term SetTerm term_at set_term_at (Term1-F.Number n)

pub term_of-Plus : (t : Term1) (n : ℕ) → term_of (one.Plus t n) ≡ plus (term_of t) n
term_of-Plus t n = ap term_of (sym (one.rolls-Plus t n)) ∙ fold-roll-Term1 Term SetTerm term_at set_term_at (Term1-F.Plus t n)

pub term_of-Minus : (t : Term1) (n : ℕ) → term_of (one.Minus t n) ≡ minus (term_of t) n
term_of-Minus t n = ap term_of (sym (one.rolls-Minus t n)) ∙ fold-roll-Term1 Term SetTerm term_at set_term_at (Term1-F.«Term1::Minus» t n)

pub term_of-Min : (s : Term2) → term_of (one.Min s) ≡ minimum (set_term_of s)
term_of-Min s = ap term_of (sym (one.rolls-Min s)) ∙ fold-roll-Term1 Term SetTerm term_at set_term_at (Term1-F.Min s)

pub term_of-Max : (s : Term2) → term_of (one.Max s) ≡ maximum (set_term_of s)
term_of-Max s = ap term_of (sym (one.rolls-Max s)) ∙ fold-roll-Term1 Term SetTerm term_at set_term_at (Term1-F.Max s)

pub set_term_of-Var : (x : ℕ) → set_term_of (two.Var x) ≡ set_variable x
set_term_of-Var x = ap set_term_of (sym (two.rolls-Var x)) ∙ fold-roll-Term2 Term SetTerm term_at set_term_at (Term2-F.«Term2::Var» x)

pub set_term_of-EmptySet : set_term_of two.EmptySet ≡ empty_set
set_term_of-EmptySet = ap set_term_of (sym two.rolls-EmptySet) ∙ fold-roll-Term2 Term SetTerm term_at set_term_at Term2-F.EmptySet

pub set_term_of-Whole : set_term_of two.Whole ≡ whole
set_term_of-Whole = ap set_term_of (sym two.rolls-Whole) ∙ fold-roll-Term2 Term SetTerm term_at set_term_at Term2-F.Whole

pub set_term_of-Literal : (ts : List Term1) → set_term_of (two.Literal ts) ≡ literal (terms (map term_of ts))
set_term_of-Literal ts = ap set_term_of (sym (two.rolls-Literal ts)) ∙ fold-roll-Term2 Term SetTerm term_at set_term_at (Term2-F.Literal ts)

pub set_term_of-Pconst : (n : ℕ) → set_term_of (two.Pconst n) ≡ pconst n
set_term_of-Pconst n = ap set_term_of (sym (two.rolls-Pconst n)) ∙ fold-roll-Term2 Term SetTerm term_at set_term_at (Term2-F.Pconst n)

pub set_term_of-Union : (s t : Term2) → set_term_of (two.Union s t) ≡ union (set_term_of s) (set_term_of t)
set_term_of-Union s t = ap set_term_of (sym (two.rolls-Union s t)) ∙ fold-roll-Term2 Term SetTerm term_at set_term_at (Term2-F.Union s t)

pub set_term_of-Inter : (s t : Term2) → set_term_of (two.Inter s t) ≡ intersection (set_term_of s) (set_term_of t)
set_term_of-Inter s t = ap set_term_of (sym (two.rolls-Inter s t)) ∙ fold-roll-Term2 Term SetTerm term_at set_term_at (Term2-F.Inter s t)

pub set_term_of-Minus : (s t : Term2) → set_term_of (two.Minus s t) ≡ difference (set_term_of s) (set_term_of t)
set_term_of-Minus s t = ap set_term_of (sym (two.rolls-Minus s t)) ∙ fold-roll-Term2 Term SetTerm term_at set_term_at (Term2-F.«Term2::Minus» s t)

pub set_term_of-Up : (s : Term2) (n : ℕ) → set_term_of (two.Up s n) ≡ shift_up (set_term_of s) n
set_term_of-Up s n = ap set_term_of (sym (two.rolls-Up s n)) ∙ fold-roll-Term2 Term SetTerm term_at set_term_at (Term2-F.Up s n)

pub set_term_of-Down : (s : Term2) (n : ℕ) → set_term_of (two.Down s n) ≡ shift_down (set_term_of s) n
set_term_of-Down s n = ap set_term_of (sym (two.rolls-Down s n)) ∙ fold-roll-Term2 Term SetTerm term_at set_term_at (Term2-F.Down s n)

pub argument_of-Zero : (f : Formula) → argument_of (arg.Zero f) ≡ truth_argument (formula_of f)
argument_of-Zero f = ap argument_of (sym (arg.rolls-Zero f)) ∙ fold-roll-Arg Argument Form (ℕ × Argument) argument_at form_at binding_at (Arg-F.Zero f)

pub argument_of-One : (t : Term1) → argument_of (arg.One t) ≡ number_argument (term_of t)
argument_of-One t = ap argument_of (sym (arg.rolls-One t)) ∙ fold-roll-Arg Argument Form (ℕ × Argument) argument_at form_at binding_at (Arg-F.One t)

pub argument_of-Two : (s : Term2) → argument_of (arg.Two s) ≡ set_argument (set_term_of s)
argument_of-Two s = ap argument_of (sym (arg.rolls-Two s)) ∙ fold-roll-Arg Argument Form (ℕ × Argument) argument_at form_at binding_at (Arg-F.Two s)

pub formula_of-True : formula_of form.True ≡ truth
formula_of-True = ap formula_of (sym form.rolls-True) ∙ fold-roll-Formula Argument Form (ℕ × Argument) argument_at form_at binding_at Formula-F.True

pub formula_of-False : formula_of form.False ≡ falsity
formula_of-False = ap formula_of (sym form.rolls-False) ∙ fold-roll-Formula Argument Form (ℕ × Argument) argument_at form_at binding_at Formula-F.False

pub formula_of-Var : (x : ℕ) → formula_of (form.Var x) ≡ truth_variable x
formula_of-Var x = ap formula_of (sym (form.rolls-Var x)) ∙ fold-roll-Formula Argument Form (ℕ × Argument) argument_at form_at binding_at (Formula-F.Var x)

pub formula_of-Not : (f : Formula) → formula_of (form.Not f) ≡ negation (formula_of f)
formula_of-Not f = ap formula_of (sym (form.rolls-Not f)) ∙ fold-roll-Formula Argument Form (ℕ × Argument) argument_at form_at binding_at (Formula-F.Not f)

pub formula_of-And : (fs : List Formula) → formula_of (form.And fs) ≡ conjunction (forms (map formula_of fs))
formula_of-And fs = ap formula_of (sym (form.rolls-And fs)) ∙ fold-roll-Formula Argument Form (ℕ × Argument) argument_at form_at binding_at (Formula-F.And fs)

pub formula_of-Or : (fs : List Formula) → formula_of (form.Or fs) ≡ disjunction (forms (map formula_of fs))
formula_of-Or fs = ap formula_of (sym (form.rolls-Or fs)) ∙ fold-roll-Formula Argument Form (ℕ × Argument) argument_at form_at binding_at (Formula-F.Or fs)

pub formula_of-Implies : (f g : Formula) → formula_of (form.Implies f g) ≡ implication (formula_of f) (formula_of g)
formula_of-Implies f g = ap formula_of (sym (form.rolls-Implies f g)) ∙ fold-roll-Formula Argument Form (ℕ × Argument) argument_at form_at binding_at (Formula-F.Implies f g)

pub formula_of-Iff : (f g : Formula) → formula_of (form.Iff f g) ≡ equivalence (formula_of f) (formula_of g)
formula_of-Iff f g = ap formula_of (sym (form.rolls-Iff f g)) ∙ fold-roll-Formula Argument Form (ℕ × Argument) argument_at form_at binding_at (Formula-F.Iff f g)

pub formula_of-Compare : (r : Rel) (t u : Term1) → formula_of (form.Compare r t u) ≡ comparison r (term_of t) (term_of u)
formula_of-Compare r t u = ap formula_of (sym (form.rolls-Compare r t u)) ∙ fold-roll-Formula Argument Form (ℕ × Argument) argument_at form_at binding_at (Formula-F.Compare r t u)

pub formula_of-CompareSets : (r : Rel) (s t : Term2) → formula_of (form.CompareSets r s t) ≡ set_comparison r (set_term_of s) (set_term_of t)
formula_of-CompareSets r s t = ap formula_of (sym (form.rolls-CompareSets r s t)) ∙ fold-roll-Formula Argument Form (ℕ × Argument) argument_at form_at binding_at (Formula-F.CompareSets r s t)

pub formula_of-Member : (positive : Bool) (t : Term1) (s : Term2) → formula_of (form.Member positive t s) ≡ membership positive (term_of t) (set_term_of s)
formula_of-Member positive t s = ap formula_of (sym (form.rolls-Member positive t s)) ∙ fold-roll-Formula Argument Form (ℕ × Argument) argument_at form_at binding_at (Formula-F.Member positive t s)

pub formula_of-IsEmpty : (s : Term2) → formula_of (form.IsEmpty s) ≡ emptiness (set_term_of s)
formula_of-IsEmpty s = ap formula_of (sym (form.rolls-IsEmpty s)) ∙ fold-roll-Formula Argument Form (ℕ × Argument) argument_at form_at binding_at (Formula-F.IsEmpty s)

pub formula_of-Bind-none : (q : Quant) (o : Order) (x : ℕ) (f : Formula) → formula_of (form.Bind q o x None f) ≡ quantified q o x unrestricted (formula_of f)
formula_of-Bind-none q o x f = ap formula_of (sym (form.rolls-Bind q o x None f)) ∙ fold-roll-Formula Argument Form (ℕ × Argument) argument_at form_at binding_at (Formula-F.Bind q o x None f)

pub formula_of-Bind-some : (q : Quant) (o : Order) (x : ℕ) (d f : Formula) → formula_of (form.Bind q o x (Some d) f) ≡ quantified q o x (restricted (formula_of d)) (formula_of f)
formula_of-Bind-some q o x d f = ap formula_of (sym (form.rolls-Bind q o x (Some d) f)) ∙ fold-roll-Formula Argument Form (ℕ × Argument) argument_at form_at binding_at (Formula-F.Bind q o x (Some d) f)

pub formula_of-Let : (bindings : List Binding) (f : Formula) → formula_of (form.Let bindings f) ≡ where_let (map (λ b. b.0) (map binding_of bindings)) (arguments (map (λ b. b.1) (map binding_of bindings))) (formula_of f)
formula_of-Let bindings f = ap formula_of (sym (form.rolls-Let bindings f)) ∙ fold-roll-Formula Argument Form (ℕ × Argument) argument_at form_at binding_at (Formula-F.Let bindings f)

pub formula_of-Call : (p : ℕ) (given : List Arg) → formula_of (form.Call p given) ≡ call p (arguments (map argument_of given))
formula_of-Call p given = ap formula_of (sym (form.rolls-Call p given)) ∙ fold-roll-Formula Argument Form (ℕ × Argument) argument_at form_at binding_at (Formula-F.Call p given)

pub formula_of-Restrict : (f : Formula) → formula_of (form.Restrict f) ≡ restrict (formula_of f)
formula_of-Restrict f = ap formula_of (sym (form.rolls-Restrict f)) ∙ fold-roll-Formula Argument Form (ℕ × Argument) argument_at form_at binding_at (Formula-F.Restrict f)

pub formula_of-Import : (i : ℕ) → formula_of (form.Import i) ≡ imported i
formula_of-Import i = ap formula_of (sym (form.rolls-Import i)) ∙ fold-roll-Formula Argument Form (ℕ × Argument) argument_at form_at binding_at (Formula-F.Import i)

pub formula_of-Export : (i : ℕ) (f : Formula) → formula_of (form.Export i f) ≡ exported i (formula_of f)
formula_of-Export i f = ap formula_of (sym (form.rolls-Export i f)) ∙ fold-roll-Formula Argument Form (ℕ × Argument) argument_at form_at binding_at (Formula-F.Export i f)

pub formula_of-Domain : (p x : ℕ) → formula_of (form.Domain p x) ≡ default_at p x
formula_of-Domain p x = ap formula_of (sym (form.rolls-Domain p x)) ∙ fold-roll-Formula Argument Form (ℕ × Argument) argument_at form_at binding_at (Formula-F.Domain p x)
