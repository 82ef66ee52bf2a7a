-- Lists with one more item.
use Rattle.std.proofs.Common.{◌≡◌, ℕ, ◌+◌, ◌<◌, length, get_or, take, List, [], ◌∷◌, ◌++◌, map, refl, sym, ap, ◌∙◌}
use Rattle.std.proofs.lemmas.List.{map-append, take_more}
use Rattle.ms_logic.specs.declared.formula.Formula.{Formula}
use Rattle.ms_logic.specs.declared.source.Expr.{Expr}
use Rattle.ms_logic.specs.declared.term.Term1.{Term1}
use Rattle.ms_logic.specs.Tree.{Form, more_forms, Term, more_terms, Argument, more_arguments}
use Rattle.ms_logic.specs.View.{forms, formula_of, terms, term_of, arguments}
use Rattle.ms_names_rules.specs.inner.Lists.{forms_of, terms_of}
use Rattle.ms_names_rules.specs.Typed.{formula_behind, number_behind, argument_behind}
use Rattle.ms_parse_grammar.specs.View.{expression_of, expressions_of, expressions_behind, part_of, parts_behind, parts_of, variable_of, variables_behind, variables_of}
use Rattle.ms_parse_grammar.specs.Tree.{Expressions, Parts, Variables, and_expression, and_part, and_variable, no_expressions, no_parts, no_variables}
use Rattle.ms_logic.specs.declared.source.LetPart.{LetPart}
use Rattle.ms_logic.specs.declared.source.Bound.{Bound}

expressions-behind : (before : Expressions) (es : List Expr) (e : Expr) →
    expressions_behind before (map expression_of (es ++ e ∷ [])) ≡ and_expression (expressions_behind before (map expression_of es)) (expression_of e)
expressions-behind before [] e = refl
expressions-behind before (first ∷ es) e = expressions-behind (and_expression before (expression_of first)) es e

variables-behind : (before : Variables) (vs : List Bound) (v : Bound) →
    variables_behind before (map variable_of (vs ++ v ∷ []))
    ≡ and_variable (variables_behind before (map variable_of vs)) (variable_of v).at (variable_of v).order (variable_of v).name (variable_of v).domain
variables-behind before [] v = refl
variables-behind before (first ∷ vs) v =
    variables-behind (and_variable before (variable_of first).at (variable_of first).order (variable_of first).name (variable_of first).domain) vs v

parts-behind : (before : Parts) (ps : List LetPart) (p : LetPart) →
    parts_behind before (map part_of (ps ++ p ∷ [])) ≡ and_part (parts_behind before (map part_of ps)) (part_of p).at (part_of p).name (part_of p).value
parts-behind before [] p = refl
parts-behind before (first ∷ ps) p = parts-behind (and_part before (part_of first).at (part_of first).name (part_of first).value) ps p

-- lists of the code with one more

pub expressions_of-more : (es : List Expr) (e : Expr) → expressions_of (es ++ e ∷ []) ≡ and_expression (expressions_of es) (expression_of e)
expressions_of-more es e = expressions-behind no_expressions es e

pub variables_of-more : (vs : List Bound) (v : Bound) →
    variables_of (vs ++ v ∷ []) ≡ and_variable (variables_of vs) (variable_of v).at (variable_of v).order (variable_of v).name (variable_of v).domain
variables_of-more vs v = variables-behind no_variables vs v

pub parts_of-more : (ps : List LetPart) (p : LetPart) → parts_of (ps ++ p ∷ []) ≡ and_part (parts_of ps) (part_of p).at (part_of p).name (part_of p).value
parts_of-more ps p = parts-behind no_parts ps p

pub forms-more : (fs : List Form) (f : Form) → forms (fs ++ f ∷ []) ≡ formula_behind (forms fs) f
forms-more [] f = refl
forms-more (first ∷ fs) f = ap (more_forms first) (forms-more fs f)

pub terms-more : (ts : List Term) (t : Term) → terms (ts ++ t ∷ []) ≡ number_behind (terms ts) t
terms-more [] t = refl
terms-more (first ∷ ts) t = ap (more_terms first) (terms-more ts t)

pub arguments-more : (given : List Argument) (a : Argument) → arguments (given ++ a ∷ []) ≡ argument_behind (arguments given) a
arguments-more [] a = refl
arguments-more (first ∷ given) a = ap (more_arguments first) (arguments-more given a)

pub forms_of-more : (fs : List Formula) (f : Formula) → forms_of (fs ++ f ∷ []) ≡ formula_behind (forms_of fs) (formula_of f)
forms_of-more fs f = ap forms (map-append formula_of fs (f ∷ [])) ∙ forms-more (map formula_of fs) (formula_of f)

pub terms_of-more : (ts : List Term1) (t : Term1) → terms_of (ts ++ t ∷ []) ≡ number_behind (terms_of ts) (term_of t)
terms_of-more ts t = ap terms (map-append term_of ts (t ∷ [])) ∙ terms-more (map term_of ts) (term_of t)

-- one item more of a slice

pub one-more : {A : Type 0} (xs : List A) (i : ℕ) (x : A) → i < length xs → x ≡ get_or xs i x → take i xs ++ x ∷ [] ≡ take (i + 1) xs
one-more xs i x below is = ap (λ y. take i xs ++ y ∷ []) is ∙ sym (take_more xs i x below)

pub taken-more : (xs : List Expr) (i : ℕ) (x : Expr) → i < length xs → x ≡ get_or xs i x →
    and_expression (expressions_of (take i xs)) (expression_of x) ≡ expressions_of (take (i + 1) xs)
taken-more xs i x below is = sym (expressions_of-more (take i xs) x) ∙ ap expressions_of (one-more xs i x below is)

pub variables-more : (xs : List Bound) (i : ℕ) (x : Bound) → i < length xs → x ≡ get_or xs i x →
    and_variable (variables_of (take i xs)) (variable_of x).at (variable_of x).order (variable_of x).name (variable_of x).domain ≡ variables_of (take (i + 1) xs)
variables-more xs i x below is = sym (variables_of-more (take i xs) x) ∙ ap variables_of (one-more xs i x below is)

pub parts-more : (xs : List LetPart) (i : ℕ) (x : LetPart) → i < length xs → x ≡ get_or xs i x →
    and_part (parts_of (take i xs)) (part_of x).at (part_of x).name (part_of x).value ≡ parts_of (take (i + 1) xs)
parts-more xs i x below is = sym (parts_of-more (take i xs) x) ∙ ap parts_of (one-more xs i x below is)
