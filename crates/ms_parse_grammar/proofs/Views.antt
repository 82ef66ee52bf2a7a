-- The mathematical tree of each form of the code's expressions.
use Rattle.std.proofs.Common.{◌≡◌, ℕ, List, sym, ap, ◌∙◌}
use Rattle.ms_list.specs.declared.at.At.{At}
use Rattle.ms_logic.specs.declared.mode.Order.{Order}
use Rattle.ms_logic.specs.declared.mode.Quant.{Quant}
use Rattle.ms_logic.specs.declared.mode.Rel.{Rel}
use Rattle.ms_logic.specs.declared.source.Bound.{Bound}
use Rattle.ms_logic.specs.declared.source.Expr.{Expr}
use Rattle.ms_logic.specs.declared.source.Form.TheVariants as forms
use Rattle.ms_logic.specs.declared.source.Form.TheOpen.{Form-F}
use Rattle.ms_logic.specs.declared.source.Form.TheFolds.{fold-roll-Form}
use Rattle.ms_logic.specs.declared.source.LetPart.{LetPart}
use Rattle.ms_logic.specs.declared.source.PlacedInt.{PlacedInt}
use Rattle.ms_logic.specs.declared.source.Rename.{Rename}
use Rattle.ms_parse_grammar.specs.Tree.{truth, falsity, whole, empty_set, named, numeral, pconst, imported, Negation, Minimum, Maximum, Implication, Equivalence, Relation, Union, Intersection, Difference, Conjunction, Disjunction, Parentheses, Emptiness, Restriction, Export, Literal, Call}
use Rattle.ms_parse_grammar.specs.Tree.{Expression, atom, prefixed, binary, joined, shifted, enclosed, listed, quantified, let_in}
use Rattle.ms_parse_grammar.specs.View.{Variable, Part, form_at, variable_at, expression_at, part_at, expression_of, expressions_of, variables_of, parts_of, form_of}

pub form_of-True : (at : At) → form_of forms.True at ≡ atom at truth
form_of-True at = ap (λ f. form_of f at) (sym forms.rolls-True) ∙ ap (λ (k : At → Expression). k at) (fold-roll-Form (At → Expression) Variable Expression Part form_at variable_at expression_at part_at Form-F.True)

pub form_of-False : (at : At) → form_of forms.False at ≡ atom at falsity
form_of-False at = ap (λ f. form_of f at) (sym forms.rolls-False) ∙ ap (λ (k : At → Expression). k at) (fold-roll-Form (At → Expression) Variable Expression Part form_at variable_at expression_at part_at Form-F.False)

pub form_of-Whole : (at : At) → form_of forms.Whole at ≡ atom at whole
form_of-Whole at = ap (λ f. form_of f at) (sym forms.rolls-Whole) ∙ ap (λ (k : At → Expression). k at) (fold-roll-Form (At → Expression) Variable Expression Part form_at variable_at expression_at part_at Form-F.Whole)

pub form_of-EmptySet : (at : At) → form_of forms.EmptySet at ≡ atom at empty_set
form_of-EmptySet at = ap (λ f. form_of f at) (sym forms.rolls-EmptySet) ∙ ap (λ (k : At → Expression). k at) (fold-roll-Form (At → Expression) Variable Expression Part form_at variable_at expression_at part_at Form-F.EmptySet)

pub form_of-Name : (n : List ℕ) (at : At) → form_of (forms.Name n) at ≡ atom at (named n)
form_of-Name n at = ap (λ f. form_of f at) (sym (forms.rolls-Name n)) ∙ ap (λ (k : At → Expression). k at) (fold-roll-Form (At → Expression) Variable Expression Part form_at variable_at expression_at part_at (Form-F.Name n))

pub form_of-Number : (n : ℕ) (at : At) → form_of (forms.Number n) at ≡ atom at (numeral n)
form_of-Number n at = ap (λ f. form_of f at) (sym (forms.rolls-Number n)) ∙ ap (λ (k : At → Expression). k at) (fold-roll-Form (At → Expression) Variable Expression Part form_at variable_at expression_at part_at (Form-F.Number n))

pub form_of-Pconst : (n : PlacedInt) (at : At) → form_of (forms.Pconst n) at ≡ atom at (pconst n)
form_of-Pconst n at = ap (λ f. form_of f at) (sym (forms.rolls-Pconst n)) ∙ ap (λ (k : At → Expression). k at) (fold-roll-Form (At → Expression) Variable Expression Part form_at variable_at expression_at part_at (Form-F.Pconst n))

pub form_of-Paren : (e : Expr) (at : At) → form_of (forms.Paren e) at ≡ enclosed at Parentheses (expression_of e)
form_of-Paren e at = ap (λ f. form_of f at) (sym (forms.rolls-Paren e)) ∙ ap (λ (k : At → Expression). k at) (fold-roll-Form (At → Expression) Variable Expression Part form_at variable_at expression_at part_at (Form-F.Paren e))

pub form_of-Literal : (es : List Expr) (at : At) → form_of (forms.Literal es) at ≡ listed at Literal (expressions_of es)
form_of-Literal es at = ap (λ f. form_of f at) (sym (forms.rolls-Literal es)) ∙ ap (λ (k : At → Expression). k at) (fold-roll-Form (At → Expression) Variable Expression Part form_at variable_at expression_at part_at (Form-F.Literal es))

pub form_of-Call : (p : List ℕ) (es : List Expr) (at : At) → form_of (forms.Call p es) at ≡ listed at (Call p) (expressions_of es)
form_of-Call p es at = ap (λ f. form_of f at) (sym (forms.rolls-Call p es)) ∙ ap (λ (k : At → Expression). k at) (fold-roll-Form (At → Expression) Variable Expression Part form_at variable_at expression_at part_at (Form-F.Call p es))

pub form_of-Not : (e : Expr) (at : At) → form_of (forms.Not e) at ≡ prefixed at Negation (expression_of e)
form_of-Not e at = ap (λ f. form_of f at) (sym (forms.rolls-Not e)) ∙ ap (λ (k : At → Expression). k at) (fold-roll-Form (At → Expression) Variable Expression Part form_at variable_at expression_at part_at (Form-F.Not e))

pub form_of-And : (es : List Expr) (at : At) → form_of (forms.And es) at ≡ joined at Conjunction (expressions_of es)
form_of-And es at = ap (λ f. form_of f at) (sym (forms.rolls-And es)) ∙ ap (λ (k : At → Expression). k at) (fold-roll-Form (At → Expression) Variable Expression Part form_at variable_at expression_at part_at (Form-F.And es))

pub form_of-Or : (es : List Expr) (at : At) → form_of (forms.Or es) at ≡ joined at Disjunction (expressions_of es)
form_of-Or es at = ap (λ f. form_of f at) (sym (forms.rolls-Or es)) ∙ ap (λ (k : At → Expression). k at) (fold-roll-Form (At → Expression) Variable Expression Part form_at variable_at expression_at part_at (Form-F.Or es))

pub form_of-Implies : (l r : Expr) (at : At) → form_of (forms.Implies l r) at ≡ binary at Implication (expression_of l) (expression_of r)
form_of-Implies l r at = ap (λ f. form_of f at) (sym (forms.rolls-Implies l r)) ∙ ap (λ (k : At → Expression). k at) (fold-roll-Form (At → Expression) Variable Expression Part form_at variable_at expression_at part_at (Form-F.Implies l r))

pub form_of-Iff : (l r : Expr) (at : At) → form_of (forms.Iff l r) at ≡ binary at Equivalence (expression_of l) (expression_of r)
form_of-Iff l r at = ap (λ f. form_of f at) (sym (forms.rolls-Iff l r)) ∙ ap (λ (k : At → Expression). k at) (fold-roll-Form (At → Expression) Variable Expression Part form_at variable_at expression_at part_at (Form-F.Iff l r))

pub form_of-Relation : (k : Rel) (l r : Expr) (at : At) → form_of (forms.Relation k l r) at ≡ binary at (Relation k) (expression_of l) (expression_of r)
form_of-Relation k l r at = ap (λ f. form_of f at) (sym (forms.rolls-Relation k l r)) ∙ ap (λ (k : At → Expression). k at) (fold-roll-Form (At → Expression) Variable Expression Part form_at variable_at expression_at part_at (Form-F.Relation k l r))

pub form_of-IsEmpty : (e : Expr) (at : At) → form_of (forms.IsEmpty e) at ≡ enclosed at Emptiness (expression_of e)
form_of-IsEmpty e at = ap (λ f. form_of f at) (sym (forms.rolls-IsEmpty e)) ∙ ap (λ (k : At → Expression). k at) (fold-roll-Form (At → Expression) Variable Expression Part form_at variable_at expression_at part_at (Form-F.IsEmpty e))

pub form_of-Union : (l r : Expr) (at : At) → form_of (forms.Union l r) at ≡ binary at Union (expression_of l) (expression_of r)
form_of-Union l r at = ap (λ f. form_of f at) (sym (forms.rolls-Union l r)) ∙ ap (λ (k : At → Expression). k at) (fold-roll-Form (At → Expression) Variable Expression Part form_at variable_at expression_at part_at (Form-F.Union l r))

pub form_of-Inter : (l r : Expr) (at : At) → form_of (forms.Inter l r) at ≡ binary at Intersection (expression_of l) (expression_of r)
form_of-Inter l r at = ap (λ f. form_of f at) (sym (forms.rolls-Inter l r)) ∙ ap (λ (k : At → Expression). k at) (fold-roll-Form (At → Expression) Variable Expression Part form_at variable_at expression_at part_at (Form-F.Inter l r))

pub form_of-Minus : (l r : Expr) (at : At) → form_of (forms.Minus l r) at ≡ binary at Difference (expression_of l) (expression_of r)
form_of-Minus l r at = ap (λ f. form_of f at) (sym (forms.rolls-Minus l r)) ∙ ap (λ (k : At → Expression). k at) (fold-roll-Form (At → Expression) Variable Expression Part form_at variable_at expression_at part_at (Form-F.Minus l r))

pub form_of-Shift : (e : Expr) (n : PlacedInt) (at : At) → form_of (forms.Shift e n) at ≡ shifted at (expression_of e) n
form_of-Shift e n at = ap (λ f. form_of f at) (sym (forms.rolls-Shift e n)) ∙ ap (λ (k : At → Expression). k at) (fold-roll-Form (At → Expression) Variable Expression Part form_at variable_at expression_at part_at (Form-F.Shift e n))

pub form_of-Min : (e : Expr) (at : At) → form_of (forms.Min e) at ≡ prefixed at Minimum (expression_of e)
form_of-Min e at = ap (λ f. form_of f at) (sym (forms.rolls-Min e)) ∙ ap (λ (k : At → Expression). k at) (fold-roll-Form (At → Expression) Variable Expression Part form_at variable_at expression_at part_at (Form-F.Min e))

pub form_of-Max : (e : Expr) (at : At) → form_of (forms.Max e) at ≡ prefixed at Maximum (expression_of e)
form_of-Max e at = ap (λ f. form_of f at) (sym (forms.rolls-Max e)) ∙ ap (λ (k : At → Expression). k at) (fold-roll-Form (At → Expression) Variable Expression Part form_at variable_at expression_at part_at (Form-F.Max e))

pub form_of-Bind : (q : Quant) (o : Order) (vs : List Bound) (e : Expr) (at : At) → form_of (forms.Bind q o vs e) at ≡ quantified at q o (variables_of vs) (expression_of e)
form_of-Bind q o vs e at = ap (λ f. form_of f at) (sym (forms.rolls-Bind q o vs e)) ∙ ap (λ (k : At → Expression). k at) (fold-roll-Form (At → Expression) Variable Expression Part form_at variable_at expression_at part_at (Form-F.Bind q o vs e))

pub form_of-Let : (o : Order) (ps : List LetPart) (e : Expr) (at : At) → form_of (forms.Let o ps e) at ≡ let_in at o (parts_of ps) (expression_of e)
form_of-Let o ps e at = ap (λ f. form_of f at) (sym (forms.rolls-Let o ps e)) ∙ ap (λ (k : At → Expression). k at) (fold-roll-Form (At → Expression) Variable Expression Part form_at variable_at expression_at part_at (Form-F.Let o ps e))

pub form_of-Restrict : (e : Expr) (at : At) → form_of (forms.Restrict e) at ≡ enclosed at Restriction (expression_of e)
form_of-Restrict e at = ap (λ f. form_of f at) (sym (forms.rolls-Restrict e)) ∙ ap (λ (k : At → Expression). k at) (fold-roll-Form (At → Expression) Variable Expression Part form_at variable_at expression_at part_at (Form-F.Restrict e))

pub form_of-Import : (file : List ℕ) (pairs : List Rename) (at : At) → form_of (forms.Import file pairs) at ≡ atom at (imported file pairs)
form_of-Import file pairs at = ap (λ f. form_of f at) (sym (forms.rolls-Import file pairs)) ∙ ap (λ (k : At → Expression). k at) (fold-roll-Form (At → Expression) Variable Expression Part form_at variable_at expression_at part_at (Form-F.Import file pairs))

pub form_of-Export : (a : At) (file : List ℕ) (e : Expr) (at : At) → form_of (forms.Export a file e) at ≡ enclosed at (Export a file) (expression_of e)
form_of-Export a file e at = ap (λ f. form_of f at) (sym (forms.rolls-Export a file e)) ∙ ap (λ (k : At → Expression). k at) (fold-roll-Form (At → Expression) Variable Expression Part form_at variable_at expression_at part_at (Form-F.Export a file e))
