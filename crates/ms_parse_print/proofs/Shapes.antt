-- What is printed for an expression of a form.
use Rattle.std.proofs.Common.{rules, ◌≡◌, List, ℕ, ◌++◌, Result, OnOk, append_assoc, Bool, IsTrue, sym, subst, ap, ◌∙◌}
use Rattle.std.proofs.lemmas.Result.{on_ok_weaker}
use Rattle.ms_list.specs.declared.at.At.{At}
use Rattle.ms_logic.specs.declared.mode.Order.{Order}
use Rattle.ms_logic.specs.declared.mode.Quant.{Quant}
use Rattle.ms_logic.specs.declared.source.Bound.{Bound}
use Rattle.ms_logic.specs.declared.source.Expr.{Expr}
use Rattle.ms_logic.specs.declared.source.Form.{Form, the_lemmas}
use Rattle.ms_logic.specs.declared.source.Form.TheVariants as forms
use Rattle.ms_logic.specs.declared.source.LetPart.{LetPart}
use Rattle.ms_parse_grammar.specs.declared.operator.Bracket.TheVariants.{Restriction, Export}
use Rattle.ms_parse_grammar.specs.declared.operator.Junction.TheVariants.{Conjunction, Disjunction}
use Rattle.ms_parse_grammar.specs.declared.operator.Listing.TheVariants.{Literal, Call}
use Rattle.ms_parse_print.specs.inner.Passes.{Passes}
use Rattle.ms_parse_grammar.specs.Tree.{Expression, joined, listed, quantified, let_in, enclosed}
use Rattle.ms_parse_grammar.specs.View.{expression_of, expressions_of, variables_of, parts_of, form_of}
use Rattle.ms_parse_grammar.proofs.Views.{form_of-Literal, form_of-Call, form_of-And, form_of-Or, form_of-Bind, form_of-Let, form_of-Restrict, form_of-Export}

expressed : (e : Expr) → expression_of e ≡ form_of e.form e.at
expressed e = search (rules, the_lemmas)

pub by_form : (e : Expr) (form : Form) → e.form ≡ form → expression_of e ≡ form_of form e.at
by_form e form is = expressed e ∙ ap (λ x. form_of x e.at) is

pub literal_shape : (e : Expr) (es : List Expr) → e.form ≡ forms.Literal es → expression_of e ≡ listed e.at Literal (expressions_of es)
literal_shape e es is = by_form e (forms.Literal es) is ∙ form_of-Literal es e.at

pub call_shape : (e : Expr) (p : List ℕ) (es : List Expr) → e.form ≡ forms.Call p es → expression_of e ≡ listed e.at (Call p) (expressions_of es)
call_shape e p es is = by_form e (forms.Call p es) is ∙ form_of-Call p es e.at

pub and_shape : (e : Expr) (es : List Expr) → e.form ≡ forms.And es → expression_of e ≡ joined e.at Conjunction (expressions_of es)
and_shape e es is = by_form e (forms.And es) is ∙ form_of-And es e.at

pub or_shape : (e : Expr) (es : List Expr) → e.form ≡ forms.Or es → expression_of e ≡ joined e.at Disjunction (expressions_of es)
or_shape e es is = by_form e (forms.Or es) is ∙ form_of-Or es e.at

pub bind_shape : (e : Expr) (q : Quant) (o : Order) (vs : List Bound) (body : Expr) → e.form ≡ forms.Bind q o vs body → expression_of e ≡ quantified e.at q o (variables_of vs) (expression_of body)
bind_shape e q o vs body is = by_form e (forms.Bind q o vs body) is ∙ form_of-Bind q o vs body e.at

pub let_shape : (e : Expr) (o : Order) (ps : List LetPart) (body : Expr) → e.form ≡ forms.Let o ps body → expression_of e ≡ let_in e.at o (parts_of ps) (expression_of body)
let_shape e o ps body is = by_form e (forms.Let o ps body) is ∙ form_of-Let o ps body e.at

pub restrict_shape : (e : Expr) (inner : Expr) → e.form ≡ forms.Restrict inner → expression_of e ≡ enclosed e.at Restriction (expression_of inner)
restrict_shape e inner is = by_form e (forms.Restrict inner) is ∙ form_of-Restrict inner e.at

pub export_shape : (e : Expr) (a : At) (file : List ℕ) (inner : Expr) → e.form ≡ forms.Export a file inner → expression_of e ≡ enclosed e.at (Export a file) (expression_of inner)
export_shape e a file inner is = by_form e (forms.Export a file inner) is ∙ form_of-Export a file inner e.at

-- what two calls append, the second of them two pieces
pub two : {T E : Type 0} (r : Result T E) (t0 t1 t2 a b c : List ℕ) → t1 ≡ t0 ++ a → OnOk r (t2 ≡ t1 ++ (b ++ c)) → OnOk r (t2 ≡ t0 ++ (a ++ b ++ c))
two r t0 t1 t2 a b c first last =
    let whole : t1 ++ (b ++ c) ≡ t0 ++ (a ++ b ++ c) = rw (first) (simp append_assoc) in
    on_ok_weaker r (λ (e : t2 ≡ t1 ++ (b ++ c)). e ∙ whole) last

-- what is tested of the shape is tested of the expression
pub by_shape : (e : Expr) (x : Expression) (room : ℕ) (free r : Bool) → expression_of e ≡ x → (IsTrue r → Passes room free x) → (Passes room free x → IsTrue r) → (IsTrue r → Passes room free (expression_of e)) × (Passes room free (expression_of e) → IsTrue r)
by_shape e x room free r same there back = subst (λ y. (IsTrue r → Passes room free y) × (Passes room free y → IsTrue r)) (sym same) (there, back)
