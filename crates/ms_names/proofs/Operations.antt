-- What is known after an operation on expressions, and what came of it.
use Rattle.std.proofs.Common.{◌≡◌, List, Option, refl, ap, ◌∙◌}
use Rattle.ms_list.specs.declared.at.At.{At}
use Rattle.ms_logic.specs.Tree.{Argument, Forms}
use Rattle.ms_names_rules.specs.Before.{Before, after, after_all}
use Rattle.ms_names_rules.specs.Order.{formula_wanted, set_wanted}
use Rattle.ms_names_rules.specs.Occurrence.{Occurrence, inside_operands, occurrences}
use Rattle.ms_names_rules.specs.Scope.{Scope}
use Rattle.ms_parse_grammar.specs.Tree.{Expression, Expressions}
use Rattle.ms_names_rules.specs.Typed.{typed, typed_formulas}
use Rattle.ms_names.specs.declared.operation.Binary.{Binary}
use Rattle.ms_names.specs.declared.operation.Binary.TheVariants.{Implies, Iff, Union, Inter, Minus}
use Rattle.ms_names.specs.declared.operation.Connective.{Connective}
use Rattle.ms_names.specs.declared.operation.Connective.TheVariants.{And, Or}
use Rattle.ms_names.specs.declared.operation.Unary.{Unary}
use Rattle.ms_names.specs.declared.operation.Unary.TheVariants.{Not, Restrict, IsEmpty, Min, Max}
use Rattle.ms_names.specs.inner.Operation.{made_of_all, made_of_one, made_of_two, of_all, of_one, of_two, wanted_of_one, wanted_of_two}
use Rattle.ms_names_scopes.specs.inner.Found.{Found, formed, passed}
use Rattle.ms_names_scopes.proofs.Findings.{two-passed}

-- on one expression

pub one-formed : (s u : Found) (o : Unary) (at : At) (e : Expression) →
    u ≡ passed s (occurrences s.scope s.before (wanted_of_one o) e) (after s.before e) → u ≡ formed s (of_one o at e)
one-formed s u Not at e within = within
one-formed s u Restrict at e within = within
one-formed s u IsEmpty at e within = within
one-formed s u Min at e within = within
one-formed s u Max at e within = within

pub one-typed : (s : Scope) (b : Before) (o : Unary) (at : At) (e : Expression) → made_of_one o (typed s b e) ≡ typed s b (of_one o at e)
one-typed s b Not at e = refl
one-typed s b Restrict at e = refl
one-typed s b IsEmpty at e = refl
one-typed s b Min at e = refl
one-typed s b Max at e = refl

-- on two expressions, the second behind the first

pub two-formed : (s t u : Found) (o : Binary) (at : At) (e f : Expression) →
    t ≡ passed s (occurrences s.scope s.before (wanted_of_two o) e) (after s.before e) →
    u ≡ passed t (occurrences t.scope t.before (wanted_of_two o) f) (after t.before f) → u ≡ formed s (of_two o at e f)
two-formed s t u Implies at e f first second = two-passed s t u formula_wanted formula_wanted e f first second
two-formed s t u Iff at e f first second = two-passed s t u formula_wanted formula_wanted e f first second
two-formed s t u Union at e f first second = two-passed s t u set_wanted set_wanted e f first second
two-formed s t u Inter at e f first second = two-passed s t u set_wanted set_wanted e f first second
two-formed s t u Minus at e f first second = two-passed s t u set_wanted set_wanted e f first second

two-shape : (s : Scope) (b : Before) (o : Binary) (at : At) (e f : Expression) →
    made_of_two o (typed s b e) (typed s (after b e) f) ≡ typed s b (of_two o at e f)
two-shape s b Implies at e f = refl
two-shape s b Iff at e f = refl
two-shape s b Union at e f = refl
two-shape s b Inter at e f = refl
two-shape s b Minus at e f = refl

pub two-typed : (s t : Found) (os : List Occurrence) (o : Binary) (at : At) (e f : Expression) (left right : Option Argument) →
    left ≡ typed s.scope s.before e → t ≡ passed s os (after s.before e) → right ≡ typed t.scope t.before f →
    made_of_two o left right ≡ typed s.scope s.before (of_two o at e f)
two-typed s t os o at e f left right first within second =
    ap (λ there. made_of_two o there right) first
    ∙ (ap (made_of_two o (typed s.scope s.before e)) (second ∙ ap (λ (there : Found). typed there.scope there.before f) within)
    ∙ two-shape s.scope s.before o at e f)

-- on a list of formulas

pub all-formed : (s u : Found) (o : Connective) (at : At) (es : Expressions) →
    u ≡ passed s (inside_operands s.scope s.before formula_wanted es) (after_all s.before es) → u ≡ formed s (of_all o at es)
all-formed s u And at es within = within
all-formed s u Or at es within = within

all-shape : (s : Scope) (b : Before) (o : Connective) (at : At) (es : Expressions) → made_of_all o (typed_formulas s b es) ≡ typed s b (of_all o at es)
all-shape s b And at es = refl
all-shape s b Or at es = refl

pub all-typed : (s : Scope) (b : Before) (o : Connective) (at : At) (es : Expressions) (made : Option Forms) →
    made ≡ typed_formulas s b es → made_of_all o made ≡ typed s b (of_all o at es)
all-typed s b o at es made is = ap (made_of_all o) is ∙ all-shape s b o at es
