-- A list of operands with one more.
use Rattle.std.proofs.Common.{◌≡◌, ℕ, List, Option, sym, ap, subst, ◌∙◌, get_or, length, take, ◌+◌, ◌<◌, ◌≤◌}
use Rattle.std.proofs.lemmas.List.{take_all}
use Rattle.ms_logic.specs.Tree.{Argument}
use Rattle.ms_names_rules.specs.declared.wanted.Wanted.{Wanted}
use Rattle.ms_names_rules.specs.Before.{Before, after, after_all}
use Rattle.ms_names_rules.specs.Occurrence.{occurrences, inside_operands}
use Rattle.ms_names_rules.specs.Typed.{both, typed}
use Rattle.ms_names_rules.specs.Scope.{Scope}
use Rattle.ms_parse_grammar.specs.Tree.{Expression, Expressions, and_expression, no_expressions}
use Rattle.ms_names_scopes.specs.inner.Found.{Found, passed}
use Rattle.ms_parse_grammar.specs.View.{expression_of, expressions_of}
use Rattle.ms_names_scopes.proofs.Findings.{passed-none}
use Rattle.ms_names_rules.proofs.Operands.{taken-more}
use Rattle.ms_names.proofs.Lists.{passed-then, typed-then}
use Rattle.ms_names_rules.proofs.Exports.{both-same}
use Rattle.ms_logic.specs.declared.source.Expr.{Expr}

-- some operands were read: what is found after them, and what they became, as a list
pub record AreRead {L : Type 0} (s : Found) (w : Wanted) (all_typed : Scope → Before → Expressions → Option L) (es : Expressions) (t : Found) (made : Option L) : Type 0 where
  pub state : t ≡ passed s (inside_operands s.scope s.before w es) (after_all s.before es)
  pub value : made ≡ all_typed s.scope s.before es

pub read-none : {L : Type 0} (s : Found) (w : Wanted) (all_typed : Scope → Before → Expressions → Option L) (made : Option L) → made ≡ all_typed s.scope s.before no_expressions → AreRead s w all_typed no_expressions s made
read-none s w all_typed made is = record { state = passed-none s; value = is }

-- the next one is read, and stands behind them in the list
pub read-more : {L X : Type 0} (all_typed : Scope → Before → Expressions → Option L) (behind : L → X → L) (one_in : Option Argument → Option X) →
    ((s : Scope) (b : Before) (es : Expressions) (e : Expression) → all_typed s b (and_expression es e) ≡ both behind (all_typed s b es) (one_in (typed s (after_all b es) e))) →
    (s t u : Found) (w : Wanted) (es : List Expr) (i : ℕ) (e : Expr) (made more : Option L) (value : Option Argument) → i < length es → e ≡ get_or es i e →
    AreRead s w all_typed (expressions_of (take i es)) t made → u ≡ passed t (occurrences t.scope t.before w (expression_of e)) (after t.before (expression_of e)) →
    value ≡ typed t.scope t.before (expression_of e) → more ≡ both behind made (one_in value) → AreRead s w all_typed (expressions_of (take (i + 1) es)) u more
read-more all_typed behind one_in step s t u w es i e made more value below is read here typed_is added =
    let E = expressions_of (take i es) in
    let os = inside_operands s.scope s.before w E in
    let b = after_all s.before E in
    subst (λ all. AreRead s w all_typed all u more) (taken-more es i e below is) (record {
      state = passed-then s t u os b w (expression_of e) read.state here;
      value =
          added
          ∙ (both-same behind read.value (ap one_in (typed-then s t os b (expression_of e) value read.state typed_is))
          ∙ sym (step s.scope s.before E (expression_of e)));
    })

pub read-all : {L : Type 0} (s : Found) (w : Wanted) (all_typed : Scope → Before → Expressions → Option L) (es : List Expr) (i : ℕ) (t : Found) (made : Option L) → length es ≤ i →
    AreRead s w all_typed (expressions_of (take i es)) t made → AreRead s w all_typed (expressions_of es) t made
read-all s w all_typed es i t made enough read = subst (λ all. AreRead s w all_typed (expressions_of all) t made) (take_all i es enough) read
