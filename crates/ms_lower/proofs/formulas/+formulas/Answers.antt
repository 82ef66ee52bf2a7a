use Rattle.std.proofs.Common.{◌++◌, ◌∷◌, [], Some, map, sym, ap, subst, ◌∙◌, arith}
use Rattle.std.proofs.lemmas.Result.{IfOk-weaker}
use Rattle.ms_logic.specs.View.{argument_of, arguments, binding_of, declaration_of, formula_of, predicate_of}
use Rattle.ms_logic_core.specs.CoreForm.{core_form_of, restrict}
use Rattle.ms_logic_core.specs.Size.{extent_under, extents_of_arguments}
use Rattle.ms_logic_core.specs.Spread.{numbers_and_sets, spread_under, truth_value, truth_values}
use Rattle.ms_logic.specs.declared.mode.Order.TheVariants.{Zero}
use Rattle.ms_lower.specs.Callees.{callees_in, spread_in}
use Rattle.ms_lower.specs.inner.Given.{IsGiven, IsTruth, below_all, values_of, variables_of}
use Rattle.ms_lower.specs.inner.Left.{extents_in}
use Rattle.ms_lower.specs.Numbering.{numbering_of, renumbered}
use Rattle.ms_lower.specs.inner.Scope.{all_named, default_over, names_in}
use Rattle.ms_lower.proofs.Callees.{before_same, callee_at, callee_nowhere, numbering_same}
use Rattle.ms_lower.proofs.Defaults.{default_over_same}
use Rattle.ms_lower.proofs.Entering.{truth_entered}
use Rattle.ms_lower.proofs.Left.{argument_within, default_falls, operand_within, total-append}
use Rattle.ms_lower.proofs.Lowering.{and_lowered, or_lowered, bind_lowered, default_lowered, truth_lowered}
use Rattle.ms_lower.proofs.Operands.{each-more}
use Rattle.ms_lower.proofs.Scopes.{names_in-append}
use Rattle.ms_lower.proofs.Trees.{call_read, let_read}
use Rattle.ms_lower.proofs.formulas.+formulas.Goals as goal

pub formula-returns-in_ok-each-in-And-clause-core : goal.formula-returns-in_ok-each-in-And-clause-core
formula-returns-in_ok-each-in-And-clause-core t c =
    let T = c.args.tables.now in
    IfOk-weaker c.conjunction.result _ _ (λ core is. is ∙ and_lowered (numbering_of T) (callees_in T) (names_in c.args.scope.now) c.args.free c.args.source.now c.in-And.operands c.slice.result.now c.in_ok-each-in-And.field-0 c.in-And.is c.slice.ensures c.in_ok-each-in-And.ensures.cores) c.conjunction.ensures

pub formula-returns-in_ok-each-in-Or-clause-core : goal.formula-returns-in_ok-each-in-Or-clause-core
formula-returns-in_ok-each-in-Or-clause-core t c =
    let T = c.args.tables.now in
    IfOk-weaker c.disjunction.result _ _ (λ core is. is ∙ or_lowered (numbering_of T) (callees_in T) (names_in c.args.scope.now) c.args.free c.args.source.now c.in-Or.operands c.slice-in-Or.result.now c.in_ok-each-in-Or.field-0 c.in-Or.is c.slice-in-Or.ensures c.in_ok-each-in-Or.ensures.cores) c.disjunction.ensures

pub formula-returns-in-Let-clause-core : goal.formula-returns-in-Let-clause-core
formula-returns-in-Let-clause-core t c =
    let T = c.args.tables.now in
    let read = let_read c.args.source.now c.in-Let.body c.get-in-Let.result.now c.in-Let.bindings c.slice-in-Let.result.now c.in-Let.is c.slice-in-Let.ensures c.get-in-Let.ensures in
    IfOk-weaker c.where_let.result _ _ (λ core is. is ∙ ap (λ f. spread_in T f (names_in c.args.scope.now) c.args.free) read) c.where_let.ensures.core

pub formula-call_with-requires : goal.formula-call_with-requires
formula-call_with-requires t c =
    let x = extents_in c.args.tables.now in
    let read = call_read c.args.source.now c.in-Call.predicate c.in-Call.arguments c.slice-in-Call.result.now c.in-Call.is c.slice-in-Call.ensures in
    let size = ap (λ f. (extent_under x f).size) read in
    let both = total-append (extents_of_arguments x (arguments (map argument_of c.slice-in-Call.result.now))) (x.called c.in-Call.predicate) in
    (omega arith, tt)

pub formula-returns-in-Call-clause-core : goal.formula-returns-in-Call-clause-core
formula-returns-in-Call-clause-core t c =
    let T = c.args.tables.now in
    let read = call_read c.args.source.now c.in-Call.predicate c.in-Call.arguments c.slice-in-Call.result.now c.in-Call.is c.slice-in-Call.ensures in
    IfOk-weaker c.call_with.result _ _ (λ core is. is ∙ ap (λ f. spread_in T f (names_in c.args.scope.now) c.args.free) read) c.call_with.ensures.core

pub each-formula-requires : goal.each-formula-requires
each-formula-requires t c =
    let x = extents_in c.args.tables.now in
    let within = operand_within x c.args.operands.now c.loop-operand.operand-index c.operand-item.result (omega arith) c.operand-item.is in
    (omega arith, tt)

pub where_let-enter_arguments-requires : goal.where_let-enter_arguments-requires
where_let-enter_arguments-requires t c =
    let x = extents_in c.args.tables.now in
    let both = total-append (extents_of_arguments x (arguments (map (λ b. b.1) (map binding_of c.args.bindings.now)))) (extent_under x (formula_of c.args.body.now) ∷ []) in
    (omega arith, tt)

pub where_let-formula-requires : goal.where_let-formula-requires
where_let-formula-requires t c =
    let x = extents_in c.args.tables.now in
    let both = total-append (extents_of_arguments x (arguments (map (λ b. b.1) (map binding_of c.args.bindings.now)))) (extent_under x (formula_of c.args.body.now) ∷ []) in
    (omega arith, tt)

pub truth_arguments-truth-requires : goal.truth_arguments-truth-requires
truth_arguments-truth-requires t c =
    let x = extents_in c.args.tables.now in
    let within = argument_within x (values_of c.args.arguments.now) c.loop-i.i (argument_of c.value.result.now) c.value.ensures in
    (omega arith, tt)

pub default-formula-requires : goal.default-formula-requires
default-formula-requires t c =
    let same = c.before-before.ensures in
    let falls = default_falls c.args.tables.now c.before-before.result c.args.predicate c.in-Some.known.now c.in-Some.ensures.some.0 same.callable same.predicates in
    let sizes = falls.0 in
    let fewer = falls.1 in
    (omega arith, tt)

pub bind-returns-clause-core : goal.bind-returns-clause-core
bind-returns-clause-core t c =
    let T = c.args.tables.now in
    let free = c.args.binder.named.name in
    IfOk-weaker c.quantify.result _ _ (λ core is. is ∙ bind_lowered (numbering_of T) (callees_in T) (names_in c.args.scope.now) free c.args.binder.quant c.args.binder.named.order c.args.binder.named.variable c.args.domain.now c.args.body.now
    (names_in c.enter.new.self) (names_in c.domain_of.new.scope) c.in_ok-number.field-0 _ _
    (ap names_in c.in_ok-enter.ensures ∙ names_in-append c.args.scope.now _) (ap names_in c.in_ok-domain.ensures.scope) c.in_ok-number.ensures.number c.in_ok-domain.ensures.core c.in_ok-body.ensures.core) c.quantify.ensures

pub where_let-returns-clause-core : goal.where_let-returns-clause-core
where_let-returns-clause-core t c =
    let T = c.args.tables.now in
    let values = c.in_ok-values.values in
    IfOk-weaker c.over_values.result _ _ (λ core is. is ∙ (ap (λ f. below_all values.numbers.defined (below_all values.truths.defined f)) c.in_ok-body.ensures.core
    ∙ sym (c.in_ok-values.ensures.values (λ inner free. spread_under (callees_in T) (formula_of c.args.body.now) inner free)))) c.over_values.ensures

pub call_with-returns-clause-core : goal.call_with-returns-clause-core
call_with-returns-clause-core t c =
    let T = c.args.tables.now in
    let values = c.in_ok-values.values in
    let names = names_in c.args.scope.now in
    let vs = arguments (map argument_of c.args.given.now) in
    IfOk-weaker c.over_values.result _ _ (λ core is. is ∙ (ap (λ f. below_all values.numbers.defined (below_all values.truths.defined f)) c.in_ok-body.ensures
    ∙ (sym (c.in_ok-values.ensures.values (λ inner free. (callees_in T).body c.args.predicate inner free))
    ∙ ap (λ ys. renumbered (numbering_of T) (numbers_and_sets ys vs names names c.args.free (λ inner free. truth_values (callees_in T) ys vs names inner free (λ inner free. (callees_in T).body c.args.predicate inner free)))) c.params.ensures))) c.over_values.ensures

pub each-loop-operand-preserved : goal.each-loop-operand-preserved
each-loop-operand-preserved t c =
    let T = c.args.tables.now in
    let inv = c.loop-operand.invariant in
    record {
      cores =
          each-more (numbering_of T) (callees_in T) (names_in c.args.scope.now) c.args.free c.args.operands.now c.loop-operand.operand-index c.operand-item.result c.loop-operand.cores c.push.new.list c.in_ok-core.core (omega arith) c.operand-item.is inv.cores
          (c.in_ok-core.ensures.core ∙ ap (λ s. spread_in T (formula_of c.operand-item.result) (names_in s) c.args.free) inv.scope)
          (c.in_ok-push.ensures.ok ∙ ap (λ k. c.loop-operand.cores ++ k ∷ []) c.into_inner.ensures);
      scope = c.in_ok-core.ensures.scope ∙ inv.scope;
    }

pub truth-returns-in_ok-known-in-Some-clause-value : goal.truth-returns-in_ok-known-in-Some-clause-value
truth-returns-in_ok-known-in-Some-clause-value t c =
    let T = c.args.tables.now in
    let names = names_in c.args.scope.now in
    let made = c.in_ok-known-in-Some.known in
    truth_lowered (numbering_of T) (callees_in T) c.args.value.now c.in-Zero.source names c.args.free c.in-Some.variable made c.in-Zero.is (sym c.in-Some.is ∙ c.truth_variable.ensures)
    (subst (λ k. IsGiven (numbering_of T) Zero (truth_value (Some k) (spread_under (callees_in T) (formula_of c.in-Zero.source) names)) c.args.free made) c.name_of.ensures
    (c.in_ok-known-in-Some.ensures (spread_under (callees_in T) (formula_of c.in-Zero.source) names)))

pub truth_arguments-loop-i-preserved : goal.truth_arguments-loop-i-preserved
truth_arguments-loop-i-preserved t c =
    let T = c.args.tables.now in
    let xs = variables_of c.args.arguments.now in
    let vals = values_of c.args.arguments.now in
    let names = names_in c.args.scope.now in
    let inv = c.loop-i.invariant in
    record {
      entered =
          truth_entered (numbering_of T) (truth_values (callees_in T) xs (arguments vals) names) c.args.free (callees_in T) xs vals names c.loop-i.i (argument_of c.value.result.now) c.in_ok-value.value c.variable.result c.loop-i.entered c.in_ok-entered.entered
          inv.entered c.value.ensures (subst (λ s. IsTruth (numbering_of T) (callees_in T) (argument_of c.value.result.now) (names_in s) c.loop-i.entered.next c.in_ok-value.value) inv.scope c.in_ok-value.ensures.value) c.variable.ensures c.in_ok-entered.ensures;
      scope = c.in_ok-value.ensures.scope ∙ inv.scope;
    }

pub default-returns-in-None-clause-core : goal.default-returns-in-None-clause-core
default-returns-in-None-clause-core t c =
    let T = c.args.tables.now in
    let nowhere = callee_nowhere T c.args.predicate c.in-None.ensures.none in
    IfOk-weaker c.restricted.result _ _ (λ core is. is ∙ (ap restrict c.in_ok-constant-in-None.ensures ∙ ap (λ b. renumbered (numbering_of T) (b c.args.variable (names_in c.args.scope.now) c.args.free)) (sym nowhere.default))) c.restricted.ensures

pub default-returns-clause-core : goal.default-returns-clause-core
default-returns-clause-core t c =
    let T = c.args.tables.now in
    let B = c.before-before.result in
    let same = c.before-before.ensures in
    let known = c.in-Some.known.now in
    let names = names_in c.args.scope.now in
    default_lowered _ (numbering_of T) (numbering_of B) (callees_in T) _ (callees_in B) c.args.predicate (predicate_of known) c.args.variable names (names_in c.enter_named.new.scope) c.args.free (core_form_of c.in_ok-core.core)
    (callee_at T c.args.predicate known c.in-Some.ensures.some.0) (before_same T B c.args.predicate same.callable same.predicates same.imports) (numbering_same T B same.kept same.globals same.predicates same.imports)
    (c.in_ok-enter_named.ensures.names
    ∙ (ap (λ l. all_named l names) c.slice-2.ensures
    ∙ (c.in_ok-named.ensures names
    ∙ (ap (λ ps. default_over (map declaration_of ps) c.args.variable names names) c.slice.ensures ∙ default_over_same (map declaration_of known.params) c.args.variable names))))
    c.in_ok-core.ensures.core
