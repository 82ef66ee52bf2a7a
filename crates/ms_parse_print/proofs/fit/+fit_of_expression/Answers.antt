use Rattle.std.proofs.Common.{◌<◌, refl, sym, ap, ◌∙◌, arith}
use Rattle.std.proofs.lemmas.Bool.{false≢true}
use Rattle.ms_logic.specs.declared.source.Form.TheVariants as forms
use Rattle.ms_parse_grammar.specs.declared.operator.Junction.TheVariants.{Conjunction, Disjunction}
use Rattle.ms_parse_grammar.specs.declared.operator.Listing.TheVariants.{Literal, Call}
use Rattle.ms_parse_grammar.specs.Tree.{joined, listed, quantified, let_in}
use Rattle.ms_parse_grammar.specs.View.{expression_of, expressions_of, variables_of, parts_of}
use Rattle.ms_parse_print.proofs.Prefixes.{all_step, all_stop, operands_step, operands_stop, variables_step, variables_stop, parts_step, parts_stop}
use Rattle.ms_parse_print.proofs.Shapes.{literal_shape, call_shape, and_shape, or_shape, bind_shape, let_shape, by_shape}
use Rattle.ms_parse_print.proofs.fit.+fit_of_expression.Goals as goal
use Rattle.ms_parse_print.proofs.fit.+fit_of_expression.Goals.{operands_pass-then-open_end-via-then-open_end, operands_pass-then-open_end-via-else-open_end+then-level-least, operands_pass-then-open_end-via-else-open_end+else-level-least+then-not-passes}

pub all_pass-returns-then-not-passes : goal.all_pass-returns-then-not-passes
all_pass-returns-then-not-passes t c = (
  λ never. absurd (false≢true never),
  λ all. c.if-not-passes.ensures.1 (all_stop c.args.room c.args.es.now c.loop-e.e-index c.e-item.result c.loop-e-test.true c.e-item.is all),
)

pub all_pass-loop-e-preserved : goal.all_pass-loop-e-preserved
all_pass-loop-e-preserved t c =
    all_step c.args.room c.args.es.now c.loop-e.e-index c.e-item.result c.loop-e-test.true c.e-item.is c.loop-e.invariant (c.if-not-passes.ensures.0 refl)

pub variables_pass-returns-then-not-variable_passes : goal.variables_pass-returns-then-not-variable_passes
variables_pass-returns-then-not-variable_passes t c = (
  λ never. absurd (false≢true never),
  λ all. c.if-not-variable_passes.ensures.1 (variables_stop c.args.room c.args.free c.args.bounds.now c.loop-bound.bound-index c.bound-item.result c.loop-bound-test.true c.bound-item.is all),
)

pub variables_pass-loop-bound-preserved : goal.variables_pass-loop-bound-preserved
variables_pass-loop-bound-preserved t c =
    variables_step c.args.room c.args.free c.args.bounds.now c.loop-bound.bound-index c.bound-item.result c.loop-bound-test.true c.bound-item.is c.loop-bound.invariant (c.if-not-variable_passes.ensures.0 refl)

pub parts_pass-returns-then-not-part_passes : goal.parts_pass-returns-then-not-part_passes
parts_pass-returns-then-not-part_passes t c = (
  λ never. absurd (false≢true never),
  λ all. c.if-not-part_passes.ensures.1 (parts_stop c.args.room c.args.parts.now c.loop-part.part-index c.part-item.result c.loop-part-test.true c.part-item.is all.1),
)

pub parts_pass-loop-part-preserved : goal.parts_pass-loop-part-preserved
parts_pass-loop-part-preserved t c =
    parts_step c.args.room c.args.parts.now c.loop-part.part-index c.part-item.result c.loop-part-test.true c.part-item.is c.loop-part.invariant (c.if-not-part_passes.ensures.0 refl)

pub operands_pass-loop-e-preserved : goal.operands_pass-loop-e-preserved
operands_pass-loop-e-preserved t c =
    operands_step c.args.room c.args.free c.args.least c.args.es.now c.loop-e.e-index c.loop-e.open_end c.ends_open-open_end.result c.e-item.result c.loop-e-test.true c.e-item.is c.loop-e.invariant
    c.if-open_end.false (omega (arith, c.level.ensures, c.if-level-least.false)) (c.if-not-passes.ensures.0 refl) c.ends_open-open_end.ensures

pub passes-returns-in-Literal : goal.passes-returns-in-Literal
passes-returns-in-Literal t c =
    let some : 0 < c.args.room = omega (arith, c.if-room-eq0.false) in
    by_shape c.args.e.now (listed c.args.e.now.at Literal (expressions_of c.slice.result.now)) c.args.room c.args.free c.all_pass.result
    (literal_shape c.args.e.now c.slice.result.now (c.in-Literal.is ∙ ap (λ x. forms.Literal x) (sym c.slice.ensures)))
    (λ holds. (some, (tt, tt), c.all_pass.ensures.0 holds)) (λ pass. c.all_pass.ensures.1 pass.2)

pub passes-returns-then-can_name : goal.passes-returns-then-can_name
passes-returns-then-can_name t c =
    let some : 0 < c.args.room = omega (arith, c.if-room-eq0.false) in
    by_shape c.args.e.now (listed c.args.e.now.at (Call c.in-Call.called) (expressions_of c.slice-then-can_name.result.now)) c.args.room c.args.free c.all_pass-then-can_name.result
    (call_shape c.args.e.now c.in-Call.called c.slice-then-can_name.result.now (c.in-Call.is ∙ ap (λ x. forms.Call c.in-Call.called x) (sym c.slice-then-can_name.ensures)))
    (λ holds. (some, (c.if-can_name.ensures.0 refl, (tt, tt)), c.all_pass-then-can_name.ensures.0 holds)) (λ pass. c.all_pass-then-can_name.ensures.1 pass.2)

pub operands_pass-returns-then-open_end : goal.operands_pass-returns-then-open_end
operands_pass-returns-then-open_end t c = (
  λ never. absurd (false≢true never),
  λ all.
      let here = operands_stop c.args.room c.args.free c.args.least c.args.es.now c.loop-e.e-index c.loop-e.open_end c.e-item.result c.loop-e-test.true c.e-item.is c.loop-e.invariant all.1 in
      elim c.then-open_end.branch [
        | operands_pass-then-open_end-via-then-open_end w ↦ sym here.0 ∙ w.if-open_end.true
        | operands_pass-then-open_end-via-else-open_end+then-level-least w ↦ absurd (omega (arith, w.if-level-least.true, w.level.ensures, here.1))
        | operands_pass-then-open_end-via-else-open_end+else-level-least+then-not-passes w ↦ w.if-not-passes.ensures.1 here.2
      ],
)

pub passes-returns-in-And : goal.passes-returns-in-And
passes-returns-in-And t c =
    let some : 0 < c.args.room = omega (arith, c.if-room-eq0.false) in
    by_shape c.args.e.now (joined c.args.e.now.at Conjunction (expressions_of c.slice-in-And.result.now)) c.args.room c.args.free c.operands_pass.result
    (and_shape c.args.e.now c.slice-in-And.result.now (c.in-And.is ∙ ap (λ x. forms.And x) (sym c.slice-in-And.ensures)))
    (λ holds. let both = c.operands_pass.ensures.0 holds in (some, both.0, both.1)) (λ pass. c.operands_pass.ensures.1 (pass.1, pass.2))

pub passes-returns-in-Or : goal.passes-returns-in-Or
passes-returns-in-Or t c =
    let some : 0 < c.args.room = omega (arith, c.if-room-eq0.false) in
    by_shape c.args.e.now (joined c.args.e.now.at Disjunction (expressions_of c.slice-in-Or.result.now)) c.args.room c.args.free c.operands_pass-in-Or.result
    (or_shape c.args.e.now c.slice-in-Or.result.now (c.in-Or.is ∙ ap (λ x. forms.Or x) (sym c.slice-in-Or.ensures)))
    (λ holds. let both = c.operands_pass-in-Or.ensures.0 holds in (some, both.0, both.1)) (λ pass. c.operands_pass-in-Or.ensures.1 (pass.1, pass.2))

pub passes-returns-then-bounds_pass : goal.passes-returns-then-bounds_pass
passes-returns-then-bounds_pass t c =
    let some : 0 < c.args.room = omega (arith, c.if-room-eq0.false) in
    let bound = c.if-bounds_pass.ensures.0 refl in
    by_shape c.args.e.now (quantified c.args.e.now.at c.in-Bind.field-0 c.in-Bind.order (variables_of c.slice-in-Bind.result.now) (expression_of c.get-then-bounds_pass.result.now)) c.args.room c.args.free c.passes-then-bounds_pass.result
    (bind_shape c.args.e.now c.in-Bind.field-0 c.in-Bind.order c.slice-in-Bind.result.now c.get-then-bounds_pass.result.now
    (c.in-Bind.is ∙ ap (λ x. forms.Bind c.in-Bind.field-0 c.in-Bind.order x c.in-Bind.body) (sym c.slice-in-Bind.ensures) ∙ ap (λ x. forms.Bind c.in-Bind.field-0 c.in-Bind.order c.slice-in-Bind.result.now x) (sym c.get-then-bounds_pass.ensures)))
    (λ holds. (some, bound.0.0, bound.0.1, bound.1, c.passes-then-bounds_pass.ensures.0 holds)) (λ pass. c.passes-then-bounds_pass.ensures.1 pass.4)

pub passes-returns-else-bounds_pass : goal.passes-returns-else-bounds_pass
passes-returns-else-bounds_pass t c =
    by_shape c.args.e.now (quantified c.args.e.now.at c.in-Bind.field-0 c.in-Bind.order (variables_of c.slice-in-Bind.result.now) (expression_of c.in-Bind.body)) c.args.room c.args.free c.bounds_pass.result
    (bind_shape c.args.e.now c.in-Bind.field-0 c.in-Bind.order c.slice-in-Bind.result.now c.in-Bind.body
    (c.in-Bind.is ∙ ap (λ x. forms.Bind c.in-Bind.field-0 c.in-Bind.order x c.in-Bind.body) (sym c.slice-in-Bind.ensures)))
    (λ holds. absurd (false≢true (sym c.if-bounds_pass.false ∙ holds))) (λ pass. c.bounds_pass.ensures.1 ((pass.1, pass.2), pass.3))

pub passes-returns-then-parts_pass : goal.passes-returns-then-parts_pass
passes-returns-then-parts_pass t c =
    let some : 0 < c.args.room = omega (arith, c.if-room-eq0.false) in
    let named = c.if-parts_pass.ensures.0 refl in
    by_shape c.args.e.now (let_in c.args.e.now.at c.in-Let.field-0 (parts_of c.slice-in-Let.result.now) (expression_of c.get-then-parts_pass.result.now)) c.args.room c.args.free c.passes-then-parts_pass.result
    (let_shape c.args.e.now c.in-Let.field-0 c.slice-in-Let.result.now c.get-then-parts_pass.result.now
    (c.in-Let.is ∙ ap (λ x. forms.Let c.in-Let.field-0 x c.in-Let.body) (sym c.slice-in-Let.ensures) ∙ ap (λ x. forms.Let c.in-Let.field-0 c.slice-in-Let.result.now x) (sym c.get-then-parts_pass.ensures)))
    (λ holds. (some, named.0, named.1, c.passes-then-parts_pass.ensures.0 holds)) (λ pass. c.passes-then-parts_pass.ensures.1 pass.3)

pub passes-returns-else-parts_pass : goal.passes-returns-else-parts_pass
passes-returns-else-parts_pass t c =
    by_shape c.args.e.now (let_in c.args.e.now.at c.in-Let.field-0 (parts_of c.slice-in-Let.result.now) (expression_of c.in-Let.body)) c.args.room c.args.free c.parts_pass.result
    (let_shape c.args.e.now c.in-Let.field-0 c.slice-in-Let.result.now c.in-Let.body
    (c.in-Let.is ∙ ap (λ x. forms.Let c.in-Let.field-0 x c.in-Let.body) (sym c.slice-in-Let.ensures)))
    (λ holds. absurd (false≢true (sym c.if-parts_pass.false ∙ holds))) (λ pass. c.parts_pass.ensures.1 (pass.1, pass.2))
