use Rattle.std.proofs.Common.{map, sym, ap, ◌∙◌}
use Rattle.std.proofs.lemmas.Result.{IfOk-weaker}
use Rattle.ms_logic_core.specs.CoreForm.{core_form_of, imported, restrict}
use Rattle.ms_logic_core.proofs.CoreViews.{core_form_of-Import}
use Rattle.ms_lower.specs.Numbering.{number_at, numbering_of, renumbered}
use Rattle.ms_lower.specs.inner.Scope.{names_in}
use Rattle.ms_lower.proofs.Callees.{call_numbered, callee_nowhere}
use Rattle.ms_lower.proofs.calls.call.Goals as goal

pub returns-in_default : goal.returns-in_default
returns-in_default c =
    let T = c.args.tables.now in
    let nowhere = callee_nowhere T c.args.predicate c.in_default.ensures.none in
    IfOk-weaker c.restricted.result _ _ (λ core is. is ∙ (ap restrict c.in_ok-constant.ensures ∙ ap (λ b. renumbered (numbering_of T) (b (names_in c.args.scope.now) c.args.free)) (sym nowhere.body))) c.restricted.ensures

pub returns : goal.returns
returns c =
    let T = c.args.tables.now in
    let known = c.in-Some.known.now in
    let held = c.in-Some.ensures.some in
    let number = number_at T.kept T.globals in
    let names = names_in c.args.scope.now in
    ap core_form_of c.in_ok-on_heap.ensures
    ∙ (core_form_of-Import c.in_ok-number_of_call.field-0 c.push.new.list
    ∙ (ap (imported c.in_ok-number_of_call.field-0) c.in_ok-push.ensures.ok
    ∙ call_numbered T c.args.predicate known names c.args.free c.in_ok-number_of_call.field-0 c.in_ok-number.field-0 c.in_ok-numbers.numbers held.0 held.1
    c.in_ok-number_of_call.ensures (c.in_ok-numbers.ensures ∙ ap (map (λ p. number p.order (names p.order p.variable))) c.slice.ensures) c.in_ok-number.ensures.number))
