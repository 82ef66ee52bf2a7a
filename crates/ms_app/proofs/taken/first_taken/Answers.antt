use Rattle.std.proofs.Common.{Contains, sym, subst, ap, arith, ◌∙◌}
use Rattle.std.proofs.lemmas.Bool.{false≢true}
use Rattle.std.proofs.lemmas.List.Elements.{All-more}
use Rattle.ms_logic.specs.declared.checked.ExportUse.{ExportUse}
use Rattle.ms_app.proofs.Written.{all_taken}
use Rattle.ms_app.proofs.taken.first_taken.Goals as goal

pub loop-used-preserved : goal.loop-used-preserved
loop-used-preserved c =
    let exports = c.args.exports.now in
    let outs = c.args.outs.now in
    let place = c.loop-used.used-index in
    let less = c.loop-used-test.true in
    All-more (λ (used : ExportUse). Contains outs used.name → ⊥) exports place c.used-item.result (omega (arith, less)) c.loop-used.invariant (λ there.
    let named = c.text.ensures ∙ ap (λ (used : ExportUse). used.name) c.used-item.is in
    false≢true (sym c.if-is_among.false ∙ c.is_among.ensures.1 (subst (Contains outs) (sym named) there)))

pub returns-clause-none : goal.returns-clause-none
returns-clause-none c =
    let past = c.loop-used-test.false in
    all_taken (λ (used : ExportUse). Contains c.args.outs.now used.name → ⊥) c.args.exports.now c.loop-used.used-index (omega (arith, past)) c.loop-used.invariant
