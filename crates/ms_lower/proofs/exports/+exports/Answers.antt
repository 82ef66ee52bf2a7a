use Rattle.std.proofs.Common.{[], map, sym, ap, ◌∙◌, arith}
use Rattle.ms_logic.specs.View.{formula_of}
use Rattle.ms_lower.specs.NumberedRoots.{renumbered_root, roots_in, seen_over}
use Rattle.ms_lower.proofs.SeenVariables.{roots-more, seen_over-append}
use Rattle.ms_lower.proofs.Trees.{formula_of-Bind}
use Rattle.ms_lower.proofs.exports.+exports.Goals as goal

pub roots-returns-in_ok-inside-in-Bind-clause-roots : goal.roots-returns-in_ok-inside-in-Bind-clause-roots
roots-returns-in_ok-inside-in-Bind-clause-roots t c =
    let T = c.args.tables.now in
    let exports = c.args.exports.now in
    c.in_ok-inside-in-Bind.ensures.roots
    ∙ (ap (λ f. map (renumbered_root T) (roots_in T exports (seen_over [] c.enter.new.self) (formula_of f))) c.get.ensures
    ∙ (ap (λ s. map (renumbered_root T) (roots_in T exports s (formula_of c.in-Bind.body))) (ap (seen_over []) c.in_ok-enter-in-Bind.ensures ∙ seen_over-append [] c.args.seen.now _)
    ∙ ap (λ g. map (renumbered_root T) (roots_in T exports (seen_over [] c.args.seen.now) g)) (sym (ap formula_of c.in-Bind.is ∙ formula_of-Bind c.in-Bind.field-0 c.in-Bind.order c.in-Bind.variable c.in-Bind.field-3 c.in-Bind.body))))

pub roots_of_each-loop-operand-preserved : goal.roots_of_each-loop-operand-preserved
roots_of_each-loop-operand-preserved t c =
    let T = c.args.tables.now in
    let inv = c.loop-operand.invariant in
    record {
      roots =
          roots-more formula_of T c.args.exports.now (seen_over [] c.args.seen.now) c.args.operands.now c.loop-operand.operand-index c.operand-item.result c.loop-operand.all c.in_ok-inside.inside c.in_ok-all.all (omega arith) c.operand-item.is inv.roots
          (c.in_ok-inside.ensures.roots ∙ ap (λ s. map (renumbered_root T) (roots_in T c.args.exports.now (seen_over [] s) (formula_of c.operand-item.result))) inv.seen) c.in_ok-all.ensures;
      seen = c.in_ok-inside.ensures.seen ∙ inv.seen;
    }
