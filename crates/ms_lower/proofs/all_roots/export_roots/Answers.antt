use Rattle.std.proofs.Common.{◌<◌, [], get_or, length, map, ap, ◌∙◌, arith}
use Rattle.ms_lower.specs.NumberedRoots.{globals_over, renumbered_root, roots_in, seen_over}
use Rattle.ms_logic.specs.View.{formula_of}
use Rattle.ms_lower.proofs.SeenVariables.{roots-more}
use Rattle.ms_lower.proofs.all_roots.export_roots.Goals as goal

pub loop-placed-preserved : goal.loop-placed-preserved
loop-placed-preserved c =
    let T = c.args.tables.now in
    let checked = c.args.checked.now in
    let inv = c.loop-placed.invariant in
    let p = c.placed-item.result in
    let same = c.slice-placed-items.ensures in
    let below : c.loop-placed.placed-index < length checked.formulas = let k = ap length same in omega arith in
    record {
      roots =
          roots-more (λ placed. formula_of placed.formula) T checked.exports (globals_over 0 [] checked.globals) checked.formulas c.loop-placed.placed-index p c.loop-placed.all c.in_ok-inside.inside c.in_ok-all.all
          below (c.placed-item.is ∙ ap (λ l. get_or l c.loop-placed.placed-index p) same) inv.roots
          (c.in_ok-inside.ensures.roots
          ∙ (ap (λ e. map (renumbered_root T) (roots_in T e (seen_over [] c.loop-placed.seen) (formula_of p.formula))) c.slice-exports.ensures
          ∙ ap (λ s. map (renumbered_root T) (roots_in T checked.exports s (formula_of p.formula))) inv.seen))
          c.in_ok-all.ensures;
      seen = ap (seen_over []) c.in_ok-inside.ensures.seen ∙ inv.seen;
    }
