use Rattle.std.proofs.Common.{[], ◌∷◌, map, sym, ap, ◌∙◌, arith}
use Rattle.std.specs.Option.{is_some}
use Rattle.ms_lower.specs.NumberedRoots.{main_over, renumbered_root, root_of}
use Rattle.ms_lower.proofs.AllRoots.{goal_roots-more}
use Rattle.ms_lower.proofs.Parts.{not_kept-more}
use Rattle.ms_lower.proofs.goal_roots.goal_roots.Goals as goal
use Rattle.ms_lower.proofs.goal_roots.goal_roots.Goals.{then-is_some+in_ok-goal_root+in_ok-push, else-is_some}

pub loop-placed-preserved : goal.loop-placed-preserved
loop-placed-preserved c =
    let T = c.args.tables.now in
    let globals = c.args.globals.now in
    let fs = c.args.formulas.now in
    let i = c.loop-placed.placed-index in
    let p = c.placed-item.result in
    elim c.if-is_some.branch [
      | then-is_some+in_ok-goal_root+in_ok-push w ↦
          goal_roots-more T globals fs i p c.loop-placed.roots c.if-is_some.roots w.in_ok-goal_root.field-0 (omega arith) c.placed-item.is (sym c.is_some.ensures ∙ w.if-is_some.true) c.loop-placed.invariant
          w.in_ok-goal_root.ensures (w.roots-is ∙ w.in_ok-push.ensures.ok)
      | else-is_some w ↦
          ap (map root_of) w.roots-is
          ∙ (c.loop-placed.invariant
          ∙ ap (λ l. map (renumbered_root T) (map (λ goal. main_over T globals (goal ∷ [])) l))
          (sym (not_kept-more (λ placed. is_some placed.title) fs i p (omega arith) c.placed-item.is (sym c.is_some.ensures ∙ w.if-is_some.false))))
    ]
