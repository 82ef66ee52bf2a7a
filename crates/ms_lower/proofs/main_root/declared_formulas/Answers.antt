use Rattle.std.proofs.Common.{take, ◌++◌, ◌∷◌, [], map, sym, ap, ◌∙◌, arith}
use Rattle.std.specs.Option.{is_none}
use Rattle.std.specs.Prelude.{filter}
use Rattle.ms_logic_core.specs.CoreForm.{core_form_of}
use Rattle.ms_logic_core.specs.Spread.{own_names, spread_each}
use Rattle.ms_logic.specs.View.{formula_of, forms}
use Rattle.ms_lower.specs.Callees.{callees_in, spread_in}
use Rattle.ms_lower.specs.Numbering.{numbering_of, renumbered}
use Rattle.ms_lower.specs.inner.Scope.{names_in}
use Rattle.ms_lower.proofs.MainRoot.{placed-more}
use Rattle.ms_lower.proofs.Parts.{kept-more, not_kept-more}
use Rattle.ms_lower.proofs.main_root.declared_formulas.Goals as goal
use Rattle.ms_lower.proofs.main_root.declared_formulas.Goals.{then-is_declared+in_ok-core+in_ok-push, else-is_declared}

pub loop-placed-preserved : goal.loop-placed-preserved
loop-placed-preserved c =
    let T = c.args.tables.now in
    let inv = c.loop-placed.invariant in
    let fs = c.args.formulas.now in
    let i = c.loop-placed.placed-index in
    let p = c.placed-item.result in
    elim c.if-is_declared.branch [
      | then-is_declared+in_ok-core+in_ok-push w ↦
          record {
            cores =
                placed-more (numbering_of T) (callees_in T) own_names c.args.free (filter (λ placed. is_none placed.title) (take i fs)) p c.loop-placed.cores c.if-is_declared.cores w.in_ok-core.core inv.cores
                (w.in_ok-core.ensures.core ∙ ap (λ s. spread_in T (formula_of p.formula) (names_in s) c.args.free) inv.scope)
                (w.cores-is ∙ (w.in_ok-push.ensures.ok ∙ ap (λ k. c.loop-placed.cores ++ k ∷ []) w.into_inner.ensures))
                ∙ ap (λ l. map (renumbered (numbering_of T)) (spread_each (callees_in T) (forms (map (λ placed. formula_of placed.formula) l)) own_names c.args.free))
                (sym (kept-more (λ placed. is_none placed.title) fs i p (omega arith) c.placed-item.is (sym c.is_declared.ensures ∙ w.if-is_declared.true)));
            scope = w.scope-is ∙ (w.in_ok-core.ensures.scope ∙ inv.scope);
          }
      | else-is_declared w ↦
          record {
            cores =
                ap (map core_form_of) w.cores-is
                ∙ (inv.cores
                ∙ ap (λ l. map (renumbered (numbering_of T)) (spread_each (callees_in T) (forms (map (λ placed. formula_of placed.formula) l)) own_names c.args.free))
                (sym (not_kept-more (λ placed. is_none placed.title) fs i p (omega arith) c.placed-item.is (sym c.is_declared.ensures ∙ w.if-is_declared.false))));
            scope = w.scope-is ∙ inv.scope;
          }
    ]
