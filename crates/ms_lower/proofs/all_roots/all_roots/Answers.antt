use Rattle.std.proofs.Common.{[], ◌∷◌, ◌++◌, map, ap, ap₂, ◌∙◌}
use Rattle.std.proofs.lemmas.Result.{IfOk-weaker}
use Rattle.std.specs.Option.{is_none, is_some}
use Rattle.std.specs.Prelude.{filter}
use Rattle.ms_lower.specs.NumberedRoots.{main_over, renumbered_root}
use Rattle.ms_lower.proofs.AllRoots.{roots_joined}
use Rattle.ms_lower.proofs.all_roots.all_roots.Goals as goal

pub returns : goal.returns
returns c =
    let T = c.args.tables.now in
    let main = c.in_ok-main_root.field-0 in
    IfOk-weaker _ _ _
    (λ all is.
    roots_joined T c.args.checked.now main c.push.new.list c.in_ok-export_roots.field-0 c.in_ok-front.front c.in_ok-goals.goals all
    (c.in_ok-main_root.ensures ∙ ap₂ (λ gs fs. renumbered_root T (main_over T gs (filter (λ placed. is_none placed.title) fs))) c.slice-globals.ensures c.slice-formulas.ensures)
    (c.in_ok-push.ensures.ok ∙ ap (λ l. l ++ main ∷ []) c.new-main.ensures) c.in_ok-export_roots.ensures (c.in_ok-front.ensures ∙ ap (λ l. l ++ c.in_ok-export_roots.field-0) c.main-2.view_is)
    (c.in_ok-goals.ensures
    ∙ ap₂ (λ gs fs. map (renumbered_root T) (map (λ goal. main_over T gs (goal ∷ [])) (filter (λ placed. is_some placed.title) fs))) c.slice-globals.ensures c.slice-formulas.ensures) is)
    c.joined-2.ensures
