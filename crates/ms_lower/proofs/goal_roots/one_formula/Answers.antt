use Rattle.std.proofs.Common.{[], ◌∷◌, ◌++◌, map, ap, ◌∙◌}
use Rattle.ms_logic_core.specs.CoreForm.{core_form_of}
use Rattle.ms_logic.specs.View.{formula_of}
use Rattle.ms_lower.specs.Callees.{spread_in}
use Rattle.ms_lower.specs.inner.Scope.{names_in}
use Rattle.ms_lower.proofs.goal_roots.one_formula.Goals as goal

pub returns : goal.returns
returns c =
    ap (map core_form_of) (c.in_ok-push.ensures.ok ∙ (ap (λ l. l ++ c.into_inner.result ∷ []) c.new-cores.ensures ∙ ap (λ k. k ∷ []) c.into_inner.ensures))
    ∙ ap (λ f. f ∷ []) (c.in_ok-core.ensures.core ∙ ap (λ s. spread_in c.args.tables.now (formula_of c.args.source.now) (names_in s) c.args.free) c.new-scope.ensures)
