use Rattle.std.proofs.Common.{ap, ◌∙◌, arith}
use Rattle.ms_logic_core.specs.Spread.{own_names}
use Rattle.ms_lower.specs.Callees.{callees_in}
use Rattle.ms_lower.specs.Numbering.{numbering_of}
use Rattle.ms_lower.specs.inner.Scope.{names_in}
use Rattle.ms_lower.proofs.MainRoot.{global-more}
use Rattle.ms_lower.proofs.main_root.global_restrictions.Goals as goal

pub loop-global-preserved : goal.loop-global-preserved
loop-global-preserved c =
    let T = c.args.tables.now in
    let inv = c.loop-global.invariant in
    let more = c.in_ok-push_restriction.ensures in
    record {
      cores = global-more (numbering_of T) (callees_in T) own_names c.args.free c.args.globals.now c.loop-global.global-index c.global-item.result _ _ _ (omega arith) c.global-item.is (ap names_in inv.scope) inv.cores more.cores;
      scope = more.scope ∙ inv.scope;
    }
