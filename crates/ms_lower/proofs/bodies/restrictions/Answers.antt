use Rattle.std.proofs.Common.{◌+◌, map, take, ap, ◌∙◌, arith}
use Rattle.ms_logic.specs.View.{declaration_of}
use Rattle.ms_lower.specs.Callees.{callees_in}
use Rattle.ms_lower.specs.Numbering.{numbering_of}
use Rattle.ms_lower.specs.inner.Scope.{names_in}
use Rattle.ms_lower.proofs.Operands.{restrictions-more}
use Rattle.ms_lower.proofs.Parts.{map-more}
use Rattle.ms_lower.proofs.bodies.restrictions.Goals as goal

pub loop-param-preserved : goal.loop-param-preserved
loop-param-preserved c =
    let T = c.args.tables.now in
    let ps = c.args.params.now in
    let i = c.loop-param.param-index in
    let p = c.param-item.result in
    let inv = c.loop-param.invariant in
    let more = c.in_ok-push_restriction.ensures in
    record {
      cores =
          restrictions-more (numbering_of T) (callees_in T) (names_in c.args.scope.now) c.args.free (map declaration_of (take i ps)) (map declaration_of (take (i + 1) ps)) (declaration_of p) _ _ _
          (map-more declaration_of ps i p (omega arith) c.param-item.is) (ap names_in inv.scope) inv.cores more.cores;
      scope = more.scope ∙ inv.scope;
    }
