use Rattle.std.proofs.Common.{length, take, refl, ap, ◌∙◌, arith}
use Rattle.std.proofs.lemmas.List.{length-append, take-append-le}
use Rattle.ms_lower.specs.inner.Scope.{names_in}
use Rattle.ms_lower.proofs.Defaults.{named_before}
use Rattle.ms_lower.proofs.scope.enter_named.Goals as goal

pub loop-i-preserved : goal.loop-i-preserved
loop-i-preserved c =
    let inv = c.loop-i.invariant in
    let e = c.in_ok-enter_one.ensures in
    let long = ap length e ∙ length-append c.loop-i.scope _ in
    record {
      within = omega (arith, inv.within);
      names = named_before c.loop-i.scope c.enter_one.new.scope (names_in c.args.scope.now) c.args.named.now c.loop-i.i _ _ c.loop-i-test.true inv.within refl inv.names e;
      kept = ap (take (length c.args.scope.now)) e ∙ (take-append-le (length c.args.scope.now) c.loop-i.scope _ inv.longer ∙ inv.kept);
      longer = omega (arith, inv.longer, long);
    }
