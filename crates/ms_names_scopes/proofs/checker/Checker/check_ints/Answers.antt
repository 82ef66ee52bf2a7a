use Rattle.std.proofs.Common.{◌+◌, drop, sym, ap, ◌∙◌, arith}
use Rattle.std.specs.Prelude.{flat_map}
use Rattle.std.proofs.lemmas.List.{drop_all}
use Rattle.ms_names_rules.specs.Rules.{faults_of_placed}
use Rattle.ms_names_rules.proofs.Repeats.{next}
use Rattle.ms_names_scopes.specs.inner.Found.{with_faults}
use Rattle.ms_names_scopes.proofs.Sums.{ints-next}
use Rattle.ms_names_scopes.proofs.checker.Checker.check_ints.Goals as goal

pub loop-int-preserved : goal.loop-int-preserved
loop-int-preserved c =
    let t = c.loop-int.self in
    let is = c.args.ints.now in
    let i = c.loop-int.int-index in
    ints-next t c.check_int.new.self c.int-item.result (drop (i + 1) is) c.in_ok-check_int.ensures
    ∙ (ap (λ rest. with_faults t (flat_map (faults_of_placed t.scope) rest)) (sym (next is i c.int-item.result (omega arith) c.int-item.is))
    ∙ c.loop-int.invariant)

pub returns : goal.returns
returns c =
    let t = c.loop-int.self in
    ap (λ rest. with_faults t (flat_map (faults_of_placed t.scope) rest)) (sym (drop_all c.loop-int.int-index c.args.ints.now (omega arith)))
    ∙ c.loop-int.invariant
