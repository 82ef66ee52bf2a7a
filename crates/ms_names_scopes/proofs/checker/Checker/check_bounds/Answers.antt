use Rattle.std.proofs.Common.{[], ap, ◌∙◌, arith}
use Rattle.ms_names_rules.specs.Rules.{faults_of_bounds}
use Rattle.ms_parse_grammar.specs.View.{variables_of}
use Rattle.ms_names_scopes.specs.inner.Found.{with_faults}
use Rattle.ms_names_scopes.proofs.Repeats.{bounds-seen}
use Rattle.ms_names_scopes.proofs.checker.Checker.check_bounds.Goals as goal
use Rattle.std.proofs.lemmas.List.{take_all}

pub loop-bound-preserved : goal.loop-bound-preserved
loop-bound-preserved c =
    bounds-seen c.args.self.now c.loop-bound.self c.check_repeat.new.self [] c.loop-bound.seen c.check_repeat.new.seen c.args.bounds.now c.loop-bound.bound-index c.bound-item.result (omega arith) c.bound-item.is
    c.loop-bound.invariant c.in_ok-check_repeat.ensures.state c.in_ok-check_repeat.ensures.seen

pub returns : goal.returns
returns c =
    c.loop-bound.invariant.state
    ∙ ap (λ vs. with_faults c.args.self.now (faults_of_bounds [] (variables_of vs))) (take_all c.loop-bound.bound-index c.args.bounds.now (omega arith))
