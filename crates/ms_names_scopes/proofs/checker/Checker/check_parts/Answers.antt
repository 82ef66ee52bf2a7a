use Rattle.std.proofs.Common.{[], ap, ◌∙◌, arith}
use Rattle.ms_names_rules.specs.Rules.{faults_of_parts}
use Rattle.ms_parse_grammar.specs.View.{parts_of}
use Rattle.ms_names_scopes.specs.inner.Found.{with_faults}
use Rattle.ms_names_scopes.proofs.Repeats.{parts-seen}
use Rattle.ms_names_scopes.proofs.checker.Checker.check_parts.Goals as goal
use Rattle.std.proofs.lemmas.List.{take_all}

pub loop-part-preserved : goal.loop-part-preserved
loop-part-preserved c =
    parts-seen c.args.self.now c.loop-part.self c.check_repeat.new.self c.loop-part.seen c.check_repeat.new.seen c.args.parts.now c.loop-part.part-index c.part-item.result (omega arith) c.part-item.is
    c.loop-part.invariant c.in_ok-check_repeat.ensures.state c.in_ok-check_repeat.ensures.seen

pub returns : goal.returns
returns c =
    c.loop-part.invariant.state
    ∙ ap (λ ps. with_faults c.args.self.now (faults_of_parts [] (parts_of ps))) (take_all c.loop-part.part-index c.args.parts.now (omega arith))
