use Rattle.std.proofs.Common.{[], ap, ◌∙◌, arith}
use Rattle.ms_names_rules.specs.Reads.{readings_of_bounds, readings_of_default}
use Rattle.ms_parse_grammar.specs.View.{variables_of}
use Rattle.ms_names_scopes.specs.inner.Found.{noted}
use Rattle.ms_names_scopes.proofs.Lists.{defaults-next}
use Rattle.ms_names_scopes.proofs.Repeats.{noted-none}
use Rattle.ms_names_scopes.proofs.checker.Checker.read_defaults.Goals as goal
use Rattle.std.proofs.lemmas.List.{take_all}

pub loop-bound-init : goal.loop-bound-init
loop-bound-init c = noted-none c.args.self.now

pub loop-bound-preserved : goal.loop-bound-preserved
loop-bound-preserved c =
    let t = c.loop-bound.self in
    defaults-next c.args.self.now t c.read_default.new.self c.args.bounds.now c.loop-bound.bound-index c.bound-item.result (omega arith) c.bound-item.is c.loop-bound.invariant
    (c.in_ok-read_default.ensures ∙ ap (λ p. noted t [] (readings_of_default p)) c.default_for-default.ensures)

pub returns : goal.returns
returns c =
    let s = c.args.self.now in
    c.loop-bound.invariant
    ∙ ap (λ vs. noted s [] (readings_of_bounds s.scope (variables_of vs))) (take_all c.loop-bound.bound-index c.args.bounds.now (omega arith))
