use Rattle.std.proofs.Common.{◌-◌, ap, ◌∙◌, sym, subst}
use Rattle.std.proofs.lemmas.Result.{IfOk-weaker}
use Rattle.ms_logic_core.specs.Calls.{filled}
use Rattle.ms_dag.specs.Imports.{ImportsBelow}
use Rattle.ms_build_source.specs.CallsOfSources.{source_calls}
use Rattle.ms_lower.specs.Bodies.{called_in}
use Rattle.ms_build_source.proofs.CallLemmas.{called_below, lowered_call}
use Rattle.ms_build_source.proofs.source_calls.SourceCallsBodies.body.Goals as goal

pub returns-clause-stands : goal.returns-clause-stands
returns-clause-stands c =
    let checked = c.args.self.now.checked.now in
    let tables = c.args.self.now.tables in
    let count = c.len-imports.ensures in
    IfOk-weaker c.lower_call.result _ _
    (λ core is. ap (filled (source_calls checked)) (is ∙ ap (λ p. called_in tables p c.args.variables.now) (ap (λ n. c.args.import - n) count))
    ∙ lowered_call checked tables c.requires.ready.0 c.requires.ready.1 c.args.import c.args.variables.now c.requires.call)
    c.lower_call.ensures

pub returns-clause-below : goal.returns-clause-below
returns-clause-below c =
    let checked = c.args.self.now.checked.now in
    let tables = c.args.self.now.tables in
    let count = c.len-imports.ensures in
    IfOk-weaker c.lower_call.result _ _
    (λ core is. subst (ImportsBelow c.args.import) (sym (is ∙ ap (λ p. called_in tables p c.args.variables.now) (ap (λ n. c.args.import - n) count)))
    (called_below checked tables c.requires.ready.0 c.requires.ready.1 c.args.import c.args.variables.now c.requires.call))
    c.lower_call.ensures
