use Rattle.std.proofs.Common.{ap, ◌∙◌, sym, subst}
use Rattle.std.proofs.lemmas.Result.{IfOk-weaker}
use Rattle.ms_logic_core.specs.Calls.{filled}
use Rattle.ms_logic_core.specs.CoreForm.{core_form_of}
use Rattle.ms_logic_core.proofs.CoreViews.{core_form_of-True}
use Rattle.ms_dag.specs.Imports.{ImportsBelow}
use Rattle.try_built.specs.Inclusions.{true_calls}
use Rattle.try_built.proofs.no_calls.NoCallsBodies.body.Goals as goal

pub returns-clause-stands : goal.returns-clause-stands
returns-clause-stands c =
    IfOk-weaker c.on_heap.result _ _
    (λ core is. ap (λ made. filled true_calls (core_form_of made)) is ∙ ap (filled true_calls) core_form_of-True)
    c.on_heap.ensures

pub returns-clause-below : goal.returns-clause-below
returns-clause-below c =
    IfOk-weaker c.on_heap.result _ _
    (λ core is. subst (λ made. ImportsBelow c.args._import (core_form_of made)) (sym is)
    (subst (ImportsBelow c.args._import) (sym core_form_of-True) tt))
    c.on_heap.ensures
