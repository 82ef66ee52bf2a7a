use Rattle.std.proofs.Common.{◌≡◌, Result, Ok, ap, ◌∙◌}
use Rattle.std.proofs.lemmas.Result.{IfOk-at_ok}
use Rattle.ms_logic.specs.Tree.{Form, quantified, restricted}
use Rattle.ms_logic.specs.View.{formula_of}
use Rattle.ms_list.specs.declared.fault.NoMemory.{NoMemory}
use Rattle.ms_logic.specs.declared.formula.Formula.{Formula}
use Rattle.ms_logic.specs.declared.mode.Order.TheVariants.{Two}
use Rattle.ms_logic.specs.declared.mode.Quant.TheVariants.{Ex}
use Rattle.ms_logic.proofs.Views.{formula_of-Bind-some}
use Rattle.ms_presburger.proofs.sums.some_set.Goals as goal

pub returns : goal.returns
returns c = λ d f one other.
    let domain = c.in_ok-domain.domain in
    let body = c.in_ok-domain.body in
    let left = IfOk-at_ok (λ formula. formula_of formula ≡ d) (IfOk-at_ok (λ boxed. ◌≡◌ {A = Result Formula NoMemory} c.args.domain (Ok boxed)) c.in_ok-domain.ensures.one c.heaped.ensures) one in
    let right = IfOk-at_ok (λ formula. formula_of formula ≡ f) (IfOk-at_ok (λ boxed. ◌≡◌ {A = Result Formula NoMemory} c.args.body (Ok boxed)) c.in_ok-domain.ensures.other c.heaped-2.ensures) other in
    formula_of-Bind-some Ex Two c.args.x domain body
    ∙ (ap (λ (g : Form). quantified Ex Two c.args.x (restricted g) (formula_of body)) left ∙ ap (λ (g : Form). quantified Ex Two c.args.x (restricted d) g) right)
