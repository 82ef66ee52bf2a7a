use Rattle.std.proofs.Common.{List, ap, ◌∙◌}
use Rattle.ms_logic.specs.declared.mode.Order.{Order}
use Rattle.ms_names_rules.specs.declared.meaning.Meaning.TheVariants.{Predicate}
use Rattle.ms_names_rules.specs.Declarations.{next_predicate}
use Rattle.ms_names_rules.specs.Scope.{bind}
use Rattle.ms_names_scopes.specs.inner.Declaration.{read_through}
use Rattle.ms_names_scopes.specs.inner.Found.{Found}
use Rattle.ms_names_scopes.proofs.checker.Checker.name_predicate.Goals as goal

pub returns : goal.returns
returns c =
    let t = c.args.self.now in
    let n = c.args.name.now in
    let F : Found → Found = λ there. record there { scope = bind n (Predicate c.in_ok-number.number c.in_ok-orders.orders) there.scope } in
    c.in_ok-bind.ensures
    ∙ (ap F c.in_ok-number.ensures.state
    ∙ (ap (λ k. record (read_through t) { scope = bind n (Predicate k c.in_ok-orders.orders) (read_through t).scope }) c.in_ok-number.ensures.number
    ∙ ap (λ (orders : List Order). record (read_through t) { scope = bind n (Predicate (next_predicate t.scope) orders) (read_through t).scope }) c.in_ok-orders.ensures))
