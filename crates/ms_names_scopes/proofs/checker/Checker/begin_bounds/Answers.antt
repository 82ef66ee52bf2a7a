use Rattle.std.proofs.Common.{[], sym, ap, ◌∙◌}
use Rattle.ms_names_rules.specs.Before.{with_names}
use Rattle.ms_names_rules.specs.Reads.{readings_of_bounds}
use Rattle.ms_names_rules.specs.Scope.{count_of_bounds}
use Rattle.ms_parse_grammar.specs.View.{variables_of}
use Rattle.ms_names_rules.proofs.Lists.{count_of_bounds-length}
use Rattle.ms_names_scopes.specs.inner.Found.{Found, noted}
use Rattle.ms_names_scopes.proofs.checker.Checker.begin_bounds.Goals as goal

pub returns-clause-state : goal.returns-clause-state
returns-clause-state c =
    let vs = variables_of c.args.bounds.now in
    let k = count_of_bounds vs in
    let F : Found → Found = λ there. record there { before = with_names there.before k } in
    let G : Found → Found = λ there. record (noted there [] (readings_of_bounds there.scope vs)) { before = with_names there.before k } in
    c.in_ok-first.ensures.state
    ∙ (ap (λ n. record c.read_defaults.new.self { before = with_names c.read_defaults.new.self.before n }) (sym (count_of_bounds-length c.args.bounds.now))
    ∙ (ap F c.in_ok-read_defaults.ensures
    ∙ ap G c.in_ok-check_bounds.ensures))
