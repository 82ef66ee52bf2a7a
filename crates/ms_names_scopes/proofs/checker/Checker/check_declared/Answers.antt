use Rattle.std.proofs.Common.{◌≡◌, is_some, true, false, sym, ap, ◌∙◌}
use Rattle.ms_names_rules.specs.declared.fault.Fault.TheVariants.{NamedTwice}
use Rattle.ms_names_rules.specs.Rules.{in_case, is_name_among}
use Rattle.ms_names_rules.specs.Declarations.{declared_names}
use Rattle.ms_names_rules.proofs.Repeats.{among-is_some, is_some-copied}
use Rattle.ms_names_scopes.specs.inner.Found.{with_faults}
use Rattle.ms_names_scopes.proofs.checker.Checker.check_declared.Goals as goal

pub returns-in_ok-report_twice : goal.returns-in_ok-report_twice
returns-in_ok-report_twice c =
    let declared : is_name_among c.args.name.now (declared_names c.args.self.now.scope) ≡ true =
    among-is_some c.args.self.now.scope.names c.args.name.now
    ∙ (ap is_some (sym c.meaning.ensures) ∙ (sym (is_some-copied c.meaning.result) ∙ (sym c.is_some.ensures ∙ c.if-is_some.true))) in
    c.in_ok-report_twice.ensures
    ∙ ap (λ b. with_faults c.args.self.now (in_case b (NamedTwice c.args.at c.args.name.now))) (sym declared)

pub returns-else-is_some : goal.returns-else-is_some
returns-else-is_some c =
    let declared : is_name_among c.args.name.now (declared_names c.args.self.now.scope) ≡ false =
    among-is_some c.args.self.now.scope.names c.args.name.now
    ∙ (ap is_some (sym c.meaning.ensures) ∙ (sym (is_some-copied c.meaning.result) ∙ (sym c.is_some.ensures ∙ c.if-is_some.false))) in
    ap (λ b. with_faults c.args.self.now (in_case b (NamedTwice c.args.at c.args.name.now))) (sym declared)
