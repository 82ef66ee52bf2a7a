use Rattle.std.proofs.Common.{◌≡◌, is_some, if◌then◌else◌, true, false, sym, ap, ◌∙◌}
use Rattle.ms_names_rules.specs.Declarations.{declared_names}
use Rattle.ms_names_rules.specs.Rules.{is_name_among}
use Rattle.ms_names_rules.proofs.Declaring.{among-append}
use Rattle.ms_names_rules.proofs.Repeats.{among-is_some, is_some-copied}
use Rattle.ms_names_scopes.proofs.checker.Checker.is_taken.Goals as goal

pub returns-then-contains : goal.returns-then-contains
returns-then-contains c =
    let n = c.args.name.now in
    let declared = declared_names c.args.self.now.scope in
    let known : is_name_among n c.args.seen.now ≡ true = sym c.contains.ensures ∙ c.if-contains.true in
    sym (among-append n c.args.seen.now declared ∙ ap (λ b. if b then true else is_name_among n declared) known)

pub returns : goal.returns
returns c =
    let n = c.args.name.now in
    let declared = declared_names c.args.self.now.scope in
    let known : is_name_among n c.args.seen.now ≡ false = sym c.contains.ensures ∙ c.if-contains.false in
    c.is_some.ensures
    ∙ (is_some-copied c.meaning.result ∙ (ap is_some c.meaning.ensures ∙ sym (among-is_some c.args.self.now.scope.names n)))
    ∙ sym (among-append n c.args.seen.now declared ∙ ap (λ b. if b then true else is_name_among n declared) known)
