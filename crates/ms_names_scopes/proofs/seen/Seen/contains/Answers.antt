use Rattle.std.proofs.Common.{is_some, sym, ap, ◌∙◌}
use Rattle.ms_names_rules.specs.Rules.{is_name_among}
use Rattle.ms_names_rules.proofs.Repeats.{among-is_some, is_some-copied}
use Rattle.ms_names_scopes.proofs.seen.Seen.contains.Goals as goal

pub returns : goal.returns
returns c =
    c.is_some.ensures
    ∙ (is_some-copied c.meaning.result
    ∙ (ap is_some c.meaning.ensures
    ∙ (sym (among-is_some c.self.inside.names c.args.name.now)
    ∙ ap (is_name_among c.args.name.now) c.self.view_is)))
