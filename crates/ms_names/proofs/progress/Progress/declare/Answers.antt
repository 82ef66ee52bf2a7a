use Rattle.std.proofs.Common.{sym, subst, ap, ◌∙◌}
use Rattle.ms_parse_grammar.specs.View.{declaration_of}
use Rattle.ms_names.specs.inner.Progress.{IsMade, known}
use Rattle.ms_names_scopes.specs.inner.Found.{Found}
use Rattle.ms_names.proofs.Makes.{made-there}
use Rattle.ms_names.proofs.progress.Progress.declare.Goals as goal

pub keep-requires : goal.keep-requires
keep-requires c =
    let first = sym (ap (λ (s : Found). s.first) c.in-Ok.ensures.state) ∙ (sym c.take_first.ensures.value ∙ c.in_default-take_first.is) in
    subst (λ made. IsMade made) (sym c.in-Ok.ensures.value) (made-there (known c.args.self.now) (declaration_of c.args.item.now.decl) first)
