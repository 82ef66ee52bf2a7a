use Rattle.std.proofs.Common.{◌≡◌, reverse, get_or, Some, None, sym, ap, ◌∙◌, arith}
use Rattle.std.proofs.lemmas.List.{reverse-reverse, length-reverse}
use Rattle.ms_names_rules.specs.Scope.{meaning_among}
use Rattle.ms_names_scopes.specs.inner.Table.{innermost}
use Rattle.ms_names_scopes.proofs.Tables.{innermost-below, innermost-none, innermost-some}
use Rattle.ms_names_scopes.proofs.names.Names.meaning.Goals as goal

pub index-requires : goal.index-requires
index-requires c =
    let place : innermost (reverse c.self.inside.entries.items) c.args.name.now ≡ Some c.in-Some.place =
    sym (c.self.invariant.found c.args.name.now) ∙ (sym c.place_in.ensures ∙ c.in-Some.is) in
    let below = innermost-below (reverse c.self.inside.entries.items) c.args.name.now _ place in
    omega (arith, below, length-reverse c.self.inside.entries.items)

pub returns-in-Some : goal.returns-in-Some
returns-in-Some c =
    let place : innermost (reverse c.self.inside.entries.items) c.args.name.now ≡ Some c.in-Some.place =
    sym (c.self.invariant.found c.args.name.now) ∙ (sym c.place_in.ensures ∙ c.in-Some.is) in
    let found = innermost-some (reverse c.self.inside.entries.items) c.args.name.now _ c.index.result.now place in
    let there : Some c.index.result.now.meaning ≡ meaning_among _ c.args.name.now =
    ap (λ e. Some e.meaning) c.index.ensures ∙ (ap (λ es. Some (get_or es c.in-Some.place c.index.result.now).meaning) (sym (reverse-reverse c.self.inside.entries.items)) ∙ found) in
    there ∙ ap (λ names. meaning_among names c.args.name.now) c.self.view_is

pub returns-in-None : goal.returns-in-None
returns-in-None c =
    let place : innermost (reverse c.self.inside.entries.items) c.args.name.now ≡ None =
    sym (c.self.invariant.found c.args.name.now) ∙ (sym c.place_in.ensures ∙ c.in-None.is) in
    sym (innermost-none (reverse c.self.inside.entries.items) c.args.name.now place) ∙ ap (λ names. meaning_among names c.args.name.now) c.self.view_is
