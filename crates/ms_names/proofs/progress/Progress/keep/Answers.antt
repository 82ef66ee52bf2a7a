use Rattle.std.proofs.Common.{◌++◌, ◌∷◌, [], map, Some, refl, sym, subst, ap, ◌∙◌}
use Rattle.std.proofs.lemmas.List.{map-append}
use Rattle.std.proofs.lemmas.Result.{on_ok_weaker}
use Rattle.ms_logic.specs.View.{declaration_of as parameter_of, predicate_of}
use Rattle.ms_parse_grammar.specs.View.{declared_of}
use Rattle.ms_names.specs.declared.outcome.Outcome.TheVariants.{Globals, Predicate}
use Rattle.ms_names.specs.declared.progress.Progress.{Progress}
use Rattle.ms_names.specs.inner.Outcome.{Made, outcome_of}
use Rattle.ms_names.specs.inner.Progress.{Keeps, globals_with, kept_globals, kept_predicates, listed_bounds}
use Rattle.ms_names.proofs.Sources.{keeps-globals, keeps-nothing, keeps-predicate}
use Rattle.ms_names.proofs.progress.Progress.keep.Goals as goal

pub returns-in-Globals-Some-clause-kept : goal.returns-in-Globals-Some-clause-kept
returns-in-Globals-Some-clause-kept c =
    let old : Progress = c.args.self.now in
    let new : Progress = record old { globals = c.add_globals.new.list } in
    let d = declared_of c.args.item.now in
    let params = map parameter_of c.in-Globals-Some.params.items in
    let P : Made → Type 0 = λ made. Keeps old new d made in
    on_ok_weaker c.add_globals.result
    (λ added. subst P (ap (λ made. outcome_of (Globals made)) (sym c.in-Globals-Some.field-0-is) ∙ ap outcome_of (sym c.in-Globals-Some.is))
    (keeps-globals old new d params (added ∙ ap (λ vs. kept_globals old.globals ++ globals_with d.at old.item params (listed_bounds vs)) c.globals.ensures) refl refl))
    c.add_globals.ensures

pub returns-in-Predicate-Some-clause-kept : goal.returns-in-Predicate-Some-clause-kept
returns-in-Predicate-Some-clause-kept c =
    let old : Progress = c.args.self.now in
    let new : Progress = record old { predicates = c.push.new.list } in
    let d = declared_of c.args.item.now in
    let p = c.in-Predicate-Some.predicate in
    let P : Made → Type 0 = λ made. Keeps old new d made in
    on_ok_weaker c.push.result
    (λ added. subst P (ap (λ made. outcome_of (Predicate made)) (sym c.in-Predicate-Some.field-0-is) ∙ ap outcome_of (sym c.in-Predicate-Some.is))
    (keeps-predicate old new d (predicate_of p) (ap kept_predicates added ∙ map-append (λ q. Some (predicate_of q)) old.predicates (p ∷ [])) refl refl))
    c.push.ensures.ok

pub returns-in-Nothing-clause-kept : goal.returns-in-Nothing-clause-kept
returns-in-Nothing-clause-kept c =
    let old : Progress = c.args.self.now in
    let P : Made → Type 0 = λ made. Keeps old old (declared_of c.args.item.now) made in
    subst P (ap outcome_of (sym c.in-Nothing.is)) (keeps-nothing old old (declared_of c.args.item.now) refl refl refl)
