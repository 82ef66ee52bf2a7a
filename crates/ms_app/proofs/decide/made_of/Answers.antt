use Rattle.std.proofs.Common.{Bool, ℕ, List, Option, Some, ap, map, refl, sym, subst}
use Rattle.std.specs.Option.{option_copied}
use Rattle.ms_build_source.specs.Values.{IsMainFile}
use Rattle.ms_dfa.specs.Files.{content_of_file}
use Rattle.ms_logic.specs.View.{main_question, problem_of}
use Rattle.ms_app.specs.Counts.{HasStats, IsCanonicalOf}
use Rattle.ms_app.specs.inner.Files.{pairs_of}
use Rattle.ms_app.specs.Written.{AreFilesFrom}
use Rattle.ms_app.proofs.Writing.{files_alone, files_with, spelled_here}
use Rattle.ms_app.proofs.decide.made_of.Goals as goal

pub returns-in-None-clause-files : goal.returns-in-None-clause-files
returns-in-None-clause-files c = λ answers is exports.
    let format = c.args.options.format in
    let checked = c.args.source.now.checked in
    let problem = problem_of checked answers in
    let main = main_question checked answers in
    let names = map (λ g. g.name) checked.globals in
    let plains = c.args.solution.now.exports in
    let files = pairs_of c.in-Ok.files in
    let none = ap option_copied c.in-None.is in
    let spelled = spelled_here c.slice.result.now checked.exports c.slice-2.result.now plains files c.slice.ensures c.slice-2.ensures c.in-Ok.ensures in
    subst (λ (out : Option (List ℕ)). AreFilesFrom format problem main names 0 checked.exports out files) (sym none)
    (files_alone format problem main names checked.exports plains files spelled exports)

pub returns-then-not-options-2-clause-files : goal.returns-then-not-options-2-clause-files
returns-then-not-options-2-clause-files c = λ answers is exports.
    let checked = c.args.source.now.checked in
    let main = main_question checked answers in
    let plains = c.args.solution.now.exports in
    let files = pairs_of c.in-Ok.files in
    let content = c.in-Ok-canonical_of.content in
    let spelled = spelled_here c.slice.result.now checked.exports c.slice-2.result.now plains files c.slice.ensures c.slice-2.ensures c.in-Ok.ensures in
    files_with c.args.options.format (problem_of checked answers) main (map (λ g. g.name) checked.globals) checked.exports plains files (pairs_of c.in-Ok-with_main.files)
    (option_copied c.args.options.out) content spelled exports
    (subst (λ names. IsMainFile c.args.options.format main names content) is.names_are (c.in-Ok-canonical_of.ensures.file main is.value)) c.in-Ok-with_main.ensures

pub in_second_version-requires-clause-content : goal.in_second_version-requires-clause-content
in_second_version-requires-clause-content c = λ problem value.
    let content = c.in-Ok-canonical_of.content in
    subst (λ version. IsCanonicalOf version problem (content_of_file content)) (sym c.in-Ok-canonical_of.ensures.copy.version_is) (c.in-Ok-canonical_of.ensures.content problem value)

pub returns-clause-stats : goal.returns-clause-stats
returns-clause-stats c = λ answers is.
    let checked = c.args.source.now.checked in
    let P : Bool → Type 0 = λ asked. HasStats asked checked answers c.args.source.now.files (Some c.counts.result) in
    subst P (sym c.if-not-options-2.false)
    (c.counts.result, refl, c.counts.ensures checked answers is (c.in-Ok-in_second_version.ensures (main_question checked answers) is.value))

pub returns-clause-files : goal.returns-clause-files
returns-clause-files c = λ answers is exports.
    let checked = c.args.source.now.checked in
    let main = main_question checked answers in
    let plains = c.args.solution.now.exports in
    let files = pairs_of c.in-Ok.files in
    let content = c.in-Ok-canonical_of.content in
    let spelled = spelled_here c.slice.result.now checked.exports c.slice-2.result.now plains files c.slice.ensures c.slice-2.ensures c.in-Ok.ensures in
    files_with c.args.options.format (problem_of checked answers) main (map (λ g. g.name) checked.globals) checked.exports plains files (pairs_of c.in-Ok-with_main.files)
    (option_copied c.args.options.out) content spelled exports
    (subst (λ names. IsMainFile c.args.options.format main names content) is.names_are (c.in-Ok-canonical_of.ensures.file main is.value)) c.in-Ok-with_main.ensures
