use Rattle.std.proofs.Common.{length}
use Rattle.std.proofs.lemmas.Result.{IfErr-weaker, IfOk-weaker}
use Rattle.ms_edge.specs.Files.{between}
use Rattle.ms_names_checked.proofs.CheckedSpellings.{have-names}
use Rattle.ms_include_laws.proofs.of_spellings.Loads.{loaded-sources}
use Rattle.ms_app.specs.Source.{file_of}
use Rattle.ms_app.proofs.FileCounts.{files_few}
use Rattle.ms_app.proofs.Results.{if_ok_three}
use Rattle.ms_app.proofs.Sources.{file_refused, load_refused, loaded_as, right_accepted}
use Rattle.ms_app.proofs.source.accept_file.Goals as goal

pub returns-in-Ok-clause-accepted : goal.returns-in-Ok-clause-accepted
returns-in-Ok-clause-accepted g c =
    let seen = between (g.F.Files.told c.args.files.now) (g.F.Files.told c.load.new.files) in
    let base = length c.args.names.now in
    let loaded = c.in-Ok.loaded in
    let is = loaded_as seen base c.text.result.now c.args.name.now loaded c.text.ensures c.in-Ok.ensures.loaded in
    IfOk-weaker c.accept.result _ _
    (λ made all. (loaded, right_accepted (file_of seen base c.args.name.now) loaded is made.checked all.0 all.1, all.2, files_few seen base c.args.name.now loaded is, c.in-Ok.ensures.names))
    (if_ok_three c.accept.result _ _ _ c.accept.ensures.accepted c.accept.ensures.typed c.accept.ensures.files)

pub returns-in-Ok-clause-right : goal.returns-in-Ok-clause-right
returns-in-Ok-clause-right g c =
    let seen = between (g.F.Files.told c.args.files.now) (g.F.Files.told c.load.new.files) in
    let loaded = c.in-Ok.loaded in
    let names = loaded-sources seen (length c.args.names.now) c.text.result.now loaded c.in-Ok.ensures.loaded in
    IfOk-weaker c.accept.result _ _
    (λ made all. record { numbered = all.0; meets_rules = all.1; names = have-names loaded made.checked all.2 names })
    (if_ok_three c.accept.result _ _ _ c.accept.ensures.numbered c.accept.ensures.meets_rules c.accept.ensures.typed)

pub returns-in-Ok-clause-refused : goal.returns-in-Ok-clause-refused
returns-in-Ok-clause-refused g c =
    IfErr-weaker c.accept.result _ _ (file_refused (between (g.F.Files.told c.args.files.now) (g.F.Files.told c.load.new.files)) c.args.names.now c.load.new.names c.text.result.now c.args.name.now c.text.ensures c.in-Ok.loaded c.in-Ok.ensures.loaded c.in-Ok.ensures.names)
    c.accept.ensures.refused

pub returns-in-Err-clause-refused : goal.returns-in-Err-clause-refused
returns-in-Err-clause-refused g c =
    load_refused (between (g.F.Files.told c.args.files.now) (g.F.Files.told c.load.new.files)) c.args.names.now c.load.new.names c.text.result.now c.args.name.now c.text.ensures c.in-Err.refusal c.in-Err.ensures.refused
