use Rattle.std.proofs.lemmas.Result.{IfErr-weaker, IfOk-weaker}
use Rattle.ms_names_checked.proofs.CheckedSpellings.{have-names}
use Rattle.ms_include_laws.proofs.of_spellings.Loads.{loaded-texts}
use Rattle.ms_app.specs.Source.{text_of}
use Rattle.ms_app.proofs.Results.{if_ok_three}
use Rattle.ms_app.proofs.Sources.{right_accepted, text_refused}
use Rattle.ms_app.proofs.source.accept_text.Goals as goal

pub returns-in-Ok-load_bytes-clause-accepted : goal.returns-in-Ok-load_bytes-clause-accepted
returns-in-Ok-load_bytes-clause-accepted c =
    let loaded = c.in-Ok-load_bytes.loaded in
    IfOk-weaker c.accept.result _ _
    (λ made all. (loaded, right_accepted (text_of c.args.name.now c.args.bytes) loaded c.in-Ok-load_bytes.ensures.loaded made.checked all.0 all.1, all.2))
    (if_ok_three c.accept.result _ _ _ c.accept.ensures.accepted c.accept.ensures.typed c.accept.ensures.files)

pub returns-in-Ok-load_bytes-clause-right : goal.returns-in-Ok-load_bytes-clause-right
returns-in-Ok-load_bytes-clause-right c =
    let loaded = c.in-Ok-load_bytes.loaded in
    let names = loaded-texts c.args.name.now c.args.bytes loaded c.in-Ok-load_bytes.ensures.loaded in
    IfOk-weaker c.accept.result _ _
    (λ made all. record { numbered = all.0; meets_rules = all.1; names = have-names loaded made.checked all.2 names })
    (if_ok_three c.accept.result _ _ _ c.accept.ensures.numbered c.accept.ensures.meets_rules c.accept.ensures.typed)

pub returns-in-Ok-load_bytes-clause-refused : goal.returns-in-Ok-load_bytes-clause-refused
returns-in-Ok-load_bytes-clause-refused c =
    IfErr-weaker c.accept.result _ _
    (text_refused c.args.name.now c.args.bytes c.named.new.names c.args.names.now c.in-Ok.ensures c.in-Ok-load_bytes.loaded c.in-Ok-load_bytes.ensures.loaded)
    c.accept.ensures.refused
