use Rattle.std.proofs.Common.{Contains, false, Some, refl, arith, sym, subst, ◌∙◌}
use Rattle.ms_dfa.specs.declared.plain.FileVersion.TheVariants.{Two}
use Rattle.ms_edge.specs.Files.{between}
use Rattle.ms_app.specs.Decision.{IsDecided}
use Rattle.ms_app.specs.Source.{IsRefused, file_of}
use Rattle.ms_app.specs.inner.Files.{IsWithCertificate, pairs_of}
use Rattle.ms_app.proofs.Certifying.{certified, last_is_canonical, own_names_more}
use Rattle.ms_app.proofs.certification.certification.Goals as goal

pub decide_file-requires-clause-among : goal.decide_file-requires-clause-among
decide_file-requires-clause-among g c = subst (λ outs. Contains outs c.args.wanted.name.now) (sym (c.slice.ensures ∙ c.in-Ok.ensures.names)) (0, omega arith, refl)

pub returns-in-Err-decide_file-clause-refused : goal.returns-in-Err-decide_file-clause-refused
returns-in-Err-decide_file-clause-refused g c =
    let seen = between (g.F.Files.told c.args.files.now) (g.F.Files.told c.decide_file.new.files) in
    subst (λ outs. IsRefused (file_of seen 0 c.args.wanted.file.now) outs c.args.wanted.max_nodes c.in-Err-decide_file.refusal c.decide_file.new.names) (c.slice.ensures ∙ c.in-Ok.ensures.names)
    c.in-Err-decide_file.ensures.refused

pub add_certificate-requires : goal.add_certificate-requires
add_certificate-requires g c =
    let seen = between (g.F.Files.told c.args.files.now) (g.F.Files.told c.decide_file.new.files) in
    let decided = c.in-Ok-decide_file.decided in
    let origin = file_of seen 0 c.args.wanted.file.now in
    let name = c.args.wanted.name.now in
    last_is_canonical origin name decided.found (pairs_of decided.files)
    (subst (λ outs. IsDecided origin outs (Some name) false Two decided.found (pairs_of decided.files)) (c.slice.ensures ∙ c.in-Ok.ensures.names) c.in-Ok-decide_file.ensures.decided)

pub returns-in-Ok-add_certificate-clause-given : goal.returns-in-Ok-add_certificate-clause-given
returns-in-Ok-add_certificate-clause-given g c =
    let seen = between (g.F.Files.told c.args.files.now) (g.F.Files.told c.decide_file.new.files) in
    let decided = c.in-Ok-decide_file.decided in
    let origin = file_of seen 0 c.args.wanted.file.now in
    let name = c.args.wanted.name.now in
    let more = pairs_of c.in-Ok-add_certificate.files in
    certified origin name decided.found (pairs_of decided.files)
    (subst (λ outs. IsDecided origin outs (Some name) false Two decided.found (pairs_of decided.files)) (c.slice.ensures ∙ c.in-Ok.ensures.names) c.in-Ok-decide_file.ensures.decided) more
    (subst (λ beside. IsWithCertificate (pairs_of decided.files) beside more) c.in-Ok-cert_name.ensures.name c.in-Ok-add_certificate.ensures) c.in-Ok-report.text c.in-Ok-report.ensures

pub returns-in-Ok-add_certificate-clause-own_names : goal.returns-in-Ok-add_certificate-clause-own_names
returns-in-Ok-add_certificate-clause-own_names g c =
    let seen = between (g.F.Files.told c.args.files.now) (g.F.Files.told c.decide_file.new.files) in
    let decided = c.in-Ok-decide_file.decided in
    let origin = file_of seen 0 c.args.wanted.file.now in
    let name = c.args.wanted.name.now in
    let more = pairs_of c.in-Ok-add_certificate.files in
    own_names_more origin name decided.found (pairs_of decided.files)
    (subst (λ outs. IsDecided origin outs (Some name) false Two decided.found (pairs_of decided.files)) (c.slice.ensures ∙ c.in-Ok.ensures.names) c.in-Ok-decide_file.ensures.decided) more
    (subst (λ beside. IsWithCertificate (pairs_of decided.files) beside more) c.in-Ok-cert_name.ensures.name c.in-Ok-add_certificate.ensures) c.in-Ok-decide_file.ensures.own_names
