use Rattle.std.proofs.Common.{◌≡◌, List, ◌-◌, length, slice_get, Some, subst, sym}
use Rattle.ms_cert_check.specs.Certified.{IsCertificateOf}
use Rattle.ms_app.specs.declared.files.AutomatonFile.{AutomatonFile}
use Rattle.ms_app.proofs.Certifying.{with_certificate}
use Rattle.ms_app.proofs.certification.add_certificate.Goals as goal

pub returns : goal.returns
returns c =
    with_certificate c.args.files c.push.new.list c.in-Some.last.now (record { name = c.args.name; bytes = c.in_ok-bytes.bytes })
    (subst (λ (files : List AutomatonFile). slice_get files (length files - 1) ≡ Some c.in-Some.last.now) c.slice.ensures (sym c.in-Some.ensures.value))
    (subst (λ bytes. IsCertificateOf bytes c.in_ok-bytes.bytes) c.slice-2.ensures c.in_ok-bytes.ensures)
    c.in_ok-push.ensures.ok
