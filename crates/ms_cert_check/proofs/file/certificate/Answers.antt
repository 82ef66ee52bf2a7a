use Rattle.std.proofs.Common.{Err, inr, ap, subst}
use Rattle.ms_cert.specs.Text.{IsCertText}
use Rattle.ms_cert.specs.declared.cert.Cert.{Cert}
use Rattle.ms_edge.specs.declared.refusal.Refusal.TheVariants.{CertText}
use Rattle.ms_cert_check.specs.Files.{AreBytes}
use Rattle.ms_cert_check.proofs.file.certificate.Goals as goal

pub returns-in-Err-Text-clause-refused : goal.returns-in-Err-Text-clause-refused
returns-in-Err-Text-clause-refused g c =
    let held = (g.F.Files.told c.args.files.now).held in
    let bytes = c.in-Ok-bytes.bytes in
    inr (inr (record {
      bytes = bytes;
      are = subst (λ name. AreBytes held name bytes) c.in-Ok.ensures.name c.in-Ok-bytes.ensures.bytes;
      none = subst (λ read. (cert : Cert) → IsCertText read cert → ⊥) c.slice.ensures (c.in-Err-Text.ensures.none (ap Err c.in-Err-Text.field-0-is));
      is = ap CertText c.in-Ok.ensures.name;
    }))
