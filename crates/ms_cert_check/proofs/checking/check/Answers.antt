use Rattle.std.proofs.Common.{subst}
use Rattle.ms_cert_check.specs.Files.{IsCertFile}
use Rattle.ms_cert_check.proofs.Findings.{finding}
use Rattle.ms_cert_check.proofs.Later.{refused-later}
use Rattle.ms_cert_check.proofs.checking.check.Goals as goal

pub returns-in-Err-certificate-clause-refused : goal.returns-in-Err-certificate-clause-refused
returns-in-Err-certificate-clause-refused g c =
    let told = g.F.Files.told in
    refused-later (told c.args.files.now) (told c.automaton.new.files) (told c.certificate.new.files) c.automaton.ensures.only_read
    c.args.name.now c.in-Ok.plain c.in-Err-certificate.refusal c.in-Ok.ensures.file c.in-Err-certificate.ensures.refused

pub returns-in-Ok-check_text-clause-checked : goal.returns-in-Ok-check_text-clause-checked
returns-in-Ok-check_text-clause-checked g c =
    let plain = c.in-Ok.plain in
    let cert = c.in-Ok-certificate.cert in
    let found = c.in-Ok-checked.found in
    record {
      plain = plain;
      automaton = c.in-Ok.ensures.file;
      cert = cert;
      certificate = subst (λ held. IsCertFile held c.args.name.now cert) c.automaton.ensures.only_read.held c.in-Ok-certificate.ensures.file;
      found = found;
      finding = finding plain cert found c.in-Ok-checked.ensures.certified c.in-Ok-checked.ensures.proven c.in-Ok-checked.ensures.none;
      printed = c.in-Ok-check_text.ensures;
    }
