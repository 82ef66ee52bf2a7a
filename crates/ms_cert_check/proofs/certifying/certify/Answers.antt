use Rattle.ms_cert_check.proofs.Passed.{canonical_read}
use Rattle.ms_cert_check.proofs.certifying.certify.Goals as goal

pub certificate-requires-clause-file : goal.certificate-requires-clause-file
certificate-requires-clause-file c = c.in-Ok.ensures.file.rules

pub certificate-requires-clause-canonical : goal.certificate-requires-clause-canonical
certificate-requires-clause-canonical c = canonical_read c.args.automaton.now c.requires c.in-Ok.plain c.in-Ok.ensures.file
