use Rattle.ms_cert.proofs.ExampleLemmas as lemmas
use Rattle.ms_cert.proofs.examples.worked_certificates.Goals as goal

pub returns : goal.returns
returns c = record {
  certified = lemmas.certified;
  other_state = lemmas.other_state-fails;
  too_long = lemmas.too_long-fails;
  turned_round = lemmas.turned_round-fails;
  shortest = lemmas.are_shortest;
  not_shortest = lemmas.too_long-not_shortest;
}
