use Rattle.ms_cert_lengths.proofs.Lengths.{shortest_words_are_as_long}
use Rattle.ms_cert_lengths.proofs.laws.law_of_lengths.Goals as goal

pub returns : goal.returns
returns c = record { lengths = shortest_words_are_as_long }
