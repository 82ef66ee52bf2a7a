use Rattle.std.proofs.Common.{refl}
use Rattle.ms_cert_lengths.proofs.ExampleLemmas as it
use Rattle.ms_cert_lengths.proofs.examples.worked_lengths.Goals as goal

pub returns : goal.returns
returns c = record {
  file = it.main_file;
  lengths = it.lengths;
  too_short = it.too_short;
  too_long = it.too_long;
  not_none = it.not_none;
  answer = it.answer;
  example = refl;
  counterexample = refl;
  nothing_shown = refl;
}
