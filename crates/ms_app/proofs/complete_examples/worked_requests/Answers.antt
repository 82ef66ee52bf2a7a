use Rattle.std.proofs.Common.{[], codes}
use Rattle.ms_app.specs.Certification.{names_to_certify}
use Rattle.ms_app.proofs.Requests as requests
use Rattle.ms_app.proofs.complete_examples.worked_requests.Goals as goal

pub returns : goal.returns
returns c = record {
  empty_file = requests.empty_file [];
  to_certify = requests.empty_file (names_to_certify (codes "m"));
  no_file = requests.no_file;
  first = requests.first_number;
  none = requests.no_number;
}
