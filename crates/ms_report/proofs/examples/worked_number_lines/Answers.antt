use Rattle.std.proofs.Common.{refl}
use Rattle.std.specs.Fmt.{digits}
use Rattle.ms_report.proofs.WorkedNumbers.{line-with-decimal, line-without}
use Rattle.ms_report.proofs.examples.worked_number_lines.Goals as goal

pub returns : goal.returns
unfolding digits
returns c = record {
  empty_set = refl;
  places = refl;
  zero = refl;
  one = refl;
  six = refl;
  ten = refl;
  decimal = line-with-decimal;
  binary_alone = line-without;
}
