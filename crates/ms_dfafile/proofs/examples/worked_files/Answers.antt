use Rattle.std.proofs.Common.{refl}
use Rattle.std.specs.Fmt.{digits}
use Rattle.ms_dfafile.proofs.examples.worked_files.Goals as goal

pub returns : goal.returns
unfolding digits
returns c = record {
  subset = refl;
  subset_bytes = refl;
  equivalence = refl;
  equivalence_bytes = refl;
  emptiness = refl;
  emptiness_bytes = refl;
  number = refl;
  number_bytes = refl;
}
