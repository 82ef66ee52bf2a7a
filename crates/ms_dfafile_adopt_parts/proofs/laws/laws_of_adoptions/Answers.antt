use Rattle.ms_dfafile_adopt_parts.proofs.Adoptions.{adoptions_are_within_measure, adoptions_have_few_parts, lacking_adoptions}
use Rattle.ms_dfafile_adopt_parts.proofs.ImportMeasures.{enough_is_not_below_import}
use Rattle.ms_dfafile_adopt_parts.proofs.laws.laws_of_adoptions.Goals as goal

pub returns : goal.returns
returns c = record { measure = adoptions_are_within_measure; few = adoptions_have_few_parts; below = lacking_adoptions; enough = enough_is_not_below_import }
