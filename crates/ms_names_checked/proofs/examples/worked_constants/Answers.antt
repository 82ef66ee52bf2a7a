use Rattle.ms_names_checked.proofs.Worked.{bits, greatest, no-string, sets-in-order, too-large, whole-string}
use Rattle.ms_names_checked.proofs.examples.worked_constants.Goals as goal

pub returns : goal.returns
returns c = record { greatest = greatest; too_large = too-large; bits = bits; whole_string = whole-string; no_string = no-string; sets_in_order = sets-in-order }
