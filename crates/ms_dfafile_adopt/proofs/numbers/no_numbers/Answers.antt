use Rattle.ms_dfafile_adopt.proofs.NumberLemmas.{no_numbers}
use Rattle.ms_dfafile_adopt.proofs.numbers.no_numbers.Goals as goal

pub returns-in-Ok : goal.returns-in-Ok
returns-in-Ok c = λ variables. record {
  tells = no_numbers variables c.in_ok-all.all c.in_ok-all.ensures.mode c.in_ok-all.ensures.variables c.in_ok-all.ensures.values c.in-Ok.made c.in-Ok.ensures.mode c.in-Ok.ensures.variables c.in-Ok.ensures.signs;
  least = record { fewest = c.in-Ok.ensures.fewest; reached = c.in-Ok.ensures.reached; differ = c.in-Ok.ensures.differ };
}
