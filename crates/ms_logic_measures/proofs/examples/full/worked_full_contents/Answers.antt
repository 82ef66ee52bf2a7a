use Rattle.std.proofs.Common.{refl}
use Rattle.ms_logic.specs.declared.mode.Mode.TheVariants.{Ws1s, M2lStr}
use Rattle.ms_logic_words.specs.declared.sign.Sign.TheVariants as sign
use Rattle.ms_logic_measures.specs.inner.MeasuredContents.{zero_content}
use Rattle.ms_logic_measures.proofs.FullOverNone.{full_position, full_number}
use Rattle.ms_logic_measures.proofs.FullTruths.{full_implies, full_truth}
use Rattle.ms_logic_measures.proofs.FullZero.{full_zero, full_restricted_zero}
use Rattle.ms_logic_measures.proofs.examples.full.worked_full_contents.Goals as goal

pub returns : goal.returns
returns c = record {
  number = full_zero Ws1s;
  number_parts = (zero_content Ws1s sign.No, full_zero Ws1s, refl);
  restricted_number = full_restricted_zero Ws1s;
  position = full_zero M2lStr;
  some_position = full_position;
  some_number = full_number;
  implication = full_implies;
  truth_value = full_truth;
}
