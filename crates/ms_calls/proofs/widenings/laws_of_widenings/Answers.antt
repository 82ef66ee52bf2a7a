use Rattle.ms_calls.proofs.WideningLemmas.{measures_are_above_few, widenings_are_within_measure, widenings_need_few_pairs}
use Rattle.ms_calls.proofs.widenings.laws_of_widenings.Goals as goal

pub returns-clause-few : goal.returns-clause-few
returns-clause-few c = widenings_need_few_pairs

pub returns-clause-measure : goal.returns-clause-measure
returns-clause-measure c = widenings_are_within_measure

pub returns-clause-above : goal.returns-clause-above
returns-clause-above c = measures_are_above_few
