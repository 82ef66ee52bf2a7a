use Rattle.ms_wider_parts.proofs.Encodings.{zeros_keep}
use Rattle.ms_wider_parts.proofs.Pairs.{pairs_are_labels, products_need_few}
use Rattle.ms_wider_parts.proofs.Readings.{residuals_fix, rising_keep}
use Rattle.ms_wider_parts.proofs.Spread.{spread_keep}
use Rattle.ms_wider_parts.proofs.widenings.laws_of_widenings.Goals as goal

pub returns-clause-zeros : goal.returns-clause-zeros
returns-clause-zeros c = zeros_keep

pub returns-clause-labels : goal.returns-clause-labels
returns-clause-labels c = pairs_are_labels

pub returns-clause-order : goal.returns-clause-order
returns-clause-order c = rising_keep

pub returns-clause-few : goal.returns-clause-few
returns-clause-few c = products_need_few

pub returns-clause-spread : goal.returns-clause-spread
returns-clause-spread c = spread_keep

pub returns-clause-fixed : goal.returns-clause-fixed
returns-clause-fixed c = residuals_fix
