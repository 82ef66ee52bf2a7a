use Rattle.ms_build_parts.proofs.Budgets.{one_count, products_are_within_budget}
use Rattle.ms_build_parts.proofs.Labels.{closed_contents, measured_contents}
use Rattle.ms_build_parts.proofs.ProductParts.{products_need_few_labels, products_need_few_parts}
use Rattle.ms_build_parts.proofs.products.laws_of_products.Goals as goal

pub returns-clause-labels : goal.returns-clause-labels
returns-clause-labels c = products_need_few_labels

pub returns-clause-closed : goal.returns-clause-closed
returns-clause-closed c = closed_contents

pub returns-clause-measured : goal.returns-clause-measured
returns-clause-measured c = measured_contents

pub returns-clause-few : goal.returns-clause-few
returns-clause-few c = products_need_few_parts

pub returns-clause-counted : goal.returns-clause-counted
returns-clause-counted c = one_count

pub returns-clause-budget : goal.returns-clause-budget
returns-clause-budget c = products_are_within_budget
