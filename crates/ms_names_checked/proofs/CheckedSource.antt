-- A typed source in which nothing is wrong meets the rules.
use Rattle.ms_names_checked.specs.inner.Laws.{TypedSourcesMeetRules}
use Rattle.ms_names_checked.proofs.CheckedConstants.{constants-in-range}
use Rattle.ms_names_checked.proofs.CheckedExports.{list-free-variables}
use Rattle.ms_names_checked.proofs.CheckedNames.{different-names}
use Rattle.ms_names_checked.proofs.CheckedOrders.{one-order}

pub meets-rules : TypedSourcesMeetRules
meets-rules loaded checked typed right = record {
  exports = list-free-variables loaded checked typed right;
  names = different-names loaded checked typed right;
  orders = one-order loaded checked typed right;
  constants = constants-in-range loaded checked typed right;
}
