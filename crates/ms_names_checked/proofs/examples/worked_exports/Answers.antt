use Rattle.ms_names_checked.proofs.Worked.{in-let, let-numbered, lists, too-little, too-much, too-much-numbered}
use Rattle.ms_names_checked.proofs.examples.worked_exports.Goals as goal

pub returns : goal.returns
returns c = record { lists = lists; numbered = too-much-numbered; lists_too_much = too-much; lists_too_little = too-little; numbered_in_a_let = let-numbered; in_a_let = in-let }
