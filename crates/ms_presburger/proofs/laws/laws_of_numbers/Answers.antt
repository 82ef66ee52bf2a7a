use Rattle.ms_presburger.proofs.Binary.{number_of-unique, set_of_number}
use Rattle.ms_presburger.proofs.Deciding.{truth-is-decided}
use Rattle.ms_presburger.proofs.Free.{truth-is-of-free-names}
use Rattle.ms_presburger.proofs.Truths.{all-is-dual}
use Rattle.ms_presburger.proofs.laws.laws_of_numbers.Goals as goal

pub returns : goal.returns
returns c =
    record { decided = truth-is-decided; free_names = truth-is-of-free-names; all_is_dual = all-is-dual; has_digits = set_of_number; unique_digits = number_of-unique }
