-- How states are numbered, and their signs.
use Rattle.std.specs.Prelude.{ℕ, zero, suc}
use Rattle.ms_logic_words.specs.declared.sign.Sign.{Sign}
use Rattle.ms_logic_words.specs.declared.sign.Sign.TheVariants.{Yes, No, Outside}

-- the state 0 is lost: some number has had a second 1. In 1 all numbers have been met and the relation holds so far, and in 2
-- all have and it does not hold. In the others some number has not been met.
abbrev pub sign_by_verdict : ℕ → Sign
sign_by_verdict zero = Outside
sign_by_verdict (suc zero) = Yes
sign_by_verdict (suc (suc zero)) = No
sign_by_verdict (suc (suc (suc more))) = Outside

-- without numbers: some position has contradicted the relation in the state 0, and none in the others
abbrev pub sign_by_contradiction : ℕ → Sign
sign_by_contradiction zero = No
sign_by_contradiction (suc more) = Yes
