use Rattle.std.proofs.Common.{refl, arith, rules}
use Rattle.ms_logic.specs.inner.Examples.{naturals, string, x_at}
use Rattle.ms_logic_words.proofs.examples.words.worked_encodings.Goals as goal

pub returns-clause-encoding : goal.returns-clause-encoding
returns-clause-encoding c =
    (x_at 1, record { universe = refl; values = (tt, tt) }, record { truth = refl; letters = refl; room = omega arith; string = tt })

pub returns-clause-empty_word_of_set : goal.returns-clause-empty_word_of_set
returns-clause-empty_word_of_set c =
    (naturals, record { universe = refl; values = ((tt, tt), tt) }, record { truth = refl; letters = refl; room = omega arith; string = tt })

pub returns-clause-empty_string_of_set : goal.returns-clause-empty_string_of_set
returns-clause-empty_string_of_set c =
    (string 0, record { universe = search rules; values = ((tt, tt), tt) }, record { truth = refl; letters = refl; room = omega arith; string = refl })
