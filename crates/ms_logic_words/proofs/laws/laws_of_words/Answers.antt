use Rattle.ms_logic_words.proofs.WordLaws.{encoding_exists, encoding_is_unique, encoding_is_over, length_is_least, word_is_unique, zero_letter_keeps}
use Rattle.ms_logic_words.proofs.laws.laws_of_words.Goals as goal

pub returns-clause-encoding_exists : goal.returns-clause-encoding_exists
returns-clause-encoding_exists c = encoding_exists

pub returns-clause-encoding_is_unique : goal.returns-clause-encoding_is_unique
returns-clause-encoding_is_unique c = encoding_is_unique

pub returns-clause-encoding_is_over : goal.returns-clause-encoding_is_over
returns-clause-encoding_is_over c = encoding_is_over

pub returns-clause-length_is_least : goal.returns-clause-length_is_least
returns-clause-length_is_least c = length_is_least

pub returns-clause-word_is_unique : goal.returns-clause-word_is_unique
returns-clause-word_is_unique c = word_is_unique

pub returns-clause-zero_letter_keeps : goal.returns-clause-zero_letter_keeps
returns-clause-zero_letter_keeps c = zero_letter_keeps
