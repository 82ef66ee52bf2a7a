use Rattle.ms_logic_words.proofs.ZeroLetters.{subset_is_not_open}
use Rattle.ms_logic_words.proofs.examples.canonical.worked_words_over.Goals as goal

pub returns-clause-not_open : goal.returns-clause-not_open
returns-clause-not_open c = subset_is_not_open
