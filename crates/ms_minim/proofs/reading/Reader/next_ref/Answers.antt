use Rattle.ms_logic_words.specs.Content.{is_in_letters}
use Rattle.ms_minim.proofs.ReadingLemmas.{read-followed}
use Rattle.ms_minim.proofs.reading.Reader.next_ref.Goals as goal

pub returns-clause-followed : goal.returns-clause-followed
returns-clause-followed c =
    rw (← c.self.view_is) (read-followed c.self.inside.reading c.self.inside.automaton.now is_in_letters c.next_ref.result c.next_ref.ensures.followed)
