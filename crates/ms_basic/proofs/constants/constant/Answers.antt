use Rattle.std.proofs.Common.{◌≡◌, List, Some, ap, sym, subst, ◌∙◌}
use Rattle.ms_list.specs.declared.word.Word.{Word}
use Rattle.ms_dfa.specs.declared.track.Track.{Track}
use Rattle.ms_dfa.specs.Automaton.{variables_of}
use Rattle.ms_logic_words.specs.Content.{IsWordOver, sign_of}
use Rattle.ms_dfa_explore.specs.Small.{TellsWords, sign_by}
use Rattle.ms_basic.specs.inner.Repeated.{constant_table}
use Rattle.ms_basic.proofs.ConstantLemmas.{constant_tells, constant_values}
use Rattle.ms_basic.proofs.constants.constant.Goals as goal

pub from_machine-requires-clause-tells : goal.from_machine-requires-clause-tells
from_machine-requires-clause-tells c =
    subst (λ (tracks : List Track). TellsWords c.args.mode (variables_of tracks) (constant_table c.args.holds)) (sym c.new.ensures) (constant_tells c.args.mode c.args.holds)

pub returns-in-Ok-clause-values : goal.returns-in-Ok-clause-values
returns-in-Ok-clause-values c =
    constant_values c.args.holds c.in-Ok.made (c.in-Ok.ensures.variables ∙ ap variables_of c.new.ensures)
    (subst (λ (tracks : List Track). (word : Word) → IsWordOver (variables_of tracks) word
    → sign_of c.in-Ok.made word ≡ Some (sign_by (constant_table c.args.holds) (variables_of tracks) word)) c.new.ensures c.in-Ok.ensures.signs)
