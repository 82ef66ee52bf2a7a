use Rattle.std.proofs.Common.{subst}
use Rattle.ms_logic_words.specs.Content.{Content, IsFollowed, is_truth_value}
use Rattle.ms_logic_words.specs.declared.sign.Sign.{Sign}
use Rattle.ms_dfa.proofs.automaton.Automaton.start.Goals as goal

pub follow-requires-clause-root : goal.follow-requires-clause-root
follow-requires-clause-root c = subst (λ (seen : Content Sign). IsFollowed seen is_truth_value c.self.inside.start) c.self.view_is c.self.invariant.closed.start
