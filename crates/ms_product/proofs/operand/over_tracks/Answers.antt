use Rattle.std.proofs.Common.{length, ap, sym, subst, ◌∙◌}
use Rattle.ms_dfa_explore.specs.Tracks.{places_among}
use Rattle.ms_dfa.specs.Automaton.{variables_of}
use Rattle.ms_product.specs.Widened.{IsRisingMap}
use Rattle.ms_product.proofs.WidenedLemmas.{IsRisingMap-among}
use Rattle.ms_product.proofs.operand.over_tracks.Goals as goal

pub returns-clause-rising : goal.returns-clause-rising
returns-clause-rising c =
    subst (IsRisingMap (length c.args.automaton.now.variables)) (sym (c.in_ok-map.ensures ∙ ap (λ vs. places_among vs (variables_of c.args.tracks.now)) c.tracks.ensures.variables))
    (IsRisingMap-among c.args.automaton.now.variables (variables_of c.args.tracks.now) c.tracks.ensures.automaton.rising c.requires.rising c.requires.among)
