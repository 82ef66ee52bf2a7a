use Rattle.std.proofs.Common.{sym, subst}
use Rattle.ms_dfa.specs.Automaton.{variables_of}
use Rattle.ms_logic_words.specs.Content.{is_truth_value, is_in_letters}
use Rattle.ms_logic.specs.FiniteSet.{IsRising}
use Rattle.ms_dfa_explore.proofs.PlacesLemmas.{IsRising-places}
use Rattle.ms_dfa_explore.proofs.builder.places_by_part.Goals as goal

pub invariant_of-result : goal.invariant_of-result
invariant_of-result c = (
  subst IsRising (sym c.in_ok-truth.ensures) (IsRising-places is_truth_value 0 (variables_of c.args.tracks.now)),
  subst IsRising (sym c.in_ok-letters.ensures) (IsRising-places is_in_letters 0 (variables_of c.args.tracks.now)),
)
