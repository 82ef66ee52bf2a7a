use Rattle.std.proofs.Common.{length, sym, ap, subst, ◌∙◌}
use Rattle.ms_dfa_explore.specs.Tracks.{places_among}
use Rattle.ms_minim.specs.inner.Partition.{IsIdentity}
use Rattle.ms_minim.proofs.LeadLemmas.{IsIdentity-places}
use Rattle.ms_minim.proofs.reduction.machine_of.Goals as goal

pub refine-requires-clause-places : goal.refine-requires-clause-places
refine-requires-clause-places c =
    let variables = c.args.automaton.now.variables in
    subst (IsIdentity (length variables)) (sym (c.slice.ensures ∙ c.in_ok-places.ensures ∙ ap (λ vs. places_among vs vs) c.tracks-tracks.ensures.variables))
    (IsIdentity-places variables c.tracks-tracks.ensures.automaton.rising)

pub invariant_of-result : goal.invariant_of-result
invariant_of-result c =
    let variables = c.args.automaton.now.variables in
    record {
      automaton = c.tracks-tracks.ensures.automaton;
      nerode = c.in_ok-partition.ensures.classes;
      identity = subst (IsIdentity (length variables)) (sym (c.in_ok-places.ensures ∙ ap (λ vs. places_among vs vs) c.tracks-tracks.ensures.variables))
          (IsIdentity-places variables c.tracks-tracks.ensures.automaton.rising);
      numbering = c.in_ok-pairs.ensures.numbering;
      reached = c.in_ok-pairs.ensures.reached;
    }
