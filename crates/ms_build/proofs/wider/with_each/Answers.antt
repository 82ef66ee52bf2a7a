use Rattle.std.proofs.Common.{inl, inr, ⊎_elim, [], ◌∷◌, get_or, take, refl, sym, subst, arith, rules}
use Rattle.std.proofs.lemmas.List.{length-map, take_all}
use Rattle.ms_dfa.specs.Automaton.{variable_of, variables_of}
use Rattle.ms_dfa.specs.declared.track.Track.{Track}
use Rattle.ms_logic.specs.declared.mode.Order.TheVariants.{Zero}
use Rattle.ms_build.specs.Wider.{IsWider}
use Rattle.ms_build.proofs.WiderLemmas.{IsWider-none, IsWider-then, next_orders}
use Rattle.ms_build.proofs.VariableLemmas.{taken-among, taken-next, variable_at_place}
use Rattle.ms_dfa_explore.proofs.AmongLemmas.{among_at}
use Rattle.ms_logic.specs.Lists.{IsAmong}
use Rattle.ms_build.specs.Short.{IsWideShort, WideningLacks}
use Rattle.ms_build.proofs.RefusalLemmas.{fault_more}
use Rattle.ms_build.proofs.wider.with_each.Goals as goal
use Rattle.ms_logic_words.specs.Content.{Content}
use Rattle.ms_logic_words.specs.declared.sign.Sign.{Sign}

-- what is read where no track stands
abbrev no_track : Track
no_track = record { variable = 0; order = Zero }

pub loop-track-init : goal.loop-track-init
loop-track-init c = (IsWider-none c.args.part c.states.ensures.automaton, inl refl, c.requires.within)

pub with_one-requires-clause-orders : goal.with_one-requires-clause-orders
with_one-requires-clause-orders c =
    let tracks = c.args.tracks.now in
    let i = c.loop-track.track-index in
    next_orders c.args.part c.loop-track.made (variables_of tracks) i (variable_of (get_or tracks i no_track)) c.requires.one c.requires.orders c.loop-track.invariant.0 (variable_at_place tracks i no_track c.loop-track-test.true)

pub loop-track-preserved : goal.loop-track-preserved
loop-track-preserved c =
    let tracks = c.args.tracks.now in
    let i = c.loop-track.track-index in
    let v = variable_of (get_or tracks i no_track) in
    let next = taken-next (variables_of tracks) i v (variable_at_place tracks i no_track c.loop-track-test.true) in (
      subst (λ vs. IsWider c.args.part vs c.in_ok-made.made) (sym next)
          (IsWider-then c.args.part c.loop-track.made c.in_ok-made.made (take i (variables_of tracks)) (v ∷ []) c.states-in-loop-track.ensures.automaton c.loop-track.invariant.0 c.in_ok-made.ensures.wider),
      inr c.in_ok-made.ensures.least,
      c.in_ok-made.ensures.within,
    )

pub returns-clause-wider : goal.returns-clause-wider
returns-clause-wider c =
    let tracks = c.args.tracks.now in
    let past = c.loop-track-test.false in
    let all = take_all c.loop-track.track-index (variables_of tracks) (let long = length-map tracks variable_of in omega (arith, past, long)) in
    subst (λ vs. IsWider c.args.part vs c.loop-track.made) all c.loop-track.invariant.0

pub returns-in_err-made-clause-nodes : goal.returns-in_err-made-clause-nodes
returns-in_err-made-clause-nodes c =
    let tracks = c.args.tracks.now in
    let limit = c.args.plan.now.limit in
    let i = c.loop-track.track-index in
    let v = variable_of (get_or tracks i no_track) in
    fault_more (Content Sign) (λ refused. IsWideShort limit c.loop-track.made (v ∷ [])) (λ refused. WideningLacks limit c.args.part (variables_of tracks)) c.in_err-made.field-0.0 c.from_residual.result (search rules)
    (λ refused short.
    record {
      wide = c.loop-track.made;
      automaton = c.states-in-loop-track.ensures.automaton;
      added = take i (variables_of tracks);
      is_wide = c.loop-track.invariant.0;
      least = c.loop-track.invariant.1;
      next = v ∷ [];
      among = λ w. ⊎_elim (taken-among i (variables_of tracks) w) (λ here. ⊎_elim (λ same. subst (IsAmong (variables_of tracks)) same (among_at (variables_of tracks) i v (variable_at_place tracks i no_track c.loop-track-test.true))) (λ never. absurd never) here);
      short = short;
    })
    c.in_err-made.ensures.nodes
