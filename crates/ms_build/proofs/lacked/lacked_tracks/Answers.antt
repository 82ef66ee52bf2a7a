use Rattle.std.proofs.Common.{◌+◌, get_or, take, refl, sym, subst, ◌∙◌, arith}
use Rattle.std.proofs.lemmas.List.{length-map, take_all}
use Rattle.ms_dfa.specs.Automaton.{variable_of, variables_of}
use Rattle.ms_dfa.specs.declared.track.Track.{Track}
use Rattle.ms_logic.specs.declared.mode.Order.TheVariants.{Zero}
use Rattle.ms_build.specs.inner.Lacked.{IsLacked, with_track}
use Rattle.ms_build.proofs.LackedLemmas.{AreBelowLater-next, IsLacked-more, IsLacked-none, IsLacked-there}
use Rattle.ms_build.proofs.VariableLemmas.{taken-next, taken_below, variable_at_place}
use Rattle.ms_build.proofs.lacked.lacked_tracks.Goals as goal
use Rattle.ms_build.proofs.lacked.lacked_tracks.Goals.{then-not-stands_at+in_ok-add, else-not-stands_at}

-- what is read where no track stands
abbrev no_track : Track
no_track = record { variable = 0; order = Zero }

pub loop-track-init : goal.loop-track-init
loop-track-init c = (
  IsLacked-none (variables_of c.args.own.now) (record { free = c.new.result; numbers = c.new-2.result }) c.new.ensures c.new-2.ensures,
  λ j w held past u there. absurd there,
)

pub place_from-place-requires : goal.place_from-place-requires
place_from-place-requires c =
    let tracks = c.args.wanted.now in
    let i = c.loop-track.track-index in
    let there = variable_at_place tracks i no_track c.loop-track-test.true in
    c.loop-track.invariant.1 i (variable_of (get_or tracks i no_track)) there (omega arith)

pub loop-track-preserved : goal.loop-track-preserved
loop-track-preserved c =
    let own = variables_of c.args.own.now in
    let tracks = c.args.wanted.now in
    let i = c.loop-track.track-index in
    let track = get_or tracks i no_track in
    let there = variable_at_place tracks i no_track c.loop-track-test.true in
    let next = taken-next (variables_of tracks) i (variable_of track) there in
    let ws = take i (variables_of tracks) in
    let before = c.loop-track.invariant.0 in
    let passed = AreBelowLater-next own (variables_of tracks) c.place_from-place.result i (variable_of track) c.requires.wanted there c.place_from-place.ensures.before in
    elim c.if-not-stands_at.branch [
      | then-not-stands_at+in_ok-add w ↦ (
        subst (IsLacked own (take (i + 1) (variables_of tracks))) (sym (w.lacked-is ∙ w.in_ok-add.ensures))
            (subst (λ vs. IsLacked own vs (with_track c.loop-track.lacked track)) (sym next)
            (IsLacked-more own ws c.loop-track.lacked before track (taken_below (variables_of tracks) i (variable_of track) c.requires.wanted there) (w.if-not-stands_at.ensures.lacks refl))),
        passed,
      )
      | else-not-stands_at w ↦ (
        subst (IsLacked own (take (i + 1) (variables_of tracks))) (sym w.lacked-is)
            (subst (λ vs. IsLacked own vs c.loop-track.lacked) (sym next) (IsLacked-there own ws c.loop-track.lacked before track (w.if-not-stands_at.ensures.stands refl))),
        passed,
      )
    ]

pub returns : goal.returns
returns c =
    let tracks = c.args.wanted.now in
    let past = c.loop-track-test.false in
    let all = take_all c.loop-track.track-index (variables_of tracks) (let long = length-map tracks variable_of in omega (arith, past, long)) in
    subst (λ vs. IsLacked (variables_of c.args.own.now) vs c.loop-track.lacked) all c.loop-track.invariant.0
