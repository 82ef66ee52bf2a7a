use Rattle.std.proofs.Common.{◌≡◌, ◌<◌, ◌+◌, ℕ, List, [], ◌∷◌, ◌++◌, drop, length, ap, sym, ◌∙◌, arith}
use Rattle.std.proofs.lemmas.List.{drop_all, map_push}
use Rattle.ms_dfa.specs.declared.track.Track.{Track}
use Rattle.ms_dfa.specs.Automaton.{variable_of, variables_of}
use Rattle.ms_logic.specs.declared.mode.Order.{Order}
use Rattle.ms_logic.specs.declared.mode.Order.TheVariants.{Zero}
use Rattle.ms_logic_words.specs.Content.{variables_from, variables_by_place}
use Rattle.ms_build.proofs.PlaceLemmas.{first_tracks}
use Rattle.ms_build.proofs.bodies.body_tracks.Goals as goal

pub loop-variable-init : goal.loop-variable-init
loop-variable-init c = ap (λ (tracks : List Track). variables_of tracks ++ variables_by_place (c.args.orders.now ++ c.args.bound.order ∷ [])) c.new-made.ensures

pub loop-variable-preserved : goal.loop-variable-preserved
loop-variable-preserved c =
    let orders = c.args.orders.now in
    let i = c.loop-variable.variable in
    let within : i < length orders = (let less = c.loop-variable-test.true in let long = c.requires in omega (arith, less, long)) in
    ap (λ (tracks : List Track). variables_of tracks ++ variables_from (i + 1) (drop (i + 1) orders ++ c.args.bound.order ∷ [])) c.in_ok-push.ensures.ok
    ∙ first_tracks orders (c.args.bound.order ∷ []) c.loop-variable.made i Zero within c.loop-variable.invariant

pub returns : goal.returns
returns c =
    let orders = c.args.orders.now in
    let bound = c.args.bound in
    let made = c.loop-variable.made in
    let i = c.loop-variable.variable in
    let same : bound.variable ≡ i = (let past = c.loop-variable-test.false in let end = c.loop-variable.auto.variable-end in omega (arith, past, end)) in
    let none : drop i orders ≡ [] = drop_all i orders (let long = c.requires in omega (arith, long, same)) in
    ap variables_of c.in_ok-push-2.ensures.ok
    ∙ map_push variable_of made bound
    ∙ ap (λ (name : ℕ). variables_of made ++ record { name = name; order = bound.order } ∷ []) same
    ∙ ap (λ (list : List Order). variables_of made ++ variables_from i (list ++ bound.order ∷ [])) (sym none)
    ∙ c.loop-variable.invariant
