use Rattle.std.proofs.Common.{◌≡◌, drop, [], ◌∷◌, ◌++◌}
use Rattle.ms_dfa.specs.Automaton.{variables_of}
use Rattle.ms_logic_words.specs.Content.{variables_from, variables_by_place}
use Rattle.ms_build.proofs.bodies.body_tracks.Given as goal

-- the tracks so far are the first ones
abbrev pub invariant-loop-variable : goal.invariant-loop-variable
invariant-loop-variable l =
    variables_of l.made ++ variables_from l.variable (drop l.variable l.orders ++ l.bound.order ∷ []) ≡ variables_by_place (l.orders ++ l.bound.order ∷ [])
