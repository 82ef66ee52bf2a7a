use Rattle.std.proofs.Common.{◌≡◌, map, take}
use Rattle.ms_dfa.specs.Automaton.{variables_of}
use Rattle.ms_logic_words.specs.Content.{variables_by_place}
use Rattle.ms_dfafile_adopt.proofs.tracks.own_tracks.Given as goal

-- the variables so far
abbrev pub invariant-loop-file_variable : goal.invariant-loop-file_variable
invariant-loop-file_variable l =
    (variables_of l.made ≡ variables_by_place (map (λ v. v.order) (take l.file_variable-index l.variables))) × (l.place ≡ l.file_variable-index)
