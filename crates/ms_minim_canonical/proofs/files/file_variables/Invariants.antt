use Rattle.std.proofs.Common.{◌≡◌, map, take}
use Rattle.ms_dfa.specs.declared.plain.FileVar.{FileVar}
use Rattle.ms_dfa.specs.declared.track.Track.{Track}
use Rattle.ms_minim_canonical.proofs.files.file_variables.Given as goal

-- the variables so far
abbrev pub invariant-loop-place : goal.invariant-loop-place
invariant-loop-place l =
    (map (λ (v : FileVar). v.order) l.made ≡ map (λ (track : Track). track.order) (take l.place l.tracks))
    × (map (λ (v : FileVar). v.name) l.made ≡ take l.place l.names)
