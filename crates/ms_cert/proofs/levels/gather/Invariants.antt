use Rattle.std.proofs.Common.{◌≡◌, ◌++◌, drop, map}
use Rattle.ms_dfa.specs.Narrow.{gathered}
use Rattle.ms_dfa.specs.Part.{has_value}
use Rattle.ms_logic_words.specs.Content.{bits_at, variables_from}
use Rattle.ms_cert.proofs.levels.gather.Given as goal

-- the bits so far, and those of the variables that are left
abbrev pub invariant-loop-place : goal.invariant-loop-place
invariant-loop-place l =
    l.made ++ gathered (has_value l.part) l.place (variables_from l.place (drop l.place (map (λ v. v.order) l.plain.variables))) (bits_at l.bits)
    ≡ gathered (has_value l.part) 0 (variables_from 0 (map (λ v. v.order) l.plain.variables)) (bits_at l.bits)
