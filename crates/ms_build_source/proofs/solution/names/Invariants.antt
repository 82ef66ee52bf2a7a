use Rattle.std.proofs.Common.{◌≡◌, ◌++◌, drop, map}
use Rattle.ms_build_source.proofs.solution.names.Given as goal

-- the names so far and those of the rest are the names of all
abbrev pub invariant-loop-global : goal.invariant-loop-global
invariant-loop-global l = l.names ++ map (λ g. g.name) (drop l.global-index l.globals) ≡ map (λ g. g.name) l.globals
