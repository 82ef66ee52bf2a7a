use Rattle.std.proofs.Common.{◌-◌, take}
use Rattle.ms_presburger_parse.specs.inner.Gathering.{Binds, bound_in, count_of}
use Rattle.ms_presburger_parse.proofs.free.unbind.Given as goal

-- the first names are bound once less each
abbrev pub invariant-loop-name : goal.invariant-loop-name
invariant-loop-name l = Binds l.initial.gathered l.gathered (λ x. bound_in l.initial.gathered x - count_of (take l.name-index l.names) x)
