use Rattle.std.proofs.Common.{◌≡◌, drop}
use Rattle.ms_include.specs.Include.{is_among, names}
use Rattle.ms_include.proofs.begun.is_in_chain.Given as goal

-- the answer lies with the files that are left
abbrev pub invariant-loop-begun : goal.invariant-loop-begun
invariant-loop-begun l = is_among l.name (names (drop l.begun-index l.chain)) ≡ is_among l.name (names l.chain)
