use Rattle.std.proofs.Common.{◌≡◌, [], drop}
use Rattle.ms_lower.specs.NumberedRoots.{globals_over, seen_over}
use Rattle.ms_lower.proofs.all_roots.see_globals.Given as goal

abbrev pub invariant-loop-global : goal.invariant-loop-global
invariant-loop-global l = record {
  number : l.number ≡ l.global-index;
  seen : globals_over l.number (seen_over [] l.seen) (drop l.global-index l.globals) ≡ globals_over 0 [] l.globals;
}
