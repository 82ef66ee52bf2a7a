use Rattle.std.proofs.Common.{◌≡◌, map, take}
use Rattle.ms_logic_core.specs.Spread.{Names}
use Rattle.ms_logic.specs.View.{declaration_of}
use Rattle.ms_lower.specs.inner.Scope.{all_named, default_over, names_in}
use Rattle.ms_lower.proofs.truths.default_names.Given as goal

abbrev pub invariant-loop-param : goal.invariant-loop-param
invariant-loop-param l =
    (base : Names) → all_named l.named base ≡ default_over (map declaration_of (take l.param-index l.params)) l.variable (names_in l.scope) base
