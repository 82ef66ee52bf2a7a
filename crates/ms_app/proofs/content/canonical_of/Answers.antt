use Rattle.std.proofs.Common.{arith}
use Rattle.ms_build_source.proofs.CopySigns.{signs_of_copy}
use Rattle.ms_app.proofs.ContentLemmas.{canonical_of_value, file_of_value}
use Rattle.ms_app.proofs.content.canonical_of.Goals as goal

pub returns-in-Ok-clause-copy : goal.returns-in-Ok-clause-copy
returns-in-Ok-clause-copy c =
    let made = c.in-Ok.ensures in
    let few = made.few in
    let small = c.requires.limit.small in
    record { version_is = made.version; mode_is = made.mode; orders = made.orders; names_are = made.names; signs = made.signs; canonical = made.canonical; few = omega (arith, few, small) }

pub returns-in-Ok-clause-content : goal.returns-in-Ok-clause-content
returns-in-Ok-clause-content c = λ problem value.
    let solution = c.args.solution.now in
    canonical_of_value c.args.version problem solution.automaton value c.requires.named.by_place solution.names c.in-Ok.content (returns-in-Ok-clause-copy c)

pub returns-in-Ok-clause-file : goal.returns-in-Ok-clause-file
returns-in-Ok-clause-file c = λ problem value.
    let solution = c.args.solution.now in
    file_of_value c.args.version problem solution.automaton value c.requires.named.by_place solution.names c.in-Ok.content (returns-in-Ok-clause-copy c)

pub returns-in-Ok-clause-signs : goal.returns-in-Ok-clause-signs
returns-in-Ok-clause-signs c =
    let solution = c.args.solution.now in
    signs_of_copy c.args.version solution.automaton c.states.ensures.automaton solution.names c.in-Ok.content (returns-in-Ok-clause-copy c)
