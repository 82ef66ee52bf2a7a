use Rattle.std.proofs.Common.{map, sym, ap, ◌∙◌}
use Rattle.ms_lower.proofs.Callees.{no_parameters, parameters_are}
use Rattle.ms_lower.proofs.tables.Tables.params.Goals as goal

pub returns-in-None : goal.returns-in-None
returns-in-None c = sym (no_parameters c.args.self.now c.args.predicate c.in-None.ensures.none)

pub returns-in-Some : goal.returns-in-Some
returns-in-Some c = ap (map (λ p. p.variable)) c.slice.ensures ∙ parameters_are c.args.self.now c.args.predicate c.in-Some.known.now c.in-Some.ensures.some.0
