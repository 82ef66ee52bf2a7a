use Rattle.std.proofs.Common.{rules}
use Rattle.ms_parse_grammar.specs.Symbol.{name}
use Rattle.ms_parse_steps.specs.inner.Terminals.{IsNext}
use Rattle.ms_parse_steps.proofs.Taking.{one_more}
use Rattle.ms_parse_steps.proofs.input.Input.begin_predicate.Goals as goal

pub returns : goal.returns
returns c =
    let names : IsNext c.args.self.file c.args.self.tokens.now c.args.i (name c.in-Some.name) c.in-Some.at_name = search rules in
    rw (names, one_more c.args.self.file c.args.self.tokens.now c.args.i) c.behind_predicate.ensures
