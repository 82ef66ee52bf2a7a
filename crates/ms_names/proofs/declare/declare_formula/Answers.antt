use Rattle.ms_parse_grammar.specs.View.{expression_of}
use Rattle.ms_names.proofs.Told.{formula-told}
use Rattle.ms_names.proofs.declare.declare_formula.Goals as goal

pub returns-clause-state : goal.returns-clause-state
returns-clause-state c = λ count taken.
    formula-told c.args.checker.now c.expression.new.checker count taken (expression_of c.args.e.now) c.in_ok-value.ensures.state
