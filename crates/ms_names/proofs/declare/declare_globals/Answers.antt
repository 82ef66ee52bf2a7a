use Rattle.ms_parse_grammar.specs.View.{variables_of}
use Rattle.ms_names.proofs.Told.{globals-told}
use Rattle.ms_names.proofs.declare.declare_globals.Goals as goal

pub returns-clause-state : goal.returns-clause-state
returns-clause-state c = λ taken.
    globals-told c.args.checker.now c.check_globals.new.self c.variables.new.checker c.args.first taken (variables_of c.args.bounds.now)
    c.in_ok-check_globals.ensures c.in_ok-made.ensures.state
