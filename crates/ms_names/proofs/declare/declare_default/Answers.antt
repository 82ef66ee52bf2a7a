use Rattle.ms_parse_grammar.specs.View.{expression_of}
use Rattle.ms_names.proofs.Told.{default-told}
use Rattle.ms_names.proofs.declare.declare_default.Goals as goal

pub returns-clause-state : goal.returns-clause-state
returns-clause-state c = λ count taken.
    default-told c.args.checker.now c.default_parts.new.checker c.note_predicate.new.self c.set_default.new.self count taken
    c.args.order c.args.name.now (expression_of c.args.body.now) c.in_ok-number.number
    c.requires c.in_ok-made.ensures.state c.in_ok-number.ensures.number c.in_ok-number.ensures.state c.set_default.ensures
