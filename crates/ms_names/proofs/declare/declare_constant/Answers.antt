use Rattle.ms_names.proofs.Told.{constant-told}
use Rattle.ms_names.proofs.declare.declare_constant.Goals as goal

pub returns : goal.returns
returns c = λ count taken.
    constant-told c.args.checker.now c.constant.new.self c.bind.new.self count taken c.args.at c.args.name.now c.args.ints.now c.in_ok-value.value
    c.in_ok-value.ensures.state c.in_ok-value.ensures.value c.in_ok-bind.ensures
