use Rattle.std.proofs.Common.{refl, sym, subst}
use Rattle.ms_ltlf.specs.View.{temporal_of}
use Rattle.ms_parse_stack.specs.inner.Machine.{follows, performed}
use Rattle.ms_ltlf_parse.specs.inner.Machine.{holding, machine}
use Rattle.ms_ltlf_parse.specs.inner.States.{ComesTo, state_of}
use Rattle.ms_ltlf_parse.proofs.step.read_sign.Goals as goal

pub returns-in-Holding : goal.returns-in-Holding
returns-in-Holding c =
    subst (λ o. ComesTo (performed machine (follows c.args.sign) (state_of c.args.begun.now o)) c.follow.new.begun c.follow.result) (sym c.in-Holding.is)
    (c.follow.ensures (holding (temporal_of c.in-Holding.operand.formula)) refl)
