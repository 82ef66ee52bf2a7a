use Rattle.ms_presburger_parse.specs.Symbol.{symbol_of}
use Rattle.ms_presburger_parse.specs.inner.Terminals.{symbol_with}
use Rattle.ms_presburger_parse.specs.inner.States.{state_of}
use Rattle.ms_presburger_parse.proofs.Comings.{come_ok, comes_next, can_follow}
use Rattle.ms_presburger_parse.proofs.Readings.{recognises}
use Rattle.ms_parse_stack.proofs.Steps.{come_err}
use Rattle.ms_parse_stack.proofs.Tokens.{front-next, token_is_utf8}
use Rattle.ms_presburger_parse.proofs.read.step_at.Goals as goal

pub step-requires-clause-text : goal.step-requires-clause-text
step-requires-clause-text c is =
    token_is_utf8 c.args.tokens.now c.args.i c.get-token.result c.slice-slice.result.now c.get-token.ensures.token (c.terminal_of-terminal.ensures.name is) c.slice-slice.ensures.spelled

pub returns : goal.returns
returns c =
    let lexed = c.args.tokens.now in
    let slice = c.slice-slice.result.now in
    let x = symbol_with c.terminal_of-terminal.result slice in
    let next = front-next symbol_of lexed c.args.i c.get-token.result slice x c.get-token.ensures.token c.slice-slice.ensures.slice c.terminal_of-terminal.ensures.symbol in
    let comes = comes_next lexed c.args.i c.args.begun.now c.step.new.begun c.args.outcome x c.step.result c.requires.here next c.step.ensures in
    record {
      ok = come_ok lexed c.args.i c.step.new.begun c.step.result comes;
      err = come_err recognises state_of lexed c.args.i c.step.new.begun c.step.result (can_follow lexed c.args.i c.args.begun.now c.args.outcome c.requires.here) comes;
    }
