use Rattle.std.proofs.Common.{arith}
use Rattle.ms_ltlf_parse.specs.Symbol.{symbol_of}
use Rattle.ms_ltlf_parse.specs.inner.Terminals.{symbol_with}
use Rattle.ms_ltlf_parse.specs.Reading.{place}
use Rattle.ms_ltlf_parse.specs.inner.States.{state_of}
use Rattle.ms_ltlf_parse.proofs.Comings.{come_ok, comes_next, few_names, can_follow}
use Rattle.ms_ltlf_parse.proofs.Readings.{recognises}
use Rattle.ms_parse_stack.proofs.Steps.{come_err}
use Rattle.ms_parse_stack.proofs.Tokens.{front-next, token_is_utf8}
use Rattle.ms_ltlf_parse.proofs.read.step_at.Goals as goal

pub number_of-requires-clause-room : goal.number_of-requires-clause-room
number_of-requires-clause-room c = omega (arith, few_names c.args.tokens.now c.args.i c.args.reader.now c.args.outcome c.requires.here, c.requires.room)

pub number_of-requires-clause-text : goal.number_of-requires-clause-text
number_of-requires-clause-text c is =
    token_is_utf8 c.args.tokens.now c.args.i c.get-token.result c.slice-slice.result.now c.get-token.ensures.token (c.terminal_of-terminal.ensures.name is) c.slice-slice.ensures.spelled

pub returns : goal.returns
returns c =
    let lexed = c.args.tokens.now in
    let slice = c.slice-slice.result.now in
    let x = symbol_with c.terminal_of-terminal.result slice in
    let names = c.number_of.new.sights.names in
    let next = front-next symbol_of lexed c.args.i c.get-token.result slice x c.get-token.ensures.token c.slice-slice.ensures.slice c.terminal_of-terminal.ensures.symbol in
    let all = comes_next lexed c.args.i c.args.reader.now c.args.outcome x names c.step.new.begun c.step.result c.requires.here next c.in_ok-number.ensures.names (c.step.ensures (place names) slice c.in_ok-number.ensures.number) in
    record {
      ok = come_ok lexed c.args.i c.number_of.new.sights c.step.new.begun c.step.result all.0 c.in_ok-number.ensures.table all.1;
      err = come_err recognises state_of lexed c.args.i c.step.new.begun c.step.result (can_follow lexed c.args.i c.args.reader.now c.args.outcome c.requires.here) all.1;
    }
