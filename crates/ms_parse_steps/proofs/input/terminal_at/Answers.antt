use Rattle.ms_text.specs.TokenList.{slice_of}
use Rattle.ms_parse_steps.specs.inner.Terminals.{symbol_with, content}
use Rattle.ms_parse_steps.proofs.Inputs.{terminal_next}
use Rattle.ms_parse_steps.proofs.input.terminal_at.Goals as goal

pub returns-then-i-len-clause-next : goal.returns-then-i-len-clause-next
returns-then-i-len-clause-next c =
    let token = c.get-token.result in
    let slice = slice_of c.args.tokens.now token in (
      content token.kind slice,
      terminal_next c.args.file c.args.tokens.now c.args.i token (symbol_with c.terminal_of.result (content token.kind slice)) c.at_of.result c.get-token.ensures.token (c.terminal_of.ensures slice) c.at_of.ensures,
    )
