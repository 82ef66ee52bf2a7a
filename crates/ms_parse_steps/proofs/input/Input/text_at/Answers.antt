use Rattle.std.proofs.Common.{◌≡◌, true, ◌∙◌}
use Rattle.ms_parse_steps.proofs.Inputs.{no_text, terminal_next}
use Rattle.ms_parse_steps.proofs.Texts.{text_is_utf8, text_symbol}
use Rattle.ms_parse_grammar.specs.Symbol.{text}
use Rattle.ms_parse_steps.proofs.input.Input.text_at.Goals as goal

pub returns-then-not-is_text-clause-other : goal.returns-then-not-is_text-clause-other
returns-then-not-is_text-clause-other c =
    no_text c.args.self.file c.args.self.tokens.now c.args.i c.get-token.result c.get-token.ensures.token
    (λ is. let yes : c.is_text.result ≡ true = c.is_text.ensures.1 is in let never : ⊥ = cc in never)

pub returns-in_ok-new-in-Ok-clause-next : goal.returns-in_ok-new-in-Ok-clause-next
returns-in_ok-new-in-Ok-clause-next c =
    terminal_next c.args.self.file c.args.self.tokens.now c.args.i c.get-token.result (text c.in_ok-new-in-Ok.field-0) c.at_of.result c.get-token.ensures.token
    (text_symbol c.args.self.tokens.now c.args.i c.get-token.result c.slice.result.now c.between_quotes.result.now c.in_ok-new-in-Ok.field-0 c.get-token.ensures.token (c.is_text.ensures.0 c.if-not-is_text.false)
    c.slice.ensures.slice c.between_quotes.ensures (c.in_ok-new-in-Ok.ensures ∙ c.in-Ok.ensures.cases.0))
    c.at_of.ensures

pub returns-in-Err-clause-other : goal.returns-in-Err-clause-other
returns-in-Err-clause-other c =
    absurd (c.in-Err.ensures.cases.0 (text_is_utf8 c.args.self.tokens.now c.args.i c.get-token.result c.slice.result.now c.between_quotes.result.now c.len.ensures.tokens c.get-token.ensures.token
    (c.is_text.ensures.0 c.if-not-is_text.false) c.slice.ensures.slice c.slice.ensures.spelled c.between_quotes.ensures))
