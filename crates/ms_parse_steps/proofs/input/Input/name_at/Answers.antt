use Rattle.std.proofs.Common.{◌≡◌, true, ◌∙◌}
use Rattle.ms_parse_steps.proofs.Inputs.{no_name, terminal_next, token_is_utf8, name_symbol}
use Rattle.ms_parse_grammar.specs.Symbol.{name}
use Rattle.ms_parse_steps.proofs.input.Input.name_at.Goals as goal

pub returns-then-not-is_name-clause-other : goal.returns-then-not-is_name-clause-other
returns-then-not-is_name-clause-other c =
    no_name c.args.self.file c.args.self.tokens.now c.args.i c.get-token.result c.get-token.ensures.token
    (λ is. let yes : c.is_name.result ≡ true = c.is_name.ensures.1 is in let never : ⊥ = cc in never)

pub returns-in_ok-new-in-Ok-clause-next : goal.returns-in_ok-new-in-Ok-clause-next
returns-in_ok-new-in-Ok-clause-next c =
    terminal_next c.args.self.file c.args.self.tokens.now c.args.i c.get-token.result (name c.in_ok-new-in-Ok.field-0) c.at_of.result c.get-token.ensures.token
    (name_symbol c.args.self.tokens.now c.args.i c.get-token.result c.slice.result.now c.in_ok-new-in-Ok.field-0 c.get-token.ensures.token (c.is_name.ensures.0 c.if-not-is_name.false)
    c.slice.ensures.slice (c.in_ok-new-in-Ok.ensures ∙ c.in-Ok.ensures.cases.0))
    c.at_of.ensures

pub returns-in-Err-clause-other : goal.returns-in-Err-clause-other
returns-in-Err-clause-other c =
    absurd (c.in-Err.ensures.cases.0 (token_is_utf8 c.args.self.tokens.now c.args.i c.get-token.result c.slice.result.now c.get-token.ensures.token (c.is_name.ensures.0 c.if-not-is_name.false) c.slice.ensures.spelled))
