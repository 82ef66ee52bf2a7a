use Rattle.std.proofs.Common.{◌≡◌, true, inl, inr, ◌∙◌, arith}
use Rattle.ms_parse_grammar.specs.Symbol.{left_out}
use Rattle.ms_parse.proofs.Faults.{misplaced_at, language_misplaced, ends_early, left_out_is_utf8, left_out_symbol}
use Rattle.ms_parse_steps.proofs.Inputs.{at_end, terminal_next}
use Rattle.ms_parse.proofs.refuse.fault_at.Goals as goal

pub returns-in-Ok-new : goal.returns-in-Ok-new
returns-in-Ok-new c is =
    let file = c.args.file in
    let lexed = c.args.tokens.now in
    let i = c.args.i in
    let word = c.in-Ok-new.word in
    let next =
    terminal_next file lexed i c.get-token.result (left_out word) c.at_of-at.result c.get-token.ensures.token
    (left_out_symbol lexed i c.get-token.result c.slice.result.now word c.get-token.ensures.token (c.is_left_out.ensures.0 c.if-not-is_left_out.false) c.slice.ensures.slice (c.in-Ok-new.ensures ∙ c.in-Ok.ensures.cases.0))
    c.at_of-at.ensures in
    inr (misplaced_at file lexed i (left_out word) c.at_of-at.result next is)

pub returns-then-i-len : goal.returns-then-i-len
returns-then-i-len c is =
    let nothing = at_end c.args.file c.args.tokens.now c.args.i (omega arith) in
    inr (inl (ends_early c.args.file c.args.tokens.now c.args.i c.end_at-at.result nothing c.end_at-at.ensures is))

pub returns-then-not-is_left_out : goal.returns-then-not-is_left_out
returns-then-not-is_left_out c is =
    inr (inr (language_misplaced c.args.file c.args.tokens.now c.args.i c.get-token.result c.at_of-at.result c.get-token.ensures.token
    (λ left. let yes : c.is_left_out.result ≡ true = c.is_left_out.ensures.1 left in let never : ⊥ = cc in never) c.at_of-at.ensures is))

pub returns-in-Err : goal.returns-in-Err
returns-in-Err c is =
    absurd (c.in-Err.ensures.cases.0 (left_out_is_utf8 c.args.tokens.now c.args.i c.get-token.result c.slice.result.now c.get-token.ensures.token (c.is_left_out.ensures.0 c.if-not-is_left_out.false) c.slice.ensures.spelled))
