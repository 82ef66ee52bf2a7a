use Rattle.std.proofs.Common.{inr, refl, arith}
use Rattle.std.proofs.lemmas.List.{take_rest}
use Rattle.ms_text.proofs.Fronts.{cut_text, no_quote_past, text_front, text_token, no_utf8}
use Rattle.ms_text.proofs.scan.text_at.Goals as goal
use Rattle.ms_text.proofs.scan.text_at.Goals.{then-length-behind-via-then-length-behind, then-length-behind-via-else-length-behind+then-behind-length-ne34}

pub returns-then-length-behind-clause-fault : goal.returns-then-length-behind-clause-fault
returns-then-length-behind-clause-fault c =
    let cut = cut_text c.args.rest.now _ c.content_length-length.result c.requires.nonempty c.requires.quote (take_rest c.args.rest.now 1) c.content_length-length.ensures.run in
    elim c.then-length-behind.branch [
      | then-length-behind-via-then-length-behind w ↦ inr (cut (no_quote_past _ _ w.if-length-behind.true))
      | then-length-behind-via-else-length-behind+then-behind-length-ne34 w ↦ inr (cut w.if-behind-length-ne34.true)
    ]

pub returns-in-Ok-clause-token : goal.returns-in-Ok-clause-token
returns-in-Ok-clause-token c =
    text_token c.args.rest.now _ c.content_length-length.result
    (text_front c.args.rest.now _ c.content_length-length.result c.requires.nonempty c.requires.quote (take_rest c.args.rest.now 1) (omega arith) c.if-behind-length-ne34.false)
    (omega arith) c.content_length-length.ensures.run c.in-Ok.ensures.cases.1

pub returns-in-Err-clause-fault : goal.returns-in-Err-clause-fault
returns-in-Err-clause-fault c = inr (
  refl,
  no_utf8 c.args.rest.now _ c.content_length-length.result
      (text_front c.args.rest.now _ c.content_length-length.result c.requires.nonempty c.requires.quote (take_rest c.args.rest.now 1) (omega arith) c.if-behind-length-ne34.false)
      c.content_length-length.ensures.run c.in-Err.ensures.cases.0,
)
