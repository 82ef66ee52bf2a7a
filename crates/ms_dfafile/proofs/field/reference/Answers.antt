use Rattle.std.proofs.Common.{sym, ◌∙◌}
use Rattle.ms_dfafile.specs.Spelling.{ref_text}
use Rattle.ms_dfafile.proofs.FieldLemmas.{ended-one}
use Rattle.ms_dfafile.proofs.NumberLemmas.{ref_text-field}
use Rattle.ms_dfafile.proofs.field.reference.Goals as goal

pub returns-in_err-text : goal.returns-in_err-text
returns-in_err-text c = rw c.from_residual.ensures (λ r rest small. c.in_err-text.ensures.none (ref_text r) rest (ref_text-field r small))

pub returns-in_err-reference_of : goal.returns-in_err-reference_of
returns-in_err-reference_of c =
    let text = c.in_ok-text.text.now in
    rw c.from_residual-in_err-reference_of.ensures (λ r rest small same.
    c.in_err-reference_of.ensures r small (ended-one c.args.end text (ref_text r) c.in_ok-text.rest.now rest c.requires c.in_ok-text.ensures.inside (ref_text-field r small) (sym c.in_ok-text.ensures.found ∙ same)).0)
