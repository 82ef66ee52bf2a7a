use Rattle.std.proofs.Common.{◌<◌, ◌++◌, length, string_bytes, refl, arith, add-one, ap, ◌∙◌}
use Rattle.std.proofs.lemmas.List.{append_assoc}
use Rattle.std.proofs.lemmas.Option.{slice_get_read}
use Rattle.ms_report.specs.inner.Shown.{spelled}
use Rattle.ms_report.proofs.LineTexts.{lines_text-more, lines_text-cut}
use Rattle.ms_report.proofs.shown_text.push_lines.Goals as goal

pub loop-i-preserved : goal.loop-i-preserved
loop-i-preserved c =
    let in_names : c.loop-i.i < length c.args.names.now = omega (arith, c.min-count.ensures) in
    let in_values : c.loop-i.i < length c.args.values.now = omega (arith, c.min-count.ensures) in
    let name = slice_get_read c.args.names.now _ c.loop-i.i c.index-names-i.result refl in_names c.index-names-i.is in
    let value = slice_get_read c.args.values.now _ c.loop-i.i c.index-values-i.result refl in_values c.index-values-i.is in
    rw (add-one, lines_text-more (spelled c.args.spelling) c.args.names.now c.args.values.now c.loop-i.i _ _ name value, ← append_assoc, ← c.loop-i.invariant) c.in_ok-push_line.ensures

pub returns : goal.returns
returns c =
    c.loop-i.invariant
    ∙ ap (λ lines. string_bytes c.args.text.now ++ lines) (lines_text-cut (spelled c.args.spelling) c.args.names.now c.args.values.now c.loop-i.i (omega (arith, c.min-count.ensures)))
