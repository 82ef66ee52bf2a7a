use Rattle.std.proofs.Common.{◌++◌, Some, string_bytes, sym, ap, ap₂, ◌∙◌}
use Rattle.std.proofs.lemmas.List.{append_assoc}
use Rattle.std.proofs.lemmas.Result.{on_ok_weaker}
use Rattle.ms_report.specs.Report.{lines_text}
use Rattle.ms_report.specs.inner.Shown.{head_text, measure_of, shown_text, spelled}
use Rattle.ms_report.proofs.Shown.{head-and-lines}
use Rattle.ms_report.proofs.shown_text.push_shown.Goals as goal

pub returns-in-Some : goal.returns-in-Some
returns-in-Some c =
    let text = string_bytes c.args.text.now in
    let word = c.args.word.now in
    let names = c.args.names.now in
    let found = c.in-Some.assignment in
    let spelling = c.args.spelling in
    let head = c.in_ok-push_head.ensures ∙ ap₂ (λ measure shown. text ++ head_text word measure shown) c.measure.ensures c.in-Some.is in
    let whole =
    ap₂ (λ ns values. string_bytes c.push_head.new.text ++ lines_text (spelled spelling) ns values) c.slice.ensures c.slice-in-Some.ensures
    ∙ ap (λ t. t ++ lines_text (spelled spelling) names found.values) head
    ∙ append_assoc text (head_text word (measure_of spelling) (Some found)) (lines_text (spelled spelling) names found.values)
    ∙ ap (λ t. text ++ t) (head-and-lines spelling word names found ∙ ap (shown_text spelling word names) (sym c.in-Some.is))
    in
    on_ok_weaker c.push_lines.result (λ lines. lines ∙ whole) c.push_lines.ensures
