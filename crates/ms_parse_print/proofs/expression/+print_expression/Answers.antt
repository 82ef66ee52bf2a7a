use Rattle.std.proofs.Common.{rules, string_bytes, append_assoc}
use Rattle.ms_parse_grammar.specs.Symbol.{close_round, mark_symbol}
use Rattle.ms_parse_grammar.specs.declared.operator.Bracket.TheVariants.{Restriction, Export}
use Rattle.ms_parse_grammar.specs.View.{expression_of}
use Rattle.ms_parse_print.specs.inner.Printed.{printed, printed_opening, spelled}
use Rattle.ms_parse_print.proofs.Lists.{printed_all_more, printed_variables_more, printed_parts_more}
use Rattle.ms_parse_print.proofs.Shapes.{bind_shape, let_shape, restrict_shape, export_shape, two}
use Rattle.std.proofs.lemmas.Result.{IfOk-equal}
use Rattle.ms_parse_print.proofs.expression.+print_expression.Goals as goal

pub push_all-loop-i-preserved : goal.push_all-loop-i-preserved
push_all-loop-i-preserved t c =
    let more = printed_all_more spelled (mark_symbol c.args.separator) c.args.es.now c.loop-i.i c.index-es-i.result c.loop-i-test.true c.index-es-i.is in
    rw (more) (search (rules, append_assoc))

pub push_bounds-loop-i-preserved : goal.push_bounds-loop-i-preserved
push_bounds-loop-i-preserved t c =
    let more = printed_variables_more spelled c.args.bounds.now c.loop-i.i c.index-bounds-i.result c.loop-i-test.true c.index-bounds-i.is in
    rw (more) (search (rules, append_assoc))

pub push_parts-loop-i-preserved : goal.push_parts-loop-i-preserved
push_parts-loop-i-preserved t c =
    let more = printed_parts_more spelled c.args.parts.now c.loop-i.i c.index-parts-i.result c.loop-i-test.true c.index-parts-i.is in
    rw (more) (search (rules, append_assoc))

pub push_expression-returns-in_ok-push_bounds-in-Bind : goal.push_expression-returns-in_ok-push_bounds-in-Bind
push_expression-returns-in_ok-push_bounds-in-Bind t c =
    let shape = bind_shape c.args.e.now c.in-Bind.quant c.in-Bind.order c.in-Bind.bounds c.in-Bind.body c.in-Bind.is in
    rw (shape) (search (rules, append_assoc, IfOk-equal))

pub push_expression-returns-in_ok-push_parts-in-Let : goal.push_expression-returns-in_ok-push_parts-in-Let
push_expression-returns-in_ok-push_parts-in-Let t c =
    let shape = let_shape c.args.e.now c.in-Let.order c.in-Let.parts c.in-Let.body c.in-Let.is in
    rw (shape) (search (rules, append_assoc, IfOk-equal))

pub push_expression-returns-in_ok-push_opening-in-Restrict : goal.push_expression-returns-in_ok-push_opening-in-Restrict
push_expression-returns-in_ok-push_opening-in-Restrict t c =
    rw (restrict_shape c.args.e.now c.in-Restrict.inner c.in-Restrict.is)
    (two c.push_closed-in-Restrict.result (string_bytes c.args.text.now) (string_bytes c.push_opening-in-Restrict.new.text) (string_bytes c.push_closed-in-Restrict.new.text)
    (printed_opening spelled Restriction) (printed spelled (expression_of c.in-Restrict.inner)) (spelled close_round) c.in_ok-push_opening-in-Restrict.ensures c.push_closed-in-Restrict.ensures)

pub push_expression-returns-in_ok-push_export-in-Export : goal.push_expression-returns-in_ok-push_export-in-Export
push_expression-returns-in_ok-push_export-in-Export t c =
    rw (export_shape c.args.e.now c.in-Export.field-0 c.in-Export.file c.in-Export.inner c.in-Export.is)
    (two c.push_closed-in-Export.result (string_bytes c.args.text.now) (string_bytes c.push_export.new.text) (string_bytes c.push_closed-in-Export.new.text)
    (printed_opening spelled (Export c.in-Export.field-0 c.in-Export.file)) (printed spelled (expression_of c.in-Export.inner)) (spelled close_round) (c.in_ok-push_export-in-Export.ensures c.in-Export.field-0) c.push_closed-in-Export.ensures)
