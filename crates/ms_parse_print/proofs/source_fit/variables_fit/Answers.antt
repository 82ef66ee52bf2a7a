use Rattle.std.proofs.Common.{refl, subst}
use Rattle.ms_parse_grammar.specs.Grammar.{AreOfOrder}
use Rattle.ms_parse_grammar.specs.View.{variables_of}
use Rattle.ms_parse_print.proofs.Declared.{variables_printable, printable_variables}
use Rattle.ms_parse_print.proofs.source_fit.variables_fit.Goals as goal

pub returns-then-are_alike : goal.returns-then-are_alike
returns-then-are_alike c =
    let vs = variables_of c.args.bounds.now in
    let alike = c.if-are_alike.ensures.0 refl in
    let ordered = subst (λ o. AreOfOrder o (variables_of c.args.bounds.now)) c.first_order.ensures alike.1 in (
      λ holds. let v = variables_printable vs (c.variables_pass.ensures.0 holds) in ((tt, v.0), (alike.0, ordered), v.1),
      λ is. c.variables_pass.ensures.1 (printable_variables vs is.0.1 is.2),
    )
