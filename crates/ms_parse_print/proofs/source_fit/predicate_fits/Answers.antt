use Rattle.std.proofs.Common.{refl, sym, ◌∙◌}
use Rattle.std.proofs.lemmas.Bool.{false≢true}
use Rattle.ms_parse_grammar.specs.View.{expression_of, variables_of}
use Rattle.ms_parse_print.proofs.Declared.{predicate_printable, printable_predicate}
use Rattle.ms_parse_print.proofs.source_fit.predicate_fits.Goals as goal

pub returns-then-head_fits : goal.returns-then-head_fits
returns-then-head_fits c = λ is_pred at.
    let head = c.if-head_fits.ensures.0 refl in (
      λ holds. predicate_printable is_pred at c.args.called.now (variables_of c.args.bounds.now) (expression_of c.args.body.now) head.0 head.1 (c.passes.ensures.0 holds),
      λ is. c.passes.ensures.1 (printable_predicate is_pred at c.args.called.now (variables_of c.args.bounds.now) (expression_of c.args.body.now) is).2,
    )

pub returns-else-head_fits : goal.returns-else-head_fits
returns-else-head_fits c = λ is_pred at. (
  λ holds. absurd (false≢true (sym c.if-head_fits.false ∙ holds)),
  λ is.
      let parts = printable_predicate is_pred at c.args.called.now (variables_of c.args.bounds.now) (expression_of c.args.body.now) is in
      c.head_fits.ensures.1 (parts.0, parts.1),
)
