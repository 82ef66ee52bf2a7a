use Rattle.std.proofs.Common.{sym, ap, ◌∙◌}
use Rattle.ms_logic.specs.declared.source.Decl.TheVariants as decls
use Rattle.ms_parse_print.proofs.Declared.{by_declaration}
use Rattle.ms_parse_print.proofs.source_fit.declaration_fits.Goals as goal

pub returns-in-Const : goal.returns-in-Const
returns-in-Const c =
    by_declaration c.args.declaration.now (decls.Const c.in-Const.field-0 c.in-Const.called c.slice-in-Const.result.now) c.constant_fits.result
    (c.in-Const.is ∙ ap (λ x. decls.Const c.in-Const.field-0 c.in-Const.called x) (sym c.slice-in-Const.ensures)) (c.constant_fits.ensures c.in-Const.field-0)

pub returns-in-Pred : goal.returns-in-Pred
returns-in-Pred c =
    by_declaration c.args.declaration.now (decls.Pred c.in-Pred.field-0 c.in-Pred.field-1 c.in-Pred.called c.slice-in-Pred.result.now c.in-Pred.body) c.predicate_fits.result
    (c.in-Pred.is ∙ ap (λ x. decls.Pred c.in-Pred.field-0 c.in-Pred.field-1 c.in-Pred.called x c.in-Pred.body) (sym c.slice-in-Pred.ensures)) (c.predicate_fits.ensures c.in-Pred.field-0 c.in-Pred.field-1)

pub returns-in-Include : goal.returns-in-Include
returns-in-Include c =
    by_declaration c.args.declaration.now (decls.Include c.in-Include.field-0 c.in-Include.file) c.include_fits.result c.in-Include.is (c.include_fits.ensures c.in-Include.field-0)

pub returns-in-Goal : goal.returns-in-Goal
returns-in-Goal c =
    by_declaration c.args.declaration.now (decls.Goal c.in-Goal.field-0 c.in-Goal.title c.in-Goal.body) c.goal_fits.result c.in-Goal.is (c.goal_fits.ensures c.in-Goal.field-0)
