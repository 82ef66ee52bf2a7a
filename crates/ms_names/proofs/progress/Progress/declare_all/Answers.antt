use Rattle.std.proofs.Common.{◌+◌, List, map, drop, subst, ap, arith}
use Rattle.std.proofs.lemmas.Result.{err_from_is_err_and}
use Rattle.ms_parse_grammar.specs.Tree.{Declared}
use Rattle.ms_parse_grammar.specs.View.{declared_of}
use Rattle.ms_names_rules.proofs.Repeats.{next}
use Rattle.ms_names.proofs.Sources.{Goes, goes-refused}
use Rattle.ms_names.proofs.progress.Progress.declare_all.Goals as goal

pub returns-in_err-declare-clause-refused : goal.returns-in_err-declare-clause-refused
returns-in_err-declare-clause-refused c =
    let items = c.args.items.now in
    let i = c.loop-item.item-index in
    let all = map declared_of items in
    let rest = map declared_of (drop (i + 1) items) in
    let P : List Declared → Type 0 = λ ds. Goes c.args.self.now c.loop-item.self all ds in
    let goes = subst P (ap (map declared_of) (next items i c.item-item.result (omega arith) c.item-item.is)) c.loop-item.invariant in
    let p = err_from_is_err_and c.from_residual.result c.from_residual.ensures.1 in
    rw (p.1, p.2) (goes-refused c.args.self.now c.loop-item.self all rest (declared_of c.item-item.result) c.in_err-declare.field-0.0 goes c.in_err-declare.ensures.refused)
