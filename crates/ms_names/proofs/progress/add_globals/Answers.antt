use Rattle.std.proofs.Common.{◌++◌, map, sym, ap, ◌∙◌, arith}
use Rattle.std.proofs.lemmas.List.{append-nil, drop_all}
use Rattle.std.specs.Vec.Iter.{into_iter_items}
use Rattle.ms_logic.specs.View.{declaration_of}
use Rattle.ms_names.specs.inner.Progress.{globals_with, kept_globals, listed_bounds}
use Rattle.ms_names.proofs.Sources.{globals_with-none, listed-all, listed_bound}
use Rattle.ms_names.proofs.progress.add_globals.Goals as goal
use Rattle.ms_parse_grammar.specs.View.{variables_of}

pub loop-bound-init : goal.loop-bound-init
loop-bound-init c =
    ap (λ names. kept_globals c.args.list.now ++ globals_with c.args.at c.args.item (map declaration_of (into_iter_items c.into_iter-params.result)) names)
    (sym (listed-all c.args.bounds.now))

pub returns : goal.returns
returns c =
    let kept = kept_globals c.loop-bound.list in
    let rest = map declaration_of (into_iter_items c.loop-bound.params) in
    let given = globals_with c.args.at c.args.item rest in
    sym (append-nil kept)
    ∙ (ap (λ there. kept ++ there) (sym (globals_with-none c.args.at c.args.item rest) ∙ ap (λ vs. given (map listed_bound vs)) (sym (drop_all c.loop-bound.bound-index c.args.bounds.now (omega arith))))
    ∙ (c.loop-bound.invariant
    ∙ ap (λ made. kept_globals c.args.list.now ++ globals_with c.args.at c.args.item (map declaration_of made) (listed_bounds (variables_of c.args.bounds.now))) c.into_iter-params.ensures.rest))
