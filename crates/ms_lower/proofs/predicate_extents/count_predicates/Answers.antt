use Rattle.std.proofs.Common.{◌∷◌, [], ◌++◌, ◌+◌, length, map, take, sym, ap, subst, ◌∙◌}
use Rattle.std.proofs.lemmas.List.{length-append}
use Rattle.ms_logic_core.specs.Size.{extents_of}
use Rattle.ms_logic.specs.View.{predicate_of}
use Rattle.ms_lower.specs.inner.Extents.{HasEntries}
use Rattle.ms_lower.proofs.Entries.{entries-more, extents-more}
use Rattle.ms_lower.proofs.predicate_extents.count_predicates.Goals as goal

pub loop-i-preserved : goal.loop-i-preserved
loop-i-preserved c =
    let i = c.loop-i.i in
    let ps = c.args.predicates.now in
    let p = c.index-predicates-i.result in
    let e = c.count_predicate-entry.result in
    let x = extents_of (map predicate_of (take i ps)) in
    let pushed = c.in_ok-push.ensures.ok in
    let more = entries-more x i c.loop-i.called (predicate_of p) e c.loop-i.invariant.entries c.loop-i.invariant.count c.count_predicate-entry.ensures in
    record {
      entries = subst (HasEntries (extents_of (map predicate_of (take (i + 1) ps)))) (sym pushed) (subst (λ y. HasEntries y (c.loop-i.called ++ e ∷ [])) (sym (extents-more ps i p c.loop-i-test.true c.index-predicates-i.is)) more);
      count = ap length pushed ∙ (length-append c.loop-i.called (e ∷ []) ∙ ap (λ n. n + 1) c.loop-i.invariant.count);
    }
