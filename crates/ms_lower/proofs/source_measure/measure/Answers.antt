use Rattle.std.proofs.Common.{inl, inr, ap, subst, ◌∙◌}
use Rattle.ms_lower.specs.Counted.{whole_count}
use Rattle.ms_lower.specs.TooDeep.{IsFound, parts_of}
use Rattle.ms_lower.proofs.Measures.{found_of, is_depth_refusal, is_measure, is_size_refusal}
use Rattle.ms_lower.proofs.source_measure.measure.Goals as goal

pub returns-in-Err-clause-refused : goal.returns-in-Err-clause-refused
returns-in-Err-clause-refused c = λ answers.
    let checked = c.args.checked.now in
    let found = found_of checked c.slice-2.result.now c.slice-4.result.now c.slice-5.result.now c.count_source.result c.slice-2.ensures c.slice-4.ensures c.slice-5.ensures c.count_source.ensures in
    inr (inl (is_depth_refusal checked answers c.in-Err.deep.item c.in-Err.deep.at (subst (IsFound (parts_of checked)) c.in-Err.is found)))

pub returns-then-count-lt-TOO_LARGE-clause-measured :
    goal.returns-then-count-lt-TOO_LARGE-clause-measured
returns-then-count-lt-TOO_LARGE-clause-measured c = λ answers.
    let checked = c.args.checked.now in
    let found = found_of checked c.slice-2.result.now c.slice-4.result.now c.slice-5.result.now c.count_source.result c.slice-2.ensures c.slice-4.ensures c.slice-5.ensures c.count_source.ensures in
    is_measure checked answers c.in-Ok-count_source.parts c.whole-count.result (subst (IsFound (parts_of checked)) c.in-Ok-count_source.is found)
    (c.whole-count.ensures ∙ ap (whole_count c.in-Ok-count_source.parts) c.len.ensures) c.if-count-lt-TOO_LARGE.true

pub returns-clause-refused : goal.returns-clause-refused
returns-clause-refused c = λ answers.
    let checked = c.args.checked.now in
    let found = found_of checked c.slice-2.result.now c.slice-4.result.now c.slice-5.result.now c.count_source.result c.slice-2.ensures c.slice-4.ensures c.slice-5.ensures c.count_source.ensures in
    inr (inr (is_size_refusal checked answers c.in-Ok-count_source.parts c.whole-count.result (subst (IsFound (parts_of checked)) c.in-Ok-count_source.is found)
    (c.whole-count.ensures ∙ ap (whole_count c.in-Ok-count_source.parts) c.len.ensures) c.if-count-lt-TOO_LARGE.false))
