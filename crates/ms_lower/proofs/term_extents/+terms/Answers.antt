use Rattle.std.proofs.Common.{map, sym, ap, ◌∙◌, arith}
use Rattle.std.proofs.lemmas.List.{drop_all}
use Rattle.ms_logic_core.specs.Size.{extent_of_set, extents_of_elements}
use Rattle.ms_logic.specs.View.{set_term_of, term_of, terms}
use Rattle.ms_logic.proofs.Views.{set_term_of-Literal}
use Rattle.ms_lower.specs.Counted.{counted, both_counts}
use Rattle.ms_lower.proofs.Counting.{counted-done, node}
use Rattle.ms_lower.proofs.term_extents.+terms.Goals as goal

pub count_elements-returns : goal.count_elements-returns
count_elements-returns t c =
    let i = c.loop-element.invariant in
    let d = drop_all c.loop-element.element-index c.args.elements.now (omega arith) in
    sym (counted-done c.args.limit c.loop-element.counted i.capped) ∙ (ap (λ ts. both_counts c.loop-element.counted (counted c.args.limit (extents_of_elements (terms (map term_of ts))))) (sym d) ∙ i.all_is)

pub count_set-returns-in-Literal : goal.count_set-returns-in-Literal
count_set-returns-in-Literal t c =
    node c.args.limit c.in_ok-below.below (extents_of_elements (terms (map term_of c.in-Literal.elements))) (extent_of_set (set_term_of c.args.term.now)) c.count_elements.result c.above.result
    c.above.ensures
    (c.count_elements.ensures ∙ ap (λ ts. counted c.in_ok-below.below (extents_of_elements (terms (map term_of ts)))) c.slice.ensures)
    (ap (λ s. extent_of_set (set_term_of s)) c.in-Literal.is ∙ ap extent_of_set (set_term_of-Literal c.in-Literal.elements))
    (omega arith) (omega arith)
