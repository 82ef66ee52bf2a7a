use Rattle.std.proofs.Common.{◌∷◌, [], ◌++◌, map, inl, inr, sym, ap, ◌∙◌, arith}
use Rattle.std.specs.Option.{option_map}
use Rattle.ms_logic_core.specs.Size.{extent_under, extents_of_arguments, extents_of_each, extents_of_restriction}
use Rattle.ms_logic.specs.View.{argument_of, arguments, binding_of, formula_of, forms, restriction}
use Rattle.ms_logic.proofs.Views.{formula_of-And, formula_of-Or, formula_of-Let, formula_of-Call}
use Rattle.ms_lower.proofs.Trees.{formula_of-Bind}
use Rattle.ms_lower.specs.Counted.{counted}
use Rattle.ms_lower.specs.inner.Extents.{known_extents}
use Rattle.ms_lower.proofs.Counting.{beyond, node, pair}
use Rattle.ms_lower.proofs.Positive.{form_positive}
use Rattle.ms_lower.proofs.extents.+formulas.Goals as goal

pub count_formula-returns-in_err-below : goal.count_formula-returns-in_err-below
count_formula-returns-in_err-below t c =
    let p = form_positive (known_extents c.args.known.now) c.requires.known.positive (formula_of c.args.formula.now) in
    let none = beyond c.args.limit (extent_under (known_extents c.args.known.now) (formula_of c.args.formula.now) ∷ []) (omega arith) in
    c.from_residual.ensures ∙ sym none

pub count_formula-returns-in-And : goal.count_formula-returns-in-And
count_formula-returns-in-And t c =
    let x = known_extents c.args.known.now in
    node c.args.limit c.in_ok-below.below (extents_of_each x (forms (map formula_of c.in-And.operands))) (extent_under x (formula_of c.args.formula.now)) c.count_each.result c.above-in-And.result
    c.above-in-And.ensures
    (c.count_each.ensures ∙ ap (λ fs. counted c.in_ok-below.below (extents_of_each x (forms (map formula_of fs)))) c.slice-in-And.ensures)
    (elim c.in-And.is [
      | inl is ↦ ap (λ f. extent_under x (formula_of f)) is ∙ ap (extent_under x) (formula_of-And c.in-And.operands)
      | inr is ↦ ap (λ f. extent_under x (formula_of f)) is ∙ ap (extent_under x) (formula_of-Or c.in-And.operands)
    ])
    (omega arith) (omega arith)

pub count_formula-returns-in-Bind : goal.count_formula-returns-in-Bind
count_formula-returns-in-Bind t c =
    let x = known_extents c.args.known.now in
    let d = extents_of_restriction x (restriction (option_map formula_of c.in-Bind.domain)) in
    let r = extent_under x (formula_of c.in-Bind.body) in
    node c.args.limit c.in_ok-below.below (d ++ r ∷ []) (extent_under x (formula_of c.args.formula.now)) c.both.result c.above-in-Bind.result
    c.above-in-Bind.ensures
    (pair c.in_ok-below.below d (r ∷ []) c.count_restriction-domain.result c.count_formula.result c.both.result c.both.ensures
    c.count_restriction-domain.ensures
    (c.count_formula.ensures ∙ ap (λ f. counted c.in_ok-below.below (extent_under x (formula_of f) ∷ [])) c.get.ensures))
    (ap (λ f. extent_under x (formula_of f)) c.in-Bind.is ∙ ap (extent_under x) (formula_of-Bind c.in-Bind.field-0 c.in-Bind.field-1 c.in-Bind.field-2 c.in-Bind.domain c.in-Bind.body))
    (omega arith) (omega arith)

pub count_formula-returns-in-Let : goal.count_formula-returns-in-Let
count_formula-returns-in-Let t c =
    let x = known_extents c.args.known.now in
    let d = extents_of_arguments x (arguments (map (λ b. b.1) (map binding_of c.in-Let.bindings))) in
    let r = extent_under x (formula_of c.in-Let.body) in
    node c.args.limit c.in_ok-below.below (d ++ r ∷ []) (extent_under x (formula_of c.args.formula.now)) c.both-in-Let.result c.above-in-Let.result
    c.above-in-Let.ensures
    (pair c.in_ok-below.below d (r ∷ []) c.count_bindings-right_sides.result c.count_formula-in-Let.result c.both-in-Let.result c.both-in-Let.ensures
    (c.count_bindings-right_sides.ensures ∙ ap (λ bs. counted c.in_ok-below.below (extents_of_arguments x (arguments (map (λ b. b.1) (map binding_of bs))))) c.slice.ensures)
    (c.count_formula-in-Let.ensures ∙ ap (λ f. counted c.in_ok-below.below (extent_under x (formula_of f) ∷ [])) c.get-in-Let.ensures))
    (ap (λ f. extent_under x (formula_of f)) c.in-Let.is ∙ ap (extent_under x) (formula_of-Let c.in-Let.bindings c.in-Let.body))
    (omega arith) (omega arith)

pub count_formula-returns-in-Call : goal.count_formula-returns-in-Call
count_formula-returns-in-Call t c =
    let x = known_extents c.args.known.now in
    let d = extents_of_arguments x (arguments (map argument_of c.in-Call.arguments)) in
    node c.args.limit c.in_ok-below.below (d ++ x.called c.in-Call.predicate) (extent_under x (formula_of c.args.formula.now)) c.both-in-Call.result c.above-in-Call.result
    c.above-in-Call.ensures
    (pair c.in_ok-below.below d (x.called c.in-Call.predicate) c.count_arguments-given.result c.called.result c.both-in-Call.result c.both-in-Call.ensures
    (c.count_arguments-given.ensures ∙ ap (λ bs. counted c.in_ok-below.below (extents_of_arguments x (arguments (map argument_of bs)))) c.slice-in-Call.ensures)
    c.called.ensures)
    (ap (λ f. extent_under x (formula_of f)) c.in-Call.is ∙ ap (extent_under x) (formula_of-Call c.in-Call.predicate c.in-Call.arguments))
    (omega arith) (omega arith)
