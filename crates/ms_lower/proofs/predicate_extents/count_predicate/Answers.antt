use Rattle.std.proofs.Common.{◌∷◌, [], ◌++◌, map, ap, ◌∙◌}
use Rattle.std.specs.Prelude.{Option}
use Rattle.ms_logic_core.specs.Size.{extent_under, extents_of_restrictions}
use Rattle.ms_logic.specs.View.{declaration_of, formula_of}
use Rattle.ms_lower.specs.declared.called.Called.{Called}
use Rattle.ms_lower.specs.declared.counted.Counted.{Counted}
use Rattle.ms_lower.specs.Counted.{counted, deepest}
use Rattle.ms_lower.specs.inner.Extents.{known_extents}
use Rattle.ms_lower.proofs.Counting.{pair}
use Rattle.ms_lower.proofs.predicate_extents.count_predicate.Goals as goal

called_of : Option Counted → Option Counted → Called
called_of called default = record { called = called; default = default }

pub returns : goal.returns
unfolding called_of
returns c =
    let x = known_extents c.args.known.now in
    let ps = extents_of_restrictions x (map declaration_of c.args.predicate.now.params) in
    let b = extent_under x (formula_of c.args.predicate.now.body) in
    let both = pair deepest ps (b ∷ []) c.count_params-params.result c.count_formula-body.result c.both.result c.both.ensures
    (c.count_params-params.ensures ∙ ap (λ l. counted deepest (extents_of_restrictions x (map declaration_of l))) c.slice.ensures)
    c.count_formula-body.ensures in
    ap (λ o. called_of o c.count_formula-body.result) both ∙ ap (called_of (counted deepest (ps ++ b ∷ []))) c.count_formula-body.ensures
