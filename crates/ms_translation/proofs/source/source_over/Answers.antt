use Rattle.std.proofs.Common.{◌≡◌, map, None, refl, ap, ◌∙◌}
use Rattle.std.proofs.lemmas.Result.{IfOk-at_ok}
use Rattle.ms_logic.specs.Tree.{Form}
use Rattle.ms_logic.specs.View.{formula_of}
use Rattle.ms_logic.specs.declared.checked.Placed.{Placed}
use Rattle.ms_translation.specs.Source.{global_of, numbers_from, start}
use Rattle.ms_translation.proofs.Declared.{formulas-placed, given-placed, items-placed, places-placed, titles-placed}
use Rattle.ms_translation.proofs.source.source_over.Goals as goal

pub returns-clause-source : goal.returns-clause-source
returns-clause-source c = λ fs gives.
    let names = c.args.names.now in
    let made = c.in_ok-globals.formulas in
    let placed = given-placed c.args.formulas c.declared.result fs made gives c.declared.ensures.made c.declared.ensures.declared c.in_ok-globals.ensures.other in
    let formulas = placed.0 in
    record {
      mode = refl;
      globals = IfOk-at_ok (λ all. all ≡ map global_of names) c.in_ok-globals.ensures.one c.variables.ensures;
      predicates = c.new.ensures;
      imports = c.new-2.ensures;
      exports = c.new-3.ensures;
      formulas = ap (map (λ (p : Placed). formula_of p.formula)) placed.1 ∙ (formulas-placed 1 formulas ∙ placed.2);
      titles = ap (map (λ (p : Placed). p.title)) placed.1 ∙ (titles-placed 1 formulas ∙ ap (map (λ (f : Form). None)) placed.2);
      places = ap (map (λ (p : Placed). p.at)) placed.1 ∙ (places-placed 1 formulas ∙ ap (map (λ (f : Form). start)) placed.2);
      items = ap (map (λ (p : Placed). p.item)) placed.1 ∙ (items-placed 1 formulas ∙ ap (numbers_from 1) placed.2);
    }
