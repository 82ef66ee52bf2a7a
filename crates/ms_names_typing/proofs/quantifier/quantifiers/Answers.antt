use Rattle.std.proofs.Common.{◌∷◌, [], map, sym, ap, ◌∙◌}
use Rattle.std.proofs.lemmas.List.{map-append}
use Rattle.ms_logic.specs.View.{declaration_of, formula_of}
use Rattle.ms_names_rules.specs.inner.Binder.{quantified_over}
use Rattle.ms_names_rules.proofs.Lists.{quantified_over-more}
use Rattle.ms_names_typing.proofs.quantifier.quantifiers.Goals as goal

pub loop-param-preserved : goal.loop-param-preserved
loop-param-preserved c =
    let q = c.args.quant in
    let left = c.pop.new.self.items in
    let f = formula_of c.loop-param.made in
    ap (quantified_over q (map declaration_of left)) c.in_ok-made.ensures
    ∙ (quantified_over-more q (map declaration_of left) (declaration_of c.in-Some.param) f
    ∙ (ap (λ vs. quantified_over q vs f) (sym (ap (map declaration_of) c.in-Some.ensures.items ∙ map-append declaration_of left (c.in-Some.param ∷ [])))
    ∙ c.loop-param.invariant))
