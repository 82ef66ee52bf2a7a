use Rattle.std.proofs.Common.{◌≡◌, length, List, refl, ap, ◌∙◌, arith}
use Rattle.ms_presburger.specs.declared.summand.Summand.{Summand}
use Rattle.ms_presburger.specs.Sets.{summands_of}
use Rattle.ms_presburger.specs.inner.Scopes.{variable_in}
use Rattle.ms_presburger.proofs.Operands.{few-summands}
use Rattle.ms_presburger.proofs.formulas.relation.Goals as goal

pub compared-requires-clause-few : goal.compared-requires-clause-few
compared-requires-clause-few c =
    let scope = variable_in c.args.bindings.now in
    let is : c.slice.result.now ≡ summands_of scope c.args.sides.0.now = c.slice.ensures ∙ c.in_ok-left.ensures.made scope (λ name. refl) in
    omega (arith, ap (λ (l : List Summand). length l) is, few-summands scope c.args.sides.0.now c.in_ok-left.ensures.small, c.requires.few)

pub compared-requires-clause-few_too : goal.compared-requires-clause-few_too
compared-requires-clause-few_too c =
    let scope = variable_in c.args.bindings.now in
    let is : c.slice-2.result.now ≡ summands_of scope c.args.sides.1.now = c.slice-2.ensures ∙ c.in_ok-right.ensures.made scope (λ name. refl) in
    omega (arith, ap (λ (l : List Summand). length l) is, few-summands scope c.args.sides.1.now c.in_ok-right.ensures.small, c.requires.few_too)
