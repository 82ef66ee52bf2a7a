use Rattle.std.proofs.Common.{◌+◌, ◌<◌, ◌^◌, ◌∷◌, ◌++◌, [], length, List, ◌∙◌, ap, arith}
use Rattle.std.proofs.lemmas.Iterator.Adapters.{YieldsList-from_vec}
use Rattle.std.proofs.lemmas.Iterator.Consumers.{YieldsList-turn}
use Rattle.std.proofs.lemmas.Result.{IfOk-at_ok}
use Rattle.ms_logic.specs.declared.checked.Placed.{Placed}
use Rattle.ms_logic.specs.declared.formula.Formula.{Formula}
use Rattle.ms_translation.specs.Source.{placed_from}
use Rattle.ms_translation.proofs.Declared.{length-placed, placed-more}
use Rattle.ms_translation.proofs.source.declared.Goals as goal

pub placed-next-requires : goal.placed-next-requires
placed-next-requires c =
    let given = c.into_vec-formula-items.result.items in
    let begun = c.into_iter-formula-iterator.ensures.into_iter_gives in
    let road = YieldsList-from_vec {s = c.into_iter-formula-iterator.result} given begun.0 (omega (arith, begun.1, c.into_vec-formula-items.result.ok)) in
    let turn = YieldsList-turn road c.loop-formula.yielded c.loop-formula.formula-iterator c.loop-formula.yielded_by c.next.result c.next.new.self c.in-Some.formula c.in-Some.is c.next.ensures.steps in
    let few = IfOk-at_ok (λ (made : List Formula). length made + 1 < 2 ^ 32) c.in_ok-formulas.was c.requires in
    omega (arith, turn.0, few, c.len.ensures, ap (λ (l : List Placed). length l) c.loop-formula.invariant, length-placed 1 c.loop-formula.yielded, ap (λ (l : List Formula). length l) c.into_vec-formula-items.ensures)

pub loop-formula-preserved : goal.loop-formula-preserved
loop-formula-preserved c =
    c.in_ok-push.ensures.ok
    ∙ (ap (λ (l : List Placed). l ++ c.placed-next.result ∷ []) c.loop-formula.invariant
    ∙ (ap (λ (p : Placed). placed_from 1 c.loop-formula.yielded ++ p ∷ []) c.placed-next.ensures
    ∙ placed-more 1 (c.len.result + 1) c.loop-formula.yielded c.in-Some.formula (omega (arith, c.len.ensures, ap (λ (l : List Placed). length l) c.loop-formula.invariant, length-placed 1 c.loop-formula.yielded))))
