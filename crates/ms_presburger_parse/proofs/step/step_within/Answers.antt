use Rattle.std.proofs.Common.{subst, refl}
use Rattle.ms_presburger.specs.Tree.{truth, falsity}
use Rattle.ms_presburger_parse.specs.inner.Machine.{with_comma, with_leaf, with_name, with_number, with_plus, with_quantifier, with_relation}
use Rattle.ms_presburger_parse.specs.inner.States.{MovesTo, place_of}
use Rattle.ms_presburger_parse.proofs.Growth.{comma_keeps, leaf_keeps, name_two, number_two, plus_keeps, quantifier_two, relation_keeps}
use Rattle.ms_presburger_parse.proofs.Steps.{comes_moved}
use Rattle.ms_presburger_parse.proofs.Trees.{arithmetic_of-True, arithmetic_of-False}
use Rattle.ms_presburger_parse.proofs.step.step_within.Goals as goal

pub returns-in-Name : goal.returns-in-Name
returns-in-Name c =
    rw c.in-Name.is (c.begin.ensures (with_name c.args.slice.now) (place_of c.args.place) (name_two c.args.slice.now) c.read_name.ensures c.requires.measured.measured)

pub returns-in-Number : goal.returns-in-Number
returns-in-Number c =
    rw c.in-Number.is (c.begin-in-Number.ensures (with_number c.in-Number.number) (place_of c.args.place) (number_two c.in-Number.number) c.with_number.ensures c.requires.measured.measured)

pub returns-in-Quantifier : goal.returns-in-Quantifier
returns-in-Quantifier c =
    rw c.in-Quantifier.is (c.begin-in-Quantifier.ensures (with_quantifier c.in-Quantifier.quant) (place_of c.args.place) (quantifier_two c.in-Quantifier.quant) c.with_quantifier.ensures c.requires.measured.measured)

pub returns-in-True : goal.returns-in-True
returns-in-True c =
    rw c.in-True.is (comes_moved (with_leaf truth) c.args.begun.now c.args.place c.with_leaf.result c.moved.result (leaf_keeps truth refl) (subst (λ f. MovesTo (with_leaf f (place_of c.args.place)) c.with_leaf.result) arithmetic_of-True c.with_leaf.ensures) c.requires.measured c.moved.ensures.ok c.moved.ensures.err)

pub returns-in-False : goal.returns-in-False
returns-in-False c =
    rw c.in-False.is (comes_moved (with_leaf falsity) c.args.begun.now c.args.place c.with_leaf-in-False.result c.moved-in-False.result (leaf_keeps falsity refl) (subst (λ f. MovesTo (with_leaf f (place_of c.args.place)) c.with_leaf-in-False.result) arithmetic_of-False c.with_leaf-in-False.ensures) c.requires.measured c.moved-in-False.ensures.ok c.moved-in-False.ensures.err)

pub returns-in-Relation : goal.returns-in-Relation
returns-in-Relation c =
    rw c.in-Relation.is (comes_moved (with_relation c.in-Relation.rel) c.args.begun.now c.args.place c.with_relation.result c.moved-in-Relation.result (relation_keeps c.in-Relation.rel) c.with_relation.ensures c.requires.measured c.moved-in-Relation.ensures.ok c.moved-in-Relation.ensures.err)

pub returns-in-Plus : goal.returns-in-Plus
returns-in-Plus c =
    rw c.in-Plus.is (comes_moved (with_plus) c.args.begun.now c.args.place c.with_plus.result c.moved-in-Plus.result (plus_keeps) c.with_plus.ensures c.requires.measured c.moved-in-Plus.ensures.ok c.moved-in-Plus.ensures.err)

pub returns-in-Comma : goal.returns-in-Comma
returns-in-Comma c =
    rw c.in-Comma.is (comes_moved (with_comma) c.args.begun.now c.args.place c.with_comma.result c.moved-in-Comma.result (comma_keeps) c.with_comma.ensures c.requires.measured c.moved-in-Comma.ensures.ok c.moved-in-Comma.ensures.err)
