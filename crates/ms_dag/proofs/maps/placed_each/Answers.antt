use Rattle.std.proofs.Common.{Contains, All, sym, subst}
use Rattle.std.proofs.lemmas.List.Elements.{all_zip_more}
use Rattle.ms_dag.specs.declared.node.Child.{Child}
use Rattle.ms_dag.specs.inner.Maps.{IsPlaced}
use Rattle.ms_dag.proofs.Members.{All-map_of}
use Rattle.ms_dag.proofs.maps.placed_each.Goals as goal

pub placed-requires-clause-there : goal.placed-requires-clause-there
placed-requires-clause-there c =
    let child = c.child-item.result in
    let P : Child → Type 0 = λ one. All (Contains c.args.among.now) one.map in
    subst P (sym c.child-item.is)
    (All-map_of (Contains c.args.among.now) c.args.children.now c.loop-child.child-index child c.loop-child-test.true c.requires.there)

pub loop-child-preserved : goal.loop-child-preserved
loop-child-preserved c =
    rw c.in_ok-push.ensures.ok
    (all_zip_more (IsPlaced c.args.among.now) c.args.children.now c.loop-child.made c.loop-child.child-index c.child-item.result c.in_ok-placed.field-0
    c.loop-child-test.true c.child-item.is c.loop-child.invariant c.in_ok-placed.ensures)
