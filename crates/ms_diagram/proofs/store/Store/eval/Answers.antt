use Rattle.std.proofs.Common.{true, false}
use Rattle.ms_diagram.proofs.EvalLemmas.{way_ends, way_tests, way_goes_on}
use Rattle.ms_diagram.proofs.store.Store.eval.Goals as goal

pub returns-in-Leaf : goal.returns-in-Leaf
returns-in-Leaf c = way_ends c.args.self.now.nodes c.args.root c.loop-at.at c.args.bits.now c.in-Leaf.value c.in-Leaf.is c.loop-at.invariant

pub bounds-bits-node : goal.bounds-bits-node
bounds-bits-node c =
    way_tests c.args.self.now.nodes c.node-node.ensures.store.ordered c.args.root c.loop-at.at c.args.bits.now c.in-Inner.place c.in-Inner.is
    c.node-node.result c.node-node.ensures.held c.loop-at.invariant

pub loop-at-preserved-then-bits-node : goal.loop-at-preserved-then-bits-node
loop-at-preserved-then-bits-node c =
    way_goes_on c.args.self.now.nodes c.node-node.ensures.store.ordered c.args.root c.loop-at.at c.args.bits.now c.in-Inner.place c.in-Inner.is
    c.node-node.result c.node-node.ensures.held c.loop-at.invariant true c.if-bits-node.true

pub loop-at-preserved : goal.loop-at-preserved
loop-at-preserved c =
    way_goes_on c.args.self.now.nodes c.node-node.ensures.store.ordered c.args.root c.loop-at.at c.args.bits.now c.in-Inner.place c.in-Inner.is
    c.node-node.result c.node-node.ensures.held c.loop-at.invariant false c.if-bits-node.false
