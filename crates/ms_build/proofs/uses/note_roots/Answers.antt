use Rattle.std.proofs.Common.{◌≡◌, ◌+◌, List, [], ◌∷◌, ◌++◌, map, take, subst, arith}
use Rattle.ms_dag.specs.declared.dag.SharedRoot.{SharedRoot}
use Rattle.ms_dag.specs.declared.node.Child.{Child}
use Rattle.ms_dag.specs.Share.{children_of_roots}
use Rattle.ms_build.specs.Built.{roots_of}
use Rattle.ms_build.specs.inner.Uses.{to_the_end}
use Rattle.ms_build.proofs.UsesLemmas.{noted_next, root_next}
use Rattle.ms_build.proofs.uses.note_roots.Goals as goal

pub loop-root-preserved : goal.loop-root-preserved
loop-root-preserved c =
    let i = c.loop-root.root-index in
    let root = c.root-item.result in
    let test = c.loop-root-test.true in
    let bound = c.loop-root.auto.root-index-end in
    let next = subst (λ (list : List SharedRoot). take (i + 1) (map (λ (c : Child). c.node) (children_of_roots list)) ≡ take i (map (λ (c : Child). c.node) (children_of_roots list)) ++ root.child.node ∷ [])
    c.shared_roots-root-items.ensures (root_next c.shared_roots-root-items.result.now i root (omega (arith, test, bound)) c.root-item.is) in
    noted_next c.args.last.now.items c.loop-root.last.items c.note_use.new.last.items (map (λ (c : Child). c.node) (roots_of c.args.plan.now)) i root.child.node to_the_end next c.loop-root.invariant c.note_use.ensures
