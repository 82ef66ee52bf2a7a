use Rattle.std.proofs.Common.{◌≡◌, [], ◌∷◌, ◌++◌, length, fold, reverse, sym, subst, ◌∙◌, rules}
use Rattle.ms_arena.specs.declared.node.Ref.{Ref}
use Rattle.ms_arena.specs.declared.node.Ref.TheVariants.{Leaf, Inner}
use Rattle.ms_arena.specs.Leaves.{leaves_within}
use Rattle.ms_diagram.specs.declared.leaves.Task.TheVariants.{Follow, Note}
use Rattle.ms_diagram.specs.Leaves.{noted}
use Rattle.ms_diagram.proofs.Noting.{noting_popped, noting_leaf, noting_known, noting_opened, noting_place, noting_pushed}
use Rattle.ms_diagram.proofs.store.Store.note_leaves.Goals as goal
use Rattle.ms_diagram.proofs.store.Store.note_leaves.Goals.{in-Follow+in-Leaf+in-Ok-insert, in-Follow+in-Inner+else-contains+in-Ok-extend_from_slice, in-Note+in-Ok-insert-2}

pub loop-preserved-then-contains : goal.loop-preserved-then-contains
loop-preserved-then-contains c =
    let nodes = c.args.self.now.nodes in
    let all = fold noted c.args.leaves.now.keys (leaves_within nodes (length nodes) c.args.root) in
    let last : c.loop.tasks.items ≡ c.pop.new.self.items ++ Follow (Inner c.in-Inner.place) ∷ [] = subst (λ (root : Ref). c.loop.tasks.items ≡ c.pop.new.self.items ++ Follow root ∷ []) c.in-Inner.is (rw c.in-Follow.is at c.in-Some.ensures.items) in
    noting_known nodes all c.loop.leaves.keys c.loop.places.keys (reverse c.pop.new.self.items) c.in-Inner.place (sym c.contains.ensures ∙ c.if-contains.true)
    (noting_popped nodes all c.loop.leaves.keys c.loop.places.keys c.loop.tasks.items c.pop.new.self.items (Follow (Inner c.in-Inner.place)) c.loop.invariant last)

pub loop-preserved : goal.loop-preserved
loop-preserved c =
    let nodes = c.args.self.now.nodes in
    let all = fold noted c.args.leaves.now.keys (leaves_within nodes (length nodes) c.args.root) in
    let seen = c.loop.leaves.keys in
    let places = c.loop.places.keys in
    let rest = reverse c.pop.new.self.items in
    elim c.match-task.branch [
      | in-Follow+in-Leaf+in-Ok-insert w ↦
          let last : c.loop.tasks.items ≡ c.pop.new.self.items ++ Follow (Leaf w.in-Leaf.value) ∷ [] = subst (λ (root : Ref). c.loop.tasks.items ≡ c.pop.new.self.items ++ Follow root ∷ []) w.in-Leaf.is (rw w.in-Follow.is at c.in-Some.ensures.items) in
          rw (w.leaves-is, w.places-is, w.tasks-is) (noting_leaf nodes all seen places rest w.in-Leaf.value w.insert.new.self.keys w.in-Ok-insert.ensures.keys
          (noting_popped nodes all seen places c.loop.tasks.items c.pop.new.self.items (Follow (Leaf w.in-Leaf.value)) c.loop.invariant last))
      | in-Follow+in-Inner+else-contains+in-Ok-extend_from_slice w ↦
          let last : c.loop.tasks.items ≡ c.pop.new.self.items ++ Follow (Inner w.in-Inner.place) ∷ [] = subst (λ (root : Ref). c.loop.tasks.items ≡ c.pop.new.self.items ++ Follow root ∷ []) w.in-Inner.is (rw w.in-Follow.is at c.in-Some.ensures.items) in
          let node = w.node-node.result in
          let added : w.extend_from_slice.new.self.items ≡ c.pop.new.self.items ++ Note w.in-Inner.place ∷ Follow node.high ∷ Follow node.low ∷ [] = search (rules) in
          rw (w.leaves-is, w.places-is, w.tasks-is) (noting_pushed nodes all seen places c.pop.new.self.items w.extend_from_slice.new.self.items
          (Follow node.low) (Follow node.high) (Note w.in-Inner.place) added
          (noting_opened nodes all seen places rest w.node-node.ensures.store.ordered w.in-Inner.place node w.node-node.ensures.held
          (noting_popped nodes all seen places c.loop.tasks.items c.pop.new.self.items (Follow (Inner w.in-Inner.place)) c.loop.invariant last)))
      | in-Note+in-Ok-insert-2 w ↦
          let last : c.loop.tasks.items ≡ c.pop.new.self.items ++ Note w.in-Note.place ∷ [] = rw w.in-Note.is at c.in-Some.ensures.items in
          rw (w.leaves-is, w.places-is, w.tasks-is) (noting_place nodes all seen places rest w.in-Note.place w.insert-in-Note.new.self.keys w.in-Ok-insert-2.ensures.keys
          (noting_popped nodes all seen places c.loop.tasks.items c.pop.new.self.items (Note w.in-Note.place) c.loop.invariant last))
    ]
