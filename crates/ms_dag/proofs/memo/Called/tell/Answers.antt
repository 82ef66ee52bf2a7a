use Rattle.ms_dag.proofs.MemoLemmas.{lookup-told, lookup-others}
use Rattle.ms_dag.proofs.memo.Called.tell.Goals as goal

pub returns-in-Ok : goal.returns-in-Ok
returns-in-Ok c = record {
  told = rw c.in-Ok.ensures.entries (lookup-told (λ key. key.items) c.args.call c.args.child c.args.self.now.children.entries);
  others = λ other. rw c.in-Ok.ensures.entries (lookup-others (λ key. key.items) c.args.call c.args.child c.args.self.now.children.entries other);
}
