use Rattle.std.proofs.Common.{◌≡◌, length}
use Rattle.ms_diagram.specs.Store.{IsStore}
use Rattle.ms_cert.specs.inner.Difference.{TestBelow}
use Rattle.ms_cert.specs.inner.Images.{HaveImages}
use Rattle.ms_cert.proofs.images.images_of.Given as goal

-- the images of the nodes so far
abbrev pub invariant-loop : goal.invariant-loop
invariant-loop l = record {
  long : length l.list ≡ l.counter;
  store : IsStore l.store.nodes l.store.limit;
  below : TestBelow l.store.nodes (length l.plain.variables);
  each : HaveImages l.store.nodes l.plain.nodes l.classes l.list;
}
