use Rattle.std.proofs.Common.{◌-◌, arith}
use Rattle.ms_arena.proofs.Appending.{Extends-from_appends}
use Rattle.try_diagrams.proofs.Built.{IsTruthFrom-extends, IsTruthFrom-leaf, IsTruthFrom-made}
use Rattle.try_diagrams.proofs.functions.parity.Goals as goal

pub loop-var-init : goal.loop-var-init
loop-var-init c = record {
  ordered = c.len.ensures.store.ordered;
  positive = c.requires;
  even_is = IsTruthFrom-leaf c.args.store.now.nodes c.args.count 0 c.leaf-even.result c.leaf-even.ensures (omega arith);
  odd_is = IsTruthFrom-leaf c.args.store.now.nodes c.args.count 1 c.leaf-odd.result c.leaf-odd.ensures (omega arith);
}

pub mk-requires-in-loop-var-clause-above_low : goal.mk-requires-in-loop-var-clause-above_low
mk-requires-in-loop-var-clause-above_low c =
    (IsTruthFrom-extends c.loop-var.store.nodes c.mk.new.self.nodes c.loop-var.invariant.ordered (Extends-from_appends c.loop-var.store.nodes c.mk.new.self.nodes (record { var = c.loop-var.var - 1; low = c.loop-var.even; high = c.loop-var.odd }) c.mk.ensures.appends) c.loop-var.var c.loop-var.odd c.loop-var.invariant.odd_is).above (c.loop-var.var - 1) (omega arith)

pub mk-requires-in-loop-var-clause-above_high : goal.mk-requires-in-loop-var-clause-above_high
mk-requires-in-loop-var-clause-above_high c =
    (IsTruthFrom-extends c.loop-var.store.nodes c.mk.new.self.nodes c.loop-var.invariant.ordered (Extends-from_appends c.loop-var.store.nodes c.mk.new.self.nodes (record { var = c.loop-var.var - 1; low = c.loop-var.even; high = c.loop-var.odd }) c.mk.ensures.appends) c.loop-var.var c.loop-var.even c.loop-var.invariant.even_is).above (c.loop-var.var - 1) (omega arith)

pub loop-var-preserved : goal.loop-var-preserved
loop-var-preserved c =
    let next = c.in_ok-next.ensures in
    let other = c.in_ok-odd.ensures in
    let even = IsTruthFrom-extends c.loop-var.store.nodes c.mk.new.self.nodes c.loop-var.invariant.ordered (Extends-from_appends c.loop-var.store.nodes c.mk.new.self.nodes (record { var = c.loop-var.var - 1; low = c.loop-var.even; high = c.loop-var.odd }) c.mk.ensures.appends) c.loop-var.var c.loop-var.even c.loop-var.invariant.even_is in
    let odd = IsTruthFrom-extends c.loop-var.store.nodes c.mk.new.self.nodes c.loop-var.invariant.ordered (Extends-from_appends c.loop-var.store.nodes c.mk.new.self.nodes (record { var = c.loop-var.var - 1; low = c.loop-var.even; high = c.loop-var.odd }) c.mk.ensures.appends) c.loop-var.var c.loop-var.odd c.loop-var.invariant.odd_is in
    record {
      ordered = c.mk-in-loop-var.ensures.store.ordered;
      positive = omega arith;
      even_is = IsTruthFrom-extends c.mk.new.self.nodes c.mk-in-loop-var.new.self.nodes c.mk.ensures.store.ordered (Extends-from_appends c.mk.new.self.nodes c.mk-in-loop-var.new.self.nodes (record { var = c.loop-var.var - 1; low = c.loop-var.odd; high = c.loop-var.even }) c.mk-in-loop-var.ensures.appends) (c.loop-var.var - 1) c.in_ok-next.next
          (IsTruthFrom-made c.loop-var.store.nodes c.mk.new.self.nodes (c.loop-var.var - 1) c.loop-var.even c.loop-var.odd c.in_ok-next.next next.valid next.above next.function
          c.loop-var.invariant.even_is.truth c.loop-var.invariant.odd_is.truth);
      odd_is = IsTruthFrom-made c.mk.new.self.nodes c.mk-in-loop-var.new.self.nodes (c.loop-var.var - 1) c.loop-var.odd c.loop-var.even c.in_ok-odd.odd
          other.valid other.above other.function odd.truth even.truth;
    }

pub mk-requires-2-clause-above_low : goal.mk-requires-2-clause-above_low
mk-requires-2-clause-above_low c = c.loop-var.invariant.even_is.above 0 c.loop-var.invariant.positive

pub mk-requires-2-clause-above_high : goal.mk-requires-2-clause-above_high
mk-requires-2-clause-above_high c = c.loop-var.invariant.odd_is.above 0 c.loop-var.invariant.positive
