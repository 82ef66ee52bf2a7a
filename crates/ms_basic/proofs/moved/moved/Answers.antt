use Rattle.std.proofs.Common.{◌^◌, ◌<◌, arith, refl, take, true}
use Rattle.ms_logic_core.specs.Operands.{variables_of_basic}
use Rattle.ms_basic.specs.Bits.{bits_table}
use Rattle.ms_basic.specs.Operands.{set}
use Rattle.ms_basic.specs.inner.Windows.{down_table, up_table}
use Rattle.ms_basic.proofs.ApartOverLemmas.{apart_two}
use Rattle.ms_basic.proofs.DownApart.{down_apart}
use Rattle.ms_basic.proofs.DownLemmas.{decides_down}
use Rattle.ms_basic.proofs.ReachedOverLemmas.{constant_reached, orders_of_two, reached_one, reached_two}
use Rattle.ms_basic.proofs.ShiftedItselfLemmas.{decides_by_none, decides_further, moved_operands}
use Rattle.ms_basic.proofs.TablesReached.{bits_reached, down_reached, up_reached}
use Rattle.ms_basic.proofs.UpApart.{up_apart}
use Rattle.ms_basic.proofs.UpLemmas.{decides_up}
use Rattle.ms_basic.proofs.WindowLemmas.{few_windows, some_windows, too_many_windows}
use Rattle.ms_basic.proofs.moved.moved.Goals as goal

pub returns-then-n-gt-GREATEST : goal.returns-then-n-gt-GREATEST
returns-then-n-gt-GREATEST c = record {
  made = tt;
  differ = tt;
  reached = tt;
  within = tt;
  nodes = (refl, too_many_windows c.args.direction c.args.sets.0 c.args.sets.1 c.args.n c.args.setting.limit c.if-s-t.false c.if-n-gt-GREATEST.true c.args.setting.small);
}

pub made-requires-clause-orders : goal.made-requires-clause-orders
made-requires-clause-orders c =
    rw (c.moved_form-form.ensures, moved_operands c.args.direction c.args.sets.0 c.args.sets.1 c.args.n) (orders_of_two c.args.sets.0 c.args.sets.1)

pub made-requires-clause-decides : goal.made-requires-clause-decides
made-requires-clause-decides c =
    rw (c.moved_form-form.ensures, moved_operands c.args.direction c.args.sets.0 c.args.sets.1 c.args.n, ← c.if-s-t.true, c.if-n-eq0.true)
    (decides_by_none c.args.setting.mode c.args.direction c.args.sets.0)

pub made-requires-clause-reached : goal.made-requires-clause-reached
made-requires-clause-reached c = constant_reached (take 1 (variables_of_basic c.moved_form-form.result)) true

pub made-requires-else-n-eq0-clause-orders : goal.made-requires-else-n-eq0-clause-orders
made-requires-else-n-eq0-clause-orders c =
    rw (c.moved_form-form.ensures, moved_operands c.args.direction c.args.sets.0 c.args.sets.1 c.args.n) (orders_of_two c.args.sets.0 c.args.sets.1)

pub made-requires-else-n-eq0-clause-decides : goal.made-requires-else-n-eq0-clause-decides
made-requires-else-n-eq0-clause-decides c =
    let further : 0 < c.args.n = omega (arith, c.if-n-eq0.false) in
    rw (
      c.moved_form-form.ensures,
      moved_operands c.args.direction c.args.sets.0 c.args.sets.1 c.args.n,
      ← c.if-s-t.true,
      c.none.ensures.mode,
      c.none.ensures.number,
      c.none.ensures.digits,
    )
    (decides_further c.args.setting.mode c.args.direction c.args.sets.0 c.args.n further)

pub made-requires-else-n-eq0-clause-reached : goal.made-requires-else-n-eq0-clause-reached
made-requires-else-n-eq0-clause-reached c =
    rw (c.moved_form-form.ensures, moved_operands c.args.direction c.args.sets.0 c.args.sets.1 c.args.n)
    (reached_one (set c.args.sets.0) (bits_table c.none.result.mode c.none.result.number c.none.result.digits) refl
    (bits_reached c.none.result.mode c.none.result.number c.none.result.digits))

pub invariant_of-made : goal.invariant_of-made
invariant_of-made c = record {
  some = some_windows c.args.n c.size-size.result c.size-size.ensures;
  small = few_windows c.args.n c.size-size.result c.size-size.ensures c.if-n-gt-GREATEST.false;
}

pub made-requires-in-Up-clause-decides : goal.made-requires-in-Up-clause-decides
made-requires-in-Up-clause-decides c = rw c.size-size.ensures (decides_up c.args.setting.mode c.args.sets.0 c.args.sets.1 c.args.n)

pub made-requires-in-Up-clause-apart : goal.made-requires-in-Up-clause-apart
made-requires-in-Up-clause-apart c =
    rw c.size-size.ensures (apart_two (set c.args.sets.0) (set c.args.sets.1) (up_table c.args.setting.mode (2 ^ c.args.n)) c.if-s-t.false refl refl (up_apart c.args.setting.mode c.args.n))

pub made-requires-in-Up-clause-reached : goal.made-requires-in-Up-clause-reached
made-requires-in-Up-clause-reached c =
    rw c.size-size.ensures (reached_two (set c.args.sets.0) (set c.args.sets.1) (up_table c.args.setting.mode (2 ^ c.args.n)) c.if-s-t.false refl refl (up_reached c.args.setting.mode c.args.n))

pub invariant_of-made-in-Down : goal.invariant_of-made-in-Down
invariant_of-made-in-Down c = record {
  some = some_windows c.args.n c.size-size.result c.size-size.ensures;
  small = few_windows c.args.n c.size-size.result c.size-size.ensures c.if-n-gt-GREATEST.false;
}

pub made-requires-in-Down-clause-decides : goal.made-requires-in-Down-clause-decides
made-requires-in-Down-clause-decides c = rw c.size-size.ensures (decides_down c.args.setting.mode c.args.sets.0 c.args.sets.1 c.args.n)

pub made-requires-in-Down-clause-apart : goal.made-requires-in-Down-clause-apart
made-requires-in-Down-clause-apart c =
    rw c.size-size.ensures (apart_two (set c.args.sets.0) (set c.args.sets.1) (down_table (2 ^ c.args.n)) c.if-s-t.false refl refl (down_apart c.args.n))

pub made-requires-in-Down-clause-reached : goal.made-requires-in-Down-clause-reached
made-requires-in-Down-clause-reached c =
    rw c.size-size.ensures (reached_two (set c.args.sets.0) (set c.args.sets.1) (down_table (2 ^ c.args.n)) c.if-s-t.false refl refl (down_reached c.args.n))
