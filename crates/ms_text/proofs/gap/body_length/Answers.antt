use Rattle.std.proofs.Common.{◌+◌, drop, arith}
use Rattle.ms_text.proofs.Gaps.{never_closes, never_closes_front, cut_at_close}
use Rattle.ms_text.proofs.gap.body_length.Goals as goal

pub returns-then-rest-length-eq47-clause-closed : goal.returns-then-rest-length-eq47-clause-closed
returns-then-rest-length-eq47-clause-closed c = (
  drop (c.loop-length.length + 1 + 1) c.args.rest.now,
  cut_at_close c.args.rest.now c.loop-length.length c.loop-length-test.true c.if-rest-length-eq42.true c.if-rest-length-eq47.true,
)

pub returns-then-rest-length-eq47-clause-first : goal.returns-then-rest-length-eq47-clause-first
returns-then-rest-length-eq47-clause-first c = never_closes_front c.args.rest.now _ _ c.loop-length.invariant.none (omega arith)

pub returns-clause-open : goal.returns-clause-open
returns-clause-open c = never_closes c.args.rest.now _ c.loop-length.invariant.none (omega arith)
