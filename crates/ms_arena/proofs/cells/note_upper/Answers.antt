use Rattle.std.proofs.Common.{◌≡◌, List, [], ◌∷◌, length, ◌∙◌, length-append, arith, rules}
use Rattle.ms_arena.specs.declared.cells.Packed.{Packed}
use Rattle.ms_arena.specs.inner.Packing.{no_upper}
use Rattle.ms_arena.proofs.PackingLemmas.{HasNoted-push, cells_of-none}
use Rattle.ms_arena.proofs.cells.note_upper.Goals as goal

pub returns-clause-noted : goal.returns-clause-noted
returns-clause-noted c =
    let filled = c.loop-uppers.uppers.items in
    let held : length filled ≡ c.len.result = search rules in
    let enough = c.loop-uppers-test.false in
    let below = c.loop-uppers.invariant.0 in
    rw (c.push_reserved-2.ensures.items)
    (HasNoted-push c.args.uppers.now.items filled c.args.place c.args.upper c.loop-uppers.invariant.2 (omega (arith, held, enough, below)))

pub loop-uppers-preserved : goal.loop-uppers-preserved
loop-uppers-preserved c =
    let filled = c.loop-uppers.uppers.items in
    let held : length filled ≡ c.len.result = search rules in
    let less = c.loop-uppers-test.true in (
      rw (c.push_reserved.ensures.items) (omega (arith, length-append filled (no_upper ∷ []), held, less)),
      c.push_reserved.ensures.capacity ∙ c.loop-uppers.invariant.1,
      λ (all : List Packed). rw (c.push_reserved.ensures.items) (cells_of-none all filled ∙ c.loop-uppers.invariant.2 all),
    )
