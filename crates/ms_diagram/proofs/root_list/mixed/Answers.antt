use Rattle.std.proofs.Common.{◌+◌, ◌*◌, ◌%◌, drop, bit_xor, sym, ap, ◌∙◌, arith}
use Rattle.std.proofs.lemmas.List.{at_drop_more}
use Rattle.std.specs.Int.{rotate_left, w64}
use Rattle.ms_diagram.specs.Hash.{mixed, mixed_with}
use Rattle.ms_diagram.proofs.root_list.mixed.Goals as goal

pub loop-root-preserved : goal.loop-root-preserved
unfolding mixed
loop-root-preserved c =
    let roots = c.args.roots.now in
    let rest = drop (c.loop-root.root-index + 1) roots in
    let below = c.loop-root-test.true in
    let step = at_drop_more (mixed_with c.loop-root.hash) roots c.loop-root.root-index _ (omega (arith, below)) in
    ap (λ turned. mixed_with ((turned * 11400714819323198485) % 18446744073709551616) rest) (c.rotate_left-hash.ensures ∙ ap (λ rank. rotate_left w64 (bit_xor c.loop-root.hash rank) 23) c.rank.ensures.value)
    ∙ sym step ∙ c.loop-root.invariant
