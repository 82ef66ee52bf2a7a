use Rattle.std.proofs.Common.{◌≡◌, ℕ, length, subst, arith}
use Rattle.std.proofs.lemmas.Option.{slice_get-get_or}
use Rattle.ms_best.proofs.Users.{Noted, noted_vertex, lists_users}
use Rattle.ms_best.proofs.graph.users.Goals as goal

pub loop-place-preserved : goal.loop-place-preserved
loop-place-preserved c =
    rw c.in_ok-note_vertex.ensures
    (noted_vertex c.args.graph.now c.loop-place.place _ c.loop-place.users.items c.requires c.loop-place.invariant
    (slice_get-get_or c.args.graph.now c.loop-place.place _ c.loop-place-test.true))

pub returns : goal.returns
returns c =
    let all : c.loop-place.place ≡ length c.args.graph.now = omega (arith, c.loop-place-test.false, c.loop-place.auto.place-end) in
    lists_users c.args.graph.now c.loop-place.users.items
    (subst (λ (n : ℕ). Noted c.args.graph.now n c.loop-place.users.items) all c.loop-place.invariant)
