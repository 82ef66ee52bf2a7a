use Rattle.std.proofs.Common.{◌≡◌, ℕ, ◌<◌, ◌+◌, ◌-◌, [], List, length, get_or, subst, arith, ◌∙◌}
use Rattle.std.specs.List.{All, range_with_len}
use Rattle.std.proofs.lemmas.List.{get_or_default}
use Rattle.std.proofs.lemmas.List.Elements.{All-head}
use Rattle.ms_best.specs.inner.Search.{IsSearch}
use Rattle.ms_best.proofs.Searching.{all_bounded, begun, due_from, users_within, taken}
use Rattle.ms_best.proofs.distance.distances.Goals as goal

pub loop-place-init : goal.loop-place-init
loop-place-init c =
    let all : length c.args.graph.now - 0 ≡ length c.args.graph.now = omega arith in
    rw (c.in-Ok.ensures.items_if_clones_equal (λ y same. same), c.new-nearer.ensures.items, all) (begun c.args.graph.now c.args.far)

pub look_at-requires-clause-bounded : goal.look_at-requires-clause-bounded
look_at-requires-clause-bounded c = all_bounded c.args.graph.now c.args.far c.loop-place.distances.items c.loop-place.nearer.items _ c.loop-place.invariant

pub loop-place-preserved : goal.loop-place-preserved
loop-place-preserved c =
    c.in_ok-look_at.ensures.search (range_with_len (c.loop-place.place + 1) (length c.args.graph.now - (c.loop-place.place + 1)))
    (subst (λ (due : List ℕ). IsSearch c.args.graph.now c.args.far c.loop-place.distances.items c.loop-place.nearer.items due)
    (due_from c.loop-place.place (length c.args.graph.now) c.loop-place-test.true) c.loop-place.invariant)

-- what was noted is a vertex
found_within : (c : goal.After-nearer-in-Some-1) → c.in-Some.found < length c.in_ok-users.users.items
found_within c =
    rw c.in_ok-users.ensures.count
    (All-head (λ place. place < length c.args.graph.now) c.in-Some.found c.pop_front.new.self.items
    (subst (λ (noted : List ℕ). All (λ place. place < length c.args.graph.now) noted) c.in-Some.ensures.items c.loop-found.invariant.queued))

-- the list that is read is that of the vertex
listed : (c : goal.After-nearer-in-Some-1) → c.index.result.now ≡ get_or c.in_ok-users.users.items c.in-Some.found []
listed c = c.index.ensures ∙ get_or_default c.in_ok-users.users.items c.in-Some.found c.index.result.now [] (found_within c)

pub look-requires-clause-due : goal.look-requires-clause-due
look-requires-clause-due c =
    rw (c.slice.ensures, listed c) (users_within c.args.graph.now c.in_ok-users.users.items c.in-Some.found c.in_ok-users.ensures)

pub look-requires-clause-search : goal.look-requires-clause-search
look-requires-clause-search c =
    rw (c.slice.ensures, listed c)
    (taken c.args.graph.now c.args.far c.loop-found.distances.items c.pop_front.new.self.items c.in-Some.found c.in_ok-users.users.items c.in_ok-users.ensures
    (subst (λ (noted : List ℕ). IsSearch c.args.graph.now c.args.far c.loop-found.distances.items noted []) c.in-Some.ensures.items c.loop-found.invariant))
