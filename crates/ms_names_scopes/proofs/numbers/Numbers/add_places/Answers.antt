use Rattle.std.proofs.Common.{ap, ◌∙◌, arith}
use Rattle.std.specs.BTreeSet.{contains}
use Rattle.std.specs.Ordering.{nat_cmp}
use Rattle.std.specs.Prelude.{◌||◌}
use Rattle.ms_names_scopes.specs.inner.Numbers.{is_number, number_at}
use Rattle.ms_names_scopes.proofs.Places.{Walked-below, Walked-smaller, Walked-next, Walked-last}
use Rattle.ms_names_scopes.proofs.numbers.Numbers.add_places.Goals as goal

pub index-requires : goal.index-requires
index-requires c =
    let below = Walked-below _ _ _ _ _ c.in-Some.place c.loop-next.invariant c.in-Some.is in
    omega (arith, below)

pub loop-next-smaller : goal.loop-next-smaller
loop-next-smaller c = Walked-smaller _ _ _ _ _ _ c.in-Some.place c.index.result.now c.self.invariant c.loop-next.invariant c.in-Some.is c.index.ensures

pub loop-next-preserved : goal.loop-next-preserved
loop-next-preserved c =
    Walked-next _ _ _ _ _ _ _ c.in-Some.place c.index.result.now c.self.invariant c.loop-next.invariant c.in-Some.is c.index.ensures c.in_ok-insert.ensures

pub returns : goal.returns
returns c = λ i.
    Walked-last _ _ _ _ _ c.loop-next.invariant c.in_default.is i
    ∙ ap (λ n. contains nat_cmp c.args.places.now i || is_number c.args.x (number_at n i)) c.self.view_is
