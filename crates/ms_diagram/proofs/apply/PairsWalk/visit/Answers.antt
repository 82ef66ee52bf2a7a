use Rattle.std.proofs.Common.{◌≡◌, ℕ, Ok, sym, subst, refl}
use Rattle.std.proofs.lemmas.Result.{err_from_is_err_and}
use Rattle.ms_arena.specs.contracts.node.RefPartialEq.TheImpl as of_ref
use Rattle.ms_arena.proofs.Equality.{same_ref}
use Rattle.ms_diagram.specs.inner.Adding.{AddsOnly-same, AddsOnly-implies}
use Rattle.ms_diagram.specs.Apply.{HasLeaves, IsPaired}
use Rattle.ms_diagram.specs.inner.Equal.{pair_eq, same_pair}
use Rattle.ms_diagram.proofs.TableLemmas.{EachEntry-found}
use Rattle.ms_diagram.proofs.ApplyLemmas.{HasLeaves-leaf, Builds-leaf, leaves_lack, applying_split}
use Rattle.ms_diagram.proofs.apply.PairsWalk.visit.Goals as goal

pub returns-in_err-made-in-Leaves-clause-added : goal.returns-in_err-made-in-Leaves-clause-added
returns-in_err-made-in-Leaves-clause-added g c =
    let nodes = c.args.store.now.nodes in
    let pair : ℕ × ℕ = (c.in-Leaves.left, c.in-Leaves.right) in
    let f = c.args.item.0 in
    let g = c.args.item.1 in
    AddsOnly-implies (λ other. other ≡ pair) (HasLeaves nodes f g) c.args.self.now c.pair_leaf.new.pairs
    (λ other same. subst (HasLeaves nodes f g) (sym same) (HasLeaves-leaf nodes c.in-Leaves.left c.in-Leaves.right f g c.in-Leaves.ensures.0 c.in-Leaves.ensures.1))
    c.pair_leaf.ensures.added

pub returns-in_err-made-in-Leaves-clause-nodes : goal.returns-in_err-made-in-Leaves-clause-nodes
returns-in_err-made-in-Leaves-clause-nodes g c =
    let p = err_from_is_err_and c.from_residual.result c.from_residual.ensures.1 in
    rw (p.1, p.2) (leaves_lack c.args.store.now.nodes c.pair_leaf.new.pairs c.in-Leaves.left c.in-Leaves.right c.args.store.now.limit c.args.item.0 c.args.item.1
    c.in_err-made-in-Leaves.field-0.0 c.in-Leaves.ensures.0 c.in-Leaves.ensures.1 c.in_err-made-in-Leaves.ensures.nodes)

pub returns-in-Some-clause-added : goal.returns-in-Some-clause-added
returns-in-Some-clause-added g c = AddsOnly-same (HasLeaves c.args.store.now.nodes c.args.item.0 c.args.item.1) c.args.self.now

pub returns-in-Some-clause-visited : goal.returns-in-Some-clause-visited
returns-in-Some-clause-visited g c =
    let paired = EachEntry-found (IsPaired c.args.store.now.nodes c.args.self.now) (pair_eq of_ref.eq-value.it of_ref.eq-value.it) c.args.item
    (same_pair of_ref.eq-value.it of_ref.eq-value.it same_ref same_ref) (g.T.Notes.entries c.args.notes.now) c.in-Some.made
    (sym c.in-Some.ensures.answer) c.requires.table in
    record { valid = paired.valid; meets = paired.meets }

pub returns-in_ok-made-in-Leaves-clause-added : goal.returns-in_ok-made-in-Leaves-clause-added
returns-in_ok-made-in-Leaves-clause-added g c =
    let nodes = c.args.store.now.nodes in
    let pair : ℕ × ℕ = (c.in-Leaves.left, c.in-Leaves.right) in
    let f = c.args.item.0 in
    let g = c.args.item.1 in
    AddsOnly-implies (λ other. other ≡ pair) (HasLeaves nodes f g) c.args.self.now c.pair_leaf.new.pairs
    (λ other same. subst (HasLeaves nodes f g) (sym same) (HasLeaves-leaf nodes c.in-Leaves.left c.in-Leaves.right f g c.in-Leaves.ensures.0 c.in-Leaves.ensures.1))
    c.pair_leaf.ensures.added

pub returns-in_ok-made-in-Leaves-clause-visited : goal.returns-in_ok-made-in-Leaves-clause-visited
returns-in_ok-made-in-Leaves-clause-visited g c =
    let builds = Builds-leaf c.args.store.now c.pair_leaf.new.pairs c.in-Leaves.left c.in-Leaves.right c.args.item.0 c.args.item.1 (Ok c.in_ok-made-in-Leaves.made) c.requires.store
    c.in-Leaves.ensures.0 c.in-Leaves.ensures.1 c.in_ok-made-in-Leaves.ensures.made tt in
    record { valid = builds.valid; meets = builds.function }

pub returns-in_default-clause-added : goal.returns-in_default-clause-added
returns-in_default-clause-added g c = AddsOnly-same (HasLeaves c.args.store.now.nodes c.args.item.0 c.args.item.1) c.args.self.now

pub returns-in_default-clause-visited : goal.returns-in_default-clause-visited
returns-in_default-clause-visited g c = (
  refl,
  applying_split c.args.self.now c.args.store.now.nodes c.requires.store.ordered c.args.item c.requires.fits c.in-Branch.var c.in-Branch.low c.in-Branch.high c.in-Branch.ensures,
)
