use Rattle.std.proofs.Common.{◌≡◌, sym, subst, refl}
use Rattle.std.proofs.lemmas.Result.{err_from_is_err_and}
use Rattle.ms_arena.specs.contracts.node.RefPartialEq.TheImpl as of_ref
use Rattle.ms_arena.proofs.Equality.{same_ref}
use Rattle.ms_diagram.specs.Across.{HasLeavesAcross, IsPairedAcross}
use Rattle.ms_diagram.specs.inner.Adding.{AddsOnly-same, AddsOnly-implies}
use Rattle.ms_diagram.specs.inner.Equal.{pair_eq, same_pair}
use Rattle.ms_diagram.proofs.TableLemmas.{EachEntry-found}
use Rattle.ms_diagram.proofs.AcrossLemmas.{has_alone, number_alone, lacks_alone, crossing_split}
use Rattle.ms_diagram.proofs.across.CrossingWalk.visit.Goals as goal

pub returns-in_err-made-clause-added : goal.returns-in_err-made-clause-added
returns-in_err-made-clause-added g c =
    let sides = c.args.self.now.sides.now in
    AddsOnly-implies (λ other. other ≡ (c.in-Some.left, c.in-Some.right)) (HasLeavesAcross sides c.args.item) c.args.self.now.pairs.now c.pair_leaf.new.pairs
    (λ other same. subst (HasLeavesAcross sides c.args.item) (sym same) (has_alone sides c.args.item c.in-Some.left c.in-Some.right c.in-Some.ensures.0 c.in-Some.ensures.1))
    c.pair_leaf.ensures.added

pub returns-in_err-made-clause-nodes : goal.returns-in_err-made-clause-nodes
returns-in_err-made-clause-nodes g c =
    let p = err_from_is_err_and c.from_residual.result c.from_residual.ensures.1 in
    rw (p.1, p.2) (lacks_alone c.args.self.now.sides.now c.args.item c.in-Some.left c.in-Some.right c.in-Some.ensures.0 c.in-Some.ensures.1 c.pair_leaf.new.pairs c.args.store.now.limit
    c.in_err-made.field-0.0 c.in_err-made.ensures.nodes)

pub returns-in-Some-ask-clause-added : goal.returns-in-Some-ask-clause-added
returns-in-Some-ask-clause-added g c = AddsOnly-same (HasLeavesAcross c.args.self.now.sides.now c.args.item) c.args.self.now.pairs.now

pub returns-in-Some-ask-clause-visited : goal.returns-in-Some-ask-clause-visited
returns-in-Some-ask-clause-visited g c =
    let paired = EachEntry-found (IsPairedAcross c.args.self.now.sides.now c.args.self.now.pairs.now c.args.store.now.nodes) (pair_eq of_ref.eq-value.it of_ref.eq-value.it) c.args.item
    (same_pair of_ref.eq-value.it of_ref.eq-value.it same_ref same_ref) (g.T.Notes.entries c.args.notes.now) c.in-Some-ask.made
    (sym c.in-Some-ask.ensures.answer) c.requires.table in
    record { valid = paired.valid; meets = paired.meets }

pub returns-in-Some-clause-added : goal.returns-in-Some-clause-added
returns-in-Some-clause-added g c =
    let sides = c.args.self.now.sides.now in
    AddsOnly-implies (λ other. other ≡ (c.in-Some.left, c.in-Some.right)) (HasLeavesAcross sides c.args.item) c.args.self.now.pairs.now c.pair_leaf.new.pairs
    (λ other same. subst (HasLeavesAcross sides c.args.item) (sym same) (has_alone sides c.args.item c.in-Some.left c.in-Some.right c.in-Some.ensures.0 c.in-Some.ensures.1))
    c.pair_leaf.ensures.added

pub returns-in-Some-clause-visited : goal.returns-in-Some-clause-visited
returns-in-Some-clause-visited g c =
    let is = number_alone c.args.self.now.sides.now c.args.item c.in-Some.left c.in-Some.right c.in-Some.ensures.0 c.in-Some.ensures.1 c.args.store.now.nodes c.pair_leaf.new.pairs
    c.in_ok-made.made c.in_ok-made.ensures.made in
    record { valid = is.0; meets = is.1 }

pub returns-clause-added : goal.returns-clause-added
returns-clause-added g c = AddsOnly-same (HasLeavesAcross c.args.self.now.sides.now c.args.item) c.args.self.now.pairs.now

pub returns-clause-visited : goal.returns-clause-visited
returns-clause-visited g c = (
  refl,
  crossing_split (λ s. s.sides.now) (λ s. s.pairs.now) (λ s. s.pairs.ghost_name) c.args.self.now c.args.store.now.nodes c.args.item c.requires.fits c.branch-var.result.var c.branch-var.result.low c.branch-var.result.high c.branch-var.ensures,
)
