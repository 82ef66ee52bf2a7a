use Rattle.std.proofs.Common.{◌≡◌, ◌∙◌, All, Err, sym, subst, refl}
use Rattle.std.proofs.lemmas.Result.{err_from_is_err_and}
use Rattle.ms_arena.specs.Halves.{IsLeaf}
use Rattle.ms_cache.proofs.MemoLemmas.{EachEntry-passed}
use Rattle.ms_diagram.specs.inner.Adding.{AddsOnly-same, AddsOnly-implies}
use Rattle.ms_diagram.specs.Collect.{HasLeafSet, IsSetOf, IsCollected, IsSetLeaf, IsSetMissing, leaf_values}
use Rattle.ms_diagram.specs.inner.Equal.{roots_eq, same_roots}
use Rattle.ms_diagram.specs.Growth.{OnNodes}
use Rattle.ms_diagram.specs.Numbering.{AddsOnly}
use Rattle.ms_diagram.proofs.CollectLemmas.{HasLeafSet-leaves, set_alone, set_lacks}
use Rattle.ms_diagram.proofs.CollectSteps.{item_both, item_split, item_within}
use Rattle.ms_diagram.proofs.collect.CollectingWalk.visit.Goals as goal

pub returns-in_err-made-clause-added : goal.returns-in_err-made-clause-added
returns-in_err-made-clause-added g c =
    let view = c.args.self.now.view.now in
    let roots = c.args.item in
    AddsOnly-implies (IsSetOf (leaf_values roots)) (HasLeafSet view roots) c.args.self.now.sets.now c.set_leaf.new.sets
    (HasLeafSet-leaves view c.set_leaf.new.sets roots
    (subst (λ l. All IsLeaf l) (c.as_slice-list.ensures.value ∙ c.item.view_is) (c.are_leaves.ensures.0 c.if-are_leaves.true)))
    (subst (λ l. AddsOnly (IsSetOf (leaf_values l)) c.args.self.now.sets.now c.set_leaf.new.sets) (c.as_slice-list.ensures.value ∙ c.item.view_is) c.set_leaf.ensures.added)

pub returns-in_err-made-clause-nodes : goal.returns-in_err-made-clause-nodes
returns-in_err-made-clause-nodes g c =
    let p = err_from_is_err_and c.from_residual.result c.from_residual.ensures.1 in
    rw (p.1, p.2) (set_lacks c.args.self.now.view.now c.set_leaf.new.sets c.args.item
    (subst (λ l. All IsLeaf l) (c.as_slice-list.ensures.value ∙ c.item.view_is) (c.are_leaves.ensures.0 c.if-are_leaves.true)) c.args.store.now.limit c.in_err-made.field-0.0
    (subst (λ l. OnNodes (Err c.in_err-made.field-0.0) (λ limit. (limit ≡ c.args.store.now.limit) × IsSetMissing c.set_leaf.new.sets (leaf_values l)))
    (c.as_slice-list.ensures.value ∙ c.item.view_is) c.in_err-made.ensures.nodes))

pub returns-then-are_leaves-clause-added : goal.returns-then-are_leaves-clause-added
returns-then-are_leaves-clause-added g c =
    let view = c.args.self.now.view.now in
    let roots = c.args.item in
    AddsOnly-implies (IsSetOf (leaf_values roots)) (HasLeafSet view roots) c.args.self.now.sets.now c.set_leaf.new.sets
    (HasLeafSet-leaves view c.set_leaf.new.sets roots
    (subst (λ l. All IsLeaf l) (c.as_slice-list.ensures.value ∙ c.item.view_is) (c.are_leaves.ensures.0 c.if-are_leaves.true)))
    (subst (λ l. AddsOnly (IsSetOf (leaf_values l)) c.args.self.now.sets.now c.set_leaf.new.sets) (c.as_slice-list.ensures.value ∙ c.item.view_is) c.set_leaf.ensures.added)

pub returns-then-are_leaves-clause-visited : goal.returns-then-are_leaves-clause-visited
returns-then-are_leaves-clause-visited g c =
    let alone = set_alone c.args.self.now.view.now c.set_leaf.new.sets c.args.item
    (subst (λ l. All IsLeaf l) (c.as_slice-list.ensures.value ∙ c.item.view_is) (c.are_leaves.ensures.0 c.if-are_leaves.true)) c.args.store.now.nodes c.in_ok-made.made
    (subst (λ l. IsSetLeaf c.set_leaf.new.sets (leaf_values l) c.in_ok-made.made) (c.as_slice-list.ensures.value ∙ c.item.view_is) c.in_ok-made.ensures.made) in
    record { valid = alone.0; meets = alone.1 }

pub returns-in-Some-clause-added : goal.returns-in-Some-clause-added
returns-in-Some-clause-added g c = AddsOnly-same (HasLeafSet c.args.self.now.view.now c.args.item) c.args.self.now.sets.now

pub returns-in-Some-clause-visited : goal.returns-in-Some-clause-visited
returns-in-Some-clause-visited g c =
    let view = c.args.self.now.view.now in
    let sets = c.args.self.now.sets.now in
    let nodes = c.args.store.now.nodes in
    let right = EachEntry-passed (λ key. IsCollected view sets nodes key) (roots_eq c.args.item)
    (λ made. IsCollected view sets nodes c.args.item made)
    (λ key made passes right. subst (λ l. IsCollected view sets nodes l made)
    (sym (same_roots c.args.item key passes)) right)
    (g.T.Notes.entries c.args.notes.now) c.in-Some.made (sym c.in-Some.ensures.answer) c.requires.table in
    record { valid = right.valid; meets = right.meets }

pub returns-in_default-both_halves-clause-added : goal.returns-in_default-both_halves-clause-added
returns-in_default-both_halves-clause-added g c = AddsOnly-same (HasLeafSet c.args.self.now.view.now c.args.item) c.args.self.now.sets.now

pub returns-then-var-view-clause-added : goal.returns-then-var-view-clause-added
returns-then-var-view-clause-added g c = AddsOnly-same (HasLeafSet c.args.self.now.view.now c.args.item) c.args.self.now.sets.now

pub returns-then-var-view-clause-visited : goal.returns-then-var-view-clause-visited
returns-then-var-view-clause-visited g c =
    item_both (λ s. s.view.now) (λ s. s.sets.now) (λ s. s.sets.ghost_name) (λ list. list) c.args.self.now c.args.store.now.nodes c.args.item c.requires.fits
    _ c.view.view_is c.len.ensures.store.ordered _ (c.as_slice-list.ensures.value ∙ c.item.view_is) c.first_variable-var.result c.first_variable-var.ensures c.if-var-view.true c.in-Ok.both c.in-Ok.ensures

pub returns-in_default-half_sets-clause-added : goal.returns-in_default-half_sets-clause-added
returns-in_default-half_sets-clause-added g c = AddsOnly-same (HasLeafSet c.args.self.now.view.now c.args.item) c.args.self.now.sets.now

pub bounds-view-inside-var : goal.bounds-view-inside-var
bounds-view-inside-var g c =
    item_within (λ s. s.view.now) (λ s. s.sets.now) (λ s. s.sets.ghost_name) (λ list. list) c.args.self.now c.args.store.now.nodes c.args.item c.requires.fits
    _ c.view.view_is c.len.ensures.store.ordered _ (c.as_slice-list.ensures.value ∙ c.item.view_is) c.first_variable-var.result c.first_variable-var.ensures
    c.first_variable-var.type_inv

pub returns-clause-added : goal.returns-clause-added
returns-clause-added g c = AddsOnly-same (HasLeafSet c.args.self.now.view.now c.args.item) c.args.self.now.sets.now

pub returns-clause-visited : goal.returns-clause-visited
returns-clause-visited g c = (
  refl,
  item_split (λ s. s.view.now) (λ s. s.sets.now) (λ s. s.sets.ghost_name) (λ list. list) c.args.self.now c.args.store.now.nodes c.args.item c.requires.fits
      _ c.view.view_is c.len.ensures.store.ordered _ (c.as_slice-list.ensures.value ∙ c.item.view_is) c.first_variable-var.result c.first_variable-var.ensures
      c.first_variable-var.type_inv c.if-var-view.false
      c.in-Ok-half_sets.low c.in-Ok-half_sets.high c.in-Ok-half_sets.ensures.low c.in-Ok-half_sets.ensures.high,
)
