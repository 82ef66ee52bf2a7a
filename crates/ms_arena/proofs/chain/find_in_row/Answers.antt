use Rattle.std.proofs.Common.{◌≡◌, [], ◌∙◌, Some, slice_get, sym, ap, subst, ⊎_elim, arith}
use Rattle.std.proofs.lemmas.Bool.{cases_eq}
use Rattle.std.proofs.lemmas.List.{length-map}
use Rattle.std.proofs.lemmas.Option.{same_Some, slice_get_within}
use Rattle.ms_arena.specs.declared.cells.Cell.{Cell}
use Rattle.ms_arena.specs.inner.Chain.{nodes_of}
use Rattle.ms_arena.proofs.CellLemmas.{node_at}
use Rattle.ms_arena.proofs.Equality.{differing, same_node}
use Rattle.ms_arena.proofs.chain.find_in_row.Goals as goal

pub returns-then-eq : goal.returns-then-eq
returns-then-eq c = node_at c.args.cells.now.cells [] c.loop-place.place c.get.result c.get.ensures ∙ ap Some (same_node _ _ (sym c.if-eq.ensures))

pub loop-place-init : goal.loop-place-init
loop-place-init c earlier below there = omega (arith, below)

pub loop-place-preserved : goal.loop-place-preserved
loop-place-preserved c earlier below there = ⊎_elim
    (λ here. differing _ c.args.node c.if-eq.ensures
    (same_Some _ c.args.node (sym (node_at c.args.cells.now.cells [] c.loop-place.place c.get.result c.get.ensures) ∙ subst (λ place. slice_get (nodes_of c.args.cells.now.cells) place ≡ Some c.args.node) here there)))
    (λ before. c.loop-place.invariant earlier (omega (arith, below, before)) there)
    (cases_eq earlier c.loop-place.place)

pub returns : goal.returns
returns c place there =
    let within = slice_get_within (nodes_of c.args.cells.now.cells) place c.args.node there in
    let ended = c.loop-place-test.false in
    c.loop-place.invariant place (omega (arith, within, ended, length-map c.args.cells.now.cells (λ (cell : Cell). cell.node))) there
