use Rattle.std.proofs.Common.{◌≡◌, ◌+◌, ◌-◌, ◌<◌, length, sym, ap, subst, Some, ◌∙◌, arith}
use Rattle.std.proofs.lemmas.List.{length-map}
use Rattle.ms_arena.proofs.Equality.{differing, same_node}
use Rattle.ms_arena.specs.declared.cells.Cell.{Cell}
use Rattle.ms_arena.proofs.CellLemmas.{node_at, link_falls, LeadsToNode, LeadsTo-cell}
use Rattle.ms_arena.proofs.chain.find_in_chain.Goals as goal

pub loop-link-smaller : goal.loop-link-smaller
loop-link-smaller c =
    let falls = link_falls c.args.cells.now.cells c.args.heads.now (c.loop-link.link - 1) c.get-cell.result c.requires.linked c.get-cell.ensures in
    let test = c.loop-link-test.true in
    omega (arith, falls, test)

pub loop-link-preserved : goal.loop-link-preserved
loop-link-preserved c =
    let cells = c.args.cells.now.cells in
    let node = c.args.node in
    let place = c.loop-link.link - 1 in
    let within = c.loop-link.invariant.within in
    let inside : place < length cells = omega (arith, length-map cells (λ (cell : Cell). cell.node)) in
    let same : c.loop-link.link ≡ place + 1 = omega arith in
    LeadsTo-cell cells c.args.heads.now node place c.get-cell.result c.requires.linked c.get-cell.ensures (differing _ node c.if-eq.ensures)
    (subst (LeadsToNode cells c.args.heads.now node) same c.loop-link.invariant)

pub returns-then-eq : goal.returns-then-eq
returns-then-eq c =
    node_at c.args.cells.now.cells c.args.heads.now (c.loop-link.link - 1) c.get-cell.result c.get-cell.ensures ∙ ap Some (same_node _ _ (sym c.if-eq.ensures))
