-- Nodes stay unique when a new one is appended.
use Rattle.std.proofs.Common.{◌≡◌, ℕ, ◌+◌, ◌-◌, ◌<◌, ◌≤◌, List, [], ◌∷◌, ◌++◌, length, Some, sym, ap, subst, ◌∙◌, ⊎_elim, length-append, arith}
use Rattle.std.proofs.lemmas.List.{length-map, map-append}
use Rattle.ms_arena.specs.declared.node.Node.{Node}
use Rattle.ms_arena.specs.Target.{IsNew}
use Rattle.ms_arena.proofs.Lists.{slice_get-pushed}
use Rattle.ms_arena.specs.declared.cells.Cell.{Cell}
use Rattle.ms_arena.specs.Arena.{IsUnique}
use Rattle.ms_arena.specs.inner.Table.{IsTable}
use Rattle.ms_arena.specs.inner.Chain.{nodes_of, AreLinked}

IsUnique-push : (nodes : List Node) (node : Node) → length nodes < 4294967295 → IsNew nodes node → IsUnique nodes → IsUnique (nodes ++ node ∷ [])
IsUnique-push nodes node room new unique = record {
  distinct = λ one two other first second. ⊎_elim
      (λ there. ⊎_elim
      (λ here. unique.distinct one two other there here)
      (λ last. absurd (new one (there ∙ ap Some (sym last.1))))
      (slice_get-pushed nodes node two other second))
      (λ last. ⊎_elim
      (λ here. absurd (new two (here ∙ ap Some (sym last.1))))
      (λ also. last.0 ∙ sym also.0)
      (slice_get-pushed nodes node two other second))
      (slice_get-pushed nodes node one other first);
  small = omega (arith, length-append nodes (node ∷ []));
}

-- so the table stays one when a cell is put behind its cells and linked
pub IsTable-push : (cells new : List Cell) (heads new_heads : List ℕ) (cell : Cell) (spare room new_room : ℕ) → IsTable cells heads spare room → IsNew (nodes_of cells) cell.node → 1 ≤ spare
    → new_room + 1 ≡ room → nodes_of new ≡ nodes_of (cells ++ cell ∷ []) → length new_heads ≡ length heads → AreLinked new new_heads (length cells + 1) → IsTable new new_heads (spare - 1) new_room
IsTable-push cells new heads new_heads cell spare room new_room table absent some_room less same same_heads linked =
    let node = λ (c : Cell). c.node in
    let grown = same ∙ map-append node cells (cell ∷ []) in
    let small = table.small in
    let reserved = table.reserved in
    let headed : 0 < length new_heads = let some = table.headed (omega arith) in omega (arith, some, same_heads) in
    let held = length-map cells node in
    let longer : length new ≡ length cells + 1 = omega (arith, length-map new node, ap length same, length-map (cells ++ cell ∷ []) node, length-append cells (cell ∷ [])) in
    record {
      unique = subst IsUnique (sym grown) (IsUnique-push (nodes_of cells) cell.node (omega arith) absent table.unique);
      linked = λ any. subst (AreLinked new new_heads) (sym longer) linked;
      reserved = omega (arith, reserved, less);
      small = omega arith;
      headed = λ more. omega arith;
    }
