use Rattle.std.proofs.Common.{◌≡◌, ◌+◌, ◌≤◌, ◌∷◌, [], ◌++◌, length, drop, sym, ap, subst, ◌∙◌, rules}
use Rattle.std.proofs.lemmas.List.{take_at}
use Rattle.ms_arena.specs.Target.{IsNew}
use Rattle.ms_arena.specs.declared.cells.Cell.{Cell}
use Rattle.ms_arena.specs.inner.Chain.{nodes_of, AreLinked}
use Rattle.ms_arena.proofs.CellLemmas.{AreLinked-append}
use Rattle.ms_arena.proofs.UniqueLemmas.{IsTable-push}
use Rattle.ms_arena.proofs.arena.Arena.push.Goals as goal

pub link-requires-clause-linked : goal.link-requires-clause-linked
link-requires-clause-linked c =
    let cells = c.self.inside.cells.cells in
    let place : length cells ≡ c.len-place.result = search rules in
    rw (c.push.ensures.cells, c.deref_mut.ensures.value)
    (subst (AreLinked (cells ++ record { node = c.args.node; next = 0 } ∷ []) c.self.inside.heads.items) place
    (AreLinked-append cells c.self.inside.heads.items (record { node = c.args.node; next = 0 })
    (c.self.invariant.linked (c.self.invariant.headed (subst (λ contents. 1 ≤ contents.spare) (sym c.self.view_is) c.requires.room)))))

pub invariant_of-self : goal.invariant_of-self
invariant_of-self c =
    let cells = c.self.inside.cells.cells in
    let heads = c.self.inside.heads.items in
    let cell : Cell = record { node = c.args.node; next = 0 } in
    let place : length cells ≡ c.len-place.result = search rules in
    let new_heads = take_at c.link.new.heads (drop (length c.link.new.heads) heads) c.self.inside.heads.len (search rules) in
    let same_heads : length c.link.new.heads ≡ length heads = search rules in
    rw (new_heads)
    (IsTable-push cells c.link.new.cells.cells heads c.link.new.heads cell c.self.inside.spare c.self.inside.cells.spare c.link.new.cells.spare c.self.invariant
    (subst (λ contents. IsNew contents.nodes c.args.node) (sym c.self.view_is) c.requires.new)
    (subst (λ contents. 1 ≤ contents.spare) (sym c.self.view_is) c.requires.room)
    (ap (λ spare. spare + 1) c.link.ensures.spare ∙ c.push.ensures.spare)
    (c.link.ensures.nodes ∙ ap nodes_of c.push.ensures.cells) same_heads
    (subst (λ count. AreLinked c.link.new.cells.cells c.link.new.heads (count + 1)) (sym place) c.link.ensures.linked))
