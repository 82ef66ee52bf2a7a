use Rattle.std.proofs.Common.{◌-◌, ℕ, nat_eq, List, set, None, Some, subst, ◌∙◌, arith}
use Rattle.std.proofs.lemmas.List.{get_or-set_same}
use Rattle.ms_arena.specs.declared.node.Ref.{Ref}
use Rattle.ms_diagram.specs.inner.Notes.{NotesOnly}
use Rattle.ms_diagram.specs.inner.Places.{place_entries}
use Rattle.ms_diagram.proofs.PlaceLemmas.{lookup-slot, NotesOnly-set}
use Rattle.ms_diagram.proofs.places.put.Goals as goal

pub returns-clause-noted : goal.returns-clause-noted
returns-clause-noted c =
    let slots = c.reach.new.slots.items in
    let at = c.args.place - c.args.first in
    lookup-slot c.args.first (set slots at (Some c.args.made)) c.args.place at (omega (arith, c.requires))
    ∙ get_or-set_same slots at (Some c.args.made) None c.in_ok-reach.ensures.long

pub returns-clause-only : goal.returns-clause-only
returns-clause-only c =
    let slots = c.reach.new.slots.items in
    let at = c.args.place - c.args.first in
    subst (λ (old : List (ℕ × Ref)). NotesOnly nat_eq old (place_entries c.args.first (set slots at (Some c.args.made))) c.args.place c.args.made)
    (c.reach.ensures.entries c.args.first) (NotesOnly-set c.args.first slots c.args.place at c.args.made (omega (arith, c.requires)))
