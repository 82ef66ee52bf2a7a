use Rattle.std.proofs.Common.{◌≡◌, nat_eq, List, Option, sym, ap, subst, ◌∙◌}
use Rattle.std.specs.Map.{lookup}
use Rattle.ms_arena.specs.declared.node.Ref.{Ref}
use Rattle.ms_diagram.specs.inner.Places.{place_entries}
use Rattle.ms_diagram.proofs.PlaceLemmas.{lookup-in_front, lookup-behind}
use Rattle.ms_diagram.proofs.places.PlaceTableNotesU32.ask.Goals as goal
use Rattle.ms_diagram.proofs.places.PlaceTableNotesU32.ask.Goals.{in-Some, in-None}

pub returns-clause-answer : goal.returns-clause-answer
returns-clause-answer c =
    let test = nat_eq c.args.key.now in
    let front = place_entries c.self.inside.first c.self.inside.slots.items in
    let behind = c.self.inside.others.entries in
    let slot : lookup test front ≡ c.slot.result =
    subst (λ (list : List (Option Ref)). lookup test (place_entries c.self.inside.first list) ≡ c.slot.result) c.deref.ensures.value (sym c.slot.ensures) in
    elim c.match-slot.branch [
      | in-Some w ↦ w.result-is ∙ sym (lookup-in_front test behind front w.in-Some.made (slot ∙ w.in-Some.is)) ∙ ap (lookup test) c.self.view_is
      | in-None w ↦ w.result-is ∙ w.copied.ensures ∙ w.get.ensures.value ∙ sym (lookup-behind test behind front (slot ∙ w.in-None.is)) ∙ ap (lookup test) c.self.view_is
    ]
