use Rattle.std.proofs.Common.{◌≡◌, ◌++◌, ℕ, nat_eq, List, Option, None, ap, subst, ◌∙◌}
use Rattle.std.proofs.lemmas.Result.{on_ok_weaker}
use Rattle.std.specs.Map.{lookup}
use Rattle.ms_arena.specs.declared.node.Ref.{Ref}
use Rattle.ms_diagram.specs.inner.Notes.{NotesOnly}
use Rattle.ms_diagram.specs.inner.Places.{place_entries}
use Rattle.ms_diagram.proofs.PlaceLemmas.{lookup-in_front, lookup-behind, NotesOnly-in_front, NotesOnly-behind}
use Rattle.ms_diagram.proofs.places.PlaceTableNotesU32.tell.Goals as goal

-- another first place that leaves the entries of the slots leaves all
same_entries : (first before : ℕ) (list slots : List (Option Ref)) (behind all : List (ℕ × Ref)) → list ≡ slots → place_entries first list ≡ place_entries before list
    → place_entries before slots ++ behind ≡ all → place_entries first slots ++ behind ≡ all
same_entries first before list slots behind all is same was =
    ap (λ entries. entries ++ behind) (subst (λ (items : List (Option Ref)). place_entries first items ≡ place_entries before items) is same) ∙ was

pub returns-then-takes_slot-clause-noted : goal.returns-then-takes_slot-clause-noted
returns-then-takes_slot-clause-noted c =
    let new = place_entries c.first_place-self-inside.result c.put.new.slots.items in
    on_ok_weaker c.put.result (lookup-in_front (nat_eq c.args.key) c.self.inside.others.entries new c.args.made) c.put.ensures.noted

pub returns-then-takes_slot-clause-only : goal.returns-then-takes_slot-clause-only
returns-then-takes_slot-clause-only c =
    let first = c.first_place-self-inside.result in
    let slots = c.self.inside.slots.items in
    let new = place_entries first c.put.new.slots.items in
    let behind = c.self.inside.others.entries in
    let was = same_entries first c.self.inside.first c.deref.result.now slots behind c.args.self.now c.deref.ensures.value c.first_place-self-inside.ensures c.self.view_is in
    subst (λ (old : List (ℕ × Ref)). NotesOnly nat_eq old (new ++ behind) c.args.key c.args.made) was
    (NotesOnly-in_front nat_eq c.args.key c.args.made (place_entries first slots) new behind c.put.ensures.only)

pub returns-else-takes_slot-clause-noted : goal.returns-else-takes_slot-clause-noted
returns-else-takes_slot-clause-noted c =
    let first = c.first_place-self-inside.result in
    let slots = c.self.inside.slots.items in
    let test = nat_eq c.args.key in
    let none : lookup test (place_entries first slots) ≡ None =
    subst (λ (list : List (Option Ref)). lookup test (place_entries first list) ≡ None) c.deref-2.ensures.value (c.takes_slot.ensures.without c.if-takes_slot.false) in
    on_ok_weaker c.tell.result (λ found. lookup-behind test c.tell.new.self.entries (place_entries first slots) none ∙ found) c.tell.ensures.noted

pub returns-else-takes_slot-clause-only : goal.returns-else-takes_slot-clause-only
returns-else-takes_slot-clause-only c =
    let first = c.first_place-self-inside.result in
    let slots = c.self.inside.slots.items in
    let front = place_entries first slots in
    let new = c.tell.new.self.entries in
    let behind = c.self.inside.others.entries in
    let was = same_entries first c.self.inside.first c.deref.result.now slots behind c.args.self.now c.deref.ensures.value c.first_place-self-inside.ensures c.self.view_is in
    subst (λ (old : List (ℕ × Ref)). NotesOnly nat_eq old (front ++ new) c.args.key c.args.made) was
    (NotesOnly-behind nat_eq c.args.key c.args.made front behind new c.tell.ensures.only)
