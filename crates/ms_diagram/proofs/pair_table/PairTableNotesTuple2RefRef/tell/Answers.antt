use Rattle.std.proofs.Common.{◌≡◌, ◌++◌, Some, subst, ap, ◌∙◌}
use Rattle.std.proofs.lemmas.Result.{on_ok_weaker}
use Rattle.std.specs.Map.{lookup}
use Rattle.ms_arena.specs.inner.Code.{code_of}
use Rattle.ms_arena.proofs.CodeLemmas.{ref_of-code_of}
use Rattle.ms_diagram.specs.inner.Notes.{NotesOnly}
use Rattle.ms_diagram.specs.inner.Short.{short_entries}
use Rattle.ms_diagram.proofs.PairLemmas.{numbers_eq}
use Rattle.ms_diagram.proofs.PlaceLemmas.{lookup-in_front, lookup-behind, NotesOnly-in_front, NotesOnly-behind}
use Rattle.ms_diagram.proofs.ShortLemmas.{refs_eq, ref_of_found, lookup-short, NotesOnly-short, AreShort-noted}
use Rattle.ms_diagram.proofs.pair_table.PairTableNotesTuple2RefRef.tell.Goals as goal

pub invariant_of-self : goal.invariant_of-self
invariant_of-self c =
    let entry = c.in-Some.ensures in
    AreShort-noted c.self.inside.short c.tell.new.self c.in-Some.codes c.in-Some.code entry.2 entry.3 c.tell.ensures.only c.self.invariant

pub returns-in-Some-clause-noted : goal.returns-in-Some-clause-noted
returns-in-Some-clause-noted c =
    let key = c.args.key in
    let new = c.tell.new.self in
    let entry = c.in-Some.ensures in
    on_ok_weaker c.tell.result
    (λ found. lookup-behind (refs_eq key) (short_entries new) c.self.inside.long.entries (ap (lookup (refs_eq key)) entry.4)
    ∙ lookup-short key new
    ∙ ap ref_of_found (subst (λ codes. lookup (numbers_eq codes) new ≡ Some c.in-Some.code) entry.0 found ∙ ap (λ code. Some code) entry.1)
    ∙ ap (λ made. Some made) (ref_of-code_of c.args.made))
    c.tell.ensures.noted

pub returns-in-Some-clause-only : goal.returns-in-Some-clause-only
returns-in-Some-clause-only c =
    let old = c.self.inside.short in
    let new = c.tell.new.self in
    let front = c.self.inside.long.entries in
    let entry = c.in-Some.ensures in
    subst (λ was. NotesOnly refs_eq was (front ++ short_entries new) c.args.key c.args.made) c.self.view_is
    (NotesOnly-behind refs_eq c.args.key c.args.made front (short_entries old) (short_entries new)
    (NotesOnly-short old new c.args.key c.args.made (subst (λ code. NotesOnly numbers_eq old new (code_of c.args.key.0, code_of c.args.key.1) code) entry.1
    (subst (λ codes. NotesOnly numbers_eq old new codes c.in-Some.code) entry.0 c.tell.ensures.only))))

pub returns-in-None-clause-noted : goal.returns-in-None-clause-noted
returns-in-None-clause-noted c =
    on_ok_weaker c.tell-in-None.result
    (λ found. lookup-in_front (refs_eq c.args.key) (short_entries c.self.inside.short) c.tell-in-None.new.self.entries c.args.made found)
    c.tell-in-None.ensures.noted

pub returns-in-None-clause-only : goal.returns-in-None-clause-only
returns-in-None-clause-only c =
    let behind = short_entries c.self.inside.short in
    let new = c.tell-in-None.new.self.entries in
    subst (λ was. NotesOnly refs_eq was (new ++ behind) c.args.key c.args.made) c.self.view_is
    (NotesOnly-in_front refs_eq c.args.key c.args.made c.self.inside.long.entries new behind c.tell-in-None.ensures.only)
