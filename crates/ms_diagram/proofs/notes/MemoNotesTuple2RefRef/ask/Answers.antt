use Rattle.std.proofs.Common.{◌∙◌, sym}
use Rattle.ms_cache.proofs.MemoLemmas.{Contains-asked}
use Rattle.ms_diagram.proofs.NotesLemmas.{key_of, lookup-pair_entries, KeepsOnly-pair_entries}
use Rattle.ms_diagram.proofs.notes.MemoNotesTuple2RefRef.ask.Goals as goal

pub returns-clause-answer : goal.returns-clause-answer
returns-clause-answer c = c.ask.ensures.answer ∙ sym (lookup-pair_entries c.args.key.now c.args.self.now.entries)

pub returns-clause-kept : goal.returns-clause-kept
returns-clause-kept c =
    let old = c.args.self.now.entries in
    let new = c.ask.new.self.entries in
    KeepsOnly-pair_entries old new (Contains-asked (key_of c.args.key.now) old new c.ask.ensures.entries)
