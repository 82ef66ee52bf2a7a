use Rattle.std.proofs.Common.{sym, ap, ◌∙◌}
use Rattle.std.specs.Map.{lookup}
use Rattle.ms_diagram.specs.inner.Short.{short_entries}
use Rattle.ms_diagram.proofs.PlaceLemmas.{lookup-in_front, lookup-behind}
use Rattle.ms_diagram.proofs.ShortLemmas.{refs_eq}
use Rattle.ms_diagram.proofs.pair_table.PairTableNotesTuple2RefRef.ask.Goals as goal
use Rattle.ms_diagram.proofs.pair_table.PairTableNotesTuple2RefRef.ask.Goals.{in-Some, in-None}

pub returns-clause-answer : goal.returns-clause-answer
returns-clause-answer c =
    let test = refs_eq c.args.key.now in
    let front = c.self.inside.long.entries in
    let behind = short_entries c.self.inside.short in
    let all = ap (lookup test) c.self.view_is in
    elim c.match-ask_long.branch [
      | in-Some w ↦ w.result-is ∙ sym (lookup-in_front test behind front w.in-Some.made (sym c.ask_long.ensures ∙ w.in-Some.is)) ∙ all
      | in-None w ↦ w.result-is ∙ w.ask_short.ensures ∙ sym (lookup-behind test behind front (sym c.ask_long.ensures ∙ w.in-None.is)) ∙ all
    ]
