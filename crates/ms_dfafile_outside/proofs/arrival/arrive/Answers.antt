use Rattle.std.proofs.Common.{sym, subst, ◌∙◌}
use Rattle.std.proofs.lemmas.Bool.{false≢true}
use Rattle.std.proofs.lemmas.Result.{IfOk-weaker}
use Rattle.ms_dfa.specs.Files.{content_of_file}
use Rattle.ms_dfafile_outside.specs.inner.Labels.{IsNoted}
use Rattle.ms_dfafile_outside.proofs.ComeLemmas.{come-gap}
use Rattle.ms_dfafile_outside.proofs.FileLemmas.{rising-file}
use Rattle.ms_dfafile_outside.proofs.LabelsLemmas.{found-noted}
use Rattle.ms_dfafile_outside.proofs.arrival.arrive.Goals as goal

pub returns-then-not-has_no_gap : goal.returns-then-not-has_no_gap
returns-then-not-has_no_gap c marks =
    let content = content_of_file c.args.plain.now in
    let none = c.has_no_gap.ensures.1 (come-gap content c.requires.content (rising-file c.args.plain.now) marks c.args.arrival.reference c.args.arrival.label c.args.arrival.level c.requires.named c.requires.come) in
    false≢true (sym c.if-not-has_no_gap.true ∙ none)

pub returns : goal.returns
returns c =
    let content = content_of_file c.args.plain.now in
    let arrival = c.args.arrival in
    let known = c.args.labels.now.known.items in
    let work = c.args.labels.now.work in
    let more = c.note.new.self.known.items in
    let longer = c.note.new.self.work in
    let no_gap = c.if-not-has_no_gap.false in
    IfOk-weaker c.note.result _ _
    (λ agrees noted. found-noted content known work c.requires.labels arrival.reference arrival.label c.requires.named more longer arrival.level agrees c.requires.content (rising-file c.args.plain.now)
    c.requires.come (c.has_no_gap.ensures.0 no_gap)
    (subst (λ at. IsNoted known more work longer at arrival.reference arrival.label agrees) c.index_of.ensures noted))
    c.note.ensures
