use Rattle.std.proofs.Common.{slice_get, Some, ap, ◌∙◌}
use Rattle.std.proofs.lemmas.Option.{get_or_from_slice_get}
use Rattle.ms_arena.specs.Diagram.{leaf_of}
use Rattle.ms_diagram.proofs.TableGrowth.{AreRelabelled-grow}
use Rattle.ms_minim.specs.inner.Grouping.{through}
use Rattle.ms_minim.proofs.LeadLemmas.{AreLed-grow}
use Rattle.ms_minim.proofs.MarkLemmas.{leads_by}
use Rattle.ms_minim.proofs.SignatureLemmas.{through_at}
use Rattle.ms_minim.proofs.signatures.signature.Goals as goal

pub relabel_with-requires-clause-table : goal.relabel_with-requires-clause-table
relabel_with-requires-clause-table c =
    AreRelabelled-grow c.args.scratch.now.nodes c.lead.new.scratch.nodes c.len.ensures.store.ordered c.in_ok-behind.ensures.extends c.args.choice.now.splitters.now c.args.tables.now.chosen
    c.requires.tables.chosen

pub returns-in-Ok-clause-leads : goal.returns-in-Ok-clause-leads
returns-in-Ok-clause-leads c bits =
    let content = c.args.plan.now.automaton.now in
    let classes = c.args.choice.now.classes.now in
    let splitters = c.args.choice.now.splitters.now in
    let root = c.next_ref-root.result in
    let class = leaf_of c.lead.new.scratch.nodes c.in_ok-behind.behind bits in
    ap (slice_get (through splitters classes)) (leads_by content classes c.args.state root c.requires.state c.next_ref-root.ensures.next bits)
    ∙ through_at splitters classes (leaf_of content.nodes root bits) class (c.in_ok-behind.ensures.leads bits)
    ∙ ap Some (get_or_from_slice_get splitters class (leaf_of c.relabel_with.new.self.nodes c.in-Ok.made bits) 0 (c.in-Ok.ensures.builds.function bits))

pub returns-in-Ok-clause-tables : goal.returns-in-Ok-clause-tables
returns-in-Ok-clause-tables c = record {
  lead = AreLed-grow c.lead.new.scratch.nodes c.relabel_with.new.self.nodes c.in_ok-behind.ensures.store.ordered c.in-Ok.ensures.builds.grows.extends c.args.plan.now.automaton.now c.args.plan.now.places.now
      c.args.choice.now.classes.now c.lead.new.tables c.in_ok-behind.ensures.tables;
  chosen = c.in-Ok.ensures.table;
}
