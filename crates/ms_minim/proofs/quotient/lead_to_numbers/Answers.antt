use Rattle.std.proofs.Common.{length, sym, subst}
use Rattle.ms_diagram.proofs.Building.{Builds-memory}
use Rattle.ms_diagram.specs.Table.{AreBrought}
use Rattle.ms_minim.specs.declared.quotient.QuotientTables.{QuotientTables}
use Rattle.ms_minim.specs.inner.Lead.{AreNumbered}
use Rattle.ms_minim.specs.inner.Partition.{IsIdentity}
use Rattle.ms_minim.specs.inner.Quotient.{NumberBehind}
use Rattle.ms_minim.proofs.LeadLemmas.{AreNumbered-grown, OnOk-always}
use Rattle.ms_minim.proofs.QuotientLemmas.{Renames-numbers, Builds-numbers}
use Rattle.ms_minim.proofs.quotient.lead_to_numbers.Goals as goal

pub returns-in_default-clause-builds : goal.returns-in_default-clause-builds
returns-in_default-clause-builds c =
    Builds-memory c.args.store.now (NumberBehind c.args.source.now.automaton.now c.args.source.now.partition.classes c.numbers_behind.new.pairs c.args.root) ⊥ c.len.ensures.store

pub bring_with-requires-clause-renames : goal.bring_with-requires-clause-renames
bring_with-requires-clause-renames c =
    let a = c.args.source.now.automaton.now in
    let places = c.args.source.now.places in
    let classes = c.args.source.now.partition.classes in
    let pairs = c.numbers_behind.new.pairs in
    let tables = c.numbers_behind.new.tables in
    let identity = subst (IsIdentity (length a.variables)) (sym c.slice.ensures) c.requires.places in
    Renames-numbers a c.states.ensures.automaton.ordered c.args.root c.requires.root c.slice.result.now identity classes pairs c.len-2.ensures.numbering
    tables.images.store.nodes c.len-3.ensures.store.ordered c.len-3.ensures.store.reduced c.in-Ok.numbers c.in-Ok.ensures.numbers

pub bring_with-requires-clause-table : goal.bring_with-requires-clause-table
bring_with-requires-clause-table c =
    let a = c.args.source.now.automaton.now in
    let places = c.args.source.now.places in
    let classes = c.args.source.now.partition.classes in
    let pairs = c.numbers_behind.new.pairs in
    let tables = c.numbers_behind.new.tables in
    let grown = AreNumbered-grown a places classes c.args.pairs.now pairs c.args.store.now.nodes c.args.tables.now tables c.in-Ok.ensures.kept c.in-Ok.ensures.pairs c.in-Ok.ensures.numbered c.requires.tables in
    subst (λ list. AreBrought tables.images.store.nodes list c.args.store.now.nodes tables.brought) (sym c.slice.ensures) grown.brought

pub returns-clause-builds : goal.returns-clause-builds
returns-clause-builds c =
    let a = c.args.source.now.automaton.now in
    let places = c.args.source.now.places in
    let classes = c.args.source.now.partition.classes in
    let pairs = c.numbers_behind.new.pairs in
    let tables = c.numbers_behind.new.tables in
    let identity = subst (IsIdentity (length a.variables)) (sym c.slice.ensures) c.requires.places in
    Builds-numbers a c.states.ensures.automaton.ordered c.args.root c.requires.root c.slice.result.now identity classes pairs c.len-2.ensures.numbering
    tables.images.store.nodes c.len-3.ensures.store.ordered c.len-3.ensures.store.reduced c.in-Ok.numbers c.in-Ok.ensures.numbers
    c.args.store.now c.bring_with.new.self c.bring_with.result c.bring_with.ensures.builds

pub returns-clause-tables : goal.returns-clause-tables
returns-clause-tables c =
    let a = c.args.source.now.automaton.now in
    let places = c.args.source.now.places in
    let classes = c.args.source.now.partition.classes in
    let pairs = c.numbers_behind.new.pairs in
    let tables = c.numbers_behind.new.tables in
    let nodes = c.bring_with.new.self.nodes in
    let grown = AreNumbered-grown a places classes c.args.pairs.now pairs c.args.store.now.nodes c.args.tables.now tables c.in-Ok.ensures.kept c.in-Ok.ensures.pairs c.in-Ok.ensures.numbered c.requires.tables in
    let late : QuotientTables = record tables { brought = c.bring_with.new.table } in
    OnOk-always c.bring_with.result (AreNumbered a places classes pairs nodes late)
    (record {
      origins = grown.origins;
      images = grown.images;
      numbered = grown.numbered;
      brought = subst (λ list. AreBrought tables.images.store.nodes list nodes c.bring_with.new.table) c.slice.ensures c.bring_with.ensures.table;
      settled = grown.settled;
    })
