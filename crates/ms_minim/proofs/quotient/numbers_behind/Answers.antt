use Rattle.std.proofs.Common.{refl, List, length, sym, subst}
use Rattle.ms_arena.specs.declared.node.Ref.{Ref}
use Rattle.ms_arena.specs.Diagram.{IsBefore}
use Rattle.ms_minim.proofs.ImageLemmas.{IsImage-read, Meets-read, root_before}
use Rattle.ms_minim.proofs.QuotientLemmas.{AddsOnly-classes, Meets-numbered, Meets-own}
use Rattle.ms_minim.proofs.quotient.numbers_behind.Goals as goal

pub image-behind-requires : goal.image-behind-requires
image-behind-requires c =
    let tables = c.args.tables.now in
    root_before c.args.source.now.automaton.now c.args.source.now.partition.classes tables.origins tables.images c.requires.images c.args.root c.requires.root c.requires.seen

pub returns-then-tables-clause-numbers : goal.returns-then-tables-clause-numbers
returns-then-tables-clause-numbers c =
    let a = c.args.source.now.automaton.now in
    let classes = c.args.source.now.partition.classes in
    let tables = c.args.tables.now in
    let leads = Meets-read a classes tables.origins tables.images c.requires.images c.args.root c.requires.root c.requires.seen c.requires.classes tables.images.list c.slice-classes.result.now
    c.image-behind.result refl c.slice-classes.ensures c.image-behind.ensures in
    Meets-own a c.args.root classes tables.images.store.nodes c.image-behind.result leads c.args.pairs.now (c.requires.settled c.if-tables.true)

pub apply_with-applied-requires-clause-valid_f : goal.apply_with-applied-requires-clause-valid_f
apply_with-applied-requires-clause-valid_f c =
    let a = c.args.source.now.automaton.now in
    let tables = c.args.tables.now in
    (IsImage-read a c.args.source.now.partition.classes tables.origins tables.images c.requires.images c.args.root c.requires.root c.requires.seen tables.images.list c.slice-classes.result.now
    c.image-behind.result refl c.slice-classes.ensures c.image-behind.ensures).valid

pub returns-in-Ok-clause-added : goal.returns-in-Ok-clause-added
returns-in-Ok-clause-added c =
    let a = c.args.source.now.automaton.now in
    let classes = c.args.source.now.partition.classes in
    let tables = c.args.tables.now in
    let leads = Meets-read a classes tables.origins tables.images c.requires.images c.args.root c.requires.root c.requires.seen c.requires.classes tables.images.list c.slice-classes.result.now
    c.image-behind.result refl c.slice-classes.ensures c.image-behind.ensures in
    AddsOnly-classes a c.args.root classes tables.images.store.nodes c.image-behind.result c.leaf-zero.result c.leaf-zero.ensures leads c.args.pairs.now c.apply_with-applied.new.pairs c.apply_with-applied.ensures.added

pub returns-in-Err-clause-added : goal.returns-in-Err-clause-added
returns-in-Err-clause-added c =
    let a = c.args.source.now.automaton.now in
    let classes = c.args.source.now.partition.classes in
    let tables = c.args.tables.now in
    let leads = Meets-read a classes tables.origins tables.images c.requires.images c.args.root c.requires.root c.requires.seen c.requires.classes tables.images.list c.slice-classes.result.now
    c.image-behind.result refl c.slice-classes.ensures c.image-behind.ensures in
    AddsOnly-classes a c.args.root classes tables.images.store.nodes c.image-behind.result c.leaf-zero.result c.leaf-zero.ensures leads c.args.pairs.now c.apply_with-applied.new.pairs c.apply_with-applied.ensures.added

pub returns-in-Ok-clause-numbers : goal.returns-in-Ok-clause-numbers
returns-in-Ok-clause-numbers c =
    let a = c.args.source.now.automaton.now in
    let classes = c.args.source.now.partition.classes in
    let tables = c.args.tables.now in
    let leads = Meets-read a classes tables.origins tables.images c.requires.images c.args.root c.requires.root c.requires.seen c.requires.classes tables.images.list c.slice-classes.result.now
    c.image-behind.result refl c.slice-classes.ensures c.image-behind.ensures in
    Meets-numbered a c.args.root classes tables.images.store.nodes c.image-behind.result c.leaf-zero.result c.leaf-zero.ensures leads c.apply_with-applied.new.pairs c.apply_with-applied.new.self.nodes
    c.in-Ok.numbers c.in-Ok.ensures.builds.function
