use Rattle.std.proofs.Common.{◌∙◌}
use Rattle.std.proofs.lemmas.Result.{MatchResult-weaker}
use Rattle.ms_arena.specs.declared.node.Ref.TheVariants.{Leaf}
use Rattle.ms_arena.specs.declared.node.Node.{Node}
use Rattle.ms_arena.proofs.Appending.{Extends-further, Extends-from_appends}
use Rattle.ms_rename.proofs.ImageLemmas.{choose_is, table_covers}
use Rattle.ms_rename.proofs.choose.choose.Goals as goal

pub returns-in-Err-apply_with-2-clause-extends : goal.returns-in-Err-apply_with-2-clause-extends
returns-in-Err-apply_with-2-clause-extends c =
    let node : Node = record { var = c.args.var; low = Leaf 0; high = Leaf 1 } in
    Extends-further c.args.store.now.nodes c.mk-2.new.self.nodes c.apply_with-2.new.self.nodes (Extends-from_appends c.args.store.now.nodes c.mk-2.new.self.nodes node c.mk-2.ensures.appends)
    (Extends-further c.mk-2.new.self.nodes c.apply_with.new.self.nodes c.apply_with-2.new.self.nodes c.apply_with.ensures.builds.grows.extends c.apply_with-2.ensures.builds.grows.extends)

pub returns-in-Err-choices-clause-extends : goal.returns-in-Err-choices-clause-extends
returns-in-Err-choices-clause-extends c =
    let node : Node = record { var = c.args.var; low = Leaf 0; high = Leaf 1 } in
    Extends-further c.args.store.now.nodes c.mk-2.new.self.nodes c.apply_with-2.new.self.nodes (Extends-from_appends c.args.store.now.nodes c.mk-2.new.self.nodes node c.mk-2.ensures.appends)
    (Extends-further c.mk-2.new.self.nodes c.apply_with.new.self.nodes c.apply_with-2.new.self.nodes c.apply_with.ensures.builds.grows.extends c.apply_with-2.ensures.builds.grows.extends)

pub relabel-requires-clause-covers : goal.relabel-requires-clause-covers
relabel-requires-clause-covers c =
    table_covers c.args.store.now.nodes c.mk-2.new.self.nodes c.apply_with.new.self.nodes c.apply_with-2.new.self.nodes c.apply_with-2.new.self.nodes c.args.var c.args.low c.args.high c.in-Ok.test c.in-Ok-apply_with.both
    c.in-Ok-apply_with-2.which c.in-Ok-apply_with-2.which c.apply_with.new.pairs c.apply_with-2.new.pairs c.slice.result.now c.in-Ok-apply_with-2.ensures.builds.function (c.slice.ensures ∙ c.in-Ok-choices.ensures)

pub returns-clause-extends : goal.returns-clause-extends
returns-clause-extends c =
    let node : Node = record { var = c.args.var; low = Leaf 0; high = Leaf 1 } in
    Extends-further c.args.store.now.nodes c.mk-2.new.self.nodes c.relabel.new.self.nodes (Extends-from_appends c.args.store.now.nodes c.mk-2.new.self.nodes node c.mk-2.ensures.appends)
    (Extends-further c.mk-2.new.self.nodes c.apply_with.new.self.nodes c.relabel.new.self.nodes c.apply_with.ensures.builds.grows.extends
    (Extends-further c.apply_with.new.self.nodes c.apply_with-2.new.self.nodes c.relabel.new.self.nodes c.apply_with-2.ensures.builds.grows.extends c.relabel.ensures.grows.extends))

pub returns-clause-function : goal.returns-clause-function
returns-clause-function c =
    MatchResult-weaker c.relabel.result c.relabel.ensures.function
    (λ made meets. choose_is c.args.store.now.nodes c.mk-2.new.self.nodes c.apply_with.new.self.nodes c.apply_with-2.new.self.nodes c.relabel.new.self.nodes c.args.var c.args.low c.args.high c.in-Ok.test
    c.in-Ok-apply_with.both c.in-Ok-apply_with-2.which made c.apply_with.new.pairs c.apply_with-2.new.pairs c.slice.result.now c.in-Ok.ensures.store.ordered c.apply_with.ensures.builds.grows.extends c.in-Ok.ensures.valid
    c.requires.valid_low c.requires.valid_high c.in-Ok.ensures.kept c.in-Ok.ensures.function c.in-Ok-apply_with.ensures.builds.function c.in-Ok-apply_with-2.ensures.builds.function meets
    (c.slice.ensures ∙ c.in-Ok-choices.ensures))
    (λ fault nothing. tt)

pub returns-in-Err-apply_with-clause-extends : goal.returns-in-Err-apply_with-clause-extends
returns-in-Err-apply_with-clause-extends c =
    let node : Node = record { var = c.args.var; low = Leaf 0; high = Leaf 1 } in
    Extends-further c.args.store.now.nodes c.mk-2.new.self.nodes c.apply_with.new.self.nodes (Extends-from_appends c.args.store.now.nodes c.mk-2.new.self.nodes node c.mk-2.ensures.appends)
    c.apply_with.ensures.builds.grows.extends
