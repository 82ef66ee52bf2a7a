use Rattle.std.proofs.Common.{subst}
use Rattle.std.proofs.lemmas.Result.{MatchResult-weaker}
use Rattle.ms_arena.specs.declared.node.Node.{Node}
use Rattle.ms_arena.specs.declared.node.Ref.TheVariants.{Inner}
use Rattle.ms_arena.proofs.Appending.{Extends-same, Extends-from_appends, IsValid-held, leaf_of-made}
use Rattle.ms_diagram.specs.Store.{IsStore}
use Rattle.ms_diagram.proofs.Building.{KeepsFunctions-extends}
use Rattle.ms_diagram.proofs.store.Store.mk.Goals as goal

pub returns-in-Some-clause-valid : goal.returns-in-Some-clause-valid
returns-in-Some-clause-valid c =
    let node : Node = record { var = c.args.var; low = c.args.low; high = c.args.high } in
    IsValid-held c.args.self.now.nodes node (Inner c.in-Some.place)
    c.in-Some.ensures

pub returns-in-Some-clause-function : goal.returns-in-Some-clause-function
returns-in-Some-clause-function c =
    let node : Node = record { var = c.args.var; low = c.args.low; high = c.args.high } in
    let nodes = c.args.self.now.nodes in
    let store = subst (λ store. IsStore store.nodes store.limit) c.self.view_is c.self.invariant in
    λ bits. leaf_of-made nodes nodes (Extends-same nodes) store.ordered store.ordered node (Inner c.in-Some.place) bits c.requires.valid_low c.requires.valid_high c.in-Some.ensures

pub returns-in-None-clause-valid : goal.returns-in-None-clause-valid
returns-in-None-clause-valid c =
    MatchResult-weaker c.append.result c.append.ensures.held (IsValid-held c.append.new.self.nodes (record { var = c.args.var; low = c.args.low; high = c.args.high })) (λ _ _. tt)

pub returns-in-None-clause-function : goal.returns-in-None-clause-function
returns-in-None-clause-function c =
    let node : Node = record { var = c.args.var; low = c.args.low; high = c.args.high } in
    let nodes = c.args.self.now.nodes in
    let store = subst (λ store. IsStore store.nodes store.limit) c.self.view_is c.self.invariant in
    MatchResult-weaker c.append.result c.append.ensures.held (λ made held bits.
    leaf_of-made nodes c.append.new.self.nodes (Extends-from_appends nodes c.append.new.self.nodes node c.append.ensures.appends)
    store.ordered c.append.ensures.store.ordered node made bits c.requires.valid_low c.requires.valid_high held)
    (λ _ _. tt)

pub returns-in-None-clause-kept : goal.returns-in-None-clause-kept
returns-in-None-clause-kept c =
    let node : Node = record { var = c.args.var; low = c.args.low; high = c.args.high } in
    let nodes = c.args.self.now.nodes in
    let store = subst (λ store. IsStore store.nodes store.limit) c.self.view_is c.self.invariant in
    KeepsFunctions-extends nodes c.append.new.self.nodes c.args.self.now.limit store
    (Extends-from_appends nodes c.append.new.self.nodes node c.append.ensures.appends)
