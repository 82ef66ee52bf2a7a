use Rattle.std.proofs.Common.{◌≡◌, ℕ, ◌+◌, ◌<◌, List, length, get_or, slice_get, Some, sym, ap, subst, ◌∙◌}
use Rattle.std.proofs.lemmas.Option.{slice_get-get_or, slice_get_within}
use Rattle.ms_arena.specs.declared.node.Node.{Node}
use Rattle.ms_arena.specs.declared.node.Ref.TheVariants.{Leaf}
use Rattle.ms_dfa.specs.Files.{content_of_file}
use Rattle.ms_dfafile.specs.declared.tested.Tests.{Tests}
use Rattle.ms_dfafile.specs.inner.Rules.{FindsNodeTests, IsPlacedNode, KnowsTests}
use Rattle.ms_dfafile.proofs.RulesLemmas.{HasTested, HasTested-more}
use Rattle.ms_dfafile.proofs.rules.all_tests.Goals as goal

-- the node of this turn
abbrev node_at : List Node → ℕ → Node
node_at items place = get_or items place (record { var = 0; low = Leaf 0; high = Leaf 0 })

held_at : (items nodes : List Node) (place : ℕ) → items ≡ nodes → place < length items → slice_get nodes place ≡ Some (node_at items place)
held_at items nodes place same within = ap (λ (list : List Node). slice_get list place) (sym same) ∙ slice_get-get_or items place (record { var = 0; low = Leaf 0; high = Leaf 0 }) within

pub node_tests-requires-clause-tests : goal.node_tests-requires-clause-tests
node_tests-requires-clause-tests c = subst (KnowsTests (content_of_file c.args.plain.now)) (sym c.slice.ensures) c.loop-node.invariant.tests

pub node_tests-requires-clause-next : goal.node_tests-requires-clause-next
node_tests-requires-clause-next c =
    ap (slice_get c.args.plain.now.nodes) (ap length c.slice.ensures ∙ c.loop-node.invariant.long)
    ∙ held_at c.slice-node-items.result.now c.args.plain.now.nodes c.loop-node.node-index c.slice-node-items.ensures c.loop-node-test.true

pub returns-in-None : goal.returns-in-None
returns-in-None c =
    λ placed.
    let nodes = c.args.plain.now.nodes in
    let place = c.loop-node.node-index in
    let node = node_at c.slice-node-items.result.now place in
    let here = held_at c.slice-node-items.result.now nodes place c.slice-node-items.ensures c.loop-node-test.true in
    let long = ap length c.slice.ensures ∙ c.loop-node.invariant.long in
    c.in-None.ensures (subst (λ k. IsPlacedNode (content_of_file c.args.plain.now) k node) (sym long) (placed place node (slice_get_within nodes place node here) here))

pub loop-node-preserved : goal.loop-node-preserved
loop-node-preserved c =
    let place = c.loop-node.node-index in
    let node = node_at c.slice-node-items.result.now place in
    let here = held_at c.slice-node-items.result.now c.args.plain.now.nodes place c.slice-node-items.ensures c.loop-node-test.true in
    let content = content_of_file c.args.plain.now in
    let found = subst (λ k. FindsNodeTests content k node (Some c.in-Some.tests)) (ap length c.slice.ensures) c.in-Some.ensures in
    subst (λ (known : List Tests). HasTested content known (place + 1)) (sym c.in_ok-push-in-Some.ensures.ok)
    (HasTested-more content c.loop-node.known place node c.in-Some.tests c.loop-node.invariant here found)
