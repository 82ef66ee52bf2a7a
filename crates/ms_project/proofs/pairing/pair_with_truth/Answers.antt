use Rattle.std.proofs.Common.{List, sym, subst}
use Rattle.ms_arena.specs.declared.node.Node.{Node}
use Rattle.ms_arena.specs.declared.node.Ref.{Ref}
use Rattle.ms_diagram.specs.Numbering.{AreOwnPairs}
use Rattle.ms_product.specs.Pairing.{IsPairedIn}
use Rattle.ms_product.specs.declared.op.Op.TheVariants.{And}
use Rattle.ms_project.specs.Paired.{operands_for}
use Rattle.ms_project.proofs.TruthLemmas.{alone_in}
use Rattle.ms_project.proofs.pairing.pair_with_truth.Goals as goal

pub returns-clause-paired : goal.returns-clause-paired
returns-clause-paired c =
    let body = c.args.body.now in
    let domain = c.args.domain.now in
    let pairs = c.in_ok-pairs.pairs in
    let states = c.in_ok-same_states.field-0 in
    let own = subst (λ count. AreOwnPairs count pairs) c.states-2.ensures.states c.in_ok-pairs.ensures in
    subst (λ (nodes : List Node). IsPairedIn nodes And (operands_for body domain) pairs c.start_ref.result states) (sym c.store.ensures)
    (subst (λ (start : Ref). IsPairedIn body.nodes And (operands_for body domain) pairs start states) (sym c.start_ref.ensures.start)
    (alone_in body domain c.states-2.ensures.automaton c.states.ensures.automaton.closed c.requires.truth pairs c.len.ensures.numbering own states c.in_ok-same_states.ensures))
