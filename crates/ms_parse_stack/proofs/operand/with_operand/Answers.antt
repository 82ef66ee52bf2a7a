use Rattle.std.proofs.Common.{[], ◌∷◌, map, ap, ◌∙◌, arith}
use Rattle.std.proofs.lemmas.List.{map-append}
use Rattle.ms_parse_stack.specs.inner.Frames.{depth_of_each}
use Rattle.ms_parse_stack.proofs.Depths.{depth-more}
use Rattle.ms_parse_stack.proofs.operand.with_operand.Goals as goal

pub invariant_of-result-clause-measured : goal.invariant_of-result-clause-measured
invariant_of-result-clause-measured g c =
    let depth = g.G.Grammar.depth in
    let tree_of = g.G.Grammar.tree_of in
    let more = ap (map tree_of) c.in_ok-push.ensures.ok ∙ map-append tree_of c.args.operands.list (c.args.operand.formula ∷ []) in
    omega (arith, ap (depth_of_each depth) more, depth-more depth (map tree_of c.args.operands.list) (tree_of c.args.operand.formula))
