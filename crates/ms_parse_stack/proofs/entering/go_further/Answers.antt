use Rattle.std.proofs.Common.{◌≤◌, List, [], ◌∷◌, ◌++◌, map, suc, max, sym, ap, ◌∙◌, subst, arith}
use Rattle.std.proofs.lemmas.List.{map-append}
use Rattle.ms_parse_stack.specs.inner.Frames.{behind_joining, depth_of_each}
use Rattle.ms_parse_stack.specs.inner.Machine.{within}
use Rattle.ms_parse_stack.specs.inner.States.{ComesTo, stack_of}
use Rattle.ms_parse_stack.proofs.entering.go_further.Goals as goal

pub returns : goal.returns
returns g c =
    let m = g.G.Grammar.machine in
    let depth = g.G.Grammar.depth in
    let tree_of = g.G.Grammar.tree_of in
    let op = c.args.op in
    let fs = map tree_of c.args.operands.list ++ tree_of c.args.operand.formula ∷ [] in
    let same = ap (map tree_of) c.in_ok-operands.ensures ∙ map-append tree_of c.args.operands.list (c.args.operand.formula ∷ []) in
    let small : depth (m.operators.joined op fs) ≤ suc (max (depth_of_each depth fs) 1) = omega (arith, g.met.G.Grammar.deep.operators_deep.joined_deep op fs) in
    subst (λ (x : List g.G.Grammar.Tree). ComesTo g.G.Grammar (within (behind_joining op x ∷ stack_of g.G.Grammar c.args.begun.now.frames) m.wanted) c.enter.new.begun c.enter.result) same
    (c.enter.ensures (m.operators.joined op fs) c.requires.measured (subst (λ (x : List g.G.Grammar.Tree). depth (m.operators.joined op fs) ≤ suc (max (depth_of_each depth x) 1)) (sym same) small))
