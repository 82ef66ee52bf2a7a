use Rattle.std.proofs.Common.{◌∷◌, [], ◌++◌, map, take, sym, ap, subst, ◌∙◌, arith, append_assoc}
use Rattle.ms_lower.specs.inner.Extents.{known_extents}
use Rattle.ms_lower.specs.TooDeep.{IsFound, part_of_formula, part_of_global}
use Rattle.ms_lower.proofs.Parts.{map-more}
use Rattle.ms_lower.proofs.source_extents.count_source.Goals as goal

pub loop-global-preserved : goal.loop-global-preserved
loop-global-preserved c =
    let x = known_extents c.args.known.now in
    let i = c.loop-global.global-index in
    let g = c.global-item.result in
    subst (λ parts. IsFound parts c.with_part-found.result) (sym (map-more (part_of_global x) c.args.globals.now i g (omega arith) c.global-item.is))
    (c.with_part-found.ensures (map (part_of_global x) (take i c.args.globals.now)) (part_of_global x g).extents c.loop-global.invariant c.count_domain.ensures)

pub loop-placed-preserved : goal.loop-placed-preserved
loop-placed-preserved c =
    let x = known_extents c.args.known.now in
    let i = c.loop-placed.placed-index in
    let f = c.placed-item.result in
    let globals = map (part_of_global x) c.args.globals.now in
    let before = map (part_of_formula x) (take i c.args.formulas.now) in
    subst (λ parts. IsFound parts c.with_part-found-in-loop-placed.result)
    (append_assoc globals before (part_of_formula x f ∷ []) ∙ ap (λ l. globals ++ l) (sym (map-more (part_of_formula x) c.args.formulas.now i f (omega arith) c.placed-item.is)))
    (c.with_part-found-in-loop-placed.ensures (globals ++ before) (part_of_formula x f).extents c.loop-placed.invariant c.count_formula.ensures)
