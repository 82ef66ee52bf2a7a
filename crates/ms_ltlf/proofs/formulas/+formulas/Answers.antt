use Rattle.std.proofs.Common.{rules, map, subst, arith}
use Rattle.ms_logic.specs.Tree.{Form}
use Rattle.ms_ltlf.specs.declared.trace.Ltl.{the_lemmas}
use Rattle.ms_ltlf.specs.View.{temporal_of}
use Rattle.ms_translation.specs.Made.{Gives}
use Rattle.ms_ltlf.specs.Strings.{string_form}
use Rattle.ms_ltlf.proofs.Operands.{all-translated, some-translated, depth-operand}
use Rattle.ms_ltlf.proofs.formulas.+formulas.Goals as goal

pub formula_at-returns-in-And : goal.formula_at-returns-in-And
formula_at-returns-in-And t c =
    let operands = c.slice.result.now in
    let P : Form → Type 0 = λ f. Gives c.conjunction.result f in
    let whole = all-translated operands c.args.formula.now c.args.x cc in
    subst P whole (c.conjunction.ensures (map (λ operand. string_form (temporal_of operand) c.args.x) operands) c.formulas_at.ensures)

pub formula_at-returns-in-Or : goal.formula_at-returns-in-Or
formula_at-returns-in-Or t c =
    let operands = c.slice-in-Or.result.now in
    let P : Form → Type 0 = λ f. Gives c.disjunction.result f in
    let whole = some-translated operands c.args.formula.now c.args.x cc in
    subst P whole (c.disjunction.ensures (map (λ operand. string_form (temporal_of operand) c.args.x) operands) c.formulas_at-in-Or.ensures)

pub formulas_at-formula_at-requires : goal.formulas_at-formula_at-requires
formulas_at-formula_at-requires t c =
    (search (rules, the_lemmas), omega (arith, depth-operand c.args.operands.now c.loop-operand.operand-index c.operand-item.result c.loop-operand-test.true c.operand-item.is))
