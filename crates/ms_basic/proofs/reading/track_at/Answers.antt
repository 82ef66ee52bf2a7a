use Rattle.std.proofs.Common.{◌∙◌, arith, get_or, sym}
use Rattle.ms_logic.specs.declared.mode.Order.TheVariants.{Zero}
use Rattle.ms_dfa.specs.Automaton.{variables_of}
use Rattle.std.proofs.lemmas.List.{length-map}
use Rattle.ms_dfa.specs.Automaton.{variable_of}
use Rattle.ms_basic.proofs.ReadingLemmas.{place_of-most, track_at-in, track_at-past}
use Rattle.ms_basic.proofs.reading.track_at.Goals as goal

pub overflow_cast-result : goal.overflow_cast-result
overflow_cast-result c =
    omega (arith, c.place_of.ensures, place_of-most (get_or c.args.operands.now c.args.operand (record { variable = 0; order = Zero })).variable (variables_of c.args.tracks.now), length-map c.args.tracks.now variable_of, c.requires)

pub returns-then-operand-operands : goal.returns-then-operand-operands
returns-then-operand-operands c =
    c.place_of.ensures ∙ sym (track_at-in c.args.operands.now (variables_of c.args.tracks.now) c.args.operand _ c.if-operand-operands.true)

pub returns-else-operand-operands : goal.returns-else-operand-operands
returns-else-operand-operands c = sym (track_at-past c.args.operands.now (variables_of c.args.tracks.now) c.args.operand c.if-operand-operands.false)
