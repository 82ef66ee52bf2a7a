-- What stands before an operand of `&` or `|`, as a frame of the automaton.
use Rattle.std.specs.Prelude.{◌≡◌, ◌≢◌}
use Rattle.ms_parse_grammar.specs.declared.operator.Junction.{Junction}
use Rattle.ms_parse_grammar.specs.View.{expressions_of}
use Rattle.ms_parse_steps.specs.declared.join.Link.{Link}
use Rattle.ms_parse_steps.specs.declared.join.Link.TheVariants as links
use Rattle.ms_parse_steps.specs.inner.Machine.{Frame, joined_frame}
use Rattle.ms_parse_steps.specs.inner.Frames.{frame_of}

-- no operands of this operator
abbrev pub IsApart : Junction → Frame → Type 0
IsApart op (joined_frame at found es) = found ≢ op
IsApart op _ = Unit {0}

abbrev pub IsLink : Junction → Link → Frame → Type 0
IsLink op (links.Further chain) f = (f ≡ joined_frame chain.at chain.op (expressions_of chain.operands.list)) × (chain.op ≡ op)
IsLink op (links.Other frame) f = (frame_of frame ≡ f) × IsApart op f
