-- The frames that the code keeps, as frames of the automaton.
use Rattle.ms_parse_steps.specs.declared.frame.Frame.{Frame}
use Rattle.ms_parse_steps.specs.declared.frame.Frame.TheVariants as frames
use Rattle.ms_parse_grammar.specs.View.{expression_of, expressions_of, variables_of, parts_of}
use Rattle.ms_parse_steps.specs.inner.Machine as machine
use Rattle.ms_parse_steps.specs.inner.Machine.{prefix_frame, left_frame, joined_frame, bracket_frame, list_frame, domain_frame, body_frame, part_frame, let_frame}

abbrev pub frame_of : Frame → machine.Frame
frame_of (frames.Prefix at op) = prefix_frame at op
frame_of (frames.Left op left) = left_frame op (expression_of left.expr)
frame_of (frames.Joined chain) = joined_frame chain.at chain.op (expressions_of chain.operands.list)
frame_of (frames.Bracket at b) = bracket_frame at b
frame_of (frames.Listed entries) = list_frame entries.at entries.listing (expressions_of entries.operands.list)
frame_of (frames.Domain d) = domain_frame d.binder.at d.binder.quant d.binder.order (variables_of d.binder.bounds.list) d.variable.at d.variable.name
frame_of (frames.Body b) = body_frame b.at b.quant b.order (variables_of b.bounds.list)
frame_of (frames.Part l v) = part_frame l.at l.order (parts_of l.parts.list) v.at v.name
frame_of (frames.Let l) = let_frame l.at l.order (parts_of l.parts.list)
