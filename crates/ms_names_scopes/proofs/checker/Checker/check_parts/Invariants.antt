use Rattle.std.proofs.Common.{take}
use Rattle.ms_parse_grammar.specs.View.{parts_of}
use Rattle.ms_names_scopes.proofs.Repeats.{PartsSeen}
use Rattle.ms_names_scopes.proofs.checker.Checker.check_parts.Given as goal

abbrev pub invariant-loop-part : goal.invariant-loop-part
invariant-loop-part l = PartsSeen l.initial.self (parts_of (take l.part-index l.parts)) l.self l.seen
