use Rattle.std.proofs.Common.{map, take}
use Rattle.ms_parse_grammar.specs.View.{declared_of}
use Rattle.ms_parse_print.specs.inner.Printable.{ArePrintable}
use Rattle.ms_parse_print.proofs.source_fit.items_fit.Given as goal

-- the declarations so far can be printed
abbrev pub invariant-loop-item : goal.invariant-loop-item
invariant-loop-item l = ArePrintable (map declared_of (take l.item-index l.items))
