use Rattle.std.proofs.Common.{map}
use Rattle.ms_parse_grammar.specs.View.{declared_of}
use Rattle.ms_parse_print.proofs.Header.{cleared}
use Rattle.ms_parse_print.proofs.clear.is_clear.Goals as goal

pub returns-in-None : goal.returns-in-None
returns-in-None c = cleared c.args.header c.begins_like_header.result (map declared_of c.args.items.now) c.in-None.is c.requires c.begins_like_header.ensures.0 c.begins_like_header.ensures.1
