use Rattle.ms_parse_grammar.proofs.Sizes.{document_fits}
use Rattle.ms_parse_grammar.proofs.laws.no_more_parts_than_symbols.Goals as goal

pub returns : goal.returns
returns c = document_fits
