use Rattle.ms_parse.proofs.OneTree.{one_document}
use Rattle.ms_parse.proofs.laws.one_document.Goals as goal

pub returns : goal.returns
returns c all one two reads reads' = one_document all one two reads reads'
