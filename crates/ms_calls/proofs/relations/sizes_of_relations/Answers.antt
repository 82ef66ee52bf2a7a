use Rattle.ms_calls.proofs.RelationLemmas.{relations_have_few_parts}
use Rattle.ms_calls.proofs.relations.sizes_of_relations.Goals as goal

pub returns : goal.returns
returns c = relations_have_few_parts
