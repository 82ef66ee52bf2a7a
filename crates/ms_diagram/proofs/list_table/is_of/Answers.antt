use Rattle.std.proofs.Common.{slice_range, sym, ap, ◌∙◌}
use Rattle.std.proofs.lemmas.Bool.{ne_eqb}
use Rattle.ms_diagram.specs.Hash.{hash_of}
use Rattle.ms_diagram.proofs.ListedLemmas.{differs_by_hash}
use Rattle.ms_diagram.proofs.list_table.is_of.Goals as goal

pub returns-else-listed-key : goal.returns-else-listed-key
returns-else-listed-key c =
    let differs = ne_eqb c.args.listed.hash c.key.inside.hash c.if-listed-key.false in
    differs
    ∙ sym (differs_by_hash c.args.key.now (slice_range c.args.roots.now c.args.listed.begin c.args.listed.end) c.args.listed.hash c.key.inside.hash
    c.requires.hashed (c.key.invariant ∙ ap hash_of c.key.view_is) differs)
