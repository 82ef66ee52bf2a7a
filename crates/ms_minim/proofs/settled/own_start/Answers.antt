use Rattle.std.proofs.Common.{refl, sym, subst}
use Rattle.ms_arena.specs.Target.{Meets}
use Rattle.ms_logic_words.specs.Content.{is_truth_value}
use Rattle.ms_minim.specs.inner.Origin.{IsSeen}
use Rattle.ms_minim.specs.inner.Quotient.{NumberBehind}
use Rattle.ms_minim.proofs.SettledLemmas.{own_image}
use Rattle.ms_minim.proofs.settled.own_start.Goals as goal

pub returns : goal.returns
returns c =
    let a = c.args.source.now.automaton.now in
    let classes = c.args.source.now.partition.classes in
    let tables = c.args.tables.now in
    let root = c.start_ref-root.result in
    let image = own_image a classes c.args.source.now.partition.members c.args.source.now.places c.args.pairs.now c.requires.quotient tables c.requires.tables c.requires.settled root
    (is_truth_value, c.start_ref-root.ensures.followed) (subst (IsSeen tables.origins) (sym c.start_ref-root.ensures.start) c.requires.tables.origins.start) tables.images.list c.slice-classes.result.now
    c.image.result refl c.slice-classes.ensures c.image.ensures in
    record { valid = image.valid; meets = subst (λ r. Meets tables.images.store.nodes (NumberBehind a classes c.args.pairs.now r) c.image.result) c.start_ref-root.ensures.start image.meets }
