use Rattle.std.proofs.Common.{◌<◌, length, sym, ap, ◌∙◌, arith}
use Rattle.std.specs.Prelude.{slice_get}
use Rattle.ms_minim.proofs.GroupingLemmas.{IsListed-within}
use Rattle.ms_minim.proofs.PredecessorsLemmas.{item_is}
use Rattle.ms_minim.proofs.due.note_class.Goals as goal

pub note_members-requires-clause-members : goal.note_members-requires-clause-members
note_members-requires-clause-members c place state held =
    let members = c.args.members.now in
    let within : c.args.class < length members = let less = c.if-class-members.true in omega (arith, less) in
    let item = c.slice-list.ensures ∙ item_is members c.args.class c.index-members-class.result within c.index-members-class.is in
    c.requires.below c.args.class state (place, ap (λ list. slice_get list place) (sym item) ∙ held)

pub returns-else-class-members-clause-noted : goal.returns-else-class-members-clause-noted
returns-else-class-members-clause-noted c state item in_class listed =
    let less = IsListed-within c.args.members.now c.args.class state (c.requires.listed state c.args.class in_class) in
    let past = c.if-class-members.false in
    absurd (omega (arith, less, past))
