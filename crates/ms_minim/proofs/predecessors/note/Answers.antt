use Rattle.std.proofs.Common.{◌≡◌, ◌<◌, slice_index, ⊎_elim, ap, subst, ◌∙◌, arith}
use Rattle.std.proofs.lemmas.Bool.{cases_lt}
use Rattle.std.proofs.lemmas.Option.{slice_get_within, get_or_from_slice_get}
use Rattle.ms_minim.specs.inner.Predecessors.{IsListed}
use Rattle.ms_minim.proofs.predecessors.note.Goals as goal

pub loop-leaf-preserved : goal.loop-leaf-preserved
loop-leaf-preserved c =
    let was = c.loop-leaf.invariant in
    let now = c.in_ok-note_one.ensures in (
      now.count ∙ was.0,
      λ state other listed. now.kept state other (was.1 state other listed),
      λ place leaf less held within. ⊎_elim
          (λ before. now.kept leaf c.args.state (was.2 place leaf before held within))
          (λ past.
          let last : c.loop-leaf.leaf-index ≡ place = omega (arith, less, past) in
          let own : slice_index c.args.leaves.now c.loop-leaf.leaf-index ≡ leaf = ap (slice_index c.args.leaves.now) last ∙ get_or_from_slice_get c.args.leaves.now place leaf 0 held in
          let count = was.0 in
          subst (λ s. IsListed c.note_one.new.lists.items s c.args.state) own (now.noted (omega (arith, own, within, count))))
          (cases_lt place c.loop-leaf.leaf-index),
      λ bound less were. now.below bound less (was.3 bound less were),
    )

pub returns-clause-noted : goal.returns-clause-noted
returns-clause-noted c place leaf held within =
    let less = slice_get_within c.args.leaves.now place leaf held in
    let past = c.loop-leaf-test.false in
    let in_all : place < c.loop-leaf.leaf-index = omega (arith, less, past) in
    c.loop-leaf.invariant.2 place leaf in_all held within
