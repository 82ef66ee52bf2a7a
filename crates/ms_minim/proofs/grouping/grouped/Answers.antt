use Rattle.std.proofs.Common.{◌<◌, ◌≡◌, ⊎_elim, length, slice_get, refl, sym, ap, subst, ◌∙◌, arith}
use Rattle.std.proofs.lemmas.Bool.{cases_lt}
use Rattle.std.proofs.lemmas.Option.{same_Some, slice_get_within}
use Rattle.ms_minim.specs.inner.Predecessors.{IsListed}
use Rattle.ms_minim.proofs.GroupingLemmas.{item_at}
use Rattle.ms_minim.proofs.grouping.grouped.Goals as goal

pub loop-state-init : goal.loop-state-init
loop-state-init c = (λ state class less. absurd (omega (arith, less)), c.in_ok-members.ensures.count, c.in_ok-members.ensures.below (length c.args.classes.items))

pub loop-state-preserved : goal.loop-state-preserved
loop-state-preserved c =
    let classes = c.args.classes.items in
    let were = c.loop-state.invariant in
    let now = c.in_ok-note_one.ensures in
    let within : c.loop-state.state < length classes = let less = c.loop-state-test.true in let end = c.len-state-end.ensures in omega (arith, less, end) in
    let own = item_at classes c.loop-state.state c.index-class.result.now c.index-class.result.now within c.index-class.ensures refl in (
      λ state class less held. ⊎_elim
          (λ before. now.kept class state (were.0 state class before held))
          (λ past.
          let last : c.loop-state.state ≡ state = omega (arith, less, past) in
          let same : c.index-class.result.now ≡ class = same_Some c.index-class.result.now class (sym own ∙ ap (slice_get classes) last ∙ held) in
          let below = c.requires.below c.loop-state.state c.index-class.result.now own in
          let count = were.1 in
          subst (λ s. IsListed c.note_one.new.lists.items class s) last
          (subst (λ k. IsListed c.note_one.new.lists.items k c.loop-state.state) same (now.noted (omega (arith, below, count)))))
          (cases_lt state c.loop-state.state),
      now.count ∙ were.1,
      now.below (length classes) within were.2,
    )

pub returns-clause-listed : goal.returns-clause-listed
returns-clause-listed c state class held =
    let less = slice_get_within c.args.classes.items state class held in
    let past = c.loop-state-test.false in
    let end = c.len-state-end.ensures in
    c.loop-state.invariant.0 state class (omega (arith, less, past, end)) held
