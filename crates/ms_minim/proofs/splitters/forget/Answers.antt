use Rattle.std.proofs.Common.{slice_index, ⊎_elim, ◌∙◌, arith}
use Rattle.std.proofs.lemmas.Bool.{cases_eq}
use Rattle.std.proofs.lemmas.Option.{slice_get_within, slice_get-get_or}
use Rattle.ms_minim.proofs.GroupingLemmas.{AreForgotten-more, set_to_zero}
use Rattle.ms_minim.proofs.splitters.forget.Goals as goal

pub loop-class-preserved : goal.loop-class-preserved
loop-class-preserved c =
    let class = slice_index c.args.chosen.now c.loop-class.class-index in (
      c.set.ensures.count ∙ c.loop-class.invariant.0,
      AreForgotten-more c.args.chosen.now c.loop-class.numbers.items c.set.new.numbers.items c.loop-class.class-index class c.loop-class.invariant.1
          (slice_get-get_or c.args.chosen.now c.loop-class.class-index 0 c.loop-class-test.true) (set_to_zero c.loop-class.numbers.items c.set.new.numbers.items class c.set.ensures.count c.set.ensures.own)
          c.set.ensures.others,
    )

pub returns-clause-none : goal.returns-clause-none
returns-clause-none c class = ⊎_elim (λ none. none)
    (λ some.
    let found = c.loop-class.invariant.1 class some in
    let less = slice_get_within c.args.chosen.now found.0 class found.1 in
    let past = c.loop-class-test.false in
    let at = found.2 in
    absurd (omega (arith, less, past, at)))
    (cases_eq (slice_index c.loop-class.numbers.items class) 0)
