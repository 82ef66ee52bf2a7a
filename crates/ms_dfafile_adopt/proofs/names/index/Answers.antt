use Rattle.std.proofs.Common.{◌≡◌, ◌∷◌, [], ◌++◌, ◌+◌, List, ℕ, Some, length, take, ap, sym, subst, ◌∙◌, arith}
use Rattle.std.specs.HashMap.{Updates}
use Rattle.std.proofs.lemmas.List.{length-take-le, take_all}
use Rattle.ms_dfafile_adopt.specs.inner.Map.{IsIndex}
use Rattle.ms_dfafile_adopt.proofs.ListLemmas.{take_item}
use Rattle.ms_dfafile_adopt.proofs.MapLemmas.{IsIndex-more, same_bytes}
use Rattle.ms_dfafile_adopt.proofs.names.index.Goals as goal

pub loop-name-preserved : goal.loop-name-preserved
loop-name-preserved c =
    let names = c.args.names.now in
    let i = c.loop-name.name-index in
    let test = c.loop-name-test.true in
    let front = take i names in
    let long : length front ≡ i = length-take-le i names (omega (arith, test)) in
    let updates = subst (λ n. Updates same_bytes c.loop-name.made c.insert.new.self c.bytes.result (Some n)) (c.loop-name.invariant.1 ∙ sym long) c.in-Ok-insert.ensures.updates in
    let more = IsIndex-more c.loop-name.made c.insert.new.self front c.bytes.result c.loop-name.invariant.0 updates in (
      subst (λ list. IsIndex list c.insert.new.self) (ap (λ (name : List ℕ). front ++ name ∷ []) c.bytes.ensures ∙ take_item names i c.name-item.result test c.name-item.is) more,
      c.in-Some.ensures.1 ∙ ap (λ n. n + 1) c.loop-name.invariant.1,
    )

pub returns : goal.returns
returns c = subst (λ list. IsIndex list c.loop-name.made) (take_all c.loop-name.name-index c.args.names.now c.loop-name-test.false) c.loop-name.invariant.0
