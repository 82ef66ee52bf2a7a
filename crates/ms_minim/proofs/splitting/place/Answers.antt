use Rattle.std.proofs.Common.{◌≡◌, ◌≢◌, ◌+◌, ◌-◌, ◌<◌, ◌++◌, [], ◌∷◌, length, subst, sym, arith, ◌∙◌}
use Rattle.ms_minim.specs.inner.Split.{IsPlaced}
use Rattle.ms_minim.proofs.SplitLemmas.{IsPlaced-behind}
use Rattle.ms_minim.proofs.splitting.place.Goals as goal
use Rattle.ms_minim.proofs.splitting.place.Goals.{then-made-count+in_ok-push, else-made-count}

pub returns : goal.returns
returns c = record {
  placed = λ front long numbering missing.
      let keys = c.args.keys.now in
      let members = c.args.members.now in
      let number = c.in_ok-made.field-0 in
      let made = c.len-count.result - c.len.result + number in
      let is : made ≡ length front + number = omega (arith, c.len-count.ensures, c.len.ensures.len, long) in
      let room : length members < 4294967295 = omega (arith, c.len-count.ensures, c.if-count.false) in
      let at_end : length front + number ≡ length members → c.if-made-count.members ≡ members ++ c.args.state ∷ [] = λ same. elim c.if-made-count.branch [
        | then-made-count+in_ok-push w ↦ w.members-is ∙ w.in_ok-push.ensures.ok
        | else-made-count w ↦ absurd (omega (arith, w.if-made-count.false, same, is, c.len-count.ensures))
      ] in
      let inside : length front + number ≢ length members → c.if-made-count.members ≡ members = λ differs. elim c.if-made-count.branch [
        | then-made-count+in_ok-push w ↦ absurd (differs (omega (arith, w.if-made-count.true, is, c.len-count.ensures)))
        | else-made-count w ↦ w.members-is
      ] in
      subst (IsPlaced (front ++ keys) members (front ++ c.number.new.known) c.if-made-count.members (c.args.class, c.args.mark) c.args.state) (sym is)
      (IsPlaced-behind front keys c.number.new.known members c.if-made-count.members (c.args.class, c.args.mark) c.args.state number long room numbering missing
      c.in_ok-made.ensures.numbers c.in_ok-made.ensures.number at_end inside);
}
