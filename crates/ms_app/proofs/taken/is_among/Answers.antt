use Rattle.std.proofs.Common.{◌≡◌, ◌≢◌, ℕ, List, false, bytes_eq, arith, ◌∙◌}
use Rattle.std.proofs.lemmas.Bool.{false≢true}
use Rattle.std.proofs.lemmas.Slice.Eq.{bytes_eq-Decides}
use Rattle.std.proofs.lemmas.List.Elements.{All-more}
use Rattle.ms_app.proofs.Written.{all_taken}
use Rattle.ms_app.proofs.taken.is_among.Goals as goal

pub loop-one-preserved : goal.loop-one-preserved
loop-one-preserved c =
    let names = c.args.names.now in
    let place = c.loop-one.one-index in
    let less = c.loop-one-test.true in
    All-more (λ (one : List ℕ). one ≢ c.args.name.now) names place c.one-item.result (omega (arith, less)) c.loop-one.invariant (λ same.
    let test : false ≡ bytes_eq c.text.result.now c.args.name.now = c.if-eq.ensures in
    let equal : c.text.result.now ≡ c.args.name.now = c.text.ensures ∙ c.one-item.is ∙ same in
    false≢true (test ∙ (bytes_eq-Decides c.text.result.now c.args.name.now).1 equal))

pub returns : goal.returns
returns c =
    let past = c.loop-one-test.false in
    let none = all_taken (λ (one : List ℕ). one ≢ c.args.name.now) c.args.names.now c.loop-one.one-index (omega (arith, past)) c.loop-one.invariant in
    (λ never. absurd (false≢true never), λ there. absurd (none there.0 c.args.name.now there.1 there.2))
