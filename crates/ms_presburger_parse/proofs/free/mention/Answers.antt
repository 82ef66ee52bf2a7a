use Rattle.std.proofs.Common.{◌≡◌, false, [], ◌∷◌, ◌++◌, ap, ◌∙◌, sym, arith}
use Rattle.ms_presburger_parse.specs.declared.free.Gathered.{Gathered}
use Rattle.ms_presburger_parse.specs.declared.free.Standing.{Standing}
use Rattle.ms_presburger_parse.specs.inner.Gathering.{Gathers, standing_in}
use Rattle.ms_presburger_parse.proofs.Gatherings.{mentions_new}
use Rattle.std.proofs.lemmas.Result.{on_ok_weaker}
use Rattle.ms_presburger_parse.proofs.free.mention.Goals as goal

pub returns : goal.returns
returns c =
    let g = c.args.gathered.now in
    let x = c.args.name.now in
    let middle = c.set_standing.new.gathered in
    let after : Gathered = record { standings = middle.standings; names = c.push.new.list } in
    let here = c.standing_of-standing.ensures in
    let unbound : (standing_in g x).bound ≡ 0 = omega (arith, ap (λ (s : Standing). s.bound) here, c.if-standing-gt0.false) in
    let unnoted : (standing_in g x).noted ≡ false = sym (ap (λ (s : Standing). s.noted) here) ∙ c.if-standing.false in
    on_ok_weaker {P = c.push.new.list ≡ middle.names ++ c.in_ok-new.field-0 ∷ []} {Q = Gathers g after (x ∷ [])} c.push.result
    (λ kept. mentions_new g after x c.requires unbound unnoted c.in_ok-set_standing.ensures.ok (kept ∙ ap (λ ns. ns ++ c.in_ok-new.field-0 ∷ []) c.in_ok-set_standing.ensures.names ∙ ap (λ n. g.names ++ n ∷ []) (c.in_ok-new.ensures ∙ c.text.ensures))) c.push.ensures.ok
