use Rattle.std.proofs.Common.{slice_get, slice_range, sym, ap, ◌∙◌, subst, length, arith, ◌≡◌, Some}
use Rattle.ms_text.specs.Spelling.{Spells}
use Rattle.ms_text.specs.TokenList.{Lexed, slice_of, place_behind}
use Rattle.ms_text.specs.inner.Kept.{token_in}
use Rattle.ms_text.proofs.KeptTokens.{token_at, stands_at}
use Rattle.ms_text.proofs.Lists.{told_at}
use Rattle.ms_text.proofs.token_list.Tokens.slice.Goals as goal

pub slice_bounds-result-end : goal.slice_bounds-result-end
slice_bounds-result-end c =
    let stands = stands_at c.self.inside.bytes c.self.inside.kept c.args.i c.get-kept.result.now c.self.invariant.0 c.get-kept.ensures in
    omega (arith, stands.within, ap length c.slice.ensures)

pub returns-clause-slice : goal.returns-clause-slice
returns-clause-slice c =
    let kept = c.get-kept.result.now in
    let token = token_in c.self.inside.bytes kept in
    let there = ap (λ (lexed : Lexed). slice_get lexed.tokens c.args.i) (sym c.self.view_is) ∙ token_at c.self.inside.bytes c.self.inside.kept c.args.i kept c.get-kept.ensures in
    told_at c.args.self.now.tokens c.args.i token (λ found. _ ≡ slice_of c.args.self.now found) there
    (ap (λ bytes. slice_range bytes token.place (place_behind token)) (c.slice.ensures ∙ ap (λ (lexed : Lexed). lexed.bytes) c.self.view_is))

pub returns-clause-spelled : goal.returns-clause-spelled
returns-clause-spelled c =
    let kept = c.get-kept.result.now in
    let token = token_in c.self.inside.bytes kept in
    let there = ap (λ (lexed : Lexed). slice_get lexed.tokens c.args.i) (sym c.self.view_is) ∙ token_at c.self.inside.bytes c.self.inside.kept c.args.i kept c.get-kept.ensures in
    let stands = stands_at c.self.inside.bytes c.self.inside.kept c.args.i kept c.self.invariant.0 c.get-kept.ensures in
    told_at c.args.self.now.tokens c.args.i token (λ found. Spells found.kind _) there
    (subst (λ bytes. Spells token.kind (slice_range bytes token.place (place_behind token))) (sym c.slice.ensures) stands.spelled)
