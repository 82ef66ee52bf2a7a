use Rattle.std.proofs.Common.{◌≡◌, Some, length, slice_get, slice_range, sym, ap, ◌∙◌, subst, arith}
use Rattle.ms_text.specs.Spelling.{IsAccepted}
use Rattle.ms_text.specs.TokenList.{Lexed, slice_of, place_behind}
use Rattle.ms_text.specs.declared.token.Token.{Token}
use Rattle.ms_text.specs.inner.Kept.{kind_with, token_in}
use Rattle.ms_text.proofs.KeptTokens.{token_at, stands_at}
use Rattle.ms_text.proofs.Lists.{told_of}
use Rattle.ms_text.proofs.token_list.Tokens.get.Goals as goal
use Rattle.ms_text.proofs.token_list.Tokens.get.Goals.{After-slice}

-- the token that is kept stands there
there : (c : After-slice) → slice_get c.args.self.now.tokens c.args.i ≡ Some (token_in c.self.inside.bytes c.get-kept.result.now)
there c =
    ap (λ (lexed : Lexed). slice_get lexed.tokens c.args.i) (sym c.self.view_is)
    ∙ token_at c.self.inside.bytes c.self.inside.kept c.args.i c.get-kept.result.now c.get-kept.ensures

-- its bytes are those of the text
its_bytes : (c : After-slice) → c.slice.result.now ≡ slice_range c.self.inside.bytes c.get-kept.result.now.place (place_behind (token_in c.self.inside.bytes c.get-kept.result.now))
its_bytes c =
    let token = token_in c.self.inside.bytes c.get-kept.result.now in
    told_of c.args.self.now.tokens c.args.i token (λ found. c.slice.result.now ≡ slice_of c.args.self.now found) (there c) c.slice.ensures.slice
    ∙ ap (λ (lexed : Lexed). slice_range lexed.bytes token.place (place_behind token)) (sym c.self.view_is)

pub kind_with-requires-clause-accepted : goal.kind_with-requires-clause-accepted
kind_with-requires-clause-accepted c =
    let kept = c.get-kept.result.now in
    let stands = stands_at c.self.inside.bytes c.self.inside.kept c.args.i kept c.self.invariant.0 c.get-kept.ensures in
    subst (λ bytes. IsAccepted (kind_with kept.kind bytes) bytes) (sym (its_bytes c)) stands.accepted

pub returns-clause-token : goal.returns-clause-token
returns-clause-token c =
    let s = (goal.at.returns-clause-token c).After-slice in
    let kept = c.get-kept.result.now in
    let kind = ap (kind_with kept.kind) (sym (its_bytes s)) ∙ sym c.kind_with.ensures in
    rw c.from.ensures (rw c.from-2.ensures (there s ∙ ap (λ k. Some (record { kind = k; place = kept.place; length = kept.length })) kind))

pub returns-clause-within : goal.returns-clause-within
returns-clause-within c =
    let stands = stands_at c.self.inside.bytes c.self.inside.kept c.args.i c.get-kept.result.now c.self.invariant.0 c.get-kept.ensures in
    omega (arith, stands.within, c.from.ensures, c.from-2.ensures, ap (λ (lexed : Lexed). length lexed.bytes) c.self.view_is)
