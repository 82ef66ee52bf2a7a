-- What stands between the quotes of a text token is UTF-8.
use Rattle.std.proofs.Common.{◌≡◌, ℕ, zero, suc, ◌+◌, ◌-◌, List, [], ◌∷◌, ◌++◌, length, drop, take, slice_range, slice_get, Some, refl, sym, ap, ◌∙◌, subst, arith, append_assoc, length-append}
use Rattle.std.specs.Prelude.{IfSome, IsUtf8}
use Rattle.std.proofs.lemmas.List.{take_at, drop_at}
use Rattle.ms_text.specs.declared.token.Kind.TheVariants as kinds
use Rattle.ms_text.specs.declared.token.Token.{Token}
use Rattle.ms_text.specs.Spelling.{quoted, Spells, IsAccepted}
use Rattle.ms_text.specs.TokenList.{Lexed, BeginsWith, IsTokenList, slice_of, place_behind}
use Rattle.ms_text.proofs.Lists.{next_before}
use Rattle.ms_parse_grammar.specs.Symbol.{text, symbol_of, between_quotes}
use Rattle.ms_parse_steps.proofs.Inputs.{of_token}

first_cut : (before bytes : List ℕ) (token : Token) (rest : List ℕ) → BeginsWith (length before) bytes token rest → IsAccepted token.kind (slice_range (before ++ bytes) token.place (place_behind token))
first_cut before bytes token rest begins =
    let gap = begins.gap in
    let slice = begins.slice in
    let place : token.place ≡ length before + length gap = begins.place_is in
    let long : token.length ≡ length slice = begins.length_is in
    let made_up : before ++ bytes ≡ (before ++ gap) ++ (slice ++ rest) = ap (λ b. before ++ b) begins.made_up ∙ sym (append_assoc before gap (slice ++ rest)) in
    let at_slice : drop token.place (before ++ bytes) ≡ slice ++ rest = ap (drop token.place) made_up ∙ drop_at (before ++ gap) (slice ++ rest) token.place (length-append before gap ∙ sym place) in
    let cut : slice_range (before ++ bytes) token.place (place_behind token) ≡ slice = ap (take (place_behind token - token.place)) at_slice ∙ take_at slice rest (place_behind token - token.place) (omega arith) in
    subst (IsAccepted token.kind) (sym cut) begins.is_token.accepted

accepted_from : (before bytes : List ℕ) (place : ℕ) (tokens : List Token) (i : ℕ) (token : Token) → length before ≡ place → IsTokenList place bytes tokens → slice_get tokens i ≡ Some token
    → IsAccepted token.kind (slice_range (before ++ bytes) token.place (place_behind token))
accepted_from before bytes place [] i token place_is listed at = let never : ⊥ = cc in absurd never
accepted_from before bytes place (t ∷ ts) zero token place_is listed at =
    let same : t ≡ token = cc in
    let begins = subst (λ p. BeginsWith p bytes t listed.0) (sym place_is) listed.1 in
    subst (λ k. IsAccepted k.kind (slice_range (before ++ bytes) k.place (place_behind k))) same (first_cut before bytes t listed.0 begins)
accepted_from before bytes place (t ∷ ts) (suc i) token place_is listed at =
    let begins = subst (λ p. BeginsWith p bytes t listed.0) (sym place_is) listed.1 in
    let next = next_before before bytes t listed.0 begins in
    subst (λ whole. IsAccepted token.kind (slice_range whole token.place (place_behind token))) (sym next.2) (accepted_from next.0 listed.0 (place_behind t) ts i token next.1 listed.2 at)

unquoted : (content : List ℕ) → between_quotes (quoted content) ≡ content
unquoted content = take_at content (34 ∷ []) (length (quoted content) - 2) (omega (arith, length-append content (34 ∷ [])))

pub text_is_utf8 : (lexed : Lexed) (i : ℕ) (token : Token) (bytes inner : List ℕ) → IsTokenList 0 lexed.bytes lexed.tokens → slice_get lexed.tokens i ≡ Some token → token.kind ≡ kinds.Text
    → IfSome (slice_get lexed.tokens i) (λ t. bytes ≡ slice_of lexed t) → IfSome (slice_get lexed.tokens i) (λ t. Spells t.kind bytes) → inner ≡ between_quotes bytes → IsUtf8 inner
text_is_utf8 lexed i token bytes inner listed found is_text sliced spelled same =
    let as_text : Spells kinds.Text bytes = subst (λ k. Spells k bytes) is_text (of_token lexed i token (λ t. Spells t.kind bytes) found spelled) in
    let cut : bytes ≡ slice_of lexed token = of_token lexed i token (λ t. bytes ≡ slice_of lexed t) found sliced in
    let accepted : IsAccepted kinds.Text bytes = subst (IsAccepted kinds.Text) (sym cut) (subst (λ k. IsAccepted k (slice_of lexed token)) is_text (accepted_from [] lexed.bytes 0 lexed.tokens i token refl listed found)) in
    let content_is : inner ≡ as_text.0 = same ∙ ap between_quotes as_text.1 ∙ unquoted as_text.0 in
    subst IsUtf8 (sym content_is) (accepted as_text.0 as_text.1)

pub text_symbol : (lexed : Lexed) (i : ℕ) (token : Token) (bytes inner made : List ℕ) → slice_get lexed.tokens i ≡ Some token → token.kind ≡ kinds.Text → IfSome (slice_get lexed.tokens i) (λ t. bytes ≡ slice_of lexed t)
    → inner ≡ between_quotes bytes → made ≡ inner → symbol_of token.kind (slice_of lexed token) ≡ text made
text_symbol lexed i token bytes inner made found is_text sliced inside same =
    ap (λ k. symbol_of k (slice_of lexed token)) is_text ∙ ap (λ s. text (between_quotes s)) (sym (of_token lexed i token (λ t. bytes ≡ slice_of lexed t) found sliced)) ∙ ap text (sym (same ∙ inside))
