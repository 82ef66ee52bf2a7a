-- Names and words that are left out, by the number of their token.
use Rattle.std.proofs.Common.{◌≡◌, ◌≢◌, ℕ, suc, List, [], ◌∷◌, ◌++◌, take, slice_get, Some, refl, sym, ap, ◌∙◌, subst}
use Rattle.std.specs.Prelude.{IfSome, IsUtf8, codes}
use Rattle.ms_list.specs.declared.at.At.{At}
use Rattle.ms_text.specs.declared.keyword.Keyword.{Keyword}
use Rattle.ms_text.specs.declared.keyword.Keyword.TheVariants as words
use Rattle.ms_text.specs.declared.keyword.LeftOutWord.{LeftOutWord}
use Rattle.ms_text.specs.declared.keyword.LeftOutWord.TheVariants as others
use Rattle.ms_text.specs.declared.mark.Mark.{Mark}
use Rattle.ms_text.specs.declared.mark.Mark.TheVariants as marks
use Rattle.ms_text.specs.declared.token.Kind.{Kind}
use Rattle.ms_text.specs.declared.token.Kind.TheVariants as kinds
use Rattle.ms_text.specs.declared.token.Token.{Token}
use Rattle.ms_text.specs.Spelling.{left_out_spelling, Spells}
use Rattle.ms_text.specs.TokenList.{Lexed, slice_of}
use Rattle.ms_parse_grammar.specs.Symbol.{Symbol, left_out, symbol_of, word_symbol, mark_symbol, placed, symbols}
use Rattle.ms_parse_steps.specs.inner.Terminals.{behind, IsNext}
use Rattle.ms_parse.specs.Refused.{IsMisplaced, IsTooDeepAt, IsLanguage, end_of, EndsEarly}
use Rattle.ms_parse_steps.specs.inner.Stops.{Misplaces, Deepens, MisplacesAt, DeepensAt}
use Rattle.ms_parse_grammar.specs.Continuation.{CanFollow}
use Rattle.std.proofs.lemmas.List.{append-nil}
use Rattle.ms_parse_steps.proofs.Inputs.{of_token, name_is_utf8, terminal_next}
use Rattle.ms_parse_steps.proofs.Tokens.{cut}

pub left_out_symbol : (lexed : Lexed) (i : ℕ) (token : Token) (bytes made : List ℕ) → slice_get lexed.tokens i ≡ Some token → token.kind ≡ kinds.LeftOut → IfSome (slice_get lexed.tokens i) (λ t. bytes ≡ slice_of lexed t) → made ≡ bytes
    → symbol_of token.kind (slice_of lexed token) ≡ left_out made
left_out_symbol lexed i token bytes made found is sliced same =
    ap (λ k. symbol_of k (slice_of lexed token)) is ∙ ap left_out (sym (same ∙ of_token lexed i token (λ t. bytes ≡ slice_of lexed t) found sliced))

-- the symbol with this number stands among all
pub stands_among : (file : ℕ) (lexed : Lexed) (i : ℕ) (s : Symbol) (at : At) → IsNext file lexed i s at → symbols file lexed ≡ take i (symbols file lexed) ++ placed s at ∷ behind file lexed (suc i)
stands_among file lexed i s at next = cut (symbols file lexed) i ∙ ap (λ x. take i (symbols file lexed) ++ x) next

no_left_word : (w : Keyword) → IsLanguage (word_symbol w)
no_left_word words.Ws1s = tt
no_left_word _ = tt

no_left_mark : (m : Mark) → IsLanguage (mark_symbol m)
no_left_mark marks.Semicolon = tt
no_left_mark _ = tt

in_language : (k : Kind) (slice : List ℕ) → k ≢ kinds.LeftOut → IsLanguage (symbol_of k slice)
in_language kinds.Name slice other = tt
in_language (kinds.Word w) slice other = no_left_word w
in_language kinds.LeftOut slice other = absurd (other refl)
in_language (kinds.Number n) slice other = tt
in_language kinds.Text slice other = tt
in_language (kinds.Mark m) slice other = no_left_mark m

-- the symbol of a token
abbrev pub symbol_at : Lexed → Token → Symbol
symbol_at lexed token = symbol_of token.kind (slice_of lexed token)

pub token_next : (file : ℕ) (lexed : Lexed) (i : ℕ) (token : Token) (at : At) → slice_get lexed.tokens i ≡ Some token → at ≡ record { file = file; place = token.place } → IsNext file lexed i (symbol_at lexed token) at
token_next file lexed i token at found here = terminal_next file lexed i token (symbol_at lexed token) at found refl here

-- the symbol of the token with this number cannot stand there
pub misplaced_at : (file : ℕ) (lexed : Lexed) (i : ℕ) (s : Symbol) (at : At) → IsNext file lexed i s at → MisplacesAt file lexed i → IsMisplaced file lexed s at
misplaced_at file lexed i s at next is =
    let facts = subst (Misplaces (take i (symbols file lexed))) next is in
    record { before = take i (symbols file lexed); stands = (behind file lexed (suc i), stands_among file lexed i s at next); can_follow = facts.0; cannot_follow = facts.1 }

-- a token of the language
pub language_misplaced : (file : ℕ) (lexed : Lexed) (i : ℕ) (token : Token) (at : At) → slice_get lexed.tokens i ≡ Some token → token.kind ≢ kinds.LeftOut → at ≡ record { file = file; place = token.place }
    → MisplacesAt file lexed i → (s : Symbol) × IsMisplaced file lexed s at × IsLanguage s
language_misplaced file lexed i token at found other here is =
    (symbol_at lexed token, misplaced_at file lexed i (symbol_at lexed token) at (token_next file lexed i token at found here) is, in_language token.kind (slice_of lexed token) other)

-- no token is left
pub ends_early : (file : ℕ) (lexed : Lexed) (i : ℕ) (at : At) → behind file lexed i ≡ [] → at ≡ end_of file lexed → MisplacesAt file lexed i → EndsEarly file lexed at
ends_early file lexed i at nothing here is =
    let whole : symbols file lexed ≡ take i (symbols file lexed) = cut (symbols file lexed) i ∙ ap (λ l. take i (symbols file lexed) ++ l) nothing ∙ append-nil (take i (symbols file lexed)) in
    record { is_end = here; can_follow = subst CanFollow (sym whole) (subst (Misplaces (take i (symbols file lexed))) nothing is) }

-- an expression is too deep with the symbol of the token with this number
pub too_deep_at : (file : ℕ) (lexed : Lexed) (i : ℕ) (token : Token) (at : At) → slice_get lexed.tokens i ≡ Some token → at ≡ record { file = file; place = token.place } → DeepensAt file lexed i → (s : Symbol) × IsTooDeepAt file lexed s at
too_deep_at file lexed i token at found here is =
    let next = token_next file lexed i token at found here in
    let facts = subst (Deepens (take i (symbols file lexed))) next is in (
      symbol_at lexed token,
      record {
        before = take i (symbols file lexed);
        stands = (behind file lexed (suc i), stands_among file lexed i (symbol_at lexed token) at next);
        can_follow = facts.0;
        cannot_follow = facts.1;
        can_follow_deeper = facts.2;
      },
    )

-- with none left it is not
pub end_not_deep : (file : ℕ) (lexed : Lexed) (i : ℕ) → behind file lexed i ≡ [] → DeepensAt file lexed i → ⊥
end_not_deep file lexed i nothing is = subst (Deepens (take i (symbols file lexed))) nothing is

left_out_utf8 : (w : LeftOutWord) → IsUtf8 (left_out_spelling w)
left_out_utf8 others.Ws2s = name_is_utf8 (codes "ws2s") refl
left_out_utf8 others.Tree = name_is_utf8 (codes "tree") refl
left_out_utf8 others.Guide = name_is_utf8 (codes "guide") refl
left_out_utf8 others.Universe = name_is_utf8 (codes "universe") refl
left_out_utf8 others.Type = name_is_utf8 (codes "type") refl
left_out_utf8 others.Assert = name_is_utf8 (codes "assert") refl
left_out_utf8 others.Verify = name_is_utf8 (codes "verify") refl
left_out_utf8 others.Execute = name_is_utf8 (codes "execute") refl
left_out_utf8 others.Prefix = name_is_utf8 (codes "prefix") refl
left_out_utf8 others.AllPos = name_is_utf8 (codes "allpos") refl
left_out_utf8 others.LastPos = name_is_utf8 (codes "lastpos") refl

-- the bytes of a word that is left out are text
pub left_out_is_utf8 : (lexed : Lexed) (i : ℕ) (token : Token) (bytes : List ℕ) → slice_get lexed.tokens i ≡ Some token → token.kind ≡ kinds.LeftOut → IfSome (slice_get lexed.tokens i) (λ t. Spells t.kind bytes) → IsUtf8 bytes
left_out_is_utf8 lexed i token bytes found is spelled =
    let as_word : Spells kinds.LeftOut bytes = subst (λ k. Spells k bytes) is (of_token lexed i token (λ t. Spells t.kind bytes) found spelled) in
    subst IsUtf8 (sym as_word.1) (left_out_utf8 as_word.0)
