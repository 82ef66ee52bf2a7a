-- A text given as a list of tokens with the blanks before each, and a line feed at the end.
use Rattle.std.proofs.Common.{◌≡◌, ℕ, ◌+◌, ◌-◌, true, List, [], ◌∷◌, ◌++◌, length, take, drop, map, slice_range, refl, sym, ap, ◌∙◌, arith, append_assoc, length-append}
use Rattle.std.specs.List.{list_all}
use Rattle.std.proofs.lemmas.List.{take_at, drop_at}
use Rattle.ms_list.specs.declared.at.At.{At}
use Rattle.ms_text.specs.declared.token.Kind.{Kind}
use Rattle.ms_text.specs.declared.token.Token.{Token}
use Rattle.ms_text.specs.Gap.{IsGap, blank, is_blank}
use Rattle.ms_text.specs.Spelling.{IsToken}
use Rattle.ms_text.specs.TokenList.{Lexed, IsTokenList, token_at}
use Rattle.ms_text.proofs.Bytes.{and_both}
use Rattle.ms_parse_grammar.specs.Symbol.{Placed, placed, symbol_of, placed_symbol}

-- blanks, and the token behind them
pub record Piece : Type 0 where
  pub gap : List ℕ
  pub kind : Kind
  pub slice : List ℕ

-- the text of the pieces, with a line feed at the end
abbrev pub text_of : List Piece → List ℕ
text_of [] = 10 ∷ []
text_of (p ∷ ps) = p.gap ++ (p.slice ++ text_of ps)

-- each is blanks and a token where the text of the others stands behind it
abbrev pub ArePieces : List Piece → Type 0
ArePieces [] = Unit {0}
ArePieces (p ∷ ps) = (list_all is_blank p.gap ≡ true) × IsToken p.kind p.slice (text_of ps) × ArePieces ps

-- where the token of a piece stands, and what follows it, by where the piece begins
abbrev pub token_place : ℕ → Piece → ℕ
token_place place p = place + length p.gap

abbrev pub behind : ℕ → Piece → ℕ
behind place p = token_place place p + length p.slice

abbrev pub tokens_from : ℕ → List Piece → List Token
tokens_from place [] = []
tokens_from place (p ∷ ps) = token_at p.kind (token_place place p) (length p.slice) ∷ tokens_from (behind place p) ps

-- a place in the only file
abbrev pub at : ℕ → At
at place = record { file = 0; place = place }

abbrev pub symbols_from : ℕ → List Piece → List Placed
symbols_from place [] = []
symbols_from place (p ∷ ps) = placed (symbol_of p.kind p.slice) (at (token_place place p)) ∷ symbols_from (behind place p) ps

blanks_are_gap : (gap behind : List ℕ) → list_all is_blank gap ≡ true → IsGap gap behind
blanks_are_gap [] behind blanks = ([], tt, refl)
blanks_are_gap (b ∷ bs) behind blanks =
    let parts = and_both (is_blank b) (list_all is_blank bs) blanks in
    let more = blanks_are_gap bs behind parts.1 in
    (blank b ∷ more.0, (parts.0, more.1), ap (λ bytes. b ∷ bytes) more.2)

-- the text has these tokens
pub tokens_listed : (place : ℕ) (ps : List Piece) → ArePieces ps → IsTokenList place (text_of ps) (tokens_from place ps)
tokens_listed place [] are = (blank 10 ∷ [], (refl, tt), refl)
tokens_listed place (p ∷ ps) are = (
  text_of ps,
  record {
    gap = p.gap;
    slice = p.slice;
    made_up = refl;
    is_gap = blanks_are_gap p.gap (p.slice ++ text_of ps) are.0;
    is_token = are.1;
    place_is = refl;
    length_is = refl;
  },
  tokens_listed (behind place p) ps are.2,
)

slice_at : (whole front slice rest : List ℕ) (place : ℕ) → length front ≡ place → whole ≡ front ++ (slice ++ rest) → slice_range whole place (place + length slice) ≡ slice
slice_at whole front slice rest place long e =
    ap (λ b. take (place + length slice - place) (drop place b)) e ∙ ap (take (place + length slice - place)) (drop_at front (slice ++ rest) place long) ∙ take_at slice rest (place + length slice - place) (omega arith)

-- and they say these symbols
pub symbols_listed : (lexed : Lexed) (front : List ℕ) (place : ℕ) (ps : List Piece) → length front ≡ place → lexed.bytes ≡ front ++ text_of ps
    → map (placed_symbol 0 lexed) (tokens_from place ps) ≡ symbols_from place ps
symbols_listed lexed front place [] long e = refl
symbols_listed lexed front place (p ∷ ps) long e =
    let here = front ++ p.gap in
    let grouped : lexed.bytes ≡ here ++ (p.slice ++ text_of ps) = e ∙ sym (append_assoc front p.gap (p.slice ++ text_of ps)) in
    let long_here : length here ≡ token_place place p = omega (arith, length-append front p.gap, long) in
    let cut = slice_at lexed.bytes here p.slice (text_of ps) (token_place place p) long_here grouped in
    let next : lexed.bytes ≡ (here ++ p.slice) ++ text_of ps = grouped ∙ sym (append_assoc here p.slice (text_of ps)) in
    let long_next : length (here ++ p.slice) ≡ behind place p = omega (arith, length-append here p.slice, long_here) in
    let rest = symbols_listed lexed (here ++ p.slice) (behind place p) ps long_next next in
    (λ i. placed (symbol_of p.kind (cut i)) (at (token_place place p)) ∷ rest i)
