-- The symbol of a token by its number.
use Rattle.std.proofs.Common.{◌≡◌, ◌≢◌, ℕ, zero, suc, ◌<◌, ◌≤◌, true, List, [], ◌∷◌, length, drop, map, slice_get, Some, refl, sym, ap, ◌∙◌, subst, arith}
use Rattle.std.specs.Prelude.{slice_index, IfSome, IsUtf8}
use Rattle.std.specs.List.{list_all}
use Rattle.std.proofs.lemmas.Bool.Decides.{nat_tests}
use Rattle.std.proofs.lemmas.Str.{IsUtf8-from_ascii}
use Rattle.ms_text.proofs.Bytes.{and_both}
use Rattle.ms_list.specs.declared.at.At.{At}
use Rattle.ms_text.specs.declared.keyword.Keyword.TheVariants as words
use Rattle.ms_text.specs.declared.mark.Mark.TheVariants as marks
use Rattle.ms_text.specs.declared.token.Kind.{Kind}
use Rattle.ms_text.specs.declared.token.Kind.TheVariants as kinds
use Rattle.ms_text.specs.declared.token.Token.{Token}
use Rattle.ms_text.specs.Spelling.{is_name_byte, is_identifier, Spells}
use Rattle.ms_text.specs.TokenList.{Lexed, slice_of}
use Rattle.ms_text.proofs.Starts.{identifier_bytes}
use Rattle.ms_parse_grammar.specs.Symbol.{Symbol, name, symbol_of, Placed, placed, placed_symbol}
use Rattle.ms_parse_steps.specs.inner.Terminals.{behind, IsNext, NoName, NoText}

drop_read : (f : Token → Placed) (tokens : List Token) (i : ℕ) (token : Token) → slice_get tokens i ≡ Some token → drop i (map f tokens) ≡ f token ∷ drop (suc i) (map f tokens)
drop_read f [] i token found = let never : ⊥ = cc in absurd never
drop_read f (t ∷ ts) zero token found = let same : t ≡ token = cc in ap (λ x. f x ∷ map f ts) same
drop_read f (t ∷ ts) (suc i) token found = drop_read f ts i token found

pub next_is : (file : ℕ) (lexed : Lexed) (i : ℕ) (token : Token) → slice_get lexed.tokens i ≡ Some token → behind file lexed i ≡ placed_symbol file lexed token ∷ behind file lexed (suc i)
next_is file lexed i token found = drop_read (placed_symbol file lexed) lexed.tokens i token found

drop_past : (f : Token → Placed) (tokens : List Token) (i : ℕ) → length tokens ≤ i → drop i (map f tokens) ≡ []
drop_past f [] zero past = refl
drop_past f [] (suc i) past = refl
drop_past f (t ∷ ts) zero past = absurd (omega (arith, past))
drop_past f (t ∷ ts) (suc i) past = drop_past f ts i (omega (arith, past))

pub at_end : (file : ℕ) (lexed : Lexed) (i : ℕ) → length lexed.tokens ≤ i → behind file lexed i ≡ []
at_end file lexed i past = drop_past (placed_symbol file lexed) lexed.tokens i past

pub terminal_next : (file : ℕ) (lexed : Lexed) (i : ℕ) (token : Token) (s : Symbol) (at : At) → slice_get lexed.tokens i ≡ Some token → symbol_of token.kind (slice_of lexed token) ≡ s
    → at ≡ record { file = file; place = token.place } → IsNext file lexed i s at
terminal_next file lexed i token s at found same here =
    next_is file lexed i token found ∙ ap (λ x. placed x (record { file = file; place = token.place }) ∷ behind file lexed (suc i)) same ∙ ap (λ x. placed s x ∷ behind file lexed (suc i)) (sym here)

no_name_kind : (k : Kind) (slice : List ℕ) (at : At) (more : List Placed) → k ≢ kinds.Name → NoName (placed (symbol_of k slice) at ∷ more)
no_name_kind kinds.Name slice at more other = absurd (other refl)
no_name_kind (kinds.Word words.Ws1s) slice at more other = tt
no_name_kind (kinds.Mark marks.Semicolon) slice at more other = tt
no_name_kind _ slice at more other = tt

no_text_kind : (k : Kind) (slice : List ℕ) (at : At) (more : List Placed) → k ≢ kinds.Text → NoText (placed (symbol_of k slice) at ∷ more)
no_text_kind kinds.Text slice at more other = absurd (other refl)
no_text_kind (kinds.Word words.Ws1s) slice at more other = tt
no_text_kind (kinds.Mark marks.Semicolon) slice at more other = tt
no_text_kind _ slice at more other = tt

pub no_name : (file : ℕ) (lexed : Lexed) (i : ℕ) (token : Token) → slice_get lexed.tokens i ≡ Some token → token.kind ≢ kinds.Name → NoName (behind file lexed i)
no_name file lexed i token found other =
    subst NoName (sym (next_is file lexed i token found)) (no_name_kind token.kind (slice_of lexed token) (record { file = file; place = token.place }) (behind file lexed (suc i)) other)

pub no_text : (file : ℕ) (lexed : Lexed) (i : ℕ) (token : Token) → slice_get lexed.tokens i ≡ Some token → token.kind ≢ kinds.Text → NoText (behind file lexed i)
no_text file lexed i token found other =
    subst NoText (sym (next_is file lexed i token found)) (no_text_kind token.kind (slice_of lexed token) (record { file = file; place = token.place }) (behind file lexed (suc i)) other)

-- what is said of the token that stands there
pub of_token : (lexed : Lexed) (i : ℕ) (token : Token) (P : Token → Type 0) → slice_get lexed.tokens i ≡ Some token → IfSome (slice_get lexed.tokens i) P → P token
of_token lexed i token P found says = subst (λ x. IfSome x P) found says

ascii_byte : (b : ℕ) → is_name_byte b ≡ true → b < 128
ascii_byte b is = grind (arith, nat_tests)

ascii_bytes : (bytes : List ℕ) → list_all is_name_byte bytes ≡ true → (i : ℕ) → slice_index bytes i < 128
ascii_bytes [] all i = omega arith
ascii_bytes (b ∷ bs) all zero = ascii_byte b (and_both (is_name_byte b) (list_all is_name_byte bs) all).0
ascii_bytes (b ∷ bs) all (suc i) = ascii_bytes bs (and_both (is_name_byte b) (list_all is_name_byte bs) all).1 i

-- the bytes of a name are text
pub name_is_utf8 : (bytes : List ℕ) → is_identifier bytes ≡ true → IsUtf8 bytes
name_is_utf8 bytes is = IsUtf8-from_ascii bytes (ascii_bytes bytes (identifier_bytes bytes is))

-- the bytes of a name token are text
pub token_is_utf8 : (lexed : Lexed) (i : ℕ) (token : Token) (bytes : List ℕ) → slice_get lexed.tokens i ≡ Some token → token.kind ≡ kinds.Name → IfSome (slice_get lexed.tokens i) (λ t. Spells t.kind bytes) → IsUtf8 bytes
token_is_utf8 lexed i token bytes found named spelled =
    let as_name : Spells kinds.Name bytes = subst (λ k. Spells k bytes) named (of_token lexed i token (λ t. Spells t.kind bytes) found spelled) in
    name_is_utf8 bytes as_name.0

pub name_symbol : (lexed : Lexed) (i : ℕ) (token : Token) (bytes made : List ℕ) → slice_get lexed.tokens i ≡ Some token → token.kind ≡ kinds.Name → IfSome (slice_get lexed.tokens i) (λ t. bytes ≡ slice_of lexed t) → made ≡ bytes
    → symbol_of token.kind (slice_of lexed token) ≡ name made
name_symbol lexed i token bytes made found named sliced same =
    ap (λ k. symbol_of k (slice_of lexed token)) named ∙ ap name (sym (same ∙ of_token lexed i token (λ t. bytes ≡ slice_of lexed t) found sliced))
