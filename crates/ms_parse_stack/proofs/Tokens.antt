-- The tokens of a text by their numbers.
use Rattle.std.proofs.Common.{◌≡◌, ℕ, zero, suc, ◌+◌, ◌<◌, true, List, [], ◌∷◌, ◌++◌, length, map, take, drop, slice_get, Some, sym, ap, ◌∙◌, subst, arith, add-one, append_assoc}
use Rattle.std.specs.Prelude.{slice_index, IfSome, IsUtf8}
use Rattle.std.specs.List.{list_all}
use Rattle.std.proofs.lemmas.Bool.Decides.{nat_tests}
use Rattle.std.proofs.lemmas.List.{length-map, map-append}
use Rattle.std.proofs.lemmas.Str.{IsUtf8-from_ascii}
use Rattle.std.proofs.Math.Seq.{take-length}
use Rattle.ms_text.proofs.Bytes.{and_both}
use Rattle.ms_text.proofs.Starts.{identifier_bytes}
use Rattle.ms_text.specs.declared.token.Kind.{Kind}
use Rattle.ms_text.specs.declared.token.Kind.TheVariants as kinds
use Rattle.ms_text.specs.declared.token.Token.{Token}
use Rattle.ms_text.specs.Spelling.{is_name_byte, Spells}
use Rattle.ms_text.specs.TokenList.{Lexed, slice_of}
use Rattle.ms_parse_stack.specs.Symbols.{front, symbols, symbols_of}

taken : (tokens : List Token) (i : ℕ) (token : Token) → slice_get tokens i ≡ Some token → take (suc i) tokens ≡ take i tokens ++ token ∷ []
taken [] i token found = let never : ⊥ = cc in absurd never
taken (t ∷ ts) zero token found = let same : t ≡ token = cc in ap (λ x. x ∷ []) same
taken (t ∷ ts) (suc i) token found = ap (λ x. t ∷ x) (taken ts i token found)

pub taken_next : (tokens : List Token) (i : ℕ) (token : Token) → slice_get tokens i ≡ Some token → take (i + 1) tokens ≡ take i tokens ++ token ∷ []
taken_next tokens i token found = ap (λ j. take j tokens) (add-one i) ∙ taken tokens i token found

pub split_at : (tokens : List Token) (i : ℕ) (token : Token) → slice_get tokens i ≡ Some token → tokens ≡ take i tokens ++ token ∷ drop (suc i) tokens
split_at [] i token found = let never : ⊥ = cc in absurd never
split_at (t ∷ ts) zero token found = let same : t ≡ token = cc in ap (λ x. x ∷ ts) same
split_at (t ∷ ts) (suc i) token found = ap (λ x. t ∷ x) (split_at ts i token found)

-- what is said of the token that stands there
pub of_token : (tokens : List Token) (i : ℕ) (token : Token) (P : Token → Type 0) → slice_get tokens i ≡ Some token → IfSome (slice_get tokens i) P → P token
of_token tokens i token P found says = subst (λ x. IfSome x P) found says

module _ {S : Type 0} (symbol_of : Kind → List ℕ → S) where
  -- the symbols up to a token and with it
  pub front-next : (lexed : Lexed) (i : ℕ) (token : Token) (slice : List ℕ) (x : S) → slice_get lexed.tokens i ≡ Some token → IfSome (slice_get lexed.tokens i) (λ t. slice ≡ slice_of lexed t) → symbol_of token.kind slice ≡ x
      → front symbol_of lexed (i + 1) ≡ front symbol_of lexed i ++ x ∷ []
  front-next lexed i token slice x found sliced is =
      let here = of_token lexed.tokens i token (λ t. slice ≡ slice_of lexed t) found sliced in
      let same : symbol_of token.kind (slice_of lexed token) ≡ x = ap (symbol_of token.kind) (sym here) ∙ is in
      ap (symbols_of symbol_of lexed) (taken_next lexed.tokens i token found) ∙ map-append (λ (t : Token). symbol_of t.kind (slice_of lexed t)) (take i lexed.tokens) (token ∷ [])
      ∙ ap (λ y. front symbol_of lexed i ++ y ∷ []) same

  -- the symbols of the text go on behind those of the first tokens
  pub symbols-split : (lexed : Lexed) (i : ℕ) (token : Token) → slice_get lexed.tokens i ≡ Some token → symbols symbol_of lexed ≡ front symbol_of lexed (i + 1) ++ symbols_of symbol_of lexed (drop (suc i) lexed.tokens)
  symbols-split lexed i token found =
      let f = λ (t : Token). symbol_of t.kind (slice_of lexed t) in
      ap (map f) (split_at lexed.tokens i token found) ∙ map-append f (take i lexed.tokens) (token ∷ drop (suc i) lexed.tokens)
      ∙ sym (append_assoc (map f (take i lexed.tokens)) (f token ∷ []) (map f (drop (suc i) lexed.tokens)))
      ∙ ap (λ x. x ++ map f (drop (suc i) lexed.tokens)) (sym (map-append f (take i lexed.tokens) (token ∷ [])) ∙ ap (map f) (sym (taken_next lexed.tokens i token found)))

  pub front-whole : (lexed : Lexed) → front symbol_of lexed (length lexed.tokens) ≡ symbols symbol_of lexed
  front-whole lexed = ap (symbols_of symbol_of lexed) (take-length lexed.tokens)

  -- as many symbols as tokens
  pub length-symbols_of : (lexed : Lexed) (tokens : List Token) → length (symbols_of symbol_of lexed tokens) ≡ length tokens
  length-symbols_of lexed tokens = length-map tokens (λ (t : Token). symbol_of t.kind (slice_of lexed t))

ascii_byte : (b : ℕ) → is_name_byte b ≡ true → b < 128
ascii_byte b is = grind (arith, nat_tests)

ascii_bytes : (bytes : List ℕ) → list_all is_name_byte bytes ≡ true → (i : ℕ) → slice_index bytes i < 128
ascii_bytes [] all i = omega arith
ascii_bytes (b ∷ bs) all zero = ascii_byte b (and_both (is_name_byte b) (list_all is_name_byte bs) all).0
ascii_bytes (b ∷ bs) all (suc i) = ascii_bytes bs (and_both (is_name_byte b) (list_all is_name_byte bs) all).1 i

-- the bytes of a name token are text
pub token_is_utf8 : (lexed : Lexed) (i : ℕ) (token : Token) (bytes : List ℕ) → slice_get lexed.tokens i ≡ Some token → token.kind ≡ kinds.Name → IfSome (slice_get lexed.tokens i) (λ t. Spells t.kind bytes) → IsUtf8 bytes
token_is_utf8 lexed i token bytes found named spelled =
    let as_name : Spells kinds.Name bytes = subst (λ k. Spells k bytes) named (of_token lexed.tokens i token (λ t. Spells t.kind bytes) found spelled) in
    IsUtf8-from_ascii bytes (ascii_bytes bytes (identifier_bytes bytes as_name.0))
