-- What is kept of a token tells it, with its text.
use Rattle.std.proofs.Common.{◌≡◌, ℕ, zero, suc, ◌≤◌, List, [], ◌∷◌, ◌++◌, length, take, drop, Some, slice_get, slice_range, refl, sym, ap, ◌∙◌, subst, arith, length-take}
use Rattle.std.proofs.lemmas.List.{length-map, take-append-drop, map-append}
use Rattle.ms_text.specs.declared.kept.Kept.{Kept}
use Rattle.ms_text.specs.declared.token.Kind.{Kind}
use Rattle.ms_text.specs.declared.token.Kind.TheVariants as kinds
use Rattle.ms_text.specs.declared.token.Token.{Token}
use Rattle.ms_text.specs.Spelling.{Spells}
use Rattle.ms_text.specs.TokenList.{BeginsWith, IsTokenList, place_behind}
use Rattle.ms_text.specs.inner.Kept.{kind_with, kept_kind, kept_of, token_in, tokens_in}
use Rattle.ms_text.proofs.Lists.{Stands, ReadSoFar, read_more, first_stands, token_stands, length-tokens}

-- its bytes tell again what it is
pub kind_again : (kind : Kind) (slice : List ℕ) → Spells kind slice → kind_with (kept_kind kind) slice ≡ kind
kind_again kinds.Name slice spelled = refl
kind_again (kinds.Word word) slice spelled = refl
kind_again kinds.LeftOut slice spelled = refl
kind_again (kinds.Number value) slice spelled = ap kinds.Number (sym spelled.2)
kind_again kinds.Text slice spelled = refl
kind_again (kinds.Mark mark) slice spelled = refl

-- and the text the token
pub token_again : (bytes : List ℕ) (place : ℕ) (token : Token) → Stands bytes place token → token_in bytes (kept_of token) ≡ token
token_again bytes place token stands =
    ap (λ kind. record { kind = kind; place = token.place; length = token.length }) (kind_again token.kind (slice_range bytes token.place (place_behind token)) stands.spelled)

-- a token that is found from a place on stands in the text
stands_behind : (bytes : List ℕ) (from : ℕ) (token : Token) (rest : List ℕ) → from ≤ length bytes → BeginsWith from (drop from bytes) token rest → Stands bytes from token
stands_behind bytes from token rest within begins =
    let long : length (take from bytes) ≡ from = omega (arith, length-take from bytes, within) in
    subst (λ whole. Stands whole from token) (take-append-drop from bytes)
    (subst (λ place. Stands (take from bytes ++ drop from bytes) place token) long
    (first_stands (take from bytes) (drop from bytes) token rest (subst (λ place. BeginsWith place (drop from bytes) token rest) (sym long) begins)))

-- one more token that is read
pub keep_more : (bytes : List ℕ) (from : ℕ) (all : List Kept) (token : Token) → ReadSoFar bytes from (tokens_in bytes all) → BeginsWith from (drop from bytes) token (drop (place_behind token) bytes) → place_behind token ≤ length bytes → ReadSoFar bytes (place_behind token) (tokens_in bytes (all ++ kept_of token ∷ []))
keep_more bytes from all token read begins within =
    let again = token_again bytes from token (stands_behind bytes from token _ read.within begins) in
    subst (ReadSoFar bytes (place_behind token))
    (sym (map-append (token_in bytes) all (kept_of token ∷ []) ∙ ap (λ one. tokens_in bytes all ++ one ∷ []) again))
    (read_more bytes from (tokens_in bytes all) token read begins within)

-- the token at a place
pub token_at : (bytes : List ℕ) (all : List Kept) (i : ℕ) (one : Kept) → slice_get all i ≡ Some one → slice_get (tokens_in bytes all) i ≡ Some (token_in bytes one)
token_at bytes [] i one at = cc
token_at bytes (k ∷ ks) zero one at =
    let same : k ≡ one = cc in
    ap (λ kept. Some (token_in bytes kept)) same
token_at bytes (k ∷ ks) (suc i) one at = token_at bytes ks i one at

-- stands in the text
pub stands_at : (bytes : List ℕ) (all : List Kept) (i : ℕ) (one : Kept) → IsTokenList 0 bytes (tokens_in bytes all) → slice_get all i ≡ Some one → Stands bytes 0 (token_in bytes one)
stands_at bytes all i one listed at = token_stands [] bytes 0 (tokens_in bytes all) i (token_in bytes one) refl listed (token_at bytes all i one at)

-- there are no more than bytes
pub few_tokens : (bytes : List ℕ) (all : List Kept) → IsTokenList 0 bytes (tokens_in bytes all) → length all ≤ length bytes
few_tokens bytes all listed = omega (arith, length-tokens 0 bytes (tokens_in bytes all) listed, length-map all (token_in bytes))
