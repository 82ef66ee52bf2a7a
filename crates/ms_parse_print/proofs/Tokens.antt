-- The tokens of a printed text, and the symbols of any tokens.
use Rattle.std.proofs.Common.{◌≡◌, ℕ, ◌+◌, ◌-◌, List, [], ◌∷◌, ◌++◌, length, take, drop, map, slice_range, refl, sym, ap, ◌∙◌, subst, arith, append_assoc, length-append}
use Rattle.std.specs.List.{flat_map}
use Rattle.std.proofs.lemmas.List.{take_at, drop_at, append-nil}
use Rattle.ms_text.specs.declared.token.Token.{Token}
use Rattle.ms_text.specs.Gap.{IsGap, blank}
use Rattle.ms_text.specs.TokenList.{Lexed, BeginsWith, IsTokenList, token_at, slice_of, place_behind}
use Rattle.ms_text.proofs.Lists.{next_before}
use Rattle.ms_parse_grammar.specs.Symbol.{Symbol, Placed, placed, symbol_of, placed_symbol}
use Rattle.ms_parse_print.specs.inner.Printed.{kind_of, spelling, blank_behind, spelled, IsSpellable, AreSpellable}
use Rattle.ms_parse_print.proofs.Spelled.{says, said_is_spellable, blank_is_blank}

-- symbols without their places
abbrev pub unplaced : List Placed → List Symbol
unplaced [] = []
unplaced (placed s at ∷ more) = s ∷ unplaced more

-- the tokens of the symbols, the first of which stands at this place
abbrev pub tokens_from : ℕ → List Symbol → List Token
tokens_from place [] = []
tokens_from place (s ∷ ss) = token_at (kind_of s) place (length (spelling s)) ∷ tokens_from (place + length (spelling s) + 1) ss

-- they are the tokens of what is written for the symbols, behind any gap
pub tokens_listed : (gap : List ℕ) (place : ℕ) (ss : List Symbol) → ((behind : List ℕ) → IsGap gap behind) → AreSpellable ss
    → IsTokenList place (gap ++ flat_map spelled ss) (tokens_from (place + length gap) ss)
tokens_listed gap place [] is_gap spellable = subst (λ bytes. IsGap bytes []) (sym (append-nil gap)) (is_gap [])
tokens_listed gap place (s ∷ ss) is_gap spellable = (
  blank_behind s ∷ flat_map spelled ss,
  record {
    gap = gap;
    slice = spelling s;
    made_up = ap (λ b. gap ++ b) (append_assoc (spelling s) (blank_behind s ∷ []) (flat_map spelled ss));
    is_gap = is_gap (spelling s ++ blank_behind s ∷ flat_map spelled ss);
    is_token = (says s spellable.0).is_token (blank_behind s) (flat_map spelled ss) (blank_is_blank s);
    place_is = refl;
    length_is = refl;
  },
  tokens_listed (blank_behind s ∷ []) (place + length gap + length (spelling s)) ss (λ behind. (blank (blank_behind s) ∷ [], (blank_is_blank s, tt), refl)) spellable.1,
)

slice_at : (whole front slice rest : List ℕ) (place : ℕ) → length front ≡ place → whole ≡ front ++ (slice ++ rest) → slice_range whole place (place + length slice) ≡ slice
slice_at whole front slice rest place long e =
    ap (λ b. take (place + length slice - place) (drop place b)) e ∙ ap (take (place + length slice - place)) (drop_at front (slice ++ rest) place long) ∙ take_at slice rest (place + length slice - place) (omega arith)

-- they say the symbols
pub placed_tokens : (lexed : Lexed) (front : List ℕ) (place : ℕ) (ss : List Symbol) → length front ≡ place → lexed.bytes ≡ front ++ flat_map spelled ss → AreSpellable ss
    → unplaced (map (placed_symbol 0 lexed) (tokens_from place ss)) ≡ ss
placed_tokens lexed front place [] long e spellable = refl
placed_tokens lexed front place (s ∷ ss) long e spellable =
    let grouped : lexed.bytes ≡ front ++ (spelling s ++ (blank_behind s ∷ flat_map spelled ss)) = e ∙ ap (λ b. front ++ b) (append_assoc (spelling s) (blank_behind s ∷ []) (flat_map spelled ss)) in
    let here : symbol_of (kind_of s) (slice_range lexed.bytes place (place + length (spelling s))) ≡ s =
    ap (symbol_of (kind_of s)) (slice_at lexed.bytes front (spelling s) (blank_behind s ∷ flat_map spelled ss) place long grouped) ∙ (says s spellable.0).said
    in
    let next : lexed.bytes ≡ (front ++ spelled s) ++ flat_map spelled ss = e ∙ sym (append_assoc front (spelled s) (flat_map spelled ss)) in
    let behind : length (front ++ spelled s) ≡ place + length (spelling s) + 1 = omega (arith, length-append front (spelled s), length-append (spelling s) (blank_behind s ∷ [])) in
    let rest = placed_tokens lexed (front ++ spelled s) (place + length (spelling s) + 1) ss behind next spellable.1 in
    (λ i. here i ∷ rest i)

-- the symbols of any tokens can be said
pub all_spellable : (file : ℕ) (lexed : Lexed) (front bytes : List ℕ) (place : ℕ) (tokens : List Token) → length front ≡ place → lexed.bytes ≡ front ++ bytes → IsTokenList place bytes tokens
    → AreSpellable (unplaced (map (placed_symbol file lexed) tokens))
all_spellable file lexed front bytes place [] long e listed = tt
all_spellable file lexed front bytes place (t ∷ ts) long e (rest, begins, further) =
    let begins_here = subst (λ p. BeginsWith p bytes t rest) (sym long) begins in
    let gap = begins.gap in
    let slice = begins.slice in
    let made_up : lexed.bytes ≡ (front ++ gap) ++ (slice ++ rest) = e ∙ ap (λ b. front ++ b) begins.made_up ∙ sym (append_assoc front gap (slice ++ rest)) in
    let at : length (front ++ gap) ≡ t.place = omega (arith, length-append front gap, begins.place_is) in
    let cut : slice_of lexed t ≡ slice = ap (λ n. slice_range lexed.bytes t.place (t.place + n)) begins.length_is ∙ slice_at lexed.bytes (front ++ gap) slice rest t.place at made_up in
    let next = next_before front bytes t rest begins_here in (
      subst (λ b. IsSpellable (symbol_of t.kind b)) (sym cut) (said_is_spellable t.kind slice rest begins.is_token),
      all_spellable file lexed next.0 rest (place_behind t) ts next.1 (e ∙ next.2) further,
    )
