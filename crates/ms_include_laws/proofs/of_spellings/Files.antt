-- The names of one file are names of the language, since a token of a name spells one.
use Rattle.std.proofs.Common.{ℕ, List, [], ◌∷◌, ◌++◌, map, slice_range, refl, sym, subst, length, ◌≡◌}
use Rattle.ms_text.specs.declared.token.Kind.{Kind}
use Rattle.ms_text.specs.declared.token.Kind.TheVariants as kinds
use Rattle.ms_text.specs.declared.keyword.Keyword.{Keyword}
use Rattle.ms_text.specs.declared.keyword.Keyword.TheVariants as words
use Rattle.ms_text.specs.declared.mark.Mark.{Mark}
use Rattle.ms_text.specs.declared.mark.Mark.TheVariants as marks
use Rattle.ms_text.specs.declared.token.Token.{Token}
use Rattle.ms_text.specs.Spelling.{Spells}
use Rattle.ms_text.specs.TokenList.{BeginsWith, IsTokenList, Lexed, place_behind, slice_of}
use Rattle.ms_text.proofs.Lists.{first_stands, next_before}
use Rattle.ms_parse_grammar.specs.Symbol.{mark_symbol, placed_symbol, symbol_of, symbols, word_symbol}
use Rattle.ms_parse_grammar.specs.View.{document_of}
use Rattle.ms_include.specs.File.{ReadAs}
use Rattle.ms_logic.specs.declared.source.Source.{Source}
use Rattle.ms_logic.specs.Lists.{Each}
use Rattle.ms_include_laws.proofs.of_spellings.Reading.{Names, SymbolNames, document-named}
use Rattle.ms_include_laws.proofs.of_spellings.Items.{ItemNames, items-named}

-- each token of a list spells its kind
abbrev SpellsItself : List ℕ → Token → Type 0
SpellsItself bytes token = Spells token.kind (slice_range bytes token.place (place_behind token))

tokens-spell : (before bytes : List ℕ) (place : ℕ) (tokens : List Token) → length before ≡ place → IsTokenList place bytes tokens → Each (SpellsItself (before ++ bytes)) tokens
tokens-spell before bytes place [] place_is listed = tt
tokens-spell before bytes place (t ∷ ts) place_is listed =
    let begins = subst (λ p. BeginsWith p bytes t listed.0) (sym place_is) listed.1 in
    let next = next_before before bytes t listed.0 begins in (
      (first_stands before bytes t listed.0 begins).spelled,
      subst (λ whole. Each (SpellsItself whole) ts) (sym next.2) (tokens-spell next.0 listed.0 (place_behind t) ts next.1 listed.2),
    )

-- words and marks are no names

word-named : (word : Keyword) → SymbolNames (word_symbol word)
word-named words.Ws1s = tt
word-named _ = tt

mark-named : (mark : Mark) → SymbolNames (mark_symbol mark)
mark-named marks.Semicolon = tt
mark-named _ = tt

symbol-named : (kind : Kind) (slice : List ℕ) → Spells kind slice → SymbolNames (symbol_of kind slice)
symbol-named kinds.Name slice h = h
symbol-named (kinds.Word word) slice h = word-named word
symbol-named kinds.LeftOut slice h = tt
symbol-named (kinds.Number value) slice h = tt
symbol-named kinds.Text slice h = tt
symbol-named (kinds.Mark mark) slice h = mark-named mark

tokens-named : (number : ℕ) (lexed : Lexed) (tokens : List Token) → Each (SpellsItself lexed.bytes) tokens → Names (map (placed_symbol number lexed) tokens)
tokens-named number lexed [] h = tt
tokens-named number lexed (token ∷ tokens) h = (symbol-named token.kind (slice_of lexed token) h.0, tokens-named number lexed tokens h.1)

pub source-named : (number : ℕ) (bytes : List ℕ) (source : Source) → ReadAs number bytes source → Each ItemNames source.items
source-named number bytes source h =
    let lexed : Lexed = record { bytes = bytes; tokens = h.tokens } in
    let named = tokens-named number lexed h.tokens (tokens-spell [] bytes 0 h.tokens refl h.are_tokens) in
    items-named source.items (document-named (document_of source) (symbols number lexed) h.reads.read named)
