-- The tokens of a generated text, its reading and its load.
use Rattle.std.proofs.Common.{◌≡◌, ℕ, ◌-◌, ◌<◌, true, List, [], ◌∷◌, arith, refl, subst, sym}
use Rattle.ms_gen.specs.Generated.{IsNumber, generated}
use Rattle.ms_text.specs.TokenList.{IsTokenList, Lexed}
use Rattle.ms_logic.specs.declared.mode.Mode.TheVariants.{Ws1s}
use Rattle.ms_logic.specs.declared.source.Loaded.{Loaded}
use Rattle.ms_parse_grammar.specs.Declarations.{Reads}
use Rattle.ms_parse_grammar.specs.Symbol.{symbols}
use Rattle.ms_parse_grammar.specs.View.{document_of}
use Rattle.ms_include.specs.File.{ReadAs}
use Rattle.ms_include.specs.Load.{IsLoadedText}
use Rattle.ms_gen.proofs.Pieces.{symbols_from, symbols_listed, tokens_from, tokens_listed}
use Rattle.ms_gen.proofs.Reading.{document, document_reads}
use Rattle.ms_gen.proofs.Source.{source, source-viewed}
use Rattle.ms_gen.proofs.Spelling.{pieces, pieces_are, text_of_pieces}

pub last_below : (number : ℕ) → IsNumber number → number - 1 < 2000
last_below number is = omega (arith, is.some, is.small)

module _ (number : ℕ) (is : IsNumber number) where
  abbrev pub last : ℕ
  last = number - 1

  pub tokens-are : IsTokenList 0 (generated number) (tokens_from 0 (pieces last))
  tokens-are = subst (λ bytes. IsTokenList 0 bytes (tokens_from 0 (pieces last))) (text_of_pieces last) (tokens_listed 0 (pieces last) (pieces_are last (last_below number is)))

  abbrev pub lexed : Lexed
  lexed = record { bytes = generated number; tokens = tokens_from 0 (pieces last) }

  symbols-are : symbols 0 lexed ≡ symbols_from 0 (pieces last)
  symbols-are = symbols_listed lexed [] 0 (pieces last) refl (sym (text_of_pieces last))

  pub document-read : Reads true (symbols 0 lexed) (document_of (source last))
  document-read = subst (Reads true (symbols 0 lexed)) (sym (source-viewed last)) (subst (λ all. Reads true all (document last)) (sym symbols-are) (document_reads last))

  read-as : ReadAs 0 (generated number) (source last)
  read-as = record { tokens = tokens_from 0 (pieces last); are_tokens = tokens-are; reads = document-read }

  module _ (name : List ℕ) where
    abbrev pub loaded : Loaded
    loaded = record { mode = Ws1s; items = (source last).items; files = name ∷ [] }

    pub is-loaded : IsLoadedText name (generated number) loaded
    is-loaded = record { source = source last; reads = read-as; alone = refl; mode = refl; items = refl; files = refl }
