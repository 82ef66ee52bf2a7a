-- A text of a source.
use Rattle.std.specs.Prelude.{ℕ, false, List}
use Rattle.ms_text.specs.declared.token.Token.{Token}
use Rattle.ms_text.specs.TokenList.{IsTokenList}
use Rattle.ms_logic.specs.declared.source.Source.{Source}
use Rattle.ms_parse_grammar.specs.Declarations.{ReadsAs}

-- the text has tokens, and they read as the source, places aside
pub record IsTextOf (source : Source) (bytes : List ℕ) : Type 0 where
  pub tokens : List Token
  pub listed : IsTokenList 0 bytes tokens
  pub reads : ReadsAs false 0 (record { bytes = bytes; tokens = tokens }) source
