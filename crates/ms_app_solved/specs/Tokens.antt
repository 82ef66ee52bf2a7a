-- The tokens of a file that is read alone, as the file 0, or why it has none.
use Rattle.std.specs.Prelude.{◌≡◌, ℕ, List, [], ◌∷◌, Option, None}
use Rattle.ms_edge.specs.declared.refusal.Refusal.{Refusal}
use Rattle.ms_edge.specs.declared.refusal.Refusal.TheVariants.{Memory}
use Rattle.ms_edge.specs.Files.{Holding, Seen}
use Rattle.ms_include.specs.File.{AreBytes, IsUnread}
use Rattle.ms_text.specs.Fault.{IsCause}
use Rattle.ms_text.specs.TokenList.{IsTokenList, Lexed}

-- the tokens are those of the file of this name, as far as its content is told
pub record AreTokensOf (held : Option Holding) (name : List ℕ) (lexed : Lexed) : Type 0 where
  pub are_bytes : AreBytes held name lexed.bytes
  pub are_tokens : IsTokenList 0 lexed.bytes lexed.tokens

-- The file of this name gives no tokens, and these are the files that the refusal may number.
pub data HasNoTokens (seen : Seen) (name : List ℕ) (refusal : Refusal) (files : List (List ℕ)) : Type 0 where
  -- it is not read
  unread : (why : IsUnread seen None name refusal) (none : files ≡ []) → HasNoTokens seen name refusal files
  -- its bytes have none
  no_tokens : (bytes : List ℕ) (are : AreBytes seen.before.held name bytes) (why : IsCause 0 bytes refusal) (one : files ≡ name ∷ []) → HasNoTokens seen name refusal files
  -- want of memory needs no cause
  no_memory : (why : refusal ≡ Memory) → HasNoTokens seen name refusal files
