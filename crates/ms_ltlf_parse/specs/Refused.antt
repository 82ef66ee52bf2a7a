-- What `read_trace` refuses: it names the first token that no formula can go on with, and why.
use Rattle.std.specs.Prelude.{ℕ}
use Rattle.ms_edge.specs.declared.refusal.Refusal.{Refusal}
use Rattle.ms_text.specs.TokenList.{Lexed}
use Rattle.ms_ltlf.specs.Tree.{Temporal}
use Rattle.ms_parse_stack.specs.Refused as texts
use Rattle.ms_ltlf_parse.specs.Grammar.{Names}
use Rattle.ms_ltlf_parse.specs.Reading.{Reads, CanFollow, CanFollowAtAnyDepth}
use Rattle.ms_ltlf_parse.specs.Symbol.{symbol_of, symbols}

-- the refusal says where the text leaves the grammar
abbrev pub NamesFault : ℕ → Lexed → Refusal → Type 0
NamesFault file lexed refusal = texts.NamesFault symbol_of CanFollow CanFollowAtAnyDepth file lexed refusal

-- the refusal of the tokens of a text, which is the file with this number
pub record IsTraceFault (file : ℕ) (lexed : Lexed) (refusal : Refusal) : Type 0 where
  pub reads_none : (names : Names) (f : Temporal) → ¬ (Reads (symbols lexed) names f)
  pub names : NamesFault file lexed refusal
