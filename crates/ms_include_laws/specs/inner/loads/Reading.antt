-- What bytes read as, and why they read as nothing.
use Rattle.std.specs.Prelude.{◌≡◌, ◌≢◌, ℕ, List}
use Rattle.ms_edge.specs.declared.refusal.Refusal.{Refusal}
use Rattle.ms_edge.specs.declared.refusal.Refusal.TheVariants.{Memory}
use Rattle.ms_text.specs.TokenList.{Lexed}
use Rattle.ms_logic.specs.declared.source.Source.{Source}
use Rattle.ms_parse.specs.Refused.{IsGrammarFault}
use Rattle.ms_include.specs.File.{ReadAs, ReadAsNone}

-- bytes read as one source at most
abbrev pub ReadAsOneSource : Type 0
ReadAsOneSource = (number : ℕ) (bytes : List ℕ) (one other : Source) → ReadAs number bytes one → ReadAs number bytes other → one ≡ other

-- bytes that read as a source are refused for want of memory alone
abbrev pub SourcesAreRead : Type 0
SourcesAreRead = (number : ℕ) (bytes : List ℕ) (source : Source) (refusal : Refusal) → ReadAs number bytes source → ReadAsNone number bytes refusal → refusal ≡ Memory

-- tokens that read as no source are refused in one way
abbrev pub GrammarFaultsAreOne : Type 0
GrammarFaultsAreOne = (number : ℕ) (lexed : Lexed) (one other : Refusal) → IsGrammarFault number lexed one → IsGrammarFault number lexed other → one ≡ other

-- bytes that read as no source are refused in one way, want of memory aside
abbrev pub RefusalsAreOne : Type 0
RefusalsAreOne =
    (number : ℕ) (bytes : List ℕ) (one other : Refusal) → one ≢ Memory → other ≢ Memory → ReadAsNone number bytes one → ReadAsNone number bytes other → one ≡ other
