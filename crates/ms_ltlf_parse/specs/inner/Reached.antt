-- Where the code stands in a text.
use Rattle.std.specs.Prelude.{◌≡◌, ℕ, List}
use Rattle.indexmap.specs.IndexMap.{get_by_text}
use Rattle.ms_text.specs.TokenList.{Lexed}
use Rattle.ms_ltlf_parse.specs.Reading.{place, first_sights, CanFollow, CanFollowAtAnyDepth}
use Rattle.ms_ltlf_parse.specs.Symbol.{Symbol, symbol_of}
use Rattle.ms_ltlf_parse.specs.declared.read.Reader.{Reader}
use Rattle.ms_parse_stack.specs.Symbols as texts
use Rattle.ms_parse_stack.specs.declared.stop.Stop.{Stop}
use Rattle.ms_parse_stack.specs.inner.Stopped as stops
use Rattle.ms_ltlf_parse.specs.inner.Machine.{State, run, start}
use Rattle.ms_ltlf_parse.specs.inner.Sights.{IsTable}
use Rattle.ms_ltlf_parse.specs.inner.States.{IsMeasured, Outcome, state_of}

-- the state behind some symbols
abbrev pub reached : List Symbol → State
reached front = run (place (first_sights front)) start front

-- the symbols of the first tokens, so many
abbrev pub front : Lexed → ℕ → List Symbol
front lexed i = texts.front symbol_of lexed i

-- the code has read so many tokens
pub record HasCome (lexed : Lexed) (i : ℕ) (reader : Reader) (outcome : Outcome) : Type 0 where
  pub names : reader.sights.names ≡ first_sights (front lexed i)
  pub table : IsTable (λ n. get_by_text reader.sights.places n) reader.sights.names
  pub state : reached (front lexed i) ≡ state_of reader.begun outcome
  pub measured : IsMeasured reader.begun outcome

-- the code stops at the token with this number
abbrev pub StopsAt : Lexed → ℕ → Stop → Type 0
StopsAt lexed i stop = stops.StopsAt symbol_of CanFollow CanFollowAtAnyDepth lexed i stop
