-- Where the code stands in a text.
use Rattle.std.specs.Prelude.{◌≡◌, ℕ, List}
use Rattle.ms_text.specs.TokenList.{Lexed}
use Rattle.ms_presburger_parse.specs.Reading.{CanFollow, CanFollowAtAnyDepth}
use Rattle.ms_presburger_parse.specs.Symbol.{Symbol, symbol_of}
use Rattle.ms_presburger_parse.specs.declared.state.Outcome.{Outcome}
use Rattle.ms_parse_stack.specs.Symbols as texts
use Rattle.ms_parse_stack.specs.declared.stop.Stop.{Stop}
use Rattle.ms_parse_stack.specs.inner.Stopped as stops
use Rattle.ms_presburger_parse.specs.inner.Machine.{State, run, start}
use Rattle.ms_presburger_parse.specs.inner.States.{Begun, IsMeasured, state_of}

-- the state behind some symbols
abbrev pub reached : List Symbol → State
reached front = run start front

-- the symbols of the first tokens, so many
abbrev pub front : Lexed → ℕ → List Symbol
front lexed i = texts.front symbol_of lexed i

-- the code has read so many tokens
pub record HasCome (lexed : Lexed) (i : ℕ) (begun : Begun) (outcome : Outcome) : Type 0 where
  pub state : reached (front lexed i) ≡ state_of begun outcome
  pub measured : IsMeasured begun outcome

-- the code stops at the token with this number
abbrev pub StopsAt : Lexed → ℕ → Stop → Type 0
StopsAt lexed i stop = stops.StopsAt symbol_of CanFollow CanFollowAtAnyDepth lexed i stop
