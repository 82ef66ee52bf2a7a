-- Where the reading of symbols stops, by the number of a token.
use Rattle.std.specs.Prelude.{ℕ, zero, true, List, [], ◌∷◌, ◌++◌, take}
use Rattle.ms_text.specs.TokenList.{Lexed}
use Rattle.ms_logic.specs.declared.source.Source.{Source}
use Rattle.ms_parse_grammar.specs.Continuation.{CanFollow, CanFollowAtAnyDepth}
use Rattle.ms_parse_grammar.specs.Declarations.{ReadsAs}
use Rattle.ms_parse_grammar.specs.Symbol.{word_ws1s, Placed, placed, symbols}
use Rattle.ms_parse_steps.specs.declared.stop.Stop.{Stop}
use Rattle.ms_parse_steps.specs.declared.stop.Stop.TheVariants as stops
use Rattle.ms_parse_steps.specs.inner.Terminals.{behind}

-- The first symbol that is left cannot stand there, or none is left where some could.
abbrev pub Misplaces : List Placed → List Placed → Type 0
Misplaces before [] = CanFollow before
Misplaces before (y ∷ after) = CanFollow before × ¬ (CanFollowAtAnyDepth (before ++ y ∷ []))

-- with the first symbol that is left an expression is too deep
abbrev pub Deepens : List Placed → List Placed → Type 0
Deepens before [] = ⊥
Deepens before (y ∷ after) = CanFollow before × ¬ (CanFollow (before ++ y ∷ [])) × CanFollowAtAnyDepth (before ++ y ∷ [])

-- the fault is at the token with this number, or at the end
abbrev pub MisplacesAt : ℕ → Lexed → ℕ → Type 0
MisplacesAt file lexed i = Misplaces (take i (symbols file lexed)) (behind file lexed i)

abbrev pub DeepensAt : ℕ → Lexed → ℕ → Type 0
DeepensAt file lexed i = Deepens (take i (symbols file lexed)) (behind file lexed i)

-- where the first symbol of all is `ws1s`, it may be the header's, and what stands behind it may not
abbrev pub behind_word : List Placed → ℕ → ℕ
behind_word (placed word_ws1s at ∷ ts) zero = 1
behind_word ts i = i

-- the tokens of the file read as no source
abbrev pub ReadsNone : ℕ → Lexed → Type 0
ReadsNone file lexed = (source : Source) → ¬ (ReadsAs true file lexed source)

-- where the reading stops: for want of memory, or at the token with a number
abbrev pub StopsAt : ℕ → Lexed → Stop → Type 0
StopsAt file lexed stops.Memory = Unit {0}
StopsAt file lexed (stops.Refused i) = ReadsNone file lexed × MisplacesAt file lexed (behind_word (symbols file lexed) i)
StopsAt file lexed (stops.TooDeep i) = ReadsNone file lexed × DeepensAt file lexed i
