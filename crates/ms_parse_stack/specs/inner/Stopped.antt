-- Where the reading of a text stops.
use Rattle.std.specs.Prelude.{ℕ, ◌+◌, List, Result, Ok, Err}
use Rattle.ms_text.specs.TokenList.{Lexed}
use Rattle.ms_text.specs.declared.token.Kind.{Kind}
use Rattle.ms_parse_stack.specs.Symbols.{front}
use Rattle.ms_parse_stack.specs.declared.stop.Stop.{Stop}
use Rattle.ms_parse_stack.specs.declared.stop.Stop.TheVariants.{Memory, Misplaced, TooDeep}

-- What a call gives that takes a step, or a part of one: this holds of what it makes, this where the symbol cannot stand there, and
-- this where the formula becomes too deep. Want of memory tells nothing.
abbrev pub Gives : {T : Type 0} → (T → Type 0) → Type 0 → Type 0 → Result T Stop → Type 0
Gives made misplaced deep (Ok x) = made x
Gives made misplaced deep (Err Memory) = Unit {0}
Gives made misplaced deep (Err Misplaced) = misplaced
Gives made misplaced deep (Err TooDeep) = deep

module _ {S : Type 0} (symbol_of : Kind → List ℕ → S) (CanFollow CanFollowAtAnyDepth : List S → Type 0) where
  -- the reading stops at the token with this number, since memory is refused, or the symbols with that of this token begin no formula
  abbrev pub StopsAt : Lexed → ℕ → Stop → Type 0
  StopsAt lexed i Memory = Unit {0}
  StopsAt lexed i Misplaced = CanFollow (front symbol_of lexed i) × (¬ (CanFollowAtAnyDepth (front symbol_of lexed (i + 1))))
  StopsAt lexed i TooDeep = CanFollow (front symbol_of lexed i) × (¬ (CanFollow (front symbol_of lexed (i + 1)))) × CanFollowAtAnyDepth (front symbol_of lexed (i + 1))
