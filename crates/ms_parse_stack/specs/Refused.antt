-- What is refused of a text: the first token that no formula can go on with, and why. Which rows of symbols some formula begins
-- with is the matter of each grammar (`CanFollow`), and so is which rows one would begin with if the depth had no limit
-- (`CanFollowAtAnyDepth`).
use Rattle.std.specs.Prelude.{◌≡◌, ◌⊎◌, ℕ, List, [], ◌∷◌, ◌++◌, length}
use Rattle.ms_list.specs.declared.at.At.{At}
use Rattle.ms_edge.specs.declared.refusal.Refusal.{Refusal}
use Rattle.ms_edge.specs.declared.refusal.Refusal.TheVariants as refusals
use Rattle.ms_text.specs.TokenList.{Lexed}
use Rattle.ms_text.specs.declared.token.Kind.{Kind}
use Rattle.ms_text.specs.declared.token.Token.{Token}
use Rattle.ms_parse_stack.specs.Symbols.{symbols, symbols_of}
use Rattle.ms_parse_stack.specs.declared.stop.Stop.{Stop}
use Rattle.ms_parse_stack.specs.declared.stop.Stop.TheVariants as stops

-- what is refused at a place, by why the reading stops there
abbrev pub refusal_of : Stop → At → Refusal
refusal_of stops.Memory at = refusals.Memory
refusal_of stops.Misplaced at = refusals.Grammar at
refusal_of stops.TooDeep at = refusals.Depth at

-- A token of the text, which is the file with this number, stands at the place behind these.
pub record StandsBehind (file : ℕ) (lexed : Lexed) (before : List Token) (token : Token) (at : At) : Type 0 where
  pub after : List Token
  pub stands : lexed.tokens ≡ before ++ token ∷ after
  pub is_place : at ≡ record { file = file; place = token.place }

module _ {S : Type 0} (symbol_of : Kind → List ℕ → S) (CanFollow CanFollowAtAnyDepth : List S → Type 0) where
  -- The tokens up to this one begin a formula, and with it they begin none, however deep formulas might be.
  pub record IsMisplaced (file : ℕ) (lexed : Lexed) (at : At) : Type 0 where
    pub before : List Token
    pub token : Token
    pub stands : StandsBehind file lexed before token at
    pub can_follow : CanFollow (symbols_of symbol_of lexed before)
    pub cannot_follow : ¬ (CanFollowAtAnyDepth (symbols_of symbol_of lexed (before ++ token ∷ [])))

  -- The tokens up to this one begin a formula, and with it they begin none, but would if the depth had no limit.
  pub record IsTooDeepAt (file : ℕ) (lexed : Lexed) (at : At) : Type 0 where
    pub before : List Token
    pub token : Token
    pub stands : StandsBehind file lexed before token at
    pub can_follow : CanFollow (symbols_of symbol_of lexed before)
    pub cannot_follow : ¬ (CanFollow (symbols_of symbol_of lexed (before ++ token ∷ [])))
    pub can_follow_deeper : CanFollowAtAnyDepth (symbols_of symbol_of lexed (before ++ token ∷ []))

  -- The file ends where further tokens could follow.
  pub record EndsEarly (file : ℕ) (lexed : Lexed) (at : At) : Type 0 where
    pub is_end : at ≡ record { file = file; place = length lexed.bytes }
    pub can_follow : CanFollow (symbols symbol_of lexed)

  -- The refusal says where the text leaves the grammar: at the end, where the tokens end too early; at a token that cannot
  -- stand there; or at a token where the formula is too deep.
  abbrev pub NamesFault : ℕ → Lexed → Refusal → Type 0
  NamesFault file lexed (refusals.Grammar at) = EndsEarly file lexed at ⊎ IsMisplaced file lexed at
  NamesFault file lexed (refusals.Depth at) = IsTooDeepAt file lexed at
  NamesFault file lexed _ = ⊥
