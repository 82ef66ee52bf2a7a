-- What `parse` refuses: it names the first token after which no source of the grammar can follow, and why.
use Rattle.std.specs.Prelude.{◌≡◌, ◌⊎◌, ℕ, true, List, [], ◌∷◌, ◌++◌, length}
use Rattle.ms_list.specs.declared.at.At.{At}
use Rattle.ms_edge.specs.declared.refusal.Refusal.{Refusal}
use Rattle.ms_edge.specs.declared.refusal.Refusal.TheVariants.{Grammar, LeftOut, Depth}
use Rattle.ms_text.specs.TokenList.{Lexed}
use Rattle.ms_logic.specs.declared.source.Source.{Source}
use Rattle.ms_parse_grammar.specs.Continuation.{CanFollow, CanFollowAtAnyDepth}
use Rattle.ms_parse_grammar.specs.Declarations.{ReadsAs}
use Rattle.ms_parse_grammar.specs.Symbol.{Symbol, left_out, Placed, placed, symbols}

-- behind these symbols of the file this one stands at the place
abbrev pub StandsBehind : ℕ → Lexed → List Placed → Symbol → At → Type 0
StandsBehind file lexed before s at = (after : List Placed) × (symbols file lexed ≡ before ++ placed s at ∷ after)

-- The symbols up to this one begin a source, and with it they begin none, however deep expressions might be.
pub record IsMisplaced (file : ℕ) (lexed : Lexed) (s : Symbol) (at : At) : Type 0 where
  pub before : List Placed
  pub stands : StandsBehind file lexed before s at
  pub can_follow : CanFollow before
  pub cannot_follow : ¬ (CanFollowAtAnyDepth (before ++ placed s at ∷ []))

-- The symbols up to this one begin a source, and with it they begin none, but would if the depth had no limit.
pub record IsTooDeepAt (file : ℕ) (lexed : Lexed) (s : Symbol) (at : At) : Type 0 where
  pub before : List Placed
  pub stands : StandsBehind file lexed before s at
  pub can_follow : CanFollow before
  pub cannot_follow : ¬ (CanFollow (before ++ placed s at ∷ []))
  pub can_follow_deeper : CanFollowAtAnyDepth (before ++ placed s at ∷ [])

abbrev pub IsLanguage : Symbol → Type 0
IsLanguage (left_out bytes) = ⊥
IsLanguage _ = Unit {0}

-- the end of the file
abbrev pub end_of : ℕ → Lexed → At
end_of file lexed = record { file = file; place = length lexed.bytes }

-- The file ends where further symbols could follow.
pub record EndsEarly (file : ℕ) (lexed : Lexed) (at : At) : Type 0 where
  pub is_end : at ≡ end_of file lexed
  pub can_follow : CanFollow (symbols file lexed)

-- The refusal says where the text leaves the grammar: at the end, where the symbols end too early; at a symbol of the
-- language, or a word that is left out, which cannot stand there; or at a symbol where an expression is too deep.
abbrev pub NamesFault : ℕ → Lexed → Refusal → Type 0
NamesFault file lexed (Grammar at) = EndsEarly file lexed at ⊎ ((s : Symbol) × IsMisplaced file lexed s at × IsLanguage s)
NamesFault file lexed (LeftOut at word) = IsMisplaced file lexed (left_out word) at
NamesFault file lexed (Depth at) = (s : Symbol) × IsTooDeepAt file lexed s at
NamesFault file lexed _ = ⊥

-- the tokens of the file read as no source
abbrev pub ReadsNone : ℕ → Lexed → Type 0
ReadsNone file lexed = (source : Source) → ¬ (ReadsAs true file lexed source)

-- the refusal of the tokens of a text, which is the file with this number
pub record IsGrammarFault (file : ℕ) (lexed : Lexed) (refusal : Refusal) : Type 0 where
  pub reads_none : ReadsNone file lexed
  pub names : NamesFault file lexed refusal
