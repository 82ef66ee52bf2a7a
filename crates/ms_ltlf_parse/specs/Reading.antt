-- Which formula the symbols of a text read as, and what can stand behind the first of them.
use Rattle.std.specs.Prelude.{◌≡◌, ℕ, ◌≤◌, nat_lt, if◌then◌else◌, List, [], ◌∷◌, ◌++◌, length, bytes_eq}
use Rattle.std.specs.Prelude.{suc}
use Rattle.ms_text.specs.TokenList.{Lexed}
use Rattle.ms_ltlf.specs.Tree.{Temporal, depth, IsOver}
use Rattle.ms_ltlf.specs.View.{temporal_of}
use Rattle.ms_ltlf.specs.declared.trace.Trace.{Trace}
use Rattle.ms_ltlf_parse.specs.Grammar.{Names, spelled, IsGrammatical}
use Rattle.ms_ltlf_parse.specs.Symbol.{Symbol, name, semicolon, symbols}

-- the first place of a name, and where it is not among the names, how many they are
abbrev pub place : Names → List ℕ → ℕ
place [] n = 0
place (m ∷ ms) n = if bytes_eq n m then 0 else suc (place ms n)

-- the names, and behind them one that is not among them
abbrev pub with_name : Names → List ℕ → Names
with_name names n = if nat_lt (place names n) (length names) then names else names ++ n ∷ []

-- the names, and behind them those of a symbol that are not among them
abbrev pub with_sight : Names → Symbol → Names
with_sight names (name n) = with_name names n
with_sight names _ = names

-- so for each symbol of a row
abbrev pub with_sights : Names → List Symbol → Names
with_sights names [] = names
with_sights names (s ∷ more) = with_sights (with_sight names s) more

-- the different names among the symbols, in the order of first sight
abbrev pub first_sights : List Symbol → Names
first_sights all = with_sights [] all

-- The symbols are a grammatical formula and a semicolon. The propositions have numbers in the order of first sight.
pub record ReadsAtAnyDepth (all : List Symbol) (names : Names) (f : Temporal) : Type 0 where
  pub is_spelled : all ≡ spelled names f ++ semicolon ∷ []
  pub grammatical : IsGrammatical f
  pub numbered : names ≡ first_sights all
  pub named : IsOver (length names) f

-- the greatest depth of a formula, brackets counted
abbrev pub greatest_depth : ℕ
greatest_depth = 300

-- The same, of a formula that is not too deep.
pub record Reads (all : List Symbol) (names : Names) (f : Temporal) : Type 0 where
  pub read : ReadsAtAnyDepth all names f
  pub shallow : depth f ≤ greatest_depth

-- the tokens of a text read as names and a formula over them
abbrev pub ReadsAsTrace : Lexed → Trace → Type 0
ReadsAsTrace lexed trace = Reads (symbols lexed) trace.names (temporal_of trace.formula)

-- some list of symbols that begins so reads as a formula
abbrev pub CanFollow : List Symbol → Type 0
CanFollow front = (more : List Symbol) × (names : Names) × (f : Temporal) × Reads (front ++ more) names f

-- some list of symbols that begins so would read as a formula if the depth had no limit
abbrev pub CanFollowAtAnyDepth : List Symbol → Type 0
CanFollowAtAnyDepth front = (more : List Symbol) × (names : Names) × (f : Temporal) × ReadsAtAnyDepth (front ++ more) names f
