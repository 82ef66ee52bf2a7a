-- Which formula the symbols of a text read as, and what can stand behind the first of them.
use Rattle.std.specs.Prelude.{◌≡◌, ℕ, ◌≤◌, List, [], ◌∷◌, ◌++◌}
use Rattle.ms_text.specs.TokenList.{Lexed}
use Rattle.ms_presburger.specs.Tree.{Arithmetic, depth, free_names}
use Rattle.ms_presburger.specs.View.{arithmetic_of}
use Rattle.ms_presburger.specs.declared.linear.Problem.{Problem}
use Rattle.ms_presburger_parse.specs.Grammar.{spelled, IsGrammatical}
use Rattle.ms_presburger_parse.specs.Symbol.{Symbol, semicolon, symbols}

-- The symbols are a grammatical formula and a semicolon.
pub record ReadsAtAnyDepth (all : List Symbol) (f : Arithmetic) : Type 0 where
  pub is_spelled : all ≡ spelled f ++ semicolon ∷ []
  pub grammatical : IsGrammatical f

-- the greatest depth of a formula, brackets counted
abbrev pub greatest_depth : ℕ
greatest_depth = 300

-- The same, of a formula that is not too deep.
pub record Reads (all : List Symbol) (f : Arithmetic) : Type 0 where
  pub read : ReadsAtAnyDepth all f
  pub shallow : depth f ≤ greatest_depth

-- the tokens of a text read as a formula, beside its free names, each once, by their first free places
pub record ReadsAsProblem (lexed : Lexed) (problem : Problem) : Type 0 where
  pub reads : Reads (symbols lexed) (arithmetic_of problem.formula)
  pub names : problem.names ≡ free_names (arithmetic_of problem.formula)

-- some list of symbols that begins so reads as a formula
abbrev pub CanFollow : List Symbol → Type 0
CanFollow front = (more : List Symbol) × (f : Arithmetic) × Reads (front ++ more) f

-- some list of symbols that begins so would read as a formula if the depth had no limit
abbrev pub CanFollowAtAnyDepth : List Symbol → Type 0
CanFollowAtAnyDepth front = (more : List Symbol) × (f : Arithmetic) × ReadsAtAnyDepth (front ++ more) f
