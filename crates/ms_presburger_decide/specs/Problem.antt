-- The formula of a file, what is printed of it, and why a file is refused.
use Rattle.std.specs.Prelude.{◌≡◌, ℕ, ◌⊎◌, List, [], ◌∷◌, Option, None}
use Rattle.ms_app_solved.specs.Alone.{IsEnoughAlone, IsUnsolvedAlone}
use Rattle.ms_build_source.specs.Limits.{IsWithinLimits}
use Rattle.ms_edge.specs.declared.refusal.Refusal.{Refusal}
use Rattle.ms_edge.specs.declared.refusal.Refusal.TheVariants.{Memory}
use Rattle.ms_edge.specs.Files.{Holding, Seen}
use Rattle.ms_include.specs.File.{AreBytes, IsUnread}
use Rattle.ms_logic.specs.declared.checked.Checked.{Checked}
use Rattle.ms_presburger.specs.Source.{IsSetSource, set_problem}
use Rattle.ms_presburger.specs.Tree.{Arithmetic, free_names}
use Rattle.ms_presburger_decide.specs.Answer.{IsNumberAnswer}
use Rattle.ms_presburger_parse.specs.Reading.{Reads}
use Rattle.ms_presburger_parse.specs.Refused.{IsProblemFault}
use Rattle.ms_presburger_parse.specs.Symbol.{symbols}
use Rattle.ms_report.specs.Numbers.{NumberAnswer, number_report_of}
use Rattle.ms_text.specs.Fault.{IsCause}
use Rattle.ms_text.specs.TokenList.{IsTokenList}
use Rattle.ms_text.specs.declared.token.Token.{Token}

-- the bytes are the text of the formula
pub record IsText (bytes : List ℕ) (f : Arithmetic) : Type 0 where
  pub tokens : List Token
  pub are_tokens : IsTokenList 0 bytes tokens
  pub reads : Reads (symbols (record { bytes = bytes; tokens = tokens })) f

-- the bytes of the file 0 have no tokens, or tokens that no formula has
abbrev pub IsNoText : List ℕ → Refusal → Type 0
IsNoText bytes refusal =
    IsCause 0 bytes refusal
    ⊎ ((tokens : List Token) × IsTokenList 0 bytes tokens × IsProblemFault 0 (record { bytes = bytes; tokens = tokens }) refusal)

-- the file of this name has the formula, as far as its content is told
pub record IsProblemOf (held : Option Holding) (name : List ℕ) (f : Arithmetic) : Type 0 where
  pub bytes : List ℕ
  pub are_bytes : AreBytes held name bytes
  pub text : IsText bytes f

-- it has it, and the source of sets that says the same is within the limits on depth and size
pub record IsSolvableProblem (held : Option Holding) (name : List ℕ) (f : Arithmetic) : Type 0 where
  pub problem : IsProblemOf held name f
  pub within : IsWithinLimits (set_problem (free_names f) f)

-- it has one that is so
abbrev pub ProblemCanBeDecided : Option Holding → List ℕ → Type 0
ProblemCanBeDecided held name = (f : Arithmetic) × IsSolvableProblem held name f

-- what is printed of the file of this name: the verdict on its formula over all natural numbers, and the first numbers
pub record IsDecidedProblem (held : Option Holding) (name text : List ℕ) : Type 0 where
  pub formula : Arithmetic
  pub is : IsSolvableProblem held name formula
  pub answer : NumberAnswer
  pub is_answer : IsNumberAnswer formula answer
  pub printed : text ≡ number_report_of (free_names formula) answer

-- the source of sets of the formula is not solved under the limit
pub record IsUnsolvedProblem (f : Arithmetic) (limit : ℕ) (refusal : Refusal) : Type 0 where
  pub source : Checked
  pub is : IsSetSource (free_names f) f source
  pub unsolved : IsUnsolvedAlone source limit refusal

-- a limit is enough for the formula of the file: for the source of sets that says the same
abbrev pub IsEnoughForProblem : Option Holding → List ℕ → ℕ → Type 0
IsEnoughForProblem held name limit =
    (f : Arithmetic) (source : Checked) → IsProblemOf held name f → IsSetSource (free_names f) f source → IsEnoughAlone source limit

-- The file of this name is refused under a limit on nodes and states, and these are the files that the refusal may number.
pub data IsRefusedProblem (seen : Seen) (name : List ℕ) (limit : ℕ) (refusal : Refusal) (files : List (List ℕ)) : Type 0 where
  -- it is not read
  unread : (why : IsUnread seen None name refusal) (none : files ≡ []) → IsRefusedProblem seen name limit refusal files
  -- it has no formula
  no_formula : (bytes : List ℕ) (are : AreBytes seen.before.held name bytes) (why : IsNoText bytes refusal) (one : files ≡ name ∷ [])
      → IsRefusedProblem seen name limit refusal files
  -- it has one that is not solved
  unsolved : (f : Arithmetic) (is : IsProblemOf seen.before.held name f) (why : IsUnsolvedProblem f limit refusal) (one : files ≡ name ∷ [])
      → IsRefusedProblem seen name limit refusal files
  -- want of memory needs no cause
  no_memory : (why : refusal ≡ Memory) → IsRefusedProblem seen name limit refusal files
