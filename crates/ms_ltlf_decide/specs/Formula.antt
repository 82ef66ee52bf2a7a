-- The formula of a file, what is printed of it, and why a file is refused.
use Rattle.std.specs.Prelude.{◌≡◌, ℕ, ◌⊎◌, List, [], ◌∷◌, length, Option, None}
use Rattle.ms_app_solved.specs.Alone.{IsEnoughAlone, IsUnsolvedAlone}
use Rattle.ms_build_source.specs.Limits.{IsWithinLimits}
use Rattle.ms_edge.specs.declared.refusal.Refusal.{Refusal}
use Rattle.ms_edge.specs.declared.refusal.Refusal.TheVariants.{Memory}
use Rattle.ms_edge.specs.Files.{Holding, Seen}
use Rattle.ms_include.specs.File.{AreBytes, IsUnread}
use Rattle.ms_logic.specs.declared.checked.Checked.{Checked}
use Rattle.ms_ltlf.specs.Source.{IsStringSource, string_problem}
use Rattle.ms_ltlf.specs.Tree.{Temporal}
use Rattle.ms_ltlf_decide.specs.Answer.{IsTraceAnswer}
use Rattle.ms_ltlf_parse.specs.Grammar.{Names}
use Rattle.ms_ltlf_parse.specs.Reading.{Reads}
use Rattle.ms_ltlf_parse.specs.Refused.{IsTraceFault}
use Rattle.ms_ltlf_parse.specs.Symbol.{symbols}
use Rattle.ms_report.specs.declared.found.Answer.{Answer}
use Rattle.ms_report.specs.Report.{trace_report_of}
use Rattle.ms_text.specs.Fault.{IsCause}
use Rattle.ms_text.specs.TokenList.{IsTokenList}
use Rattle.ms_text.specs.declared.token.Token.{Token}

-- the bytes are the text of the formula over propositions with these names
pub record IsText (bytes : List ℕ) (names : Names) (f : Temporal) : Type 0 where
  pub tokens : List Token
  pub are_tokens : IsTokenList 0 bytes tokens
  pub reads : Reads (symbols (record { bytes = bytes; tokens = tokens })) names f

-- the bytes of the file 0 have no tokens, or tokens that no formula has
abbrev pub IsNoText : List ℕ → Refusal → Type 0
IsNoText bytes refusal =
    IsCause 0 bytes refusal
    ⊎ ((tokens : List Token) × IsTokenList 0 bytes tokens × IsTraceFault 0 (record { bytes = bytes; tokens = tokens }) refusal)

-- the file of this name has the formula, as far as its content is told
pub record IsFormulaOf (held : Option Holding) (name : List ℕ) (names : Names) (f : Temporal) : Type 0 where
  pub bytes : List ℕ
  pub are_bytes : AreBytes held name bytes
  pub text : IsText bytes names f

-- it has one, and the source of strings that says the same is within the limits on depth and size
pub record IsSolvable (held : Option Holding) (name : List ℕ) (names : Names) (f : Temporal) : Type 0 where
  pub formula : IsFormulaOf held name names f
  pub within : IsWithinLimits (string_problem names f)

-- what is printed of the file of this name: the verdict on its formula over all traces, and the first traces
pub record IsDecidedFormula (held : Option Holding) (name text : List ℕ) : Type 0 where
  pub names : Names
  pub formula : Temporal
  pub is : IsSolvable held name names formula
  pub answer : Answer
  pub is_answer : IsTraceAnswer (length names) formula answer
  pub printed : text ≡ trace_report_of names answer

-- the source of strings of the formula is not solved under the limit
pub record IsUnsolvedFormula (names : Names) (f : Temporal) (limit : ℕ) (refusal : Refusal) : Type 0 where
  pub source : Checked
  pub is : IsStringSource names f source
  pub unsolved : IsUnsolvedAlone source limit refusal

-- a limit is enough for the formula of the file: for the source of strings that says the same
abbrev pub IsEnoughForFormula : Option Holding → List ℕ → ℕ → Type 0
IsEnoughForFormula held name limit =
    (names : Names) (f : Temporal) (source : Checked) → IsFormulaOf held name names f → IsStringSource names f source → IsEnoughAlone source limit

-- The file of this name is refused under a limit on nodes and states, and these are the files that the refusal may number.
pub data IsRefusedFormula (seen : Seen) (name : List ℕ) (limit : ℕ) (refusal : Refusal) (files : List (List ℕ)) : Type 0 where
  -- it is not read
  unread : (why : IsUnread seen None name refusal) (none : files ≡ []) → IsRefusedFormula seen name limit refusal files
  -- it has no formula
  no_formula : (bytes : List ℕ) (are : AreBytes seen.before.held name bytes) (why : IsNoText bytes refusal) (one : files ≡ name ∷ [])
      → IsRefusedFormula seen name limit refusal files
  -- it has one that is not solved
  unsolved : (names : Names) (f : Temporal) (is : IsFormulaOf seen.before.held name names f) (why : IsUnsolvedFormula names f limit refusal) (one : files ≡ name ∷ [])
      → IsRefusedFormula seen name limit refusal files
  -- want of memory needs no cause
  no_memory : (why : refusal ≡ Memory) → IsRefusedFormula seen name limit refusal files
