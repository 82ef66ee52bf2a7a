-- Automata, and the contents of automaton files, that give a value.
use Rattle.std.specs.Prelude.{◌≡◌, ℕ, List, map, Some}
use Rattle.ms_dfa.specs.Files.{content_of_file, file_sign}
use Rattle.ms_dfa.specs.declared.plain.FileSign.{FileSign}
use Rattle.ms_dfa.specs.declared.plain.FileVersion.{FileVersion}
use Rattle.ms_dfa.specs.declared.plain.Plain.{Plain}
use Rattle.ms_list.specs.declared.word.Word.{Word}
use Rattle.ms_logic.specs.declared.checked.ExportUse.{ExportUse}
use Rattle.ms_logic.specs.declared.mode.Mode.{Mode}
use Rattle.ms_logic_words.specs.declared.sign.Sign.{Sign}
use Rattle.ms_logic_words.specs.declared.sign.Sign.TheVariants.{Outside}
use Rattle.ms_logic.specs.Assignment.{Env, Variable, IsAssignment}
use Rattle.ms_logic_words.specs.Canonical.{IsCanonical}
use Rattle.ms_logic_words.specs.Content.{Content, IsWordOver, sign_of}
use Rattle.ms_logic_core.specs.Roots.{AreFreeVariables}
use Rattle.ms_logic.specs.Tree.{Form}
use Rattle.ms_logic.specs.Truth.{Given, Yes, No}
use Rattle.ms_logic.specs.Verdict.{Problem, variables_of}
use Rattle.ms_logic_words.specs.Word.{Encodes}
use Rattle.ms_logic_words.specs.WordSign.{IsOutside}
use Rattle.ms_logic_spread.specs.RootLaws.{IsExported}
use Rattle.ms_dfa.specs.Values.{HasValues, Meaning, main_meaning, meaning_by}

-- the signs of the words over the globals are the main value
pub record HasMainValue (problem : Problem) (content : Content Sign) : Type 0 where
  pub mode : content.mode ≡ problem.mode
  pub variables : content.variables ≡ variables_of problem.globals
  pub values : HasValues (main_meaning problem) content

-- Each word that encodes an assignment has the sign of the value there, and any other word that of no assignment, each as files of the
-- version have it.
pub record GivesValue (version : FileVersion) (meaning : Meaning) (content : Content FileSign) : Type 0 where
  pub right :
      (word : Word) (e : Env) → IsAssignment content.mode content.variables e → Encodes content.variables word e
      → (sign : Sign) × (sign_of content word ≡ Some (file_sign version sign)) × meaning e sign
  pub outside :
      (word : Word) → IsWordOver content.variables word → IsOutside content.mode content.variables word → sign_of content word ≡ Some (file_sign version Outside)

-- the content of a file, with these variables in the places of its own
abbrev pub content_over : List Variable → Plain → Content FileSign
content_over variables plain = record (content_of_file plain) { variables = variables }

-- A file of a version that gives the value of a meaning over variables under these names. Its content is canonical: so it has fewest
-- states, and there is no other.
pub record IsFileOf (version : FileVersion) (mode : Mode) (variables : List Variable) (names : List (List ℕ)) (meaning : Meaning) (plain : Plain) : Type 0 where
  pub version_is : plain.version ≡ version
  pub mode_is : plain.mode ≡ mode
  pub orders : map (λ v. v.order) plain.variables ≡ map (λ v. v.order) variables
  pub names_are : map (λ v. v.name) plain.variables ≡ names
  pub canonical : IsCanonical (content_of_file plain)
  pub value : GivesValue version meaning (content_over variables plain)

-- the value of a formula
abbrev pub form_meaning : Given → Form → Meaning
form_meaning given f = meaning_by (Yes given f) (No given f)

-- the file of the formula that is exported under a number, over its free variables
pub record IsExportFile (version : FileVersion) (problem : Problem) (i : ℕ) (used : ExportUse) (plain : Plain) : Type 0 where
  pub formula : Form
  pub is_exported : IsExported problem i formula
  pub variables : List Variable
  pub free : AreFreeVariables problem.given formula variables
  pub listed : used.variables ≡ map (λ v. v.name) variables
  pub file : IsFileOf version problem.mode variables used.names (form_meaning problem.given formula) plain

-- the file of the main value, over the globals
abbrev pub IsMainFile : FileVersion → Problem → List (List ℕ) → Plain → Type 0
IsMainFile version problem names plain = IsFileOf version problem.mode (variables_of problem.globals) names (main_meaning problem) plain
