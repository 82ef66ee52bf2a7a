-- Which contents an automaton file may have (docs/FORMATS.md, "Automaton file").
use Rattle.std.specs.Prelude.{◌≡◌, ◌≢◌, ℕ, ◌<◌, ◌^◌, List, All, AllPairs, length, map}
use Rattle.ms_dfa.specs.declared.plain.Plain.{Plain}
use Rattle.ms_logic_words.specs.Content.{IsContent}
use Rattle.ms_text.specs.Spelling.{Spells}
use Rattle.ms_text.specs.declared.token.Kind.TheVariants as kinds
use Rattle.ms_dfa.specs.Files.{HasSignsOf, content_of_file}
use Rattle.ms_dfafile.specs.Spelling.{spelled}

-- the names of the variables
abbrev pub names_of : Plain → List (List ℕ)
names_of plain = map (λ variable. variable.name) plain.variables

-- The numbers of a file have 32 bits, the names are different names of the language, references, variables and the variables that are
-- tested are as in each content, and the signs as in its version.
pub record IsFile (plain : Plain) : Type 0 where
  pub few_variables : length plain.variables < 2 ^ 32
  pub few_states : length plain.states < 2 ^ 32
  pub few_nodes : length plain.nodes < 2 ^ 32
  pub names : All (Spells kinds.Name) (names_of plain)
  pub different : AllPairs (λ one other. one ≢ other) (names_of plain)
  pub content : IsContent (content_of_file plain)
  pub signs : HasSignsOf plain.version (content_of_file plain)

-- the bytes are the automaton file of the content
pub record IsSpelled (bytes : List ℕ) (plain : Plain) : Type 0 where
  pub text : bytes ≡ spelled plain
  pub rules : IsFile plain
