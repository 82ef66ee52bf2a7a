-- What the words of a command line ask for, by what `clap` takes and makes of them (the crate of that name). The first word says which
-- command it is, and stands in the place of the program's name.
use Rattle.std.specs.Prelude.{◌≡◌, ◌≤◌, ◌<◌, ◌^◌, ℕ, Bool, true, false, if◌then◌else◌, List, [], ◌∷◌, codes, Option, Some, None}
use Rattle.std.specs.Option.{option_map_or}
use Rattle.std.specs.Str.{bytes_eq}
use Rattle.std.specs.Str.Parse.{IsNumeral, digits_value, without_leading_plus}
use Rattle.clap.specs.Words.{App, Row, Rule, Text, fault_of, first_of, matches_of, new_app, new_rule, with_rule}
use Rattle.clap.specs.declared.builder.action.ArgAction.TheVariants.{SetTrue}
use Rattle.ms_app_words.specs.declared.command.Command.{Command}
use Rattle.ms_app_words.specs.declared.command.Command.TheVariants.{Decide, Same, Gen, Ltl, Presburger, Check, Certify}
use Rattle.ms_dfa.specs.declared.plain.FileVersion.{FileVersion}
use Rattle.ms_dfa.specs.declared.plain.FileVersion.TheVariants.{One, Two}
use Rattle.ms_app_words.specs.declared.command.Verb.{Verb}
use Rattle.ms_app_words.specs.declared.command.Verb.TheVariants as verb

-- a value by its position, which must be there
abbrev pub required : Text → Rule
required id = record (new_rule id) { required = true }

-- --NAME VALUE: an option with a value
abbrev pub option : Text → Rule
option name = record (new_rule name) { long = Some name }

-- --NAME: a flag
abbrev pub flag : Text → Rule
flag name = record (new_rule name) { long = Some name; action = Some SetTrue }

-- a command of this name without a flag for help
abbrev pub command : Text → App
command name = let app = new_app name in record app { top = record app.top { disable_help_flag = true } }

-- decide FILE [--out NAME] [--max-nodes N]
abbrev pub decide_front : App
decide_front = with_rule (with_rule (with_rule (command (codes "decide")) (required (codes "FILE"))) (option (codes "out"))) (option (codes "max-nodes"))

-- decide FILE [--out NAME] [--max-nodes N] [--stats] [--format V]
abbrev pub decide_app : App
decide_app = with_rule (with_rule decide_front (flag (codes "stats"))) (option (codes "format"))

-- same LEFT RIGHT [--max-nodes N]
abbrev pub same_app : App
same_app = with_rule (with_rule (with_rule (command (codes "same")) (required (codes "LEFT"))) (required (codes "RIGHT"))) (option (codes "max-nodes"))

-- gen K [--decide]
abbrev pub gen_app : App
gen_app = with_rule (with_rule (command (codes "gen")) (required (codes "K"))) (flag (codes "decide"))

-- NAME FILE [--max-nodes N], for a command of this name
abbrev pub formula_app : Text → App
formula_app name = with_rule (with_rule (command name) (required (codes "FILE"))) (option (codes "max-nodes"))

-- ltl FILE [--max-nodes N]
abbrev pub ltl_app : App
ltl_app = formula_app (codes "ltl")

-- presburger FILE [--max-nodes N]
abbrev pub presburger_app : App
presburger_app = formula_app (codes "presburger")

-- check NAME
abbrev pub check_app : App
check_app = with_rule (command (codes "check")) (required (codes "NAME"))

-- certify FILE NAME [--max-nodes N]
abbrev pub certify_app : App
certify_app = with_rule (with_rule (with_rule (command (codes "certify")) (required (codes "FILE"))) (required (codes "NAME"))) (option (codes "max-nodes"))

abbrev pub app_for : Verb → App
app_for verb.Decide = decide_app
app_for verb.Same = same_app
app_for verb.Gen = gen_app
app_for verb.Ltl = ltl_app
app_for verb.Presburger = presburger_app
app_for verb.Check = check_app
app_for verb.Certify = certify_app

-- the limit on the nodes and states of a step where the words name none
abbrev pub node_limit : ℕ
node_limit = 16777216

-- the number in decimal digits, with a plus before them or without
pub record IsNumberIn (text : Text) (number : ℕ) : Type 0 where
  pub numeral : IsNumeral 10 (without_leading_plus text)
  pub is : number ≡ digits_value 10 (without_leading_plus text)

-- the limit that the words name: a number from 1 to 4,000,000,000
pub record IsLimitIn (text : Text) (limit : ℕ) : Type 0 where
  pub number : IsNumberIn text limit
  pub some : 1 ≤ limit
  pub small : limit ≤ 4000000000

abbrev pub HasLimit : Option Text → ℕ → Type 0
HasLimit None limit = limit ≡ node_limit
HasLimit (Some text) limit = IsLimitIn text limit

-- the version of automaton files that the words name: 1 or 2, and 2 where they name none
abbrev pub version_number : FileVersion → ℕ
version_number One = 1
version_number Two = 2

abbrev pub HasFormat : Option Text → FileVersion → Type 0
HasFormat None version = version ≡ Two
HasFormat (Some text) version = IsNumberIn text (version_number version)

-- the words name this number, which fits into 64 bits
abbrev pub HasNumber : Option Text → ℕ → Type 0
HasNumber None number = ⊥
HasNumber (Some text) number = IsNumberIn text number × (number < 2 ^ 64)

-- whether a flag was given
abbrev pub is_given : Text → List Row → Bool
is_given name rows = option_map_or (λ text. bytes_eq text (codes "true")) (first_of name rows) false

-- which command it is
abbrev pub verb_of : Command → Verb
verb_of (Decide file out max_nodes stats format) = verb.Decide
verb_of (Same left right max_nodes) = verb.Same
verb_of (Gen number decide) = verb.Gen
verb_of (Ltl file max_nodes) = verb.Ltl
verb_of (Presburger file max_nodes) = verb.Presburger
verb_of (Check name) = verb.Check
verb_of (Certify file name max_nodes) = verb.Certify

-- the matches of the words name a file, and a limit on the nodes and states of a step
abbrev pub AsksOfFile : List Row → Text → ℕ → Type 0
AsksOfFile rows file max_nodes = (first_of (codes "FILE") rows ≡ Some file) × HasLimit (first_of (codes "max-nodes") rows) max_nodes

-- what the matches of the words ask for
abbrev pub Asks : List Row → Command → Type 0
Asks rows (Decide file out max_nodes stats format) =
    (first_of (codes "FILE") rows ≡ Some file) × (out ≡ first_of (codes "out") rows) × HasLimit (first_of (codes "max-nodes") rows) max_nodes
    × (stats ≡ is_given (codes "stats") rows) × HasFormat (first_of (codes "format") rows) format
Asks rows (Same left right max_nodes) =
    (first_of (codes "LEFT") rows ≡ Some left) × (first_of (codes "RIGHT") rows ≡ Some right) × HasLimit (first_of (codes "max-nodes") rows) max_nodes
Asks rows (Gen number decide) = HasNumber (first_of (codes "K") rows) number × (decide ≡ is_given (codes "decide") rows)
Asks rows (Ltl file max_nodes) = AsksOfFile rows file max_nodes
Asks rows (Presburger file max_nodes) = AsksOfFile rows file max_nodes
Asks rows (Check name) = first_of (codes "NAME") rows ≡ Some name
Asks rows (Certify file name max_nodes) = AsksOfFile rows file max_nodes × (first_of (codes "NAME") rows ≡ Some name)

-- they ask for it after this first word
abbrev pub AsksBy : Verb → List Row → Command → Type 0
AsksBy verb rows command = (verb_of command ≡ verb) × Asks rows command

-- which command the first word says that it is, if any
abbrev pub verb_in : Text → Option Verb
verb_in word =
    if bytes_eq word (codes "decide") then Some verb.Decide
    else (if bytes_eq word (codes "same") then Some verb.Same
    else (if bytes_eq word (codes "gen") then Some verb.Gen
    else (if bytes_eq word (codes "ltl") then Some verb.Ltl
    else (if bytes_eq word (codes "presburger") then Some verb.Presburger
    else (if bytes_eq word (codes "check") then Some verb.Check else (if bytes_eq word (codes "certify") then Some verb.Certify else None))))))

abbrev pub first_verb : List Text → Option Verb
first_verb [] = None
first_verb (word ∷ rest) = verb_in word

-- the words are this command
pub record IsCommand (words : List Text) (command : Command) : Type 0 where
  pub verb : first_verb words ≡ Some (verb_of command)
  pub taken : fault_of (app_for (verb_of command)) words ≡ []
  pub asked : Asks (matches_of (app_for (verb_of command)) words) command
