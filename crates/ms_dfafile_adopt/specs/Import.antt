-- What an import of an automaton file means, and why a file cannot be imported.
use Rattle.std.specs.Prelude.{◌≡◌, ◌≢◌, ℕ, false, if◌then◌else◌, List, [], ◌∷◌, All, Contains, length, map}
use Rattle.std.specs.Str.{bytes_eq}
use Rattle.ms_edge.specs.declared.refusal.Refusal.{Refusal}
use Rattle.ms_edge.specs.declared.refusal.Refusal.TheVariants.{ImportMode, ImportVars, ImportOpen, Nodes, Memory}
use Rattle.ms_list.specs.declared.word.Word.{Word}
use Rattle.ms_logic.specs.declared.assignment.Value.{Value}
use Rattle.ms_logic.specs.declared.assignment.Value.TheVariants.{Truth}
use Rattle.ms_logic.specs.declared.checked.ImportUse.{ImportUse}
use Rattle.ms_logic.specs.declared.checked.MapPair.{MapPair}
use Rattle.ms_logic.specs.declared.mode.Mode.{Mode}
use Rattle.ms_logic.specs.declared.mode.Mode.TheVariants.{Ws1s}
use Rattle.ms_logic.specs.declared.mode.Order.{Order}
use Rattle.ms_logic.specs.Assignment.{Universe, Env, Variable, IsAssignment, value_at}
use Rattle.ms_logic_words.specs.Content.{Content, IsOpen, answer_of, sign_of, with_zero_letter}
use Rattle.ms_logic.specs.Truth.{Answer, answer_yes, answer_no, answer_undefined}
use Rattle.ms_logic_words.specs.Word.{Encodes}
use Rattle.ms_dfa.specs.declared.plain.FileSign.{FileSign}
use Rattle.ms_dfa.specs.declared.plain.FileSign.TheVariants as signs
use Rattle.ms_dfa.specs.declared.plain.Plain.{Plain}
use Rattle.ms_dfa.specs.Values.{Meaning, meaning_by}
use Rattle.ms_dfa.specs.Files.{content_of_file}
use Rattle.ms_best.specs.FirstWord.{IsWordBefore}
use Rattle.ms_dfafile_adopt.specs.Short.{AdoptionLacks}

-- what a sign in a file says; no word that encodes an assignment has the sign x, so it says nothing of one
abbrev pub answer_for_file : FileSign → Answer
answer_for_file signs.Plus = answer_yes
answer_for_file signs.Minus = answer_no
answer_for_file signs.Zero = answer_undefined
answer_for_file signs.Outside = answer_undefined

-- the value that stands under the name, where names and values stand side by side; false for a name that is not there
abbrev pub value_named : List (List ℕ) → List Value → List ℕ → Value
value_named [] values name = Truth false
value_named (first ∷ names) [] name = Truth false
value_named (first ∷ names) (value ∷ values) name = if bytes_eq first name then value else value_named names values name

-- what the file says where its variables, in the order of these names, have these values
abbrev pub answer_of_file : Plain → List (List ℕ) → Universe → List Value → Answer
answer_of_file plain names universe values =
    answer_of answer_for_file (content_of_file plain) universe (map (λ variable. value_named names values variable.name) plain.variables)

-- Yes is right where the file says yes at the values of these variables, which come in the order of the names, and No where
-- it says no
abbrev pub adopted_meaning : Plain → List (List ℕ) → List Variable → Meaning
adopted_meaning plain names variables =
    meaning_by
    (λ e. answer_of_file plain names e.universe (map (λ v. value_at v.order v.name e) variables) ≡ answer_yes)
    (λ e. answer_of_file plain names e.universe (map (λ v. value_at v.order v.name e) variables) ≡ answer_no)

-- a name with an order
pub record Named : Type 0 where
  pub name : List ℕ
  pub order : Order

-- the variables of a file, and those that pairs name
abbrev pub variables_of_file : Plain → List Named
variables_of_file plain = map (λ variable. record { name = variable.name; order = variable.order }) plain.variables

abbrev pub variables_named : List MapPair → List Named
variables_named pairs = map (λ pair. record { name = pair.name; order = pair.order }) pairs

-- the pairs name each variable of the file with its order, and nothing else
pub record HasVariables (plain : Plain) (pairs : List MapPair) : Type 0 where
  pub each : All (Contains (variables_named pairs)) (variables_of_file plain)
  pub only : All (Contains (variables_of_file plain)) (variables_named pairs)

-- the file is of the mode, it has the variables of the pairs, and zeros at the end of a word do not change what it says
pub record IsImportable (plain : Plain) (mode : Mode) (pairs : List MapPair) : Type 0 where
  pub mode_is : plain.mode ≡ mode
  pub variables : HasVariables plain pairs
  pub settled : ¬ IsOpen (content_of_file plain)

-- the word encodes an assignment, and with one zero letter more it has another sign
abbrev pub ShowsOpen : {Sign : Type 0} → Content Sign → Word → Type 0
ShowsOpen content word =
    (e : Env) × IsAssignment content.mode content.variables e × Encodes content.variables word e
    × (sign_of content word ≢ sign_of content (with_zero_letter content.variables word))

-- the first word that does
pub record IsFirstOpen {Sign : Type 0} (content : Content Sign) (word : Word) : Type 0 where
  pub shows : ShowsOpen content word
  pub none_before : (other : Word) → ShowsOpen content other → ¬ IsWordBefore other word

-- the file is of the mode and has the variables of the pairs
abbrev pub Fits : Plain → ImportUse → Mode → Type 0
Fits plain used mode = (plain.mode ≡ mode) × HasVariables plain used.pairs

-- why the file cannot be imported: it is of another mode; it has other variables; a word shows that it is open, the first
-- one; the one step, which has the number 0, lacks nodes under the limit; or memory is wanting
abbrev pub IsNotImportable : Plain → ImportUse → Mode → ℕ → Refusal → Type 0
IsNotImportable plain used mode limit (ImportMode at name) = (at ≡ used.at) × (name ≡ used.name) × (plain.mode ≢ mode)
IsNotImportable plain used mode limit (ImportVars at name) =
    (at ≡ used.at) × (name ≡ used.name) × (plain.mode ≡ mode) × (¬ HasVariables plain used.pairs)
IsNotImportable plain used mode limit (ImportOpen at name count word) =
    (at ≡ used.at) × (name ≡ used.name) × Fits plain used mode × (mode ≡ Ws1s)
    × IsFirstOpen (content_of_file plain) word × (count ≡ length word.letters)
IsNotImportable plain used mode limit (Nodes step named) =
    (step ≡ 0) × (named ≡ limit) × Fits plain used mode × AdoptionLacks limit plain used.pairs mode
IsNotImportable plain used mode limit Memory = Unit {0}
IsNotImportable plain used mode limit other = ⊥
