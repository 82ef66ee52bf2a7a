-- Each finite automaton has a canonical content (Myhill, 1957; Nerode, 1958; Bryant, 1986).
use Rattle.std.specs.Prelude.{◌≡◌, List, Some}
use Rattle.ms_list.specs.declared.word.Word.{Word}
use Rattle.ms_logic.specs.declared.mode.Mode.{Mode}
use Rattle.ms_logic.specs.Assignment.{Variable}
use Rattle.ms_logic_words.specs.Canonical.{IsCanonical}
use Rattle.ms_logic_words.specs.Content.{Content, IsWordOver, sign_of}
use Rattle.ms_logic_machines.specs.Machine.{Machine, IsTested, machine_sign}

-- a canonical content in the mode and over the variables gives each word over these the sign that it has in the machine
abbrev pub HasCanonicalContent : {Sign : Type 0} → Mode → List Variable → Machine Sign → Type 0
HasCanonicalContent {Sign} mode variables machine =
    (content : Content Sign) × IsCanonical content × (content.mode ≡ mode) × (content.variables ≡ variables)
    × ((word : Word) → IsWordOver variables word → sign_of content word ≡ Some (machine_sign machine word))

-- where equality of signs is decided, each machine has one, in each mode and over each list of variables
abbrev pub MachinesHaveCanonicalContents : Type 0 → Type 0
MachinesHaveCanonicalContents Sign =
    IsTested Sign → (mode : Mode) (variables : List Variable) (machine : Machine Sign) → HasCanonicalContent mode variables machine
