-- The value of a formula on a word, and what words and assignments have to do with each other.
use Rattle.std.specs.Prelude.{◌≡◌, ℕ, ◌≤◌, List}
use Rattle.ms_list.specs.declared.word.Word.{Word}
use Rattle.ms_logic.specs.declared.mode.Mode.{Mode}
use Rattle.ms_logic.specs.Assignment.{Env, Variable, IsAssignment}
use Rattle.ms_logic.specs.FreeVariables.{IsFree, IsListed}
use Rattle.ms_logic.specs.OrderLaws.{GiveSameValues}
use Rattle.ms_logic.specs.Tree.{Form}
use Rattle.ms_logic.specs.Truth.{Given, Yes, No, IsUndefined}
use Rattle.ms_logic_words.specs.Word.{Encodes, IsEncoding, HasLength}
use Rattle.ms_logic.specs.Letters.{bound_of, truth_values_of, letters_below}

-- the word encodes an assignment with the property
abbrev pub EncodesSome : Mode → List Variable → (Env → Type 0) → Word → Type 0
EncodesSome mode variables Property word = (e : Env) × IsAssignment mode variables e × Encodes variables word e × Property e

-- the list has each free variable of the formula: only over such a list does a word settle the formula's value
abbrev pub CoversFormula : Given → List Variable → Form → Type 0
CoversFormula given variables f = (w : Variable) → IsFree given f w → IsListed variables w

-- the formula is Yes on a word over a list that covers it: at the assignment that the word encodes
abbrev pub IsYesOn : Given → Mode → List Variable → Form → Word → Type 0
IsYesOn given mode variables f word = CoversFormula given variables f × EncodesSome mode variables (Yes given f) word

abbrev pub IsNoOn : Given → Mode → List Variable → Form → Word → Type 0
IsNoOn given mode variables f word = CoversFormula given variables f × EncodesSome mode variables (No given f) word

abbrev pub IsUndefinedOn : Given → Mode → List Variable → Form → Word → Type 0
IsUndefinedOn given mode variables f word = CoversFormula given variables f × EncodesSome mode variables (IsUndefined given f) word

-- the word encodes no assignment
abbrev pub IsOutside : Mode → List Variable → Word → Type 0
IsOutside mode variables word = ¬ IsEncoding mode variables word

-- the word of n letters with the values of e
abbrev pub word_of : ℕ → List Variable → Env → Word
word_of n variables e = record { truth = truth_values_of variables e; letters = letters_below n variables e }

-- an assignment is encoded by a word of each number of letters that its values and its string allow
abbrev pub EncodingExists : Type 0
EncodingExists =
    (variables : List Variable) (e : Env) (n : ℕ) → bound_of variables e ≤ n → HasLength e.universe n → Encodes variables (word_of n variables e) e

-- a word encodes one assignment at most
abbrev pub EncodingIsUnique : Type 0
EncodingIsUnique =
    (mode : Mode) (variables : List Variable) (word : Word) (e f : Env)
    → IsAssignment mode variables e → IsAssignment mode variables f → Encodes variables word e → Encodes variables word f
    → (e.universe ≡ f.universe) × GiveSameValues variables e f
