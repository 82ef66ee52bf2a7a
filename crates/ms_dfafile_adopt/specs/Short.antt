-- Why the automaton of a file as an import lacks nodes, by what each of its steps makes: the file with its numbers read as sets; the automaton
-- that tells which words encode numbers; the two side by side; and that over the variables of the import.
use Rattle.std.specs.Prelude.{◌≡◌, ◌⊎◌, ◌<◌, ◌≤◌, ℕ, List, [], ◌∷◌, length, slice_get, Some}
use Rattle.ms_logic.specs.Assignment.{Variable}
use Rattle.ms_logic.specs.declared.checked.MapPair.{MapPair}
use Rattle.ms_logic.specs.declared.mode.Mode.{Mode}
use Rattle.ms_logic.specs.declared.mode.Order.TheVariants.{One}
use Rattle.ms_logic_words.specs.Content.{Content}
use Rattle.ms_logic_words.specs.declared.sign.Sign.{Sign}
use Rattle.ms_dfa.specs.Automaton.{IsAutomaton}
use Rattle.ms_dfa.specs.declared.plain.Plain.{Plain}
use Rattle.ms_dfa_explore.specs.Tracks.{places_among}
use Rattle.ms_logic_words.specs.Residual.{IsLeast}
use Rattle.ms_product.specs.Pairing.{AreAtLeast, Operands, operands_of}
use Rattle.ms_product.specs.declared.op.Op.{Op}
use Rattle.ms_rename.specs.Renamed.{NeedsAtLeast, renamed_places}
use Rattle.ms_rename.specs.Whole.{IsSmallWhole}
use Rattle.ms_dfafile_adopt.specs.Naming.{IsNaming}
use Rattle.ms_dfafile_adopt.specs.Readings.{AgreesWithFile, IsOverSets, TellsNumbers, own_variables}

-- the file with its numbers read as sets: it has as many states as the file, and no more nodes
pub record IsFileOverSets (plain : Plain) (content : Content Sign) : Type 0 where
  pub automaton : IsAutomaton content
  pub is : IsOverSets plain content
  pub states : length content.states ≡ length plain.states
  pub nodes : length content.nodes ≤ length plain.nodes

-- which words encode the numbers among the first variables, with fewest states
pub record AreNumbers (variables : List Variable) (count : ℕ) (content : Content Sign) : Type 0 where
  pub tells : TellsNumbers variables count content
  pub least : IsLeast content

-- the automaton of the numbers is short of nodes: that of those before one, over this one too
pub record NumbersLack (limit : ℕ) (variables : List Variable) : Type 0 where
  pub count : ℕ
  pub number : Variable
  pub here : slice_get variables count ≡ Some number
  pub is_number : number.order ≡ One
  pub before : Content Sign
  pub automaton : IsAutomaton before
  pub are : AreNumbers variables count before
  pub short : (limit < 32) ⊎ ((other : Content Sign) × IsSmallWhole (number ∷ []) other × AreAtLeast limit Op.And (operands_of before other))

-- what is said where numbers are read as sets, and the automaton of the numbers, side by side on one word
abbrev pub side_by_side : Content Sign → Content Sign → List Variable → Operands
side_by_side said numbers variables = record {
  left = said;
  left_map = places_among said.variables said.variables;
  right = numbers;
  right_map = places_among numbers.variables variables;
}

-- the two side by side are short of nodes
pub record ProductLacks (limit : ℕ) (plain : Plain) : Type 0 where
  pub said : Content Sign
  pub is_said : IsFileOverSets plain said
  pub numbers : Content Sign
  pub automaton : IsAutomaton numbers
  pub are : AreNumbers (own_variables plain) (length (own_variables plain)) numbers
  pub short : AreAtLeast limit Op.And (side_by_side said numbers (own_variables plain))

-- the automaton of the file, with fewest states, is short of nodes once its variables are those of the pairs
pub record RenamingLacks (limit : ℕ) (plain : Plain) (pairs : List MapPair) (mode : Mode) : Type 0 where
  pub own : Content Sign
  pub agrees : AgreesWithFile plain mode own
  pub automaton : IsAutomaton own
  pub least : IsLeast own
  pub places : List ℕ
  pub naming : IsNaming plain pairs places
  pub short : NeedsAtLeast limit own (renamed_places places own.variables)

-- the automaton of a file over strings is short of nodes: the file itself has too many, or one of the steps to it
abbrev pub StringsLack : ℕ → Plain → Type 0
StringsLack limit plain = (limit < length plain.nodes) ⊎ NumbersLack limit (own_variables plain) ⊎ ProductLacks limit plain

-- a file is short of nodes as an import with these pairs
abbrev pub AdoptionLacks : ℕ → Plain → List MapPair → Mode → Type 0
AdoptionLacks limit plain pairs mode = StringsLack limit plain ⊎ RenamingLacks limit plain pairs mode
