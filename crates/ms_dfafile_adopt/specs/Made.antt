-- What the automaton of a file as an import is made of: the automaton of the file over its own variables, with fewest states, whose
-- variables are renamed.
use Rattle.std.specs.Prelude.{◌≡◌, ℕ, ◌+◌, List, length}
use Rattle.ms_dfa.specs.Automaton.{IsAutomaton}
use Rattle.ms_dfa.specs.declared.plain.Plain.{Plain}
use Rattle.ms_dfa_explore.specs.Tracks.{distinct}
use Rattle.ms_dfafile_adopt.specs.Naming.{IsNaming}
use Rattle.ms_dfafile_adopt.specs.Readings.{AgreesWithFile}
use Rattle.ms_logic.specs.declared.checked.MapPair.{MapPair}
use Rattle.ms_logic.specs.declared.mode.Mode.{Mode}
use Rattle.ms_logic_words.specs.Content.{Content}
use Rattle.ms_logic_words.specs.Residual.{IsLeast}
use Rattle.ms_logic_words.specs.declared.sign.Sign.{Sign}
use Rattle.ms_product.specs.Pairing.{ReachedAreAtLeast}
use Rattle.ms_product.specs.declared.op.Op.{Op}
use Rattle.ms_rename.specs.Renamed.{HasPartsOf, Rises, beside_itself, renamed, renamed_places}

-- it has the parts of that automaton where its variables stand in the order of the pairs, and else what starts reach alone
pub record IsRenamedFile (plain : Plain) (pairs : List MapPair) (mode : Mode) (made : Content Sign) : Type 0 where
  pub own : Content Sign
  pub agrees : AgreesWithFile plain mode own
  pub automaton : IsAutomaton own
  pub least : IsLeast own
  pub places : List ℕ
  pub naming : IsNaming plain pairs places
  pub variables : made.variables ≡ distinct (renamed places own.variables)
  pub in_order : Rises places → HasPartsOf own made
  pub turned : ¬ Rises places → ReachedAreAtLeast (length made.nodes + length made.states) Op.And (beside_itself own (renamed_places places own.variables))
