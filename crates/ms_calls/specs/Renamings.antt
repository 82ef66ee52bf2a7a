-- Laws of renamings. Those whose numbers rise are refused for want of memory alone.
use Rattle.std.specs.Prelude.{◌≡◌, ℕ, ◌<◌, ◌≤◌, List, length}
use Rattle.ms_dfa.specs.Automaton.{IsAutomaton}
use Rattle.ms_dfa_explore.specs.Tracks.{distinct}
use Rattle.ms_logic_measures.specs.CallMeasures.{HasReachedParts, IsRenameMeasure, call_measure}
use Rattle.ms_logic_words.specs.Content.{Content}
use Rattle.ms_logic_words.specs.declared.sign.Sign.{Sign}
use Rattle.ms_product.specs.Pairing.{ReachedAreAtLeast}
use Rattle.ms_product.specs.declared.op.Op.TheVariants.{And}
use Rattle.ms_rename.specs.Renamed.{HasPartsOf, Rises, beside_itself, renamed, renamed_places}

-- starts lead what is made to no more references than the number m of the measure
abbrev pub RisingRenamesHaveFewParts : Type 0
RisingRenamesHaveFewParts =
    (content made : Content Sign) (numbers : List ℕ) → IsAutomaton content → IsAutomaton made → length numbers ≡ length content.variables → Rises numbers
    → made.variables ≡ distinct (renamed numbers content.variables) → HasPartsOf content made
    → (m r : ℕ) → IsRenameMeasure content numbers m r → (n : ℕ) → HasReachedParts made n → n ≤ m

-- what a renaming needs, in whatever order its numbers stand, is no more than the number m of the measure
abbrev pub RenamesNeedFewParts : Type 0
RenamesNeedFewParts =
    (content : Content Sign) (numbers : List ℕ) → IsAutomaton content → length numbers ≡ length content.variables
    → (count : ℕ) → ReachedAreAtLeast count And (beside_itself content (renamed_places numbers content.variables))
    → (m r : ℕ) → IsRenameMeasure content numbers m r → count ≤ m

-- so it is short of nodes only under a limit below its measure
abbrev pub RenamesAreWithinMeasure : Type 0
RenamesAreWithinMeasure =
    (content : Content Sign) (numbers : List ℕ) → IsAutomaton content → length numbers ≡ length content.variables
    → (limit : ℕ) → ReachedAreAtLeast limit And (beside_itself content (renamed_places numbers content.variables))
    → (m r : ℕ) → IsRenameMeasure content numbers m r → limit < call_measure m r
