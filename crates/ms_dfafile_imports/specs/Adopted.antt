-- The automata that imports have become.
use Rattle.std.specs.Prelude.{◌≡◌, ℕ, ◌+◌, ◌≤◌, List, [], ◌∷◌, length, map}
use Rattle.ms_dfafile_adopt.specs.Import.{adopted_meaning}
use Rattle.ms_dfa.specs.declared.plain.Plain.{Plain}
use Rattle.ms_logic.specs.declared.checked.ImportUse.{ImportUse}
use Rattle.ms_logic.specs.declared.mode.Mode.{Mode}
use Rattle.ms_logic_words.specs.declared.sign.Sign.{Sign}
use Rattle.ms_logic.specs.Assignment.{Variable}
use Rattle.ms_logic_words.specs.Content.{Content, variables_by_place}
use Rattle.ms_dfa.specs.Values.{HasValues}

-- the variables of an import: variable `j` is the one that pair `j` names
abbrev pub variables_of_import : ImportUse → List Variable
variables_of_import used = variables_by_place (map (λ pair. pair.order) used.pairs)

-- the automaton of an import, made under a limit on nodes and states: over its variables it answers what the file says
pub record IsAdopted (limit : ℕ) (mode : Mode) (used : ImportUse) (plain : Plain) (content : Content Sign) : Type 0 where
  pub mode_is : content.mode ≡ mode
  pub variables_are : content.variables ≡ variables_of_import used
  pub values : HasValues (adopted_meaning plain (map (λ pair. pair.name) used.pairs) (variables_of_import used)) content
  pub within : length content.nodes + length content.states ≤ limit

-- the automata of imports with these contents, one for each
abbrev pub AreAdopted : ℕ → Mode → List ImportUse → List Plain → List (Content Sign) → Type 0
AreAdopted limit mode [] [] [] = Unit {0}
AreAdopted limit mode (used ∷ uses) (plain ∷ plains) (content ∷ contents) = IsAdopted limit mode used plain content × AreAdopted limit mode uses plains contents
AreAdopted limit mode uses plains contents = ⊥
