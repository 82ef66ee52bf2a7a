-- What the import of an automaton file is measured by: the content of the file, with what its signs say, over the variables of the import.
use Rattle.std.specs.Prelude.{ℕ, suc, if◌then◌else◌, List, [], ◌∷◌, map}
use Rattle.std.specs.Str.{bytes_eq}
use Rattle.ms_dfa.specs.declared.plain.FileState.{FileState}
use Rattle.ms_dfa.specs.declared.plain.FileVar.{FileVar}
use Rattle.ms_dfa.specs.declared.plain.Plain.{Plain}
use Rattle.ms_dfafile_adopt.specs.Import.{answer_for_file}
use Rattle.ms_logic.specs.Assignment.{Variable}
use Rattle.ms_logic.specs.Truth.{Answer}
use Rattle.ms_logic.specs.declared.checked.MapPair.{MapPair}
use Rattle.ms_logic_words.specs.Content.{Content, StateOf, variables_by_place}

-- the first place of a pair with a name; where none has it, how many they are
abbrev pub place_named : List MapPair → List ℕ → ℕ
place_named [] name = 0
place_named (pair ∷ pairs) name = if bytes_eq pair.name name then 0 else suc (place_named pairs name)

-- a variable of a file, by the place of the pair that names it
abbrev pub paired : List MapPair → FileVar → Variable
paired pairs variable = record { name = place_named pairs variable.name; order = variable.order }

abbrev pub answering : FileState → StateOf Answer
answering state = record { sign = answer_for_file state.sign; next = state.next }

-- the content of a file, in its own order of variables, each of which goes by the place of the pair that names it
abbrev pub content_for : List MapPair → Plain → Content Answer
content_for pairs plain = record {
  mode = plain.mode;
  variables = map (paired pairs) plain.variables;
  start = plain.start;
  states = map answering plain.states;
  nodes = plain.nodes;
}

-- the variables of an import, by the places of its pairs
abbrev pub variables_of_pairs : List MapPair → List Variable
variables_of_pairs pairs = variables_by_place (map (λ pair. pair.order) pairs)
