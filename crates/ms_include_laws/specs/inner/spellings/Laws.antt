-- What is proved of the names of a source.
use Rattle.std.specs.Prelude.{ℕ, List, map}
use Rattle.ms_names_checked.specs.Spellings.{DeclaresNames}
use Rattle.ms_edge.specs.Files.{Seen}
use Rattle.ms_include.specs.Load.{IsLoaded, IsLoadedText, files_of}
use Rattle.ms_logic.specs.declared.source.Loaded.{Loaded}
use Rattle.ms_logic.specs.Lists.{Each}
use Rattle.ms_parse_grammar.specs.Tree.{Declared}
use Rattle.ms_parse_grammar.specs.View.{declared_of}

-- each declaration of a loaded source declares and binds names of the language, and so does each of a text
abbrev pub LoadedSourcesDeclareNames : Type 0
LoadedSourcesDeclareNames =
    (seen : Seen) (base : ℕ) (name : List ℕ) (loaded : Loaded) → IsLoaded (files_of seen base) name loaded →
    Each (λ (d : Declared). DeclaresNames d.declaration) (map declared_of loaded.items)

abbrev pub LoadedTextsDeclareNames : Type 0
LoadedTextsDeclareNames =
    (name bytes : List ℕ) (loaded : Loaded) → IsLoadedText name bytes loaded → Each (λ (d : Declared). DeclaresNames d.declaration) (map declared_of loaded.items)
