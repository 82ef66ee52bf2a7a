-- The names of declarations in the code and in the tree.
use Rattle.std.proofs.Common.{List, [], ◌∷◌, map}
use Rattle.ms_logic.specs.declared.source.Item.{Item}
use Rattle.ms_logic.specs.Lists.{Each}
use Rattle.ms_parse_grammar.specs.Tree.{Declared}
use Rattle.ms_parse_grammar.specs.View.{declared_of}
use Rattle.ms_names_checked.specs.Spellings.{DeclaresNames}

abbrev pub DeclaredNames : Declared → Type 0
DeclaredNames d = DeclaresNames d.declaration

-- what an item declares and binds has names of the language
abbrev pub ItemNames : Item → Type 0
ItemNames item = DeclaredNames (declared_of item)

pub items-named : (items : List Item) → Each DeclaredNames (map declared_of items) → Each ItemNames items
items-named [] h = tt
items-named (item ∷ more) h = (h.0, items-named more h.1)

pub declared-named : (items : List Item) → Each ItemNames items → Each DeclaredNames (map declared_of items)
declared-named [] h = tt
declared-named (item ∷ more) h = (h.0, declared-named more h.1)
