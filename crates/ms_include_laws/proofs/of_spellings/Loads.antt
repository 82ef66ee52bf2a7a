-- The names of a source of several files are names of the language, since each declaration stands in one of the files.
use Rattle.std.proofs.Common.{inl, inr, ℕ, zero, suc, ◌+◌, List, [], ◌∷◌, ◌++◌, length, Option, Some, None, sym, subst}
use Rattle.ms_list.specs.declared.at.At.{At}
use Rattle.ms_edge.specs.Files.{Seen}
use Rattle.ms_include.specs.declared.begun.Begun.{Begun}
use Rattle.ms_include.specs.Include.{AllBecome, Becomes, Loading, Loads, and_next, greatest_depth, include_of}
use Rattle.ms_include.specs.Load.{files_of}
use Rattle.ms_logic.specs.declared.source.Item.{Item}
use Rattle.ms_logic.specs.Lists.{Each}
use Rattle.ms_names_rules.proofs.Fitting.{each-append}
use Rattle.ms_include_laws.specs.inner.spellings.Laws.{LoadedSourcesDeclareNames, LoadedTextsDeclareNames}
use Rattle.ms_include_laws.proofs.of_spellings.Files.{source-named}
use Rattle.ms_include_laws.proofs.of_spellings.Items.{ItemNames, declared-named}

abbrev AreNamed : List Item → Type 0
AreNamed items = Each ItemNames items

abbrev NamesLoading : Loading → Type 0
NamesLoading Loads = (chain : List Begun) (read : List (List ℕ)) (name : List ℕ) (after : List (List ℕ)) (items : List Item) → Loads chain read name after items → AreNamed items

becoming-named : (Loads : Loading) → NamesLoading Loads → (chain : List Begun) (read : List (List ℕ)) (item : Item) (include : Option (At × List ℕ)) (after : List (List ℕ)) (items : List Item) →
    ItemNames item → Becomes Loads chain read item include after items → AreNamed items
becoming-named Loads named chain read item None after items h (none, is) = subst AreNamed (sym is) (h, tt)
becoming-named Loads named chain read item (Some (at, name)) after items h (inl (ended, none, is)) = subst AreNamed (sym is) tt
becoming-named Loads named chain read item (Some (at, name)) after items h (inr new) = named chain read name after items new.1

all-named : (Loads : Loading) → NamesLoading Loads → (chain : List Begun) (read : List (List ℕ)) (source : List Item) (after : List (List ℕ)) (items : List Item) →
    AreNamed source → AllBecome Loads chain read source after items → AreNamed items
all-named Loads named chain read [] after items h (none, is) = subst AreNamed (sym is) tt
all-named Loads named chain read (first ∷ more) after items h (between, one, rest, becomes, all, is) =
    subst AreNamed (sym is) (each-append ItemNames one rest
    (becoming-named Loads named chain read first (include_of first.decl) between one h.0 becomes)
    (all-named Loads named chain between more after rest h.1 all))

loading-named : (seen : Seen) (base deeper : ℕ) → NamesLoading (Loads (files_of seen base) deeper)
loading-named seen base zero chain read name after items h = absurd h
loading-named seen base (suc deeper) chain read name after items (source, fewer, is, no_header, all) =
    let files = files_of seen base in
    all-named (Loads files deeper) (loading-named seen base deeper) (and_next files chain read name) (read ++ name ∷ []) source.items after items
    (source-named (base + length read) is.0 source is.2) all

pub loaded-sources : LoadedSourcesDeclareNames
loaded-sources seen base name loaded h =
    let files = files_of seen base in
    declared-named loaded.items (all-named (Loads files greatest_depth) (loading-named seen base greatest_depth) (and_next files [] [] name) (name ∷ []) h.source.items loaded.files loaded.items
    (source-named base h.is.0 h.source h.is.2) h.items)

pub loaded-texts : LoadedTextsDeclareNames
loaded-texts name bytes loaded h = declared-named loaded.items (subst AreNamed (sym h.items) (source-named 0 bytes h.source h.reads))
