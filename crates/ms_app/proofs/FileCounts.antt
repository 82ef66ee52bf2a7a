-- A source that is loaded has at most 64 files.
use Rattle.std.proofs.Common.{◌≡◌, ℕ, zero, suc, ◌+◌, ◌≤◌, inl, inr, List, [], ◌∷◌, ◌++◌, length, Option, Some, None, ap, length-append, arith}
use Rattle.ms_edge.specs.Files.{Seen}
use Rattle.ms_list.specs.declared.at.At.{At}
use Rattle.ms_logic.specs.declared.source.Item.{Item}
use Rattle.ms_logic.specs.declared.source.Loaded.{Loaded}
use Rattle.ms_include.specs.declared.begun.Begun.{Begun}
use Rattle.ms_include.specs.Include.{Files, Loading, Becomes, AllBecome, Loads, and_next, include_of, greatest_depth}
use Rattle.ms_include.specs.Load.{files_of, IsLoaded}

-- a file that is loaded keeps the files few
abbrev KeepsFew : Loading → Type 0
KeepsFew L = (chain : List Begun) (read : List (List ℕ)) (name : List ℕ) (after : List (List ℕ)) (items : List Item) → L chain read name after items
    → length read ≤ 64 → length after ≤ 64

one_few : (L : Loading) → KeepsFew L → (chain : List Begun) (read : List (List ℕ)) (x : Item) (named : Option (At × List ℕ)) (after : List (List ℕ)) (items : List Item)
    → Becomes L chain read x named after items → length read ≤ 64 → length after ≤ 64
one_few L keeps chain read x None after items (same, one) few = omega (arith, few, ap length same)
one_few L keeps chain read x (Some (at, name)) after items (inl (ended, same, none)) few = omega (arith, few, ap length same)
one_few L keeps chain read x (Some (at, name)) after items (inr (new, loads)) few = keeps chain read name after items loads few

all_few : (L : Loading) → KeepsFew L → (chain : List Begun) (read : List (List ℕ)) (xs : List Item) (after : List (List ℕ)) (items : List Item)
    → AllBecome L chain read xs after items → length read ≤ 64 → length after ≤ 64
all_few L keeps chain read [] after items (same, none) few = omega (arith, few, ap length same)
all_few L keeps chain read (x ∷ xs) after items (between, one, rest, becomes, all, is) few =
    all_few L keeps chain between xs after rest all (one_few L keeps chain read x (include_of x.decl) between one becomes few)

loads_few : (files : Files) (room : ℕ) → KeepsFew (Loads files room)
loads_few files zero chain read name after items loads few = absurd loads
loads_few files (suc deeper) chain read name after items (source, short, is, header, become) few =
    let longer : length (read ++ name ∷ []) ≡ length read + 1 = length-append read (name ∷ []) in
    all_few (Loads files deeper) (λ c r n a i. loads_few files deeper c r n a i) (and_next files chain read name) (read ++ name ∷ []) source.items after items become (omega (arith, short, longer))

pub files_few : (seen : Seen) (base : ℕ) (name : List ℕ) (loaded : Loaded) → IsLoaded (files_of seen base) name loaded → length loaded.files ≤ 64
files_few seen base name loaded is =
    all_few (Loads (files_of seen base) greatest_depth) (λ c r n a i. loads_few (files_of seen base) greatest_depth c r n a i) (and_next (files_of seen base) [] [] name) (name ∷ [])
    is.source.items loaded.files loaded.items is.items (omega arith)
