use Rattle.std.proofs.Common.{◌≡◌, ◌++◌, List, ℕ, ◌+◌, ◌*◌, drop}
use Rattle.ms_logic.specs.declared.source.Item.{Item}
use Rattle.ms_include.specs.Include.{AllBecome, Loads}
use Rattle.ms_include.specs.Load.{files_of}
use Rattle.ms_edge.specs.Files.{OnlyRead, Seen, between}
use Rattle.ms_include.specs.inner.Seen.{IsPart}
use Rattle.ms_include.proofs.loader.Loader.+includes.Given as goal

abbrev pub decreases-include : goal.decreases-include
decreases-include g l = 4 * l.room + 1

abbrev pub decreases-load : goal.decreases-load
decreases-load g l = 4 * l.room

abbrev pub decreases-put : goal.decreases-put
decreases-put g l = 4 * l.room + 2

abbrev pub decreases-put_all : goal.decreases-put_all
decreases-put_all g l = 4 * l.room + 3

-- what is kept, and the declarations so far put in place
abbrev pub invariant-put_all-loop-item : goal.invariant-put_all-loop-item
invariant-put_all-loop-item g l =
    (l.self.base ≡ l.initial.self.base) × (l.self.chain.items ≡ l.initial.self.chain.items)
    × ((added : List (List ℕ)) × (l.names ≡ l.initial.names ++ added))
    × OnlyRead (g.F.Files.told l.initial.files) (g.F.Files.told l.files)
    × ((request : Seen) → IsPart (between (g.F.Files.told l.initial.files) (g.F.Files.told l.files)) request → (made : List Item) × (l.self.items.items ≡ l.initial.self.items.items ++ made)
    × AllBecome (Loads (files_of request l.initial.self.base) l.room) l.initial.self.chain.items (drop l.initial.self.base l.initial.names) l.yielded (drop l.initial.self.base l.names) made)
