-- Where a walk stands: the frames lead from the root to the item whose turn it is.
use Rattle.std.proofs.Common.{List, [], ◌∷◌}
use Rattle.ms_arena.specs.declared.node.Ref.{Ref}
use Rattle.ms_arena.specs.declared.node.Node.{Node}
use Rattle.ms_diagram.specs.declared.walk.Frame.{Frame}
use Rattle.ms_diagram.specs.declared.walk.Frame.TheVariants.{Low, High}
use Rattle.ms_diagram.specs.declared.walk.Turn.{Turn}
use Rattle.ms_diagram.specs.declared.walk.Turn.TheVariants.{Down, Up}
use Rattle.ms_diagram.specs.Growth.{Grows}
use Rattle.ms_diagram.specs.Store.{Contents}
use Rattle.ms_diagram.specs.Table.{EachEntry}
use Rattle.ms_diagram.specs.inner.Walk.{Rules, IsBuilt, IsSplit, StandsFor}

module _ {S I K : Type 0} where
  -- the frames, of which the last is the innermost, lead from one item to another
  abbrev pub Leads : Rules S I K → S → List Node → I → List (Frame I K) → I → Type 0
  Leads rules state nodes start [] end = StandsFor rules state nodes start end
  Leads rules state nodes start (Low key var high ∷ frames) end =
      (low : I) × StandsFor rules state nodes start (rules.item_of key) × IsSplit rules state nodes (rules.item_of key) var low high × Leads rules state nodes low frames end
  Leads rules state nodes start (High key var made ∷ frames) end =
      (low : I) × (high : I) × StandsFor rules state nodes start (rules.item_of key) × IsSplit rules state nodes (rules.item_of key) var low high × IsBuilt rules state nodes low made
      × Leads rules state nodes high frames end

  -- they lead to the item whose turn it is, or to one that has its answer
  abbrev pub IsAt : Rules S I K → S → List Node → I → List (Frame I K) → Turn I → Type 0
  IsAt rules state nodes root frames (Down item) = Leads rules state nodes root frames item
  IsAt rules state nodes root frames (Up made) = (item : I) × Leads rules state nodes root frames item × IsBuilt rules state nodes item made

  -- what a walk has done so far
  pub record IsWalking (rules : Rules S I K) (one : Contents) (first : S) (root : I) (now : Contents) (state : S) (entries : List (K × Ref))
      (frames : List (Frame I K)) (turn : Turn I) : Type 0 where
    pub grows : Grows one now (rules.Wanted state now.nodes root)
    pub later : rules.Later first state
    pub right : rules.IsRight state
    pub fits : rules.Fits state now.nodes root
    pub added : rules.Adds state now.nodes root first state
    pub table : EachEntry (rules.IsEntry state now.nodes) entries
    pub at : IsAt rules state now.nodes root frames turn
