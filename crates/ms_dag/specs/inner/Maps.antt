-- Children whose variables go by other numbers.
use Rattle.std.specs.Prelude.{◌≡◌, ℕ, List}
use Rattle.std.specs.List.{AllZip}
use Rattle.ms_dag.specs.declared.node.Child.{Child}
use Rattle.ms_dag.specs.Places.{AreAt}

-- the same child, whose map gives the places of its variables among some
pub record IsPlaced (among : List ℕ) (child placed : Child) : Type 0 where
  pub node : placed.node ≡ child.node
  pub places : AreAt among placed.map child.map

abbrev pub AreTheSameIn : List ℕ → List Child → List Child → Type 0
AreTheSameIn among children placed = AllZip (IsPlaced among) children placed
