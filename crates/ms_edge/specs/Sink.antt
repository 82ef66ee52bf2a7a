-- What a sink is known to have taken.
use Rattle.std.specs.Prelude.{ℕ, List, ◌++◌, Option, Some, None}

-- what has been taken, where that is told, once these bytes are taken too
abbrev pub grown : Option (List ℕ) → List ℕ → Option (List ℕ)
grown None bytes = None
grown (Some taken) bytes = Some (taken ++ bytes)

-- what a sink tells at one moment: what it has taken, where that is told, and how often it has failed
pub record SinkTold : Type 0 where
  pub taken : Option (List ℕ)
  pub faults : ℕ
