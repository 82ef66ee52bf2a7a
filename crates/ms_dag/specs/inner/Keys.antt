-- The table by which a node gets its number.
use Rattle.std.specs.Prelude.{◌≡◌, ℕ, List, map}
use Rattle.ms_dag.specs.declared.nodes.Nodes.{Nodes}
use Rattle.ms_dag.specs.inner.Codes.{codes_of_entry}

abbrev pub keys_of : Nodes → List (List ℕ)
keys_of nodes = map (λ key. key.items) nodes.keys.keys

-- the keys are the codes of the nodes
abbrev pub IsKeyed : Nodes → Type 0
IsKeyed nodes = keys_of nodes ≡ map codes_of_entry nodes.entries
