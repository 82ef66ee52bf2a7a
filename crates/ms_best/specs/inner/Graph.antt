-- Distances in a graph of vertices, some of which are goals: how many letters it takes at least to come to a goal.
use Rattle.std.specs.Prelude.{◌≡◌, ℕ, ◌+◌, ◌<◌, ◌⊎◌, min, List, [], ◌∷◌, ◌++◌, length, slice_get, slice_index_or, slice_set, Some, Contains}
use Rattle.ms_best.specs.declared.graph.Vertex.{Vertex}
use Rattle.ms_best.specs.declared.graph.Vertex.TheVariants.{Goal, Letter, Choice}

-- a step leads from the vertex to the one at a place
abbrev pub LeadsTo : Vertex → ℕ → Type 0
LeadsTo Goal place = ⊥
LeadsTo (Letter next) place = next ≡ place
LeadsTo (Choice low high) place = (low ≡ place) ⊎ (high ≡ place)

-- each vertex leads to vertices of the graph
abbrev pub IsClosed : List Vertex → Type 0
IsClosed graph = (i : ℕ) (vertex : Vertex) → slice_get graph i ≡ Some vertex → (place : ℕ) → LeadsTo vertex place → place < length graph

-- lists of users, with one more in the list at a place
abbrev pub with_user : List (List ℕ) → ℕ → ℕ → List (List ℕ)
with_user users place user = slice_set users place (slice_index_or users place [] ++ user ∷ [])

-- with a vertex noted, by its place, wherever it leads
abbrev pub with_users : List (List ℕ) → Vertex → ℕ → List (List ℕ)
with_users users Goal user = users
with_users users (Letter next) user = with_user users next user
with_users users (Choice low high) user = with_user (with_user users low user) high user

-- for each place the vertices that lead there
pub record ListsUsers (graph : List Vertex) (users : List (List ℕ)) : Type 0 where
  pub count : length users ≡ length graph
  pub listed : (i : ℕ) (vertex : Vertex) (place : ℕ) → slice_get graph i ≡ Some vertex → LeadsTo vertex place → Contains (slice_index_or users place []) i
  pub within : (place i : ℕ) → Contains (slice_index_or users place []) i → i < length graph

-- the distance at a vertex, by the distances of those to which it leads: a letter counts one, a bit nothing. What is
-- as far as `far`, or farther, counts as `far`
abbrev pub distance_by : ℕ → List ℕ → Vertex → ℕ
distance_by far distances Goal = 0
distance_by far distances (Letter next) = min far (slice_index_or distances next far + 1)
distance_by far distances (Choice low high) = min (slice_index_or distances low far) (slice_index_or distances high far)

-- at each vertex the distance is right by those of the others
pub record AreDistances (graph : List Vertex) (far : ℕ) (distances : List ℕ) : Type 0 where
  pub count : length distances ≡ length graph
  pub each : (i : ℕ) (vertex : Vertex) → slice_get graph i ≡ Some vertex → slice_index_or distances i far ≡ distance_by far distances vertex
