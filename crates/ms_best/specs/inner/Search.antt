-- How far a search for distances has come: what is true between its steps.
use Rattle.std.specs.Prelude.{◌≡◌, ℕ, ◌<◌, ◌≤◌, ◌⊎◌, List, length, slice_get, slice_index_or, All, Some, Contains}
use Rattle.ms_best.specs.declared.graph.Vertex.{Vertex}
use Rattle.ms_best.specs.inner.Graph.{LeadsTo, distance_by}

-- No distance is too small. One may be too great, but then the vertex is due, or it leads to one whose distance became
-- smaller since the vertex was last looked at.
pub record IsSearch (graph : List Vertex) (far : ℕ) (distances nearer due : List ℕ) : Type 0 where
  pub count : length distances ≡ length graph
  pub bounded : (i : ℕ) → slice_index_or distances i far ≤ far
  pub not_too_small : (i : ℕ) (vertex : Vertex) → slice_get graph i ≡ Some vertex → distance_by far distances vertex ≤ slice_index_or distances i far
  pub settled : (i : ℕ) (vertex : Vertex) → slice_get graph i ≡ Some vertex
      → (slice_index_or distances i far ≤ distance_by far distances vertex)
      ⊎ ((place : ℕ) × LeadsTo vertex place × Contains nearer place)
      ⊎ Contains due i
  pub queued : All (λ place. place < length graph) nearer
