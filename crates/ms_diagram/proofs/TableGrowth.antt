-- The entries of tables stay right while the stores grow that they speak of.
use Rattle.std.proofs.Common.{ℕ, List}
use Rattle.ms_arena.specs.declared.node.Ref.{Ref}
use Rattle.ms_arena.specs.declared.node.Node.{Node}
use Rattle.ms_arena.specs.Diagram.{IsOrdered}
use Rattle.ms_arena.specs.Target.{Extends}
use Rattle.ms_cache.proofs.MemoLemmas.{EachEntry-weaker}
use Rattle.ms_diagram.specs.Bring.{IsBrought}
use Rattle.ms_diagram.specs.Relabel.{IsRelabelled}
use Rattle.ms_diagram.specs.Table.{AreBrought, AreRelabelled}
use Rattle.ms_diagram.specs.inner.Bringing.{IsBrought-grows}
use Rattle.ms_diagram.proofs.BringLemmas.{IsBrought-origin_grows}
use Rattle.ms_diagram.specs.inner.Relabelling.{IsRelabelled-grows}

module _ (old new : List Node) (ordered : IsOrdered old) (extends : Extends old new) where
  pub AreRelabelled-grow : (map : List ℕ) (table : List (ℕ × Ref)) → AreRelabelled old map table → AreRelabelled new map table
  AreRelabelled-grow map = EachEntry-weaker (IsRelabelled old map) (IsRelabelled new map) (IsRelabelled-grows old new map ordered extends)

  pub AreBrought-grow : (origin : List Node) (map : List ℕ) (table : List (ℕ × Ref)) → AreBrought origin map old table → AreBrought origin map new table
  AreBrought-grow origin map = EachEntry-weaker (IsBrought origin map old) (IsBrought origin map new) (IsBrought-grows origin old new map ordered extends)

  -- and so where it is the other store that grows
  pub AreBrought-origin_grows : (nodes : List Node) (map : List ℕ) (table : List (ℕ × Ref)) → AreBrought old map nodes table → AreBrought new map nodes table
  AreBrought-origin_grows nodes map = EachEntry-weaker (IsBrought old map nodes) (IsBrought new map nodes) (IsBrought-origin_grows old new nodes map ordered extends)
