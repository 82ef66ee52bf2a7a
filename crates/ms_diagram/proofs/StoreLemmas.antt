-- A store stays one when a node is appended.
use Rattle.std.proofs.Common.{◌⊎◌, ℕ, ◌<◌, List, [], ◌∷◌, ◌++◌, length, ⊎_elim, length-append, arith}
use Rattle.std.proofs.lemmas.Option.{slice_get_within}
use Rattle.ms_arena.specs.declared.node.Node.{Node}
use Rattle.ms_arena.specs.declared.node.Ref.{Ref}
use Rattle.ms_arena.specs.declared.node.Ref.TheVariants.{Leaf, Inner}
use Rattle.ms_arena.specs.Diagram.{IsBefore, IsOrdered}
use Rattle.ms_arena.specs.Target.{IsFormed, IsNew}
use Rattle.ms_arena.proofs.Appending.{IsOrdered-push, IsReduced-push}
use Rattle.ms_diagram.specs.Store.{IsNewest, IsStore}

-- where there is room for it
pub IsStore-push : (nodes : List Node) (limit : ℕ) (node : Node) → IsFormed nodes node → IsNew nodes node → IsStore nodes limit → length nodes < limit → IsStore (nodes ++ node ∷ []) limit
IsStore-push nodes limit node formed new store room = record {
  ordered = IsOrdered-push nodes node formed store.ordered;
  reduced = IsReduced-push nodes node formed new store.reduced;
  within = omega (arith, length-append nodes (node ∷ []));
  small = store.small;
}

-- no node names the newest one
before_newest : (places place : ℕ) (reference : Ref) → place < places → IsBefore place reference → IsNewest places reference → ⊥
before_newest places place (Leaf value) within before newest = newest
before_newest places place (Inner last) within before newest = omega (arith, within, before, newest)

-- so a node over it is new
pub IsNew-over_newest : (nodes : List Node) (node : Node) → IsOrdered nodes → IsNewest (length nodes) node.low ⊎ IsNewest (length nodes) node.high → IsNew nodes node
IsNew-over_newest nodes node ordered newest place held =
    let within = slice_get_within nodes place node held in
    ⊎_elim (before_newest (length nodes) place node.low within (ordered.earlier_low place node held)) (before_newest (length nodes) place node.high within (ordered.earlier_high place node held)) newest
