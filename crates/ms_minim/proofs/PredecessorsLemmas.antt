-- The states that lead to each state: the leaves of a diagram are all listed, and what was listed stays so.
use Rattle.std.proofs.Common.{◌≡◌, ℕ, zero, suc, ◌+◌, ◌<◌, ◌≤◌, ⊎_elim, Bool, true, false, nat_eq, ◌||◌, List, [], ◌∷◌, ◌++◌, length, fold, slice_get, get_or, set, Some, IfSome, sym, ap, subst, ◌∙◌, arith, get_or-set_same, get_or-set_other}
use Rattle.std.specs.List.{list_any}
use Rattle.std.proofs.lemmas.Bool.{cases_lt, cases_eq, cases_Bool, eqb-true}
use Rattle.std.proofs.lemmas.Option.{same_Some, slice_get-get_or}
use Rattle.ms_arena.specs.declared.node.Ref.{Ref}
use Rattle.ms_arena.specs.declared.node.Ref.TheVariants.{Leaf, Inner}
use Rattle.ms_arena.specs.declared.node.Node.{Node}
use Rattle.ms_arena.specs.Diagram.{Bits, leaf_of, IsBefore, IsValid, IsOrdered}
use Rattle.ms_arena.specs.Leaves.{leaves_within}
use Rattle.ms_arena.proofs.Canonicity.{end_for}
use Rattle.ms_arena.proofs.Lists.{slice_get-held, slice_get-append_some, slice_get-push, slice_get-pushed}
use Rattle.ms_arena.proofs.Paths.{IsBefore-later, IsBefore-end_at, leaf_of-leaf, leaf_of-node}
use Rattle.ms_diagram.specs.Leaves.{noted, leaves_of, KnowsAll}
use Rattle.ms_diagram.proofs.LeavesLemmas.{leaves_within-leaf, leaves_within-node, KnowsAll-noted}
use Rattle.ms_minim.specs.SignReading.{IsRead}
use Rattle.ms_logic_words.specs.declared.sign.Sign.{Sign}
use Rattle.ms_logic_words.specs.Content.{StateOf, Content}
use Rattle.ms_minim.specs.inner.Partition.{next_by}
use Rattle.ms_minim.specs.inner.Predecessors.{IsListed, AreBelow, PredecessorsSoFar}
use Rattle.ms_minim.proofs.MarkLemmas.{leads_by}
use Rattle.ms_minim.proofs.ResidualLemmas.{next_by-within}

KnowsAll-split : (seen xs ys : List ℕ) → KnowsAll seen (xs ++ ys) → KnowsAll seen xs × KnowsAll seen ys
KnowsAll-split seen [] ys known = (tt, known)
KnowsAll-split seen (x ∷ xs) ys known = let more = KnowsAll-split seen xs ys known.1 in ((known.0, more.0), more.1)

end_known : (nodes : List Node) (seen : List ℕ) (node : Node) (bit : Bool)
    → KnowsAll seen (leaves_within nodes (length nodes) node.low) × KnowsAll seen (leaves_within nodes (length nodes) node.high) → KnowsAll seen (leaves_within nodes (length nodes) (end_for node bit))
end_known nodes seen node true both = both.1
end_known nodes seen node false both = both.0

module _ (nodes : List Node) (ordered : IsOrdered nodes) (seen : List ℕ) (bits : Bits) where
  -- the leaf to which bits lead is among those along all paths
  known_leaf : (count : ℕ) (root : Ref) → IsBefore count root → count ≤ length nodes → KnowsAll seen (leaves_within nodes (length nodes) root) → list_any (nat_eq (leaf_of nodes root bits)) seen ≡ true
  known_leaf count (Leaf value) before within known =
      let listed = subst (KnowsAll seen) (leaves_within-leaf nodes (length nodes) value) known in
      ap (λ leaf. list_any (nat_eq leaf) seen) (leaf_of-leaf nodes bits value) ∙ listed.0
  known_leaf zero (Inner place) before within known = absurd (omega (arith, before))
  known_leaf (suc count) (Inner place) before within known =
      let held = slice_get-held nodes place (omega (arith, before, within)) in
      let both = KnowsAll-split seen (leaves_within nodes (length nodes) held.0.low) (leaves_within nodes (length nodes) held.0.high)
      (subst (KnowsAll seen) (leaves_within-node nodes ordered place held.0 held.1) known) in
      ap (λ leaf. list_any (nat_eq leaf) seen) (leaf_of-node nodes ordered bits place held.0 held.1)
      ∙ known_leaf count (end_for held.0 (bits held.0.var))
      (IsBefore-later place count (end_for held.0 (bits held.0.var)) (omega (arith, before)) (IsBefore-end_at nodes ordered place held.0 bits held.1)) (omega (arith, within))
      (end_known nodes seen held.0 (bits held.0.var) both)

any_at : (item : ℕ) (list : List ℕ) → list_any (nat_eq item) list ≡ true → (place : ℕ) × (slice_get list place ≡ Some item)
any_at item [] there = absurd (let never : ⊥ = cc in never)
any_at item (x ∷ list) there = ⊎_elim
    (λ here. (0, ap Some (sym (eqb-true item x here))))
    (λ not_here. let more = any_at item list (sym (ap (λ test. test || list_any (nat_eq item) list) not_here) ∙ there) in (suc more.0, more.1))
    (cases_Bool (nat_eq item x))

pub leaf_listed : (nodes : List Node) → IsOrdered nodes → (root : Ref) → IsValid nodes root → (bits : Bits) → (place : ℕ) × (slice_get (leaves_of nodes root) place ≡ Some (leaf_of nodes root bits))
unfolding leaves_of
leaf_listed nodes ordered root valid bits =
    any_at (leaf_of nodes root bits) (fold noted [] (leaves_within nodes (length nodes) root))
    (known_leaf nodes ordered (fold noted [] (leaves_within nodes (length nodes) root)) bits (length nodes) root valid (omega arith) (KnowsAll-noted [] (leaves_within nodes (length nodes) root)))

-- one item more in one list
abbrev pub with_item : List (List ℕ) → ℕ → ℕ → List (List ℕ)
with_item lists leaf item = set lists leaf (get_or lists leaf [] ++ item ∷ [])

module _ (lists : List (List ℕ)) (leaf item : ℕ) (within : leaf < length lists) where
  pub IsListed-kept : (state other : ℕ) → IsListed lists state other → IsListed (with_item lists leaf item) state other
  IsListed-kept state other was = ⊎_elim
      (λ same.
      let here : slice_get (get_or lists leaf []) was.0 ≡ Some other = ap (λ s. slice_get (get_or lists s []) was.0) (sym same) ∙ was.1 in (
        was.0,
        ap (λ s. slice_get (get_or (with_item lists leaf item) s []) was.0) same
            ∙ ap (λ list. slice_get list was.0) (get_or-set_same lists leaf (get_or lists leaf [] ++ item ∷ []) [] within)
            ∙ slice_get-append_some (get_or lists leaf []) (item ∷ []) was.0 other here,
      ))
      (λ differ. (was.0, ap (λ list. slice_get list was.0) (get_or-set_other lists leaf state (get_or lists leaf [] ++ item ∷ []) [] differ) ∙ was.1))
      (cases_eq state leaf)

  pub IsListed-added : IsListed (with_item lists leaf item) leaf item
  IsListed-added = (
    length (get_or lists leaf []),
    ap (λ list. slice_get list (length (get_or lists leaf []))) (get_or-set_same lists leaf (get_or lists leaf [] ++ item ∷ []) [] within)
        ∙ slice_get-push (get_or lists leaf []) item,
  )

  pub AreBelow-added : (bound : ℕ) → item < bound → AreBelow bound lists → AreBelow bound (with_item lists leaf item)
  AreBelow-added bound less were state other is = ⊎_elim
      (λ same.
      let here : slice_get (get_or lists leaf [] ++ item ∷ []) is.0 ≡ Some other
      = sym (ap (λ s. slice_get (get_or (with_item lists leaf item) s []) is.0) same
      ∙ ap (λ list. slice_get list is.0) (get_or-set_same lists leaf (get_or lists leaf [] ++ item ∷ []) [] within)) ∙ is.1 in
      ⊎_elim (λ before. were leaf other (is.0, before)) (λ last. subst (λ n. n < bound) last.1 less)
      (slice_get-pushed (get_or lists leaf []) item is.0 other here))
      (λ differ. were state other (is.0, sym (ap (λ list. slice_get list is.0) (get_or-set_other lists leaf state (get_or lists leaf [] ++ item ∷ []) [] differ)) ∙ is.1))
      (cases_eq state leaf)

-- one state more is listed wherever it leads
pub PredecessorsSoFar-more : (content : Content Sign) (automaton : IsRead content) (lists more : List (List ℕ)) (done : ℕ) → PredecessorsSoFar content lists done → done < length content.states
    → (root : Ref) → IfSome (slice_get content.states done) (λ (found : StateOf Sign). root ≡ found.next) → IsValid content.nodes root
    → (leaves : List ℕ) → leaves ≡ leaves_of content.nodes root → length more ≡ length lists
    → ((state other : ℕ) → IsListed lists state other → IsListed more state other)
    → ((place leaf : ℕ) → slice_get leaves place ≡ Some leaf → leaf < length lists → IsListed more leaf done)
    → ((bound : ℕ) → done < bound → AreBelow bound lists → AreBelow bound more) → PredecessorsSoFar content more (done + 1)
PredecessorsSoFar-more content automaton lists more done was within root next valid leaves leaves_are same kept added below = record {
  count = same ∙ was.count;
  listed = λ state less bits. ⊎_elim
      (λ before. kept (next_by content state bits) state (was.listed state before bits))
      (λ past.
      let last : state ≡ done = omega (arith, less, past) in
      let there = leaf_listed content.nodes automaton.ordered root valid bits in
      let leaf : next_by content done bits ≡ leaf_of content.nodes root bits = leads_by content [] done root within next bits in
      let count = was.count in
      let inside = next_by-within content automaton.ordered automaton.closed done within bits in
      let in_users : next_by content done bits < length lists = omega (arith, inside, count) in
      let held : slice_get leaves there.0 ≡ Some (next_by content done bits) = ap (λ list. slice_get list there.0) leaves_are ∙ there.1 ∙ ap Some (sym leaf) in
      subst (λ s. IsListed more (next_by content s bits) s) (sym last) (added there.0 (next_by content done bits) held in_users))
      (cases_lt state done);
  below = below (length content.states) within was.below;
}

-- an item that was read is that of the list
pub item_is : (lists : List (List ℕ)) (place : ℕ) (item : List ℕ) → place < length lists → item ≡ get_or lists place item → item ≡ get_or lists place []
item_is lists place item within is =
    is ∙ same_Some (get_or lists place item) (get_or lists place []) (sym (slice_get-get_or lists place item within) ∙ slice_get-get_or lists place [] within)
