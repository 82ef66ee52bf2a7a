-- A formed and new node may stand behind an ordered and reduced list.
use Rattle.std.proofs.Common.{◌≡◌, ◌≢◌, ℕ, ◌<◌, true, false, if◌then◌else◌, List, [], ◌∷◌, ◌++◌, length, slice_get, Some, sym, ap, subst, ◌∙◌, inl, inr, ⊎_elim, length-append, append_assoc, append-nil, arith}
use Rattle.std.proofs.lemmas.Option.{slice_get_within}
use Rattle.ms_arena.specs.declared.node.Ref.{Ref}
use Rattle.ms_arena.specs.declared.node.Ref.TheVariants.{Leaf, Inner}
use Rattle.ms_arena.specs.declared.node.Node.{Node}
use Rattle.ms_arena.specs.Diagram.{Bits, leaf_of, IsBefore, IsValid, TestsAbove, IsOrdered, IsReduced}
use Rattle.ms_arena.specs.Target.{Extends, Appends, HoldsAt, IsFormed, IsNew}
use Rattle.ms_arena.proofs.Lists.{slice_get-append_left, slice_get-append_some, slice_get-pushed}
use Rattle.ms_arena.proofs.Paths.{IsBefore-later, leaf_of-node, leaf_of-append}

module _ (nodes more : List Node) where
  -- a valid reference stays valid
  pub IsValid-append : (reference : Ref) → IsValid nodes reference → IsValid (nodes ++ more) reference
  IsValid-append reference valid = IsBefore-later (length nodes) (length (nodes ++ more)) reference (omega (arith, length-append nodes more)) valid

  -- and tests above the same variables
  pub TestsAbove-append : (var : ℕ) (reference : Ref) → IsValid nodes reference → TestsAbove nodes var reference → TestsAbove (nodes ++ more) var reference
  TestsAbove-append var (Leaf value) valid above = tt
  TestsAbove-append var (Inner place) valid above = λ node held. above node (sym (slice_get-append_left nodes more place valid) ∙ held)

  -- as it did before
  pub TestsAbove-before_append : (var : ℕ) (reference : Ref) → IsValid nodes reference → TestsAbove (nodes ++ more) var reference → TestsAbove nodes var reference
  TestsAbove-before_append var (Leaf value) valid above = tt
  TestsAbove-before_append var (Inner place) valid above = λ node held. above node (slice_get-append_left nodes more place valid ∙ held)

-- a list extends itself
pub Extends-same : {X : Type 0} → (list : List X) → Extends list list
Extends-same list = ([], sym (append-nil list))

-- what extends an extension extends the first list
pub Extends-further : {X : Type 0} → (one two three : List X) → Extends one two → Extends two three → Extends one three
Extends-further one two three first second =
    (first.0 ++ second.0, second.1 ∙ ap (λ list. list ++ second.0) first.1 ∙ append_assoc one first.0 second.0)

-- an item stays at its place
pub slice_get-extends : {X : Type 0} (old new : List X) → Extends old new → (place : ℕ) (item : X) → slice_get old place ≡ Some item → slice_get new place ≡ Some item
slice_get-extends old new extends place item held = subst (λ list. slice_get list place ≡ Some item) (sym extends.1) (slice_get-append_some old extends.0 place item held)

-- to append is to extend
pub Extends-from_appends : (old new : List Node) (node : Node) → Appends old new node → Extends old new
Extends-from_appends old new node (inl same) = ([], same ∙ sym (append-nil old))
Extends-from_appends old new node (inr added) = (node ∷ [], added.2)

module _ (old new : List Node) (extends : Extends old new) where
  -- what holds of a reference in the first list holds in each that extends it
  pub IsValid-extends : (reference : Ref) → IsValid old reference → IsValid new reference
  IsValid-extends reference valid = subst (λ list. IsValid list reference) (sym extends.1) (IsValid-append old extends.0 reference valid)

  pub TestsAbove-extends : (var : ℕ) (reference : Ref) → IsValid old reference → TestsAbove old var reference → TestsAbove new var reference
  TestsAbove-extends var reference valid above = subst (λ list. TestsAbove list var reference) (sym extends.1) (TestsAbove-append old extends.0 var reference valid above)

  -- its function stays
  pub leaf_of-extends : IsOrdered old → (reference : Ref) (bits : Bits) → IsValid old reference → leaf_of new reference bits ≡ leaf_of old reference bits
  leaf_of-extends ordered reference bits valid =
      ap (λ list. leaf_of list reference bits) extends.1 ∙ leaf_of-append old extends.0 ordered bits reference valid

  -- the function of a node whose ends were there before
  pub leaf_of-made : IsOrdered old → IsOrdered new → (node : Node) (made : Ref) (bits : Bits) → IsValid old node.low → IsValid old node.high → HoldsAt new node made
      → leaf_of new made bits ≡ (if bits node.var then leaf_of old node.high bits else leaf_of old node.low bits)
  leaf_of-made ordered ordered_new node (Leaf value) bits low high held = absurd held
  leaf_of-made ordered ordered_new node (Inner place) bits low high held =
      leaf_of-node new ordered_new bits place node held
      ∙ elim (bits node.var) as (λ bit. leaf_of new (if bit then node.high else node.low) bits ≡ (if bit then leaf_of old node.high bits else leaf_of old node.low bits)) [
        | true ↦ leaf_of-extends ordered node.high bits high
        | false ↦ leaf_of-extends ordered node.low bits low
      ]

-- a reference to a held node is valid
pub IsValid-held : (nodes : List Node) (node : Node) (reference : Ref) → HoldsAt nodes node reference → IsValid nodes reference
IsValid-held nodes node (Leaf value) held = tt
IsValid-held nodes node (Inner place) held = slice_get_within nodes place node held

module _ (nodes : List Node) (node : Node) (formed : IsFormed nodes node) where
  -- the list stays ordered
  pub IsOrdered-push : IsOrdered nodes → IsOrdered (nodes ++ node ∷ [])
  IsOrdered-push ordered = record {
    earlier_low = λ place other held. ⊎_elim (ordered.earlier_low place other)
        (λ last. subst (λ at. IsBefore at other.low) (sym last.0) (subst (λ (n : Node). IsValid nodes n.low) last.1 formed.valid_low))
        (slice_get-pushed nodes node place other held);
    earlier_high = λ place other held. ⊎_elim (ordered.earlier_high place other)
        (λ last. subst (λ at. IsBefore at other.high) (sym last.0) (subst (λ (n : Node). IsValid nodes n.high) last.1 formed.valid_high))
        (slice_get-pushed nodes node place other held);
    rising_low = λ place other held. ⊎_elim
        (λ there. TestsAbove-append nodes (node ∷ []) other.var other.low (within_low ordered place other there) (ordered.rising_low place other there))
        (λ last. subst (λ (n : Node). TestsAbove (nodes ++ node ∷ []) n.var n.low) last.1 (TestsAbove-append nodes (node ∷ []) node.var node.low formed.valid_low formed.above_low))
        (slice_get-pushed nodes node place other held);
    rising_high = λ place other held. ⊎_elim
        (λ there. TestsAbove-append nodes (node ∷ []) other.var other.high (within_high ordered place other there) (ordered.rising_high place other there))
        (λ last. subst (λ (n : Node). TestsAbove (nodes ++ node ∷ []) n.var n.high) last.1 (TestsAbove-append nodes (node ∷ []) node.var node.high formed.valid_high formed.above_high))
        (slice_get-pushed nodes node place other held);
  }
    where
      within_low : IsOrdered nodes → (place : ℕ) (other : Node) → slice_get nodes place ≡ Some other → IsValid nodes other.low
      within_low ordered place other there =
          let inside : place < length nodes = slice_get_within nodes place other there in
          IsBefore-later place (length nodes) other.low (omega arith) (ordered.earlier_low place other there)

      within_high : IsOrdered nodes → (place : ℕ) (other : Node) → slice_get nodes place ≡ Some other → IsValid nodes other.high
      within_high ordered place other there =
          let inside : place < length nodes = slice_get_within nodes place other there in
          IsBefore-later place (length nodes) other.high (omega arith) (ordered.earlier_high place other there)

  -- and reduced
  pub IsReduced-push : IsNew nodes node → IsReduced nodes → IsReduced (nodes ++ node ∷ [])
  IsReduced-push new reduced = record {
    ends_differ = λ place other held. ⊎_elim (reduced.ends_differ place other)
        (λ last. subst (λ (n : Node). n.low ≢ n.high) last.1 formed.ends_differ)
        (slice_get-pushed nodes node place other held);
    distinct = λ one two other first second. ⊎_elim
        (λ there. ⊎_elim
        (λ here. reduced.distinct one two other there here)
        (λ last. absurd (new one (there ∙ ap Some (sym last.1))))
        (slice_get-pushed nodes node two other second))
        (λ last. ⊎_elim
        (λ here. absurd (new two (here ∙ ap Some (sym last.1))))
        (λ also. last.0 ∙ sym also.0)
        (slice_get-pushed nodes node two other second))
        (slice_get-pushed nodes node one other first);
  }
