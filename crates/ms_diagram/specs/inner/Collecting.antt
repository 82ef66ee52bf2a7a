-- The walk over several diagrams of another store at once.
use Rattle.std.specs.Prelude.{◌≡◌, ℕ, Bool, true, List, All, Contains, refl}
use Rattle.std.proofs.Common.{sym, subst, ◌∙◌}
use Rattle.ms_arena.specs.declared.node.Ref.{Ref}
use Rattle.ms_arena.specs.declared.node.Node.{Node}
use Rattle.ms_arena.specs.Diagram.{IsOrdered}
use Rattle.ms_arena.specs.Target.{Extends}
use Rattle.ms_arena.proofs.Appending.{Extends-same, Extends-further, IsValid-extends, leaf_of-extends, slice_get-extends}
use Rattle.ms_arena.proofs.Needs.{Implies}
use Rattle.ms_diagram.specs.inner.Adding.{AddsOnly-same, AddsOnly-then}
use Rattle.ms_diagram.specs.Collect.{IsRisingSet, HasLeafSet, SetNumber, LacksSet, IsSetNumbering, IsCollected}
use Rattle.ms_diagram.specs.Numbering.{AddsOnly}
use Rattle.ms_diagram.specs.Projecting.{Projecting, IsReadIn, KeepsOrder}
use Rattle.ms_diagram.specs.inner.Walk.{Rules, AreLaws}

-- what it builds
abbrev pub collecting : {S N I : Type 0} → (S → Projecting) → (S → List (List ℕ)) → (S → N) → (I → List Ref) → Rules S I I
collecting view_of sets_of name_of roots_of = record {
  Later = λ early late. (view_of late ≡ view_of early) × (name_of late ≡ name_of early) × Extends (sets_of early) (sets_of late);
  IsRight = λ state. IsSetNumbering (sets_of state);
  Wanted = λ state nodes item. SetNumber (view_of state) (sets_of state) (roots_of item);
  Fits = λ state nodes item. KeepsOrder (view_of state) × All (IsReadIn (view_of state)) (roots_of item);
  Lacks = λ state nodes item. LacksSet (view_of state) (sets_of state) (roots_of item);
  Adds = λ state nodes item before after. AddsOnly (HasLeafSet (view_of state) (roots_of item)) (sets_of before) (sets_of after);
  IsEntry = λ state nodes key made. IsCollected (view_of state) (sets_of state) nodes (roots_of key) made;
  item_of = λ key. key;
}

-- what holds of each item holds of one that is there
pub All-member : {X : Type 0} (fact : X → Type 0) (xs : List X) (item : X) → All fact xs → Contains xs item → fact item
All-member fact xs item all there = subst fact there.2 (all there.0 item there.1)

-- a rising set of the same numbers, said in another way
pub IsRisingSet-same : (set : List ℕ) (one two : ℕ → Type 0) → ((item : ℕ) → one item → two item) → ((item : ℕ) → two item → one item) → IsRisingSet set one → IsRisingSet set two
IsRisingSet-same set one two there back is = record {
  rising = is.rising;
  all = λ item member. is.all item (back item member);
  only = λ item held. there item (is.only item held);
}

-- more sets leave the numbers of the old ones
pub SetNumber-more : (view : Projecting) (sets more : List (List ℕ)) → Extends sets more → (roots : List Ref) → Implies (SetNumber view sets roots) (SetNumber view more roots)
SetNumber-more view sets more extends roots bits number is = (is.0, slice_get-extends sets more extends number is.0 is.1, is.2)

-- an entry of the table stays right while the store and the numbering grow
pub IsCollected-grows : (view : Projecting) (sets more : List (List ℕ)) → Extends sets more → (old new : List Node) → IsOrdered old → Extends old new → (roots : List Ref) (made : Ref)
    → IsCollected view sets old roots made → IsCollected view more new roots made
IsCollected-grows view sets more further old new ordered extends roots made is = record {
  read = is.read;
  valid = IsValid-extends old new extends made is.valid;
  meets = λ bits. subst (SetNumber view more roots bits) (sym (leaf_of-extends old new extends ordered made bits is.valid)) (SetNumber-more view sets more further roots bits _ (is.meets bits));
}

-- where items that compare equal have the same roots
module _ {S N I : Type 0} (view_of : S → Projecting) (sets_of : S → List (List ℕ)) (name_of : S → N) (roots_of : I → List Ref)
    {equal : I → I → Bool} (same : (key other : I) → equal key other ≡ true → roots_of key ≡ roots_of other) where
  pub collecting_laws : AreLaws (collecting view_of sets_of name_of roots_of) equal
  collecting_laws = record {
    later_same = λ state. (refl, refl, Extends-same (sets_of state));
    later_then = λ one two three first second.
        (second.0 ∙ first.0, second.1 ∙ first.1, Extends-further (sets_of one) (sets_of two) (sets_of three) first.2 second.2);
    fits_later = λ early old late new follows item fits.
        subst (λ (view : Projecting). KeepsOrder view × All (IsReadIn view) (roots_of item)) (sym follows.later.0) fits;
    wanted_later = λ early old late new follows item fits bits number there.
        subst (λ view. SetNumber view (sets_of late) (roots_of item) bits number) (sym follows.later.0)
        (SetNumber-more (view_of early) (sets_of early) (sets_of late) follows.later.2 (roots_of item) bits number there);
    adds_later = λ early old late new follows item fits before after added.
        subst (λ view. AddsOnly (HasLeafSet view (roots_of item)) (sets_of before) (sets_of after)) (sym follows.later.0) added;
    adds_same = λ state nodes item own. AddsOnly-same (HasLeafSet (view_of state) (roots_of item)) (sets_of own);
    adds_then = λ state nodes item one two three later first second.
        let has : List ℕ → Type 0 = HasLeafSet (view_of state) (roots_of item) in
        AddsOnly-then has has has (sets_of one) (sets_of two) (sets_of three) (λ set own. own) (λ set own. own) later.2 first second;
    entry_later = λ early old late new follows key made is.
        subst (λ view. IsCollected view (sets_of late) new (roots_of key) made) (sym follows.later.0)
        (IsCollected-grows (view_of early) (sets_of early) (sets_of late) follows.later.2 old new follows.ordered_old follows.extends (roots_of key) made is);
    entry_built = λ state nodes key made fits built. record { read = fits.1; valid = built.valid; meets = built.meets };
    entry_same = λ state nodes key other made passes is.
        subst (λ (roots : List Ref). IsCollected (view_of state) (sets_of state) nodes roots made) (same key other passes) is;
  }
