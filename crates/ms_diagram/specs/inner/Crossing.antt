-- The walk over two diagrams of other stores at once.
use Rattle.std.specs.Prelude.{◌≡◌, ℕ, List, refl}
use Rattle.std.proofs.Common.{sym, subst, ◌∙◌}
use Rattle.ms_arena.specs.declared.node.Ref.{Ref}
use Rattle.ms_arena.specs.declared.node.Node.{Node}
use Rattle.ms_arena.specs.contracts.node.RefPartialEq.TheImpl as of_ref
use Rattle.ms_arena.specs.Diagram.{IsOrdered}
use Rattle.ms_arena.specs.Target.{Extends}
use Rattle.ms_arena.proofs.Appending.{Extends-same, Extends-further, IsValid-extends, leaf_of-extends, slice_get-extends}
use Rattle.ms_arena.proofs.Equality.{same_ref}
use Rattle.ms_arena.proofs.Needs.{Implies}
use Rattle.ms_diagram.specs.declared.sides.Sides.{Sides}
use Rattle.ms_diagram.specs.Across.{AreOn, leaves_across, HasLeavesAcross, NumberAcross, LacksAcross, IsPairedAcross}
use Rattle.ms_diagram.specs.inner.Adding.{AddsOnly-same, AddsOnly-then}
use Rattle.ms_diagram.specs.inner.Equal.{pair_eq, same_pair}
use Rattle.ms_diagram.specs.Numbering.{AddsOnly, IsNumbering}
use Rattle.ms_diagram.specs.inner.Walk.{Rules, AreLaws}

-- what it builds
abbrev pub crossing : {S N : Type 0} → (S → Sides) → (S → List (ℕ × ℕ)) → (S → N) → Rules S (Ref × Ref) (Ref × Ref)
crossing sides_of pairs_of name_of = record {
  Later = λ early late. (sides_of late ≡ sides_of early) × (name_of late ≡ name_of early) × Extends (pairs_of early) (pairs_of late);
  IsRight = λ state. IsNumbering (pairs_of state);
  Wanted = λ state nodes item. NumberAcross (sides_of state) (pairs_of state) item;
  Fits = λ state nodes item. AreOn (sides_of state) item;
  Lacks = λ state nodes item. LacksAcross (sides_of state) (pairs_of state) item;
  Adds = λ state nodes item before after. AddsOnly (HasLeavesAcross (sides_of state) item) (pairs_of before) (pairs_of after);
  IsEntry = λ state nodes key made. IsPairedAcross (sides_of state) (pairs_of state) nodes key made;
  item_of = λ key. key;
}

-- more pairs leave the numbers of the old ones
pub NumberAcross-more : (sides : Sides) (pairs more : List (ℕ × ℕ)) → Extends pairs more → (roots : Ref × Ref) → Implies (NumberAcross sides pairs roots) (NumberAcross sides more roots)
NumberAcross-more sides pairs more extends roots bits number there = slice_get-extends pairs more extends number (leaves_across sides roots bits) there

-- an entry of the table stays right while the store and the numbering grow
pub IsPairedAcross-grows : (sides : Sides) (pairs more : List (ℕ × ℕ)) → Extends pairs more → (old new : List Node) → IsOrdered old → Extends old new → (roots : Ref × Ref) (made : Ref)
    → IsPairedAcross sides pairs old roots made → IsPairedAcross sides more new roots made
IsPairedAcross-grows sides pairs more further old new ordered extends roots made is = record {
  on = is.on;
  valid = IsValid-extends old new extends made is.valid;
  meets = λ bits. subst (NumberAcross sides more roots bits) (sym (leaf_of-extends old new extends ordered made bits is.valid)) (NumberAcross-more sides pairs more further roots bits _ (is.meets bits));
}

module _ {S N : Type 0} (sides_of : S → Sides) (pairs_of : S → List (ℕ × ℕ)) (name_of : S → N) where
  pub crossing_laws : AreLaws (crossing sides_of pairs_of name_of) (pair_eq of_ref.eq-value.it of_ref.eq-value.it)
  crossing_laws = record {
    later_same = λ state. (refl, refl, Extends-same (pairs_of state));
    later_then = λ one two three first second.
        (second.0 ∙ first.0, second.1 ∙ first.1, Extends-further (pairs_of one) (pairs_of two) (pairs_of three) first.2 second.2);
    fits_later = λ early old late new follows item fits. subst (λ sides. AreOn sides item) (sym follows.later.0) fits;
    wanted_later = λ early old late new follows item fits bits number there.
        subst (λ sides. NumberAcross sides (pairs_of late) item bits number) (sym follows.later.0)
        (NumberAcross-more (sides_of early) (pairs_of early) (pairs_of late) follows.later.2 item bits number there);
    adds_later = λ early old late new follows item fits before after added.
        subst (λ sides. AddsOnly (HasLeavesAcross sides item) (pairs_of before) (pairs_of after)) (sym follows.later.0) added;
    adds_same = λ state nodes item same. AddsOnly-same (HasLeavesAcross (sides_of state) item) (pairs_of same);
    adds_then = λ state nodes item one two three later first second.
        let has : ℕ × ℕ → Type 0 = HasLeavesAcross (sides_of state) item in
        AddsOnly-then has has has (pairs_of one) (pairs_of two) (pairs_of three) (λ pair own. own) (λ pair own. own) later.2 first second;
    entry_later = λ early old late new follows key made is.
        subst (λ sides. IsPairedAcross sides (pairs_of late) new key made) (sym follows.later.0)
        (IsPairedAcross-grows (sides_of early) (pairs_of early) (pairs_of late) follows.later.2 old new follows.ordered_old follows.extends key made is);
    entry_built = λ state nodes key made fits built. record { on = fits; valid = built.valid; meets = built.meets };
    entry_same = λ state nodes key other made equal is.
        subst (λ (k : Ref × Ref). IsPairedAcross (sides_of state) (pairs_of state) nodes k made)
        (same_pair of_ref.eq-value.it of_ref.eq-value.it same_ref same_ref key other equal) is;
  }
