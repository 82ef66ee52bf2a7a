-- The walk over two diagrams at once.
use Rattle.std.specs.Prelude.{◌≡◌, ℕ, List, slice_get, Some}
use Rattle.std.proofs.Common.{sym, ap, subst, ◌∙◌}
use Rattle.ms_arena.specs.declared.node.Ref.{Ref}
use Rattle.ms_arena.specs.declared.node.Node.{Node}
use Rattle.ms_arena.specs.contracts.node.RefPartialEq.TheImpl as of_ref
use Rattle.ms_arena.specs.Diagram.{Bits, leaf_of, IsValid, IsOrdered}
use Rattle.ms_arena.specs.Target.{Extends}
use Rattle.ms_arena.proofs.Appending.{Extends-same, Extends-further, IsValid-extends, leaf_of-extends, slice_get-extends}
use Rattle.ms_arena.proofs.Equality.{same_ref}
use Rattle.ms_diagram.specs.inner.Adding.{AddsOnly-same, AddsOnly-then, AddsOnly-implies}
use Rattle.ms_diagram.specs.Apply.{leaves_at, HasLeaves, PairNumber, LacksPair, IsPaired}
use Rattle.ms_diagram.specs.inner.Equal.{pair_eq, same_pair}
use Rattle.ms_diagram.specs.Numbering.{AddsOnly, IsNumbering}
use Rattle.ms_diagram.specs.inner.Walk.{Rules, AreLaws}

-- what it builds
abbrev pub applying : Rules (List (ℕ × ℕ)) (Ref × Ref) (Ref × Ref)
applying = record {
  Later = λ early late. Extends early late;
  IsRight = λ pairs. IsNumbering pairs;
  Wanted = λ pairs nodes item. PairNumber nodes pairs item.0 item.1;
  Fits = λ pairs nodes item. IsValid nodes item.0 × IsValid nodes item.1;
  Lacks = λ pairs nodes item. LacksPair nodes pairs item.0 item.1;
  Adds = λ pairs nodes item before after. AddsOnly (HasLeaves nodes item.0 item.1) before after;
  IsEntry = λ pairs nodes key made. IsPaired nodes pairs key made;
  item_of = λ key. key;
}

module _ (old new : List Node) (ordered : IsOrdered old) (extends : Extends old new) (pairs more : List (ℕ × ℕ)) (further : Extends pairs more) where
  -- an entry of the table stays right while the store and the numbering grow
  pub IsPaired-grows : (key : Ref × Ref) (made : Ref) → IsPaired old pairs key made → IsPaired new more key made
  IsPaired-grows key made is = record {
    valid_f = IsValid-extends old new extends key.0 is.valid_f;
    valid_g = IsValid-extends old new extends key.1 is.valid_g;
    valid = IsValid-extends old new extends made is.valid;
    meets = λ bits.
        let left = leaf_of-extends old new extends ordered key.0 bits is.valid_f in
        let right = leaf_of-extends old new extends ordered key.1 bits is.valid_g in
        ap (slice_get more) (leaf_of-extends old new extends ordered made bits is.valid)
        ∙ slice_get-extends pairs more further (leaf_of old made bits) (leaves_at old key.0 key.1 bits) (is.meets bits)
        ∙ (λ i. Some (sym left i, sym right i));
  }

-- the leaves of two references stay
pub leaves_later : (old new : List Node) → IsOrdered old → Extends old new → (item : Ref × Ref) → IsValid old item.0 × IsValid old item.1 → (bits : Bits)
    → leaves_at new item.0 item.1 bits ≡ leaves_at old item.0 item.1 bits
leaves_later old new ordered extends item valid bits =
    let left = leaf_of-extends old new extends ordered item.0 bits valid.0 in
    let right = leaf_of-extends old new extends ordered item.1 bits valid.1 in
    λ i. (left i, right i)

pub leaves_later_has : (old new : List Node) → IsOrdered old → Extends old new → (item : Ref × Ref) → IsValid old item.0 × IsValid old item.1 → (pair : ℕ × ℕ)
    → HasLeaves old item.0 item.1 pair → HasLeaves new item.0 item.1 pair
leaves_later_has old new ordered extends item valid pair has = (has.0, leaves_later old new ordered extends item valid has.0 ∙ has.1)

pub applying_laws : AreLaws applying (pair_eq of_ref.eq-value.it of_ref.eq-value.it)
applying_laws = record {
  later_same = λ pairs. Extends-same pairs;
  later_then = λ one two three first second. Extends-further one two three first second;
  fits_later = λ early old late new follows item fits. (IsValid-extends old new follows.extends item.0 fits.0, IsValid-extends old new follows.extends item.1 fits.1);
  wanted_later = λ early old late new follows item fits bits number there.
      slice_get-extends early late follows.later number (leaves_at old item.0 item.1 bits) there
      ∙ ap Some (sym (leaves_later old new follows.ordered_old follows.extends item fits bits));
  adds_later = λ early old late new follows item fits before after added.
      AddsOnly-implies (HasLeaves old item.0 item.1) (HasLeaves new item.0 item.1) before after
      (leaves_later_has old new follows.ordered_old follows.extends item fits) added;
  adds_same = λ pairs nodes item same. AddsOnly-same (HasLeaves nodes item.0 item.1) same;
  adds_then = λ pairs nodes item one two three later first second.
      AddsOnly-then (HasLeaves nodes item.0 item.1) (HasLeaves nodes item.0 item.1) (HasLeaves nodes item.0 item.1) one two three
      (λ pair has. has) (λ pair has. has) later first second;
  entry_later = λ early old late new follows key made is. IsPaired-grows old new follows.ordered_old follows.extends early late follows.later key made is;
  entry_built = λ pairs nodes key made fits built. record { valid_f = fits.0; valid_g = fits.1; valid = built.valid; meets = built.meets };
  entry_same = λ pairs nodes key other made equal is.
      subst (λ (k : Ref × Ref). IsPaired nodes pairs k made) (same_pair of_ref.eq-value.it of_ref.eq-value.it same_ref same_ref key other equal) is;
}
