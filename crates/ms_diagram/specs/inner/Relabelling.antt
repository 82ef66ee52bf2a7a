-- The walk whose leaves are read in a map.
use Rattle.std.specs.Prelude.{◌≡◌, ℕ, ◌<◌, nat_eq, List, length, slice_get, Some, refl}
use Rattle.std.proofs.Common.{sym, ap, subst, ◌∙◌}
use Rattle.std.proofs.lemmas.Bool.{eqb-true}
use Rattle.ms_arena.specs.declared.node.Ref.{Ref}
use Rattle.ms_arena.specs.declared.node.Ref.TheVariants.{Inner}
use Rattle.ms_arena.specs.declared.node.Node.{Node}
use Rattle.ms_arena.specs.Diagram.{Bits, leaf_of, IsValid, IsOrdered}
use Rattle.ms_arena.specs.Target.{Extends}
use Rattle.ms_arena.proofs.Appending.{IsValid-extends, leaf_of-extends}
use Rattle.ms_diagram.specs.Relabel.{MappedLeaf, CoversLeaves, IsRelabelled}
use Rattle.ms_diagram.specs.inner.Walk.{Rules, Follows, AreLaws}

-- what it builds
abbrev pub relabelling : {S : Type 0} → (S → List ℕ) → Rules S Ref ℕ
relabelling map_of = record {
  Later = λ early late. map_of late ≡ map_of early;
  IsRight = λ state. Unit {0};
  Wanted = λ state nodes root. MappedLeaf nodes (map_of state) root;
  Fits = λ state nodes root. IsValid nodes root × CoversLeaves nodes (map_of state) root;
  Lacks = λ state nodes root. ⊥;
  Adds = λ state nodes root before after. Unit {0};
  IsEntry = λ state nodes place made. IsRelabelled nodes (map_of state) place made;
  item_of = Inner;
}

-- an entry of the table stays right while the store grows
pub IsRelabelled-grows : (old new : List Node) (map : List ℕ) → IsOrdered old → Extends old new → (place : ℕ) (made : Ref) → IsRelabelled old map place made → IsRelabelled new map place made
IsRelabelled-grows old new map ordered extends place made is = record {
  valid_root = IsValid-extends old new extends (Inner place) is.valid_root;
  valid = IsValid-extends old new extends made is.valid;
  meets = λ bits.
      ap (slice_get map) (leaf_of-extends old new extends ordered (Inner place) bits is.valid_root)
      ∙ is.meets bits ∙ ap Some (sym (leaf_of-extends old new extends ordered made bits is.valid));
}

module _ {S : Type 0} (map_of : S → List ℕ) where
  pub covers_later : (early : S) (old : List Node) (late : S) (new : List Node) → Follows (relabelling map_of) early old late new → (root : Ref)
      → IsValid old root → CoversLeaves old (map_of early) root → CoversLeaves new (map_of late) root
  covers_later early old late new follows root valid covers bits =
      subst (λ (map : List ℕ). leaf_of new root bits < length map) (sym follows.later)
      (subst (λ leaf. leaf < length (map_of early)) (sym (leaf_of-extends old new follows.extends follows.ordered_old root bits valid)) (covers bits))

  mapped_later : (early : S) (old : List Node) (late : S) (new : List Node) → Follows (relabelling map_of) early old late new → (root : Ref)
      → IsValid old root → (bits : Bits) → slice_get (map_of late) (leaf_of new root bits) ≡ slice_get (map_of early) (leaf_of old root bits)
  mapped_later early old late new follows root valid bits =
      let same = follows.later in
      let leaf = leaf_of-extends old new follows.extends follows.ordered_old root bits valid in
      λ i. slice_get (same i) (leaf i)

  pub relabelling_laws : AreLaws (relabelling map_of) nat_eq
  relabelling_laws = record {
    later_same = λ state. refl;
    later_then = λ one two three first second. second ∙ first;
    fits_later = λ early old late new follows root fits.
        (IsValid-extends old new follows.extends root fits.0, covers_later early old late new follows root fits.0 fits.1);
    wanted_later = λ early old late new follows root fits bits number there. mapped_later early old late new follows root fits.0 bits ∙ there;
    adds_later = λ early old late new follows root fits before after added. tt;
    adds_same = λ state nodes root same. tt;
    adds_then = λ state nodes root one two three later first second. tt;
    entry_later = λ early old late new follows place made is.
        subst (λ (map : List ℕ). IsRelabelled new map place made) (sym follows.later)
        (IsRelabelled-grows old new (map_of early) follows.ordered_old follows.extends place made is);
    entry_built = λ state nodes place made fits built. record { valid_root = fits.0; valid = built.valid; meets = built.meets };
    entry_same = λ state nodes place other made equal is. subst (λ at. IsRelabelled nodes (map_of state) at made) (eqb-true place other equal) is;
  }
