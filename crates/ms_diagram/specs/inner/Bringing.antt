-- The walk through another store, whose variables are read in a map.
use Rattle.std.specs.Prelude.{◌≡◌, ℕ, nat_eq, List, refl}
use Rattle.std.proofs.Common.{sym, subst, ◌∙◌}
use Rattle.std.proofs.lemmas.Bool.{eqb-true}
use Rattle.ms_arena.specs.declared.node.Ref.{Ref}
use Rattle.ms_arena.specs.declared.node.Ref.TheVariants.{Inner}
use Rattle.ms_arena.specs.declared.node.Node.{Node}
use Rattle.ms_arena.specs.Diagram.{leaf_of, IsValid, IsOrdered}
use Rattle.ms_arena.specs.Target.{Extends}
use Rattle.ms_arena.proofs.Appending.{IsValid-extends, leaf_of-extends}
use Rattle.ms_diagram.specs.Bring.{read_through, RenamedLeaf, Renames, IsBrought}
use Rattle.ms_diagram.specs.inner.Walk.{Rules, AreLaws}

-- what it builds
abbrev pub bringing : {S : Type 0} → (S → List Node) → (S → List ℕ) → Rules S Ref ℕ
bringing origin_of map_of = record {
  Later = λ early late. (origin_of late ≡ origin_of early) × (map_of late ≡ map_of early);
  IsRight = λ state. Unit {0};
  Wanted = λ state nodes root. RenamedLeaf (origin_of state) (map_of state) root;
  Fits = λ state nodes root. IsValid (origin_of state) root × Renames (origin_of state) (map_of state) root;
  Lacks = λ state nodes root. ⊥;
  Adds = λ state nodes root before after. Unit {0};
  IsEntry = λ state nodes place made. IsBrought (origin_of state) (map_of state) nodes place made;
  item_of = Inner;
}

-- an entry of the table stays right while the store grows
pub IsBrought-grows : (origin old new : List Node) (map : List ℕ) → IsOrdered old → Extends old new → (place : ℕ) (made : Ref) → IsBrought origin map old place made → IsBrought origin map new place made
IsBrought-grows origin old new map ordered extends place made is = record {
  valid_root = is.valid_root;
  valid = IsValid-extends old new extends made is.valid;
  meets = λ bits. leaf_of-extends old new extends ordered made bits is.valid ∙ is.meets bits;
}

module _ {S : Type 0} (origin_of : S → List Node) (map_of : S → List ℕ) where
  pub bringing_fits : (early late : S) → (origin_of late ≡ origin_of early) × (map_of late ≡ map_of early) → (root : Ref)
      → IsValid (origin_of early) root × Renames (origin_of early) (map_of early) root → IsValid (origin_of late) root × Renames (origin_of late) (map_of late) root
  bringing_fits early late later root fits =
      subst (λ (origin : List Node). IsValid origin root × Renames origin (map_of late) root) (sym later.0)
      (subst (λ (map : List ℕ). IsValid (origin_of early) root × Renames (origin_of early) map root) (sym later.1) fits)

  pub bringing_laws : AreLaws (bringing origin_of map_of) nat_eq
  bringing_laws = record {
    later_same = λ state. (refl, refl);
    later_then = λ one two three first second. (second.0 ∙ first.0, second.1 ∙ first.1);
    fits_later = λ early old late new follows root fits. bringing_fits early late follows.later root fits;
    wanted_later = λ early old late new follows root fits bits number there.
        let origins = sym follows.later.0 in
        let maps = sym follows.later.1 in
        there ∙ (λ i. leaf_of (origins i) root (read_through (maps i) bits));
    adds_later = λ early old late new follows root fits before after added. tt;
    adds_same = λ state nodes root same. tt;
    adds_then = λ state nodes root one two three later first second. tt;
    entry_later = λ early old late new follows place made is.
        subst (λ (origin : List Node). IsBrought origin (map_of late) new place made) (sym follows.later.0)
        (subst (λ (map : List ℕ). IsBrought (origin_of early) map new place made) (sym follows.later.1)
        (IsBrought-grows (origin_of early) old new (map_of early) follows.ordered_old follows.extends place made is));
    entry_built = λ state nodes place made fits built. record { valid_root = fits.0; valid = built.valid; meets = built.meets };
    entry_same = λ state nodes place other made equal is.
        subst (λ at. IsBrought (origin_of state) (map_of state) nodes at made) (eqb-true place other equal) is;
  }
