-- The `==` of pairs and of lists is equality where that of their parts is.
use Rattle.std.specs.Prelude.{◌≡◌, ℕ, Bool, true, nat_eq, ◌&&◌, List}
use Rattle.std.specs.Cmp.Lexicographic.{pointwise}
use Rattle.std.specs.Cmp.{IsEquivalence}
use Rattle.std.proofs.lemmas.Cmp.{lists_equiv}
use Rattle.std.proofs.Common.{[], ◌∷◌, refl}
use Rattle.std.proofs.lemmas.Bool.{and_parts, false≢true}
use Rattle.ms_arena.specs.declared.node.Ref.{Ref}
use Rattle.ms_arena.specs.contracts.node.RefPartialEq.TheImpl as of_ref
use Rattle.ms_arena.proofs.Equality.{same_ref, ref_laws}

module _ {A B : Type 0} (eq_a : A → A → Bool) (eq_b : B → B → Bool) where
  abbrev pub pair_eq : A × B → A × B → Bool
  pair_eq x y = eq_a x.0 y.0 && eq_b x.1 y.1

  -- pairs that compare equal are equal
  pub same_pair : ((x y : A) → eq_a x y ≡ true → x ≡ y) → ((x y : B) → eq_b x y ≡ true → x ≡ y) → (x y : A × B) → pair_eq x y ≡ true → x ≡ y
  same_pair same_a same_b x y same =
      let parts = and_parts (eq_a x.0 y.0) (eq_b x.1 y.1) same in
      let first = same_a x.0 y.0 parts.0 in
      let second = same_b x.1 y.1 parts.1 in
      λ i. (first i, second i)

-- pairs of numbers
abbrev pub numbers_eq : ℕ × ℕ → ℕ × ℕ → Bool
numbers_eq = pair_eq nat_eq nat_eq

-- pairs of references
abbrev pub refs_eq : Ref × Ref → Ref × Ref → Bool
refs_eq = pair_eq of_ref.eq-value.it of_ref.eq-value.it

module _ {X : Type 0} (eq : X → X → Bool) where
  -- so are lists
  pub same_list : ((x y : X) → eq x y ≡ true → x ≡ y) → (xs ys : List X) → pointwise eq xs ys ≡ true → xs ≡ ys
  same_list same [] [] equal = refl
  same_list same [] (y ∷ ys) equal = absurd (false≢true equal)
  same_list same (x ∷ xs) [] equal = absurd (false≢true equal)
  same_list same (x ∷ xs) (y ∷ ys) equal =
      let parts = and_parts (eq x y) (pointwise eq xs ys) equal in
      let first = same x y parts.0 in
      let rest = same_list same xs ys parts.1 in
      λ i. first i ∷ rest i

-- lists of references
abbrev pub roots_eq : List Ref → List Ref → Bool
roots_eq = pointwise of_ref.eq-value.it

-- those that compare equal are equal
pub same_roots : (key other : List Ref) → roots_eq key other ≡ true → key ≡ other
same_roots = same_list of_ref.eq-value.it same_ref

pub roots_laws : IsEquivalence roots_eq
roots_laws = lists_equiv ref_laws
