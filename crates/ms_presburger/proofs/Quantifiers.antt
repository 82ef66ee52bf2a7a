-- A quantifier in the natural numbers agrees with a fact about some, or about each, number or set.
use Rattle.std.proofs.Common.{◌≡◌, ℕ, ◌⊎◌, inl, inr, ⊎_elim, List, [], None, sym, subst}
use Rattle.ms_logic.specs.declared.assignment.Value.TheVariants.{Number, Set}
use Rattle.ms_logic.specs.declared.mode.Order.TheVariants.{One, Two}
use Rattle.ms_logic.specs.declared.mode.Quant.TheVariants.{Ex, All}
use Rattle.ms_logic.specs.Assignment.{Universe, Env, IsValueOf, IsWithin, AllWithin, assign}
use Rattle.ms_logic.specs.FiniteSet.{IsRising}
use Rattle.ms_logic.specs.Tree.{Form, quantified, unrestricted}
use Rattle.ms_logic.specs.Truth.{Meanings, YesUnder}
use Rattle.ms_logic.proofs.Consistent.{IsConsistent, never_both}
use Rattle.ms_logic.proofs.Members.{all_natural}
use Rattle.ms_logic.proofs.Values.{each_value}
use Rattle.ms_presburger.specs.Digits.{number_of}
use Rattle.ms_presburger.specs.Sets.{some_set}
use Rattle.ms_presburger.proofs.Binary.{set_of_number}
use Rattle.ms_translation.proofs.Agreeing.{Agrees, along}
use Rattle.ms_translation.proofs.Quantifiers.{AreValues, agrees-some, agrees-each}

module _ (m : Meanings) (consistent : IsConsistent m) (e : Env) (natural : e.universe ≡ None) where
  within-naturals : (j : ℕ) → IsValueOf One e.universe (Number j)
  within-naturals j = let P : Universe → Type 0 = λ u. IsWithin u j in subst P (sym natural) tt

  is-set : (members : List ℕ) → IsRising members → IsValueOf Two e.universe (Set members)
  is-set members rises = (rises, let P : Universe → Type 0 = λ u. AllWithin u members in subst P (sym natural) (all_natural members))

  places : AreValues ℕ (λ j. Unit {0}) (λ j. Number j) One e
  places = record {
    each = λ j is. within-naturals j;
    only = λ Q on. each_value (λ v. IsValueOf One e.universe v → Q v) (λ b in_range. absurd in_range) (λ j in_range. on j tt) (λ s in_range. absurd in_range);
    first = 0;
    in_range = tt;
  }

  sets : AreValues (List ℕ) IsRising (λ s. Set s) Two e
  sets = record {
    each = is-set;
    only = λ Q on. each_value (λ v. IsValueOf Two e.universe v → Q v) (λ b in_range. absurd in_range) (λ j in_range. absurd in_range) (λ s in_range. on s in_range.0);
    first = [];
    in_range = tt;
  }

  -- a number at which a fact holds
  pub agrees-some-place : (x : ℕ) (f : Form) (P : ℕ → Type 0) → ((j : ℕ) → Agrees m f (assign x (Number j) e) (P j)) → ((j : ℕ) × P j) ⊎ ((j : ℕ) → ¬ P j) →
      Agrees m (quantified Ex One x unrestricted f) e ((j : ℕ) × P j)
  agrees-some-place x f P each decided =
      along m (quantified Ex One x unrestricted f) e ((j : ℕ) × Unit {0} × P j) ((j : ℕ) × P j) ((λ some. (some.0, some.2)), (λ some. (some.0, tt, some.1)))
      (agrees-some m consistent ℕ (λ j. Unit {0}) (λ j. Number j) One e places x f P (λ j is. each j) (⊎_elim (λ some. inl (some.0, tt, some.1)) (λ none. inr (λ j is. none j)) decided))

  -- a fact about each number
  pub agrees-every-place : (x : ℕ) (f : Form) (P : ℕ → Type 0) → ((j : ℕ) → Agrees m f (assign x (Number j) e) (P j)) → ((j : ℕ) → P j) ⊎ ((j : ℕ) × ¬ P j) →
      Agrees m (quantified All One x unrestricted f) e ((j : ℕ) → P j)
  agrees-every-place x f P each decided =
      along m (quantified All One x unrestricted f) e ((j : ℕ) → Unit {0} → P j) ((j : ℕ) → P j) ((λ all j. all j tt), (λ all j is. all j))
      (agrees-each m consistent ℕ (λ j. Unit {0}) (λ j. Number j) One e places x f P (λ j is. each j) (⊎_elim (λ all. inl (λ j is. all j)) (λ some. inr (some.0, tt, some.1)) decided))

  -- a set at which a fact holds
  pub agrees-some-set : (x : ℕ) (f : Form) (P : List ℕ → Type 0) → ((s : List ℕ) → IsRising s → Agrees m f (assign x (Set s) e) (P s)) →
      ((s : List ℕ) × IsRising s × P s) ⊎ ((s : List ℕ) → IsRising s → ¬ P s) → Agrees m (quantified Ex Two x unrestricted f) e ((s : List ℕ) × IsRising s × P s)
  agrees-some-set = agrees-some m consistent (List ℕ) IsRising (λ s. Set s) Two e sets

  -- a fact about each set
  pub agrees-every-set : (x : ℕ) (f : Form) (P : List ℕ → Type 0) → ((s : List ℕ) → IsRising s → Agrees m f (assign x (Set s) e) (P s)) →
      ((s : List ℕ) → IsRising s → P s) ⊎ ((s : List ℕ) × IsRising s × ¬ P s) → Agrees m (quantified All Two x unrestricted f) e ((s : List ℕ) → IsRising s → P s)
  agrees-every-set = agrees-each m consistent (List ℕ) IsRising (λ s. Set s) Two e sets

  -- ex2 x where d: f, where d is Yes at one set and No at each other
  pub agrees-where : (x n : ℕ) (d f : Form) (P : Type 0) → ((s : List ℕ) → IsRising s → Agrees m d (assign x (Set s) e) (number_of s ≡ n)) →
      ((s : List ℕ) → IsRising s → number_of s ≡ n → Agrees m f (assign x (Set s) e) P) → Agrees m (some_set x d f) e P
  agrees-where x n d f P where_it agrees =
      let found = set_of_number n in
      let met : YesUnder m d (assign x (Set found.0) e) = ⊎_elim (λ yes. yes.1) (λ no. absurd (no.0 found.2)) (where_it found.0 found.1) in
      ⊎_elim (λ yes. inl (yes.0, (Set found.0, (is-set found.0 found.1, met), yes.1)))
      (λ no. inr (
        no.0,
        (
          each_value _ (λ b in_range. absurd in_range.0) (λ j in_range. absurd in_range.0)
              (λ s in_range yes. ⊎_elim (λ is. ⊎_elim (λ yes'. no.0 yes'.0) (λ no'. never_both m consistent f (assign x (Set s) e) yes no'.1) (agrees s in_range.0.0 is.0))
              (λ never. never_both m consistent d (assign x (Set s) e) in_range.1 never.1) (where_it s in_range.0.0)),
          inl (Set found.0, (is-set found.0 found.1, met), no.1),
        ),
      )) (agrees found.0 found.1 found.2)
