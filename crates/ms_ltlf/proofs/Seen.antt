-- The variables of a translation are seen where they stand, and what it binds is new.
use Rattle.std.proofs.Common.{ℕ, ◌+◌, ◌<◌, inl, inr, List, length, refl, arith}
use Rattle.ms_logic.specs.declared.mode.Order.TheVariants.{One, Two}
use Rattle.ms_logic.specs.Assignment.{Variable}
use Rattle.ms_logic.specs.Lists.{Each}
use Rattle.ms_names_rules.specs.Numbers.{Tables, Sees, IsNew, seeing, IsNumbered, AreNumbered}
use Rattle.ms_ltlf.specs.Tree.{Temporal, truth, falsity, proposition, brackets, negation, conjunction, disjunction, implication, equivalence, next, weak_next, eventually, always, until, release, Temporals, no_temporals, more_temporals, IsOver, AreOver}
use Rattle.ms_ltlf.specs.Source.{string_formulas}
use Rattle.ms_ltlf.specs.Strings.{string_form, string_forms}
use Rattle.ms_translation.proofs.Globals.{names_seen, names-new, new-above, sees-name}

-- the position is seen, it has the greatest number, and so are the propositions
record SeesPosition (seen : List Variable) (count x : ℕ) : Type 0 where
  here : Sees seen x One
  below : IsNew seen (x + 1)
  propositions : (p : ℕ) → p < count → Sees seen p Two

-- what is bound behind the position is a position
sees-next : (seen : List Variable) (count x y : ℕ) → x < y → SeesPosition seen count x → SeesPosition (seeing y One seen) count y
sees-next seen count x y above sees = record {
  here = inl refl;
  below = (omega arith, new-above seen (x + 1) (y + 1) (omega arith) sees.below);
  propositions = λ p within. inr (sees.propositions p within);
}

module _ (tables : Tables) (bound count : ℕ) where
  mutual
    numbered : (f : Temporal) (seen : List Variable) (x : ℕ) → IsOver count f → SeesPosition seen count x → IsNumbered tables bound seen (string_form f x)
    numbered truth seen x over sees = tt
    numbered falsity seen x over sees = tt
    numbered (proposition p) seen x over sees = (sees.here, sees.propositions p over)
    numbered (brackets f) seen x over sees = numbered f seen x over sees
    numbered (negation f) seen x over sees = numbered f seen x over sees
    numbered (conjunction fs) seen x over sees = all-numbered fs seen x over sees
    numbered (disjunction fs) seen x over sees = all-numbered fs seen x over sees
    numbered (implication f g) seen x over sees = (numbered f seen x over.0 sees, numbered g seen x over.1 sees)
    numbered (equivalence f g) seen x over sees = (numbered f seen x over.0 sees, numbered g seen x over.1 sees)
    numbered (next f) seen x over sees = (sees.below, tt, ((inl refl, inr sees.here), (numbered f (seeing (x + 1) One seen) (x + 1) over (sees-next seen count x (x + 1) (omega arith) sees), tt)))
    numbered (weak_next f) seen x over sees = (sees.below, tt, ((inl refl, inr sees.here), numbered f (seeing (x + 1) One seen) (x + 1) over (sees-next seen count x (x + 1) (omega arith) sees)))
    numbered (eventually f) seen x over sees = (sees.below, tt, ((inr sees.here, inl refl), (numbered f (seeing (x + 1) One seen) (x + 1) over (sees-next seen count x (x + 1) (omega arith) sees), tt)))
    numbered (always f) seen x over sees = (sees.below, tt, ((inr sees.here, inl refl), numbered f (seeing (x + 1) One seen) (x + 1) over (sees-next seen count x (x + 1) (omega arith) sees)))
    numbered (until f g) seen x over sees =
        let there = seeing (x + 1) One seen in
        let sees-there = sees-next seen count x (x + 1) (omega arith) sees in
        let new = new-above there (x + 1 + 1) (x + 2) (omega arith) sees-there.below in (
          sees.below,
          tt,
          (
            (inr sees.here, inl refl),
            (
              numbered g there (x + 1) over.1 sees-there,
              ((new, tt, (((inr (inr sees.here), inl refl), ((inl refl, inr (inl refl)), tt)), numbered f (seeing (x + 2) One there) (x + 2) over.0 (sees-next there count (x + 1) (x + 2) (omega arith) sees-there))), tt),
            ),
          ),
        )
    numbered (release f g) seen x over sees =
        let there = seeing (x + 1) One seen in
        let sees-there = sees-next seen count x (x + 1) (omega arith) sees in
        let new = new-above there (x + 1 + 1) (x + 2) (omega arith) sees-there.below in (
          sees.below,
          tt,
          (
            (inr sees.here, inl refl),
            (
              numbered g there (x + 1) over.1 sees-there,
              ((new, tt, ((inr (inr sees.here), inl refl), ((inl refl, inr (inl refl)), (numbered f (seeing (x + 2) One there) (x + 2) over.0 (sees-next there count (x + 1) (x + 2) (omega arith) sees-there), tt)))), tt),
            ),
          ),
        )

    all-numbered : (fs : Temporals) (seen : List Variable) (x : ℕ) → AreOver count fs → SeesPosition seen count x → AreNumbered tables bound seen (string_forms fs x)
    all-numbered no_temporals seen x over sees = tt
    all-numbered (more_temporals f fs) seen x over sees = (numbered f seen x over.0 sees, all-numbered fs seen x over.1 sees)

-- the source sees the propositions

module _ (tables : Tables) (bound : ℕ) (names : List (List ℕ)) where
  pub source-numbered : (f : Temporal) → IsOver (length names) f → Each (IsNumbered tables bound (names_seen names)) (string_formulas (length names) f)
  source-numbered f over =
      let x = length names in
      let fresh = names-new names in
      let sees : SeesPosition (seeing x One (names_seen names)) x x =
      record {
        here = inl refl;
        below = (omega arith, new-above (names_seen names) x (x + 1) (omega arith) fresh);
        propositions = λ p within. inr (sees-name names p within);
      } in
      ((fresh, tt, (inl refl, inl refl)), ((fresh, tt, ((inl refl, tt), (numbered tables bound x f (seeing x One (names_seen names)) x over sees, tt))), tt))
