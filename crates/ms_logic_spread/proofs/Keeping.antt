-- What it is for a formula, a call or a default restriction to keep its value in the spread.
use Rattle.std.proofs.Common.{◌≡◌, ℕ, ◌≤◌, ◌↔◌, inl, inr, ⊎_elim, List, [], ◌∷◌, ◌++◌, map, slice_get, Option, Some, None, refl, sym, ◌∙◌, ap, arith}
use Rattle.std.specs.List.{zip}
use Rattle.ms_logic.specs.declared.mode.Order.{Order}
use Rattle.ms_logic.specs.declared.assignment.Value.{Value}
use Rattle.ms_logic.specs.Assignment.{Env, Variable, assign_all, value_at}
use Rattle.ms_logic_core.specs.CoreForm.{CoreForm, core_forms, CoreYes, CoreNo, AllCoreYes, AllCoreDefined, SomeCoreNo, IsCoreMet, answer_over}
use Rattle.ms_logic.specs.FreeVariables.{IsBound, IsListed, IsReadBy, Reads}
use Rattle.ms_logic_core.specs.Spread.{Names, Callees, spread_under, spread_restriction, conjunction_of, restrictions_of, restriction_before, variables_of_import}
use Rattle.ms_logic.specs.Tree.{Form, Restriction, unrestricted, restricted, truth_argument, number_argument, set_argument, Arguments, no_arguments, more_arguments, Declaration}
use Rattle.ms_logic.specs.Truth.{Meanings, YesUnder, NoUnder, IsMet, AllMet, Import, answer_at}
use Rattle.ms_logic_core.proofs.Saying.{Extends, extends-further, Reading}
use Rattle.ms_logic_spread.proofs.Equivalences.{iff_then}

-- a conjunction of any list
pub conjunction_yes : (imports : List Import) (fs : List CoreForm) (c : Env) → AllCoreYes imports (core_forms fs) c ↔ CoreYes imports (conjunction_of fs) c
conjunction_yes imports [] c = (λ h. h, λ h. h)
conjunction_yes imports (only ∷ []) c = (λ h. h.0, λ h. (h, tt))
conjunction_yes imports (first ∷ second ∷ more) c = (λ h. h, λ h. h)

pub conjunction_no : (imports : List Import) (fs : List CoreForm) (c : Env) →
    (AllCoreDefined imports (core_forms fs) c × SomeCoreNo imports (core_forms fs) c) ↔ CoreNo imports (conjunction_of fs) c
conjunction_no imports [] c = (λ h. h.1, λ h. absurd h)
conjunction_no imports (only ∷ []) c = (λ h. ⊎_elim (λ no. no) (λ none. absurd none) h.1, λ h. ((inr h, tt), inl h))
conjunction_no imports (first ∷ second ∷ more) c = (λ h. h, λ h. h)

-- the values of the variables of an import
same_values : (names : Names) (e c : Env) (vs : List Variable) → ((w : Variable) → IsListed vs w → value_at w.order (names w.order w.name) c ≡ value_at w.order w.name e) →
    map (λ v. value_at v.order v.name e) vs ≡ map (λ p. value_at p.1.order p.0 c) (zip (map (λ v. names v.order v.name) vs) vs)
same_values names e c [] same = refl
same_values names e c (v ∷ vs) same =
    let first = same v (inl (refl, refl)) in let others = same_values names e c vs (λ w listed. same w (inr listed)) in
    ap (λ z. z ∷ map (λ v. value_at v.order v.name e) vs) (sym first) ∙ ap (λ zs. value_at v.order (names v.order v.name) c ∷ zs) others

pub same_answer : (names : Names) (e c : Env) (o : Option Import) → c.universe ≡ e.universe → ((w : Variable) → IsReadBy o w → value_at w.order (names w.order w.name) c ≡ value_at w.order w.name e) →
    answer_at o e ≡ answer_over o (map (λ v. names v.order v.name) (variables_of_import o)) c
same_answer names e c None universe same = refl
same_answer names e c (Some found) universe same =
    ap (λ u. found.answer u (map (λ v. value_at v.order v.name e) found.variables)) (sym universe) ∙ ap (found.answer c.universe) (same_values names e c found.variables same)

-- Meanings, callees and what they read answer to each other, and calls and defaults keep their values: a call where what its body
-- reads is named, its parameters among it.
pub record AreKept (m : Meanings) (k : Callees) (r : Reads) (imports : List Import) (body_reads : ℕ → Variable → Type 0) : Type 0 where
  pub variables : (i : ℕ) → k.imported i ≡ variables_of_import (slice_get imports i)
  pub answers : (i : ℕ) (e : Env) → m.import_answer i e ≡ answer_at (slice_get imports i) e
  pub import_reads : (i : ℕ) (w : Variable) → IsReadBy (slice_get imports i) w → r.imported i w
  pub call_reads : (p : ℕ) (orders : List Order) (w : Variable) → body_reads p w → (IsBound (k.parameters p) orders w → ⊥) → r.called p orders w
  pub calls : (p : ℕ) (vs : List Value) (names : Names) (free : ℕ) (e c : Env) → Reading (body_reads p) names free (assign_all (k.parameters p) vs e) c →
      (m.call_yes p vs e ↔ CoreYes imports (k.body p names free) c) × (m.call_no p vs e ↔ CoreNo imports (k.body p names free) c)
  pub defaults : (p x : ℕ) (names : Names) (free : ℕ) (e c : Env) → Reading (r.default p x) names free e c →
      (m.default_yes p x e ↔ CoreYes imports (k.default p x names free) c) × (m.default_no p x e ↔ CoreNo imports (k.default p x names free) c)

module _ (m : Meanings) (k : Callees) (imports : List Import) where
  -- a formula has the value of its spread
  abbrev pub Keeps : Form → Names → ℕ → Env → Env → Type 0
  Keeps f names free e c =
      (YesUnder m f e ↔ CoreYes imports (spread_under k f names free) c) × (NoUnder m f e ↔ CoreNo imports (spread_under k f names free) c)

  -- the formulas among some arguments have the values of their spreads, wherever more variables are in scope
  unfoldable pub TruthsKept : Arguments → Names → ℕ → Env → Env → Type 0
  TruthsKept no_arguments names free e c = Unit {0}
  TruthsKept (more_arguments (truth_argument f) more) names free e c =
      ((next : ℕ) (d : Env) → free ≤ next → Extends free c d → Keeps f names next e d) × TruthsKept more names free e c
  TruthsKept (more_arguments (number_argument t) more) names free e c = TruthsKept more names free e c
  TruthsKept (more_arguments (set_argument s) more) names free e c = TruthsKept more names free e c

  pub truths_later : (given : Arguments) (names : Names) (free next : ℕ) (e c d : Env) → free ≤ next → Extends free c d → TruthsKept given names free e c → TruthsKept given names next e d
  unfolding TruthsKept
  truths_later no_arguments names free next e c d later extends kept = tt
  truths_later (more_arguments (truth_argument f) more) names free next e c d later extends kept =
      (λ last b further more_extends. kept.0 last b (omega arith) (extends-further free next c d b later extends more_extends), truths_later more names free next e c d later extends kept.1)
  truths_later (more_arguments (number_argument t) more) names free next e c d later extends kept = truths_later more names free next e c d later extends kept
  truths_later (more_arguments (set_argument s) more) names free next e c d later extends kept = truths_later more names free next e c d later extends kept

  -- the restrictions of a list are met exactly where their spreads are
  unfoldable pub RestrictionsKept : List Declaration → Names → ℕ → Env → Env → Type 0
  RestrictionsKept [] names free e c = Unit {0}
  RestrictionsKept (declared ∷ more) names free e c =
      (IsMet m declared.restriction e ↔ IsCoreMet imports (spread_restriction k declared.restriction names free) c) × RestrictionsKept more names free e c

  -- `restrict` of a restriction, in front of others
  module _ (names : Names) (free : ℕ) (c : Env) (others fs : List CoreForm) where
    before_yes : (d : Restriction) →
        (IsCoreMet imports (spread_restriction k d names free) c × AllCoreYes imports (core_forms (others ++ fs)) c) ↔ AllCoreYes imports (core_forms (restriction_before k d names free others ++ fs)) c
    before_yes unrestricted = (λ h. h.1, λ h. (tt, h))
    before_yes (restricted d) = (λ h. h, λ h. h)

    before_defined : (d : Restriction) →
        (IsCoreMet imports (spread_restriction k d names free) c × AllCoreDefined imports (core_forms (others ++ fs)) c) ↔ AllCoreDefined imports (core_forms (restriction_before k d names free others ++ fs)) c
    before_defined unrestricted = (λ h. h.1, λ h. (tt, h))
    before_defined (restricted d) = (λ h. (inl h.0, h.1), λ h. (⊎_elim (λ yes. yes) (λ no. absurd no) h.0, h.1))

    before_no : (d : Restriction) → SomeCoreNo imports (core_forms (others ++ fs)) c ↔ SomeCoreNo imports (core_forms (restriction_before k d names free others ++ fs)) c
    before_no unrestricted = (λ h. h, λ h. h)
    before_no (restricted d) = (λ h. inr h, λ h. ⊎_elim (λ no. absurd no) (λ later. later) h)

  module _ (names : Names) (free : ℕ) (e c : Env) (fs : List CoreForm) where
    all_before_yes : (ds : List Declaration) → RestrictionsKept ds names free e c →
        (AllMet m ds e × AllCoreYes imports (core_forms fs) c) ↔ AllCoreYes imports (core_forms (restrictions_of k ds names free ++ fs)) c
    unfolding RestrictionsKept
    all_before_yes [] kept = (λ h. h.1, λ h. (tt, h))
    all_before_yes (declared ∷ more) kept =
        let others = all_before_yes more kept.1 in
        let first = before_yes names free c (restrictions_of k more names free) fs declared.restriction in (
          λ h. first.0 (kept.0.0 h.0.0, others.0 (h.0.1, h.1)),
          λ h. let there = first.1 h in let later = others.1 there.1 in ((kept.0.1 there.0, later.0), later.1),
        )

    all_before_defined : (ds : List Declaration) → RestrictionsKept ds names free e c →
        (AllMet m ds e × AllCoreDefined imports (core_forms fs) c) ↔ AllCoreDefined imports (core_forms (restrictions_of k ds names free ++ fs)) c
    unfolding RestrictionsKept
    all_before_defined [] kept = (λ h. h.1, λ h. (tt, h))
    all_before_defined (declared ∷ more) kept =
        let others = all_before_defined more kept.1 in
        let first = before_defined names free c (restrictions_of k more names free) fs declared.restriction in (
          λ h. first.0 (kept.0.0 h.0.0, others.0 (h.0.1, h.1)),
          λ h. let there = first.1 h in let later = others.1 there.1 in ((kept.0.1 there.0, later.0), later.1),
        )

    all_before_no : (ds : List Declaration) → SomeCoreNo imports (core_forms fs) c ↔ SomeCoreNo imports (core_forms (restrictions_of k ds names free ++ fs)) c
    all_before_no [] = (λ h. h, λ h. h)
    all_before_no (declared ∷ more) =
        iff_then (all_before_no more) (before_no names free c (restrictions_of k more names free) fs declared.restriction)

    -- restrictions in front of formulas: all are met, and the formulas are Yes, or No
    pub restrictions_before : (ds : List Declaration) → RestrictionsKept ds names free e c →
        ((AllMet m ds e × AllCoreYes imports (core_forms fs) c) ↔ CoreYes imports (conjunction_of (restrictions_of k ds names free ++ fs)) c)
        × ((AllMet m ds e × AllCoreDefined imports (core_forms fs) c × SomeCoreNo imports (core_forms fs) c) ↔ CoreNo imports (conjunction_of (restrictions_of k ds names free ++ fs)) c)
    restrictions_before ds kept = (
      iff_then (all_before_yes ds kept) (conjunction_yes imports (restrictions_of k ds names free ++ fs) c),
      iff_then (
        λ h. ((all_before_defined ds kept).0 (h.0, h.1), (all_before_no ds).0 h.2),
        λ h. let there = (all_before_defined ds kept).1 h.0 in (there.0, there.1, (all_before_no ds).1 h.1),
      ) (conjunction_no imports (restrictions_of k ds names free ++ fs) c),
    )
