-- In the roots of a source each variable stands in its scope.
use Rattle.std.proofs.Common.{◌≡◌, ℕ, ◌+◌, ◌==◌, Bool, true, false, cond, MatchBool, ◌⊎◌, List, [], ◌∷◌, ◌++◌, map, slice_get, Option, Some, None, inl, inr, ⊎_elim, refl, sym, ap, subst, ◌∙◌}
use Rattle.std.proofs.lemmas.Bool.{cases_eq}
use Rattle.ms_logic.specs.declared.mode.Order.{Order}
use Rattle.ms_logic.specs.declared.mode.Order.TheVariants.{Zero, One, Two}
use Rattle.ms_logic.specs.Assignment.{Variable}
use Rattle.ms_logic_core.specs.CoreForm.{CoreForm, core_forms}
use Rattle.ms_logic.specs.FreeVariables.{FreeUnder, FreeInRestriction, FreeInRestrictions, IsBound, IsListed, IsReadBy, IsReadFor, IsVariable, Reads, reads_of_imports, reads_with_predicate, reads_with_predicates}
use Rattle.ms_logic_core.specs.Roots.{AreFreeVariables, export_root, first_free}
use Rattle.ms_logic_core.specs.Spread.{Callees, Names, callees_of, callees_of_imports, callees_with, callees_with_all, conjunction_of, default_names, is_order, own_names, restriction_before, restrictions_of, spread_under, variables_of_import}
use Rattle.ms_logic.specs.Tree.{Form, Declaration, Predicate, Restriction, unrestricted, restricted}
use Rattle.ms_logic.specs.Truth.{Given, Import}
use Rattle.ms_logic.specs.Lists.{IsAmong}
use Rattle.ms_logic_core.specs.Stands.{EachStands, Stands}
use Rattle.ms_lower.proofs.FormScopes.{Fits, conjunction_stands, form_stands, named_or}
use Rattle.ms_lower.proofs.TermScopes.{Below, Covers, at, variable}
use Rattle.ms_lower.proofs.SameNumbers.{below_first_free}

order_or_not : (o p : Order) → (o ≡ p) ⊎ (o ≡ p → ⊥)
order_or_not Zero Zero = inl refl
order_or_not Zero One = inr (λ e. cc)
order_or_not Zero Two = inr (λ e. cc)
order_or_not One Zero = inr (λ e. cc)
order_or_not One One = inl refl
order_or_not One Two = inr (λ e. cc)
order_or_not Two Zero = inr (λ e. cc)
order_or_not Two One = inr (λ e. cc)
order_or_not Two Two = inl refl

variable_or_not : (x : ℕ) (o : Order) (w : Variable) → IsVariable x o w ⊎ (¬ IsVariable x o w)
variable_or_not x o w =
    elim (cases_eq w.name x) [
      | inl here ↦ elim (order_or_not w.order o) [ inl same ↦ inl (here, same) | inr other ↦ inr (λ v. other v.1) ]
      | inr other ↦ inr (λ v. other v.0)
    ]

bound_or_not : (xs : List ℕ) (orders : List Order) (w : Variable) → IsBound xs orders w ⊎ (¬ IsBound xs orders w)
bound_or_not [] orders w = inr (λ e. e)
bound_or_not (x ∷ xs) [] w = inr (λ e. e)
bound_or_not (x ∷ xs) (o ∷ orders) w =
    elim (variable_or_not x o w) [
      | inl here ↦ inl (inl here)
      | inr other ↦ elim (bound_or_not xs orders w) [ inl later ↦ inl (inr later) | inr none ↦ inr (λ e. ⊎_elim other none e) ]
    ]

read_by : (o : Option Import) (w : Variable) → IsListed (variables_of_import o) w → IsReadBy o w
read_by None w listed = listed
read_by (Some found) w listed = listed

fits_imports : (imports : List Import) → Fits imports (reads_of_imports imports) (callees_of_imports imports)
fits_imports imports = record {
  called = λ p orders inner scope free bound reads below. tt;
  default = λ p x names scope free reads below. tt;
  imported = λ i. refl;
  reads = λ i w listed. read_by (slice_get imports i) w listed;
}

restriction_first : (imports : List Import) (r : Reads) (c : Callees) (fits : Fits imports r c) (d : Restriction) (names : Names) (scope : List Variable) (free : ℕ) (others tail : List CoreForm) → Covers (FreeInRestriction r d) names scope → Below free scope →
    EachStands imports scope (core_forms (others ++ tail)) → EachStands imports scope (core_forms (restriction_before c d names free others ++ tail))
restriction_first imports r c fits unrestricted names scope free others tail covers below stands = stands
restriction_first imports r c fits (restricted d) names scope free others tail covers below stands = (form_stands imports r c fits d names scope free covers below, stands)

pub restrictions_stand : (imports : List Import) (r : Reads) (c : Callees) (fits : Fits imports r c) (ds : List Declaration) (names : Names) (scope : List Variable) (free : ℕ) (tail : List CoreForm) → Covers (FreeInRestrictions r ds) names scope → Below free scope → EachStands imports scope (core_forms tail) →
    EachStands imports scope (core_forms (restrictions_of c ds names free ++ tail))
restrictions_stand imports r c fits [] names scope free tail covers below stands = stands
restrictions_stand imports r c fits (d ∷ ds) names scope free tail covers below stands =
    restriction_first imports r c fits d.restriction names scope free (restrictions_of c ds names free) tail (λ w e. covers w (inl e)) below (restrictions_stand imports r c fits ds names scope free tail (λ w e. covers w (inr e)) below stands)

-- inside a default restriction a variable is the one that the restriction is at, or it keeps its name
DefaultOr : List Declaration → ℕ → Names → Variable → Type 0
DefaultOr ds x names w =
    ((o : Order) × IsReadFor ds x (variable x o) × (at (default_names ds x names) w ≡ at names (variable x o)))
    ⊎ ((¬ IsBound (map (λ d. d.variable.name) ds) (map (λ d. d.variable.order) ds) w) × (at (default_names ds x names) w ≡ at names w))

default_or : (ds : List Declaration) (x : ℕ) (names : Names) (w : Variable) → DefaultOr ds x names w
unfolding DefaultOr
default_or [] x names w = inr ((λ e. e), refl)
default_or (d ∷ ds) x names w =
    elim (named_or d.variable.order d.variable.name (names d.variable.order x) (default_names ds x names) w (is_order d.variable.order w.order) refl) [
      | inl here ↦ inl (d.variable.order, inl (refl, refl), here.1)
      | inr other ↦
          elim (default_or ds x names w) [
            | inl found ↦ inl (found.0, inr found.1, other.1 ∙ found.2)
            | inr kept ↦ inr ((λ e. ⊎_elim other.0 kept.0 e), other.1 ∙ kept.1)
          ]
    ]

module _ (imports : List Import) (r : Reads) (c : Callees) (fits : Fits imports r c) (q : Predicate) where
  called_with : (p : ℕ) (b : Bool) (orders : List Order) (inner : Names) (scope : List Variable) (free : ℕ) →
      ((w : Variable) → IsBound (cond b (map (λ declared. declared.variable.name) q.parameters) (c.parameters p)) orders w → IsAmong scope (at inner w)) →
      ((w : Variable) → MatchBool b ((¬ IsBound (map (λ declared. declared.variable.name) q.parameters) orders w) × (FreeInRestrictions r q.parameters w ⊎ FreeUnder r q.body w)) (r.called p orders w) → IsAmong scope (at inner w)) →
      Below free scope →
      Stands imports scope ((cond b (λ names free. conjunction_of (restrictions_of c q.parameters names free ++ spread_under c q.body names free ∷ [])) (c.body p)) inner free)
  called_with p true orders inner scope free bound reads below =
      let covers : (w : Variable) → (FreeInRestrictions r q.parameters w ⊎ FreeUnder r q.body w) → IsAmong scope (at inner w) =
      λ w e. elim (bound_or_not (map (λ declared. declared.variable.name) q.parameters) orders w) [ inl here ↦ bound w here | inr none ↦ reads w (none, e) ] in
      conjunction_stands imports scope (restrictions_of c q.parameters inner free ++ spread_under c q.body inner free ∷ [])
      (restrictions_stand imports r c fits q.parameters inner scope free (spread_under c q.body inner free ∷ []) (λ w e. covers w (inl e)) below (form_stands imports r c fits q.body inner scope free (λ w e. covers w (inr e)) below, tt))
  called_with p false orders inner scope free bound reads below = fits.called p orders inner scope free bound reads below

  default_with : (p x : ℕ) (b : Bool) (names : Names) (scope : List Variable) (free : ℕ) →
      ((w : Variable) → MatchBool b (IsReadFor q.parameters x w ⊎ ((¬ IsBound (map (λ declared. declared.variable.name) q.parameters) (map (λ declared. declared.variable.order) q.parameters) w) × FreeUnder r q.body w)) (r.default p x w) → IsAmong scope (at names w)) →
      Below free scope → Stands imports scope ((cond b (λ x names free. spread_under c q.body (default_names q.parameters x names) free) (c.default p)) x names free)
  unfolding DefaultOr
  default_with p x true names scope free reads below =
      form_stands imports r c fits q.body (default_names q.parameters x names) scope free (λ w e. elim (default_or q.parameters x names w) [
        | inl found ↦ subst (IsAmong scope) (sym found.2) (reads (variable x found.0) (inl found.1))
        | inr kept ↦ subst (IsAmong scope) (sym kept.1) (reads w (inr (kept.0, e)))
      ]) below
  default_with p x false names scope free reads below = fits.default p x names scope free reads below

  fits_with : (number : ℕ) → Fits imports (reads_with_predicate r number q) (callees_with c number q)
  fits_with number = record {
    called = λ p orders inner scope free bound reads below. called_with p (p == number) orders inner scope free bound reads below;
    default = λ p x names scope free reads below. default_with p x (p == number) names scope free reads below;
    imported = fits.imported;
    reads = fits.reads;
  }

fits_all : (imports : List Import) (r : Reads) (c : Callees) (count : ℕ) (ps : List Predicate) → Fits imports r c → Fits imports (reads_with_predicates r count ps) (callees_with_all c count ps)
fits_all imports r c count [] fits = fits
fits_all imports r c count (q ∷ ps) fits = fits_all imports (reads_with_predicate r count q) (callees_with c count q) (count + 1) ps (fits_with imports r c fits q count)

pub listed_among : (vs : List Variable) (w : Variable) → IsListed vs w → IsAmong vs (at own_names w)
listed_among [] w listed = absurd listed
listed_among (v ∷ vs) w (inl here) = inl (ap (λ k. variable k v.order) (sym here.0) ∙ ap (λ o. variable w.name o) (sym here.1))
listed_among (v ∷ vs) w (inr later) = inr (listed_among vs w later)

pub fits_given : (given : Given) → Fits given.imports (reads_with_predicates (reads_of_imports given.imports) 0 given.predicates) (callees_of given)
fits_given given = fits_all given.imports (reads_of_imports given.imports) (callees_of_imports given.imports) 0 given.predicates (fits_imports given.imports)

-- the root of an export
pub export_stands : (given : Given) (vs : List Variable) (f : Form) → AreFreeVariables given f vs → Stands given.imports vs (export_root given vs f).formula
export_stands given vs f free =
    form_stands given.imports (reads_with_predicates (reads_of_imports given.imports) 0 given.predicates) (callees_of given) (fits_given given) f own_names vs (first_free vs)
    (λ w e. listed_among vs w ((free.free w).1 e)) (below_first_free vs)
