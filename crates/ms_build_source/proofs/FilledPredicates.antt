-- Calls of the predicates of a source become their bodies where they are filled in.
use Rattle.std.proofs.Common.{◌≡◌, ℕ, zero, suc, ◌+◌, ◌<◌, ◌≤◌, cond, MatchBool, ◌⊎◌, List, [], ◌∷◌, ◌++◌, map, take, slice_get, Some, inl, inr, refl, ap, ap₂, subst, ◌∙◌, arith}
use Rattle.std.proofs.lemmas.Bool.{eq-eqb, ne_eqb}
use Rattle.std.proofs.lemmas.Option.{none-some, same_Some}
use Rattle.ms_logic.specs.declared.mode.Order.{Order}
use Rattle.ms_logic.specs.Assignment.{Variable}
use Rattle.ms_logic_core.specs.CoreForm as core
use Rattle.ms_logic_core.specs.CoreForm.{CoreForm}
use Rattle.ms_logic.specs.FreeVariables.{FreeUnder, FreeInRestriction, FreeInRestrictions, IsBound, Reads, names_of, reads_with_predicate, reads_with_predicates}
use Rattle.ms_logic_core.specs.Spread.{Callees, Names, callees_with, callees_with_all, conjunction_of, default_names, restriction_before, restrictions_of, spread_under}
use Rattle.ms_logic.specs.Tree.{Declaration, Form, Predicate, Restriction, unrestricted, restricted}
use Rattle.ms_names_rules.specs.Numbers.{AreNumberedParameters, AreNumberedPredicates, IsNumbered, IsNumberedRestriction, Tables, seeing}
use Rattle.ms_lower.specs.Calling.{free_at, names_at, spread_number_of}
use Rattle.ms_build_source.proofs.FilledForms.{CalleesFill, EachFills, Keeps, SeesGlobals, conjunction_fills, form_fills, named_out, new_above, sees_more}
use Rattle.ms_build_source.proofs.FilledTerms.{Filling, Fills}

-- what a predicate becomes, which is spread with the callees before it
abbrev pub body_of : Callees → Predicate → Names → ℕ → CoreForm
body_of c q names free = conjunction_of (restrictions_of c q.parameters names free ++ spread_under c q.body names free ∷ [])

-- what a predicate reads
abbrev pub read_in : Reads → Predicate → List Order → Variable → Type 0
read_in r q orders w = (¬ IsBound (names_of q) orders w) × (FreeInRestrictions r q.parameters w ⊎ FreeUnder r q.body w)

-- later predicates change nothing of those before

parameters_below : (c : Callees) (count : ℕ) (ps : List Predicate) (p : ℕ) → p < count → (callees_with_all c count ps).parameters p ≡ c.parameters p
parameters_below c count [] p below = refl
parameters_below c count (q ∷ ps) p below =
    parameters_below (callees_with c count q) (count + 1) ps p (omega (arith, below)) ∙ ap (λ b. cond b (names_of q) (c.parameters p)) (ne_eqb p count (λ same. omega (arith, same, below)))

bodies_below : (c : Callees) (count : ℕ) (ps : List Predicate) (p : ℕ) → p < count → (callees_with_all c count ps).body p ≡ c.body p
bodies_below c count [] p below = refl
bodies_below c count (q ∷ ps) p below =
    bodies_below (callees_with c count q) (count + 1) ps p (omega (arith, below)) ∙ ap (λ b. cond b (body_of c q) (c.body p)) (ne_eqb p count (λ same. omega (arith, same, below)))

reads_below : (r : Reads) (count : ℕ) (ps : List Predicate) (p : ℕ) → p < count → (reads_with_predicates r count ps).called p ≡ r.called p
reads_below r count [] p below = refl
reads_below r count (q ∷ ps) p below =
    reads_below (reads_with_predicate r count q) (count + 1) ps p (omega (arith, below))
    ∙ ap (λ b. λ orders w. MatchBool b (read_in r q orders w) (r.called p orders w)) (ne_eqb p count (λ same. omega (arith, same, below)))

-- the first of some predicates
pub own_parameters : (c : Callees) (count : ℕ) (q : Predicate) (ps : List Predicate) → (callees_with_all c count (q ∷ ps)).parameters count ≡ names_of q
own_parameters c count q ps =
    parameters_below (callees_with c count q) (count + 1) ps count (omega arith) ∙ ap (λ b. cond b (names_of q) (c.parameters count)) (eq-eqb count count refl)

pub own_body : (c : Callees) (count : ℕ) (q : Predicate) (ps : List Predicate) → (callees_with_all c count (q ∷ ps)).body count ≡ body_of c q
own_body c count q ps =
    bodies_below (callees_with c count q) (count + 1) ps count (omega arith) ∙ ap (λ b. cond b (body_of c q) (c.body count)) (eq-eqb count count refl)

pub own_reads : (r : Reads) (count : ℕ) (q : Predicate) (ps : List Predicate) → (reads_with_predicates r count (q ∷ ps)).called count ≡ read_in r q
own_reads r count q ps =
    reads_below (reads_with_predicate r count q) (count + 1) ps count (omega arith)
    ∙ ap (λ b. λ orders w. MatchBool b (read_in r q orders w) (r.called count orders w)) (eq-eqb count count refl)

-- one of them
pub body_within : (c : Callees) (count : ℕ) (ps : List Predicate) (k : ℕ) (q : Predicate) → slice_get ps k ≡ Some q → (callees_with_all c count ps).body (count + k) ≡ body_of (callees_with_all c count (take k ps)) q
body_within c count [] k q is = absurd (none-some q is)
body_within c count (first ∷ ps) zero q is =
    let at : count + 0 ≡ count = omega arith in
    ap (callees_with_all c count (first ∷ ps)).body at ∙ (own_body c count first ps ∙ ap (body_of c) (same_Some first q is))
body_within c count (first ∷ ps) (suc k) q is =
    let at : count + suc k ≡ count + 1 + k = omega arith in
    ap (callees_with_all c count (first ∷ ps)).body at ∙ body_within (callees_with c count first) (count + 1) ps k q is

pub numbered_within : (tables : Tables) (seen : List Variable) (count : ℕ) (ps : List Predicate) (k : ℕ) (q : Predicate) → slice_get ps k ≡ Some q → AreNumberedPredicates tables count seen ps →
    AreNumberedParameters tables (count + k) seen q.parameters q.body
numbered_within tables seen count [] k q is numbered = absurd (none-some q is)
numbered_within tables seen count (first ∷ ps) zero q is numbered =
    let at : count ≡ count + 0 = omega arith in
    let P : Predicate → Type 0 = λ known. AreNumberedParameters tables count seen known.parameters known.body in
    subst (λ k. AreNumberedParameters tables k seen q.parameters q.body) at (subst P (same_Some first q is) numbered.0)
numbered_within tables seen count (first ∷ ps) (suc k) q is numbered =
    let at : count + 1 + k ≡ count + suc k = omega arith in
    subst (λ j. AreNumberedParameters tables j seen q.parameters q.body) at (numbered_within tables seen (count + 1) ps k q is numbered.1)

-- the parameters of a predicate are no globals, and its body is numbered under them

pub parameters_above : (way : Filling) (tables : Tables) (n : ℕ) (ds : List Declaration) (body : Form) (seen : List Variable) (w : Variable) → SeesGlobals way seen → AreNumberedParameters tables n seen ds body →
    IsBound (map (λ d. d.variable.name) ds) (map (λ d. d.variable.order) ds) w → way.globals ≤ w.name
parameters_above way tables n [] body seen w sees numbered bound = absurd bound
parameters_above way tables n (d ∷ ds) body seen w sees numbered (inl here) = let above = new_above way seen d.variable.name sees numbered.0 in let is = here.0 in omega (arith, above, is)
parameters_above way tables n (d ∷ ds) body seen w sees numbered (inr later) =
    parameters_above way tables n ds body (seeing d.variable.name d.variable.order seen) w (sees_more way seen d.variable.name d.variable.order sees) numbered.2 later

pub body_numbered : (way : Filling) (tables : Tables) (n : ℕ) (ds : List Declaration) (body : Form) (seen : List Variable) → SeesGlobals way seen → AreNumberedParameters tables n seen ds body →
    (inside : List Variable) × SeesGlobals way inside × IsNumbered tables n inside body
body_numbered way tables n [] body seen sees numbered = (seen, sees, numbered)
body_numbered way tables n (d ∷ ds) body seen sees numbered = body_numbered way tables n ds body (seeing d.variable.name d.variable.order seen) (sees_more way seen d.variable.name d.variable.order sees) numbered.2

-- in a default restriction the other variables keep their names
pub default_out : (ds : List Declaration) (x : ℕ) (names : Names) (w : Variable) → (¬ IsBound (map (λ d. d.variable.name) ds) (map (λ d. d.variable.order) ds) w) → default_names ds x names w.order w.name ≡ names w.order w.name
default_out [] x names w out = refl
default_out (d ∷ ds) x names w out =
    named_out d.variable.order d.variable.name (names d.variable.order x) (default_names ds x names) w (λ e. out (inl e)) ∙ default_out ds x names w (λ e. out (inr e))

-- so they do in the names at a call
pub names_out : (globals : ℕ) (ds : List Declaration) (ys : List ℕ) (w : Variable) → (¬ IsBound (map (λ d. d.variable.name) ds) (map (λ d. d.variable.order) ds) w) → names_at globals ds ys w.order w.name ≡ w.name
names_out globals [] ys w out = refl
names_out globals (d ∷ ds) [] w out = refl
names_out globals (d ∷ ds) (y ∷ ys) w out =
    named_out d.variable.order d.variable.name (spread_number_of globals y) (names_at globals ds ys) w (λ e. out (inl e)) ∙ names_out globals ds ys w (λ e. out (inr e))

pub free_beyond : (globals : ℕ) (ds : List Declaration) (ys : List ℕ) → globals ≤ free_at globals ds ys
free_beyond globals [] [] = omega arith
free_beyond globals [] (y ∷ ys) = omega arith
free_beyond globals (d ∷ ds) [] = omega arith
free_beyond globals (d ∷ ds) (y ∷ ys) = free_beyond globals ds ys

module _ (way : Filling) (tables : Tables) (n : ℕ) (r : Reads) (c d : Callees) (fills : CalleesFill way tables n r c d) where
  pub before_fills : (e : Restriction) (seen : List Variable) (names : Names) (free : ℕ) (fs gs tail end : List CoreForm) → SeesGlobals way seen → IsNumberedRestriction tables n seen e → way.kept ≤ free → Keeps way (FreeInRestriction r e) names →
      EachFills way (fs ++ tail) (gs ++ end) → EachFills way (restriction_before c e names free fs ++ tail) (restriction_before d e names free gs ++ end)
  before_fills unrestricted seen names free fs gs tail end sees numbered above keeps others = others
  before_fills (restricted e) seen names free fs gs tail end sees numbered above keeps others = ap₂ (λ f l. core.restrict f ∷ l) (form_fills way tables n r c d fills e seen names free sees numbered above keeps) others

  restrictions_fill : (ds : List Declaration) (body : Form) (seen : List Variable) (names : Names) (free : ℕ) (tail end : List CoreForm) → SeesGlobals way seen → AreNumberedParameters tables n seen ds body → way.kept ≤ free → Keeps way (FreeInRestrictions r ds) names →
      EachFills way tail end → EachFills way (restrictions_of c ds names free ++ tail) (restrictions_of d ds names free ++ end)
  restrictions_fill [] body seen names free tail end sees numbered above keeps others = others
  restrictions_fill (e ∷ ds) body seen names free tail end sees numbered above keeps others =
      let inside = seeing e.variable.name e.variable.order seen in
      let more = sees_more way seen e.variable.name e.variable.order sees in
      before_fills e.restriction inside names free (restrictions_of c ds names free) (restrictions_of d ds names free) tail end more numbered.1 above (λ w read. keeps w (inl read))
      (restrictions_fill ds body inside names free tail end more numbered.2 above (λ w read. keeps w (inr read)) others)

  pub body_fills : (q : Predicate) (seen : List Variable) (names : Names) (free : ℕ) → SeesGlobals way seen → AreNumberedParameters tables n seen q.parameters q.body → way.kept ≤ free →
      Keeps way (λ w. FreeInRestrictions r q.parameters w ⊎ FreeUnder r q.body w) names → Fills way (body_of c q names free) (body_of d q names free)
  body_fills q seen names free sees numbered above keeps =
      let inside = body_numbered way tables n q.parameters q.body seen sees numbered in
      conjunction_fills way (restrictions_of c q.parameters names free ++ spread_under c q.body names free ∷ []) (restrictions_of d q.parameters names free ++ spread_under d q.body names free ∷ [])
      (restrictions_fill q.parameters q.body seen names free (spread_under c q.body names free ∷ []) (spread_under d q.body names free ∷ []) sees numbered above (λ w e. keeps w (inl e))
      (ap (λ f. f ∷ []) (form_fills way tables n r c d fills q.body inside.0 names free inside.1 inside.2 above (λ w e. keeps w (inr e)))))
