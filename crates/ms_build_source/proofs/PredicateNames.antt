-- With other names a call of a predicate and a default restriction become the same with other numbers.
use Rattle.std.proofs.Common.{◌≡◌, ℕ, ◌+◌, ◌==◌, Bool, true, false, cond, MatchBool, ◌⊎◌, List, [], ◌∷◌, ◌++◌, map, slice_get, Option, Some, None, inl, inr, ⊎_elim, refl, sym, ap, ap₂, ◌∙◌}
use Rattle.std.proofs.lemmas.Bool.{cases_eq}
use Rattle.std.proofs.lemmas.List.{map-append}
use Rattle.ms_logic.specs.declared.mode.Order.{Order}
use Rattle.ms_logic.specs.Assignment.{Variable}
use Rattle.ms_logic_core.specs.CoreForm as core
use Rattle.ms_logic_core.specs.CoreForm.{CoreForm}
use Rattle.ms_logic.specs.FreeVariables.{FreeUnder, FreeInRestriction, FreeInRestrictions, IsBound, IsListed, IsReadBy, IsReadFor, Reads, names_of, parameter_orders_of, reads_of_imports, reads_with_predicate, reads_with_predicates}
use Rattle.ms_logic_core.specs.Spread.{Callees, Names, callees_of, callees_of_imports, callees_with, callees_with_all, conjunction_of, default_names, restriction_before, restrictions_of, spread_under, variables_of_import}
use Rattle.ms_logic.specs.Tree.{Declaration, Predicate, Restriction, unrestricted, restricted}
use Rattle.ms_logic.specs.Truth.{Given, Import}
use Rattle.ms_lower.specs.Lowered.{reads_of}
use Rattle.ms_lower.specs.Numbering.{Numbering, renumbered}
use Rattle.ms_lower.proofs.TermScopes.{variable}
use Rattle.ms_build_source.specs.inner.CallLaws.{BodiesFollowNames, Carries, DefaultsFollowNames, HasImports, NameFollows, NamesFollow, SpreadsFollowNames}
use Rattle.ms_build_source.proofs.FormNames.{CalleesFollow, conjunction_renumbered, form_alike, named_follows}

read_by : (o : Option Import) (w : Variable) → IsListed (variables_of_import o) w → IsReadBy o w
read_by None w listed = listed
read_by (Some found) w listed = listed

imports_follow : (n : Numbering) (imports : List Import) → ((i : ℕ) → n.imported i ≡ variables_of_import (slice_get imports i)) → CalleesFollow n (reads_of_imports imports) (callees_of_imports imports)
imports_follow n imports has = record {
  called = λ p orders names other free next carries bound reads. refl;
  default = λ p x names other free next carries reads. refl;
  imported = has;
  reads = λ i w listed. read_by (slice_get imports i) w listed;
}

-- the names inside a default restriction
default_follows : (n : Numbering) (ds : List Declaration) (x : ℕ) (names other : Names) (w : Variable) → NamesFollow n (IsReadFor ds x) names other →
    ((¬ IsBound (map (λ d. d.variable.name) ds) (map (λ d. d.variable.order) ds) w) → NameFollows n names other w) → NameFollows n (default_names ds x names) (default_names ds x other) w
default_follows n [] x names other w here others = others (λ none. none)
default_follows n (d ∷ ds) x names other w here others =
    named_follows n d.variable.order d.variable.name (names d.variable.order x) (other d.variable.order x) (default_names ds x names) (default_names ds x other) w (here (variable x d.variable.order) (inl (refl, refl))) (λ out.
    default_follows n ds x names other w (λ v e. here v (inr e)) (λ rest. others (λ bound. ⊎_elim out rest bound)))

module _ (n : Numbering) (r : Reads) (c : Callees) (fits : CalleesFollow n r c) where
  before_alike : (d : Restriction) (names other : Names) (free next : ℕ) (fs gs : List CoreForm) → Carries n free next → NamesFollow n (FreeInRestriction r d) names other → gs ≡ map (renumbered n) fs →
      restriction_before c d other next gs ≡ map (renumbered n) (restriction_before c d names free fs)
  before_alike unrestricted names other free next fs gs carries follow others = others
  before_alike (restricted d) names other free next fs gs carries follow others = ap₂ (λ f l. core.restrict f ∷ l) (form_alike n r c fits d names other free next carries follow) others

  pub restrictions_alike : (ds : List Declaration) (names other : Names) (free next : ℕ) → Carries n free next → NamesFollow n (FreeInRestrictions r ds) names other →
      restrictions_of c ds other next ≡ map (renumbered n) (restrictions_of c ds names free)
  restrictions_alike [] names other free next carries follow = refl
  restrictions_alike (d ∷ ds) names other free next carries follow =
      before_alike d.restriction names other free next (restrictions_of c ds names free) (restrictions_of c ds other next) carries (λ w e. follow w (inl e)) (restrictions_alike ds names other free next carries (λ w e. follow w (inr e)))

module _ (n : Numbering) (r : Reads) (c : Callees) (fits : CalleesFollow n r c) (q : Predicate) where
  body_alike : (names other : Names) (free next : ℕ) → Carries n free next → NamesFollow n (λ w. FreeInRestrictions r q.parameters w ⊎ FreeUnder r q.body w) names other →
      conjunction_of (restrictions_of c q.parameters other next ++ spread_under c q.body other next ∷ []) ≡ renumbered n (conjunction_of (restrictions_of c q.parameters names free ++ spread_under c q.body names free ∷ []))
  body_alike names other free next carries follow =
      let before = restrictions_of c q.parameters names free in
      let body = spread_under c q.body names free in
      ap (λ l. conjunction_of l)
      (ap₂ (λ l f. l ++ f ∷ []) (restrictions_alike n r c fits q.parameters names other free next carries (λ w e. follow w (inl e))) (form_alike n r c fits q.body names other free next carries (λ w e. follow w (inr e)))
      ∙ sym (map-append (renumbered n) before (body ∷ [])))
      ∙ conjunction_renumbered n (before ++ body ∷ [])

  called_with : (p : ℕ) (b : Bool) (orders : List Order) (names other : Names) (free next : ℕ) → Carries n free next → NamesFollow n (IsBound (cond b (names_of q) (c.parameters p)) orders) names other →
      NamesFollow n (λ w. MatchBool b ((¬ IsBound (names_of q) orders w) × (FreeInRestrictions r q.parameters w ⊎ FreeUnder r q.body w)) (r.called p orders w)) names other →
      (cond b (λ names free. conjunction_of (restrictions_of c q.parameters names free ++ spread_under c q.body names free ∷ [])) (c.body p)) other next
      ≡ renumbered n ((cond b (λ names free. conjunction_of (restrictions_of c q.parameters names free ++ spread_under c q.body names free ∷ [])) (c.body p)) names free)
  called_with p true orders names other free next carries bound reads =
      body_alike names other free next carries (λ w e. elim (cases_eq (other w.order w.name) (n.number w.order (names w.order w.name))) [
        | inl same ↦ same
        | inr differs ↦ reads w ((λ here. differs (bound w here)), e)
      ])
  called_with p false orders names other free next carries bound reads = fits.called p orders names other free next carries bound reads

  default_with : (p x : ℕ) (b : Bool) (names other : Names) (free next : ℕ) → Carries n free next →
      NamesFollow n (λ w. MatchBool b (IsReadFor q.parameters x w ⊎ ((¬ IsBound (names_of q) (parameter_orders_of q) w) × FreeUnder r q.body w)) (r.default p x w)) names other →
      (cond b (λ x names free. spread_under c q.body (default_names q.parameters x names) free) (c.default p)) x other next ≡ renumbered n ((cond b (λ x names free. spread_under c q.body (default_names q.parameters x names) free) (c.default p)) x names free)
  default_with p x true names other free next carries reads =
      form_alike n r c fits q.body (default_names q.parameters x names) (default_names q.parameters x other) free next carries
      (λ w e. default_follows n q.parameters x names other w (λ v there. reads v (inl there)) (λ out. reads w (inr (out, e))))
  default_with p x false names other free next carries reads = fits.default p x names other free next carries reads

  predicate_follows : (number : ℕ) → CalleesFollow n (reads_with_predicate r number q) (callees_with c number q)
  predicate_follows number = record {
    called = λ p orders names other free next carries bound reads. called_with p (p == number) orders names other free next carries bound reads;
    default = λ p x names other free next carries reads. default_with p x (p == number) names other free next carries reads;
    imported = fits.imported;
    reads = fits.reads;
  }

predicates_follow : (n : Numbering) (r : Reads) (c : Callees) (count : ℕ) (ps : List Predicate) → CalleesFollow n r c → CalleesFollow n (reads_with_predicates r count ps) (callees_with_all c count ps)
predicates_follow n r c count [] fits = fits
predicates_follow n r c count (q ∷ ps) fits = predicates_follow n (reads_with_predicate r count q) (callees_with c count q) (count + 1) ps (predicate_follows n r c fits q count)

pub given_follow : (given : Given) (n : Numbering) → HasImports given n → CalleesFollow n (reads_of given) (callees_of given)
given_follow given n has = predicates_follow n (reads_of_imports given.imports) (callees_of_imports given.imports) 0 given.predicates (imports_follow n given.imports has)

pub spreads_follow : SpreadsFollowNames
spreads_follow given n f names other free next has carries follow = form_alike n (reads_of given) (callees_of given) (given_follow given n has) f names other free next carries follow

pub bodies_follow : BodiesFollowNames
bodies_follow given n p orders names other free next has carries bound reads = (given_follow given n has).called p orders names other free next carries bound reads

pub defaults_follow : DefaultsFollowNames
defaults_follow given n p x names other free next has carries reads = (given_follow given n has).default p x names other free next carries reads
