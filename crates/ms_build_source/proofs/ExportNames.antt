-- The entries of exports name the variables of what is exported.
use Rattle.std.proofs.Common.{◌≡◌, ℕ, inl, inr, ⊎_elim, List, [], ◌∷◌, length, map, slice_get, IsSomeAnd, Option, Some, None, sym, ap, ap₂, subst, ◌∙◌}
use Rattle.std.proofs.lemmas.List.Elements.{All-contains}
use Rattle.ms_build.proofs.WholeLemmas.{rising_equal}
use Rattle.ms_names_checked.specs.Exports.{ExportListsFree, ListsFree, ListsFreeVariables}
use Rattle.ms_logic_spread.proofs.Questions.{asked_numbered, whole_asked}
use Rattle.ms_build_source.proofs.SharedRoots.{each_all}
use Rattle.ms_logic.specs.declared.checked.Checked.{Checked}
use Rattle.ms_logic.specs.declared.checked.ExportUse.{ExportUse}
use Rattle.ms_logic.specs.declared.mode.Order.{Order}
use Rattle.ms_logic.specs.Assignment.{Variable}
use Rattle.ms_logic.specs.FreeVariables.{IsListed}
use Rattle.ms_logic_core.specs.Roots.{AreFreeVariables, Export, exports_among, exports_in}
use Rattle.ms_logic.specs.Tree.{Form, truth, falsity, truth_variable, negation, conjunction, disjunction, implication, equivalence, comparison, set_comparison, membership, emptiness, quantified, where_let, call, restrict, imported, exported, default_at, Forms, no_forms, more_forms}
use Rattle.ms_logic.specs.Truth.{Given}
use Rattle.ms_logic.specs.View.{problem_of, Answers}
use Rattle.ms_names_rules.specs.Numbers.{AreNumbered, ExportSees, IsNumbered, IsWellNumbered, Tables, globals_seen, tables_of}
use Rattle.ms_logic.specs.Lists.{Each, IsAmong}
use Rattle.ms_names_rules.proofs.Fitting.{each-append}
use Rattle.ms_logic_spread.specs.RootLaws.{IsExported}

-- a formula has one list of free variables

listed_to : (vs : List Variable) (w : Variable) → IsListed vs w → IsAmong vs w
listed_to [] w listed = absurd listed
listed_to (v ∷ vs) w listed = ⊎_elim (λ here. inl (ap₂ (λ (x : ℕ) (o : Order). record { name = x; order = o }) (sym here.0) (sym here.1))) (λ later. inr (listed_to vs w later)) listed

listed_from : (vs : List Variable) (w : Variable) → IsAmong vs w → IsListed vs w
listed_from [] w among = absurd among
listed_from (v ∷ vs) w among =
    ⊎_elim (λ here. inl (ap (λ (u : Variable). u.name) (sym here), ap (λ (u : Variable). u.order) (sym here))) (λ later. inr (listed_from vs w later)) among

pub one_list : (given : Given) (f : Form) (vs ws : List Variable) → AreFreeVariables given f vs → AreFreeVariables given f ws → vs ≡ ws
one_list given f vs ws one two =
    rising_equal vs ws one.rising two.rising
    (λ x among. listed_to ws x ((two.free x).1 ((one.free x).0 (listed_from vs x among))))
    (λ x among. listed_to vs x ((one.free x).1 ((two.free x).0 (listed_from ws x among))))

-- each export has an entry in the table, with a name for each of its variables

module _ (tables : Tables) (bound : ℕ) where
  abbrev HasNames : Export → Type 0
  HasNames e = IsSomeAnd (slice_get tables.exports e.number) (λ used. length used.names ≡ length used.variables)

  seen_named : (seen : List Variable) (found : Option ExportUse) → IsSomeAnd found (ExportSees seen) → IsSomeAnd found (λ used. length used.names ≡ length used.variables)
  seen_named seen None sees = sees
  seen_named seen (Some used) sees = sees.2

  mutual
    exports_named : (f : Form) (seen : List Variable) → IsNumbered tables bound seen f → Each HasNames (exports_in f)
    exports_named truth seen numbered = tt
    exports_named falsity seen numbered = tt
    exports_named (truth_variable x) seen numbered = tt
    exports_named (negation f) seen numbered = exports_named f seen numbered
    exports_named (conjunction fs) seen numbered = each_named fs seen numbered
    exports_named (disjunction fs) seen numbered = each_named fs seen numbered
    exports_named (implication f g) seen numbered = each-append HasNames (exports_in f) (exports_in g) (exports_named f seen numbered.0) (exports_named g seen numbered.1)
    exports_named (equivalence f g) seen numbered = each-append HasNames (exports_in f) (exports_in g) (exports_named f seen numbered.0) (exports_named g seen numbered.1)
    exports_named (comparison r t u) seen numbered = tt
    exports_named (set_comparison r s t) seen numbered = tt
    exports_named (membership positive t s) seen numbered = tt
    exports_named (emptiness s) seen numbered = tt
    exports_named (quantified q o x d f) seen numbered = exports_named f (record { name = x; order = o } ∷ seen) numbered.2
    exports_named (where_let xs sides f) seen numbered = tt
    exports_named (call p values) seen numbered = tt
    exports_named (restrict f) seen numbered = exports_named f seen numbered
    exports_named (imported i) seen numbered = tt
    exports_named (exported i f) seen numbered = (seen_named seen (slice_get tables.exports i) numbered.0, exports_named f seen numbered.1)
    exports_named (default_at p x) seen numbered = tt

    each_named : (fs : Forms) (seen : List Variable) → AreNumbered tables bound seen fs → Each HasNames (exports_among fs)
    each_named no_forms seen numbered = tt
    each_named (more_forms f fs) seen numbered = each-append HasNames (exports_in f) (exports_among fs) (exports_named f seen numbered.0) (each_named fs seen numbered.1)

at_entry : (exports : List ExportUse) (i : ℕ) (used : ExportUse) (P : ExportUse → Type 0) → slice_get exports i ≡ Some used → IsSomeAnd (slice_get exports i) P → P used
at_entry exports i used P held some = let there = subst (λ (found : Option ExportUse). IsSomeAnd found P) held some in there

module _ (checked : Checked) (answers : Answers) (well : IsWellNumbered checked) (exports : ListsFreeVariables checked) (long : length answers ≡ length checked.imports) (i : ℕ) (f : Form)
    (is : IsExported (problem_of checked answers) i f) (used : ExportUse) (held : slice_get checked.exports i ≡ Some used) where
  -- an entry has as many names as variables
  pub entry_named : length used.names ≡ length used.variables
  entry_named =
      let tables = tables_of checked in
      let problem = problem_of checked answers in
      let all = each_named tables (length tables.predicates) problem.formulas (globals_seen checked) (asked_numbered checked well checked.formulas (whole_asked checked)) in
      let P : Export → Type 0 = HasNames tables (length tables.predicates) in
      at_entry checked.exports i used (λ u. length u.names ≡ length u.variables) held
      (All-contains P (exports_among problem.formulas) (record { number = i; formula = f }) (each_all P (exports_among problem.formulas) all) is)

  -- and lists the free variables of what is exported
  pub entry_lists : (vs : List Variable) → AreFreeVariables (problem_of checked answers).given f vs → used.variables ≡ map (λ v. v.name) vs
  entry_lists vs free =
      let problem = problem_of checked answers in
      let P : Export → Type 0 = ExportListsFree problem.given checked.exports in
      let listed = at_entry checked.exports i used (ListsFree problem.given f) held
      (All-contains P (exports_among problem.formulas) (record { number = i; formula = f }) (each_all P (exports_among problem.formulas) (exports.variables answers long)) is) in
      listed.1 ∙ ap (map (λ v. v.name)) (one_list problem.given f listed.0 vs listed.2 free)
