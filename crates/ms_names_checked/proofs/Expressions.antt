-- What is read and what is free, for each kind of expression; default restrictions and exports.
use Rattle.std.proofs.Common.{◌≡◌, ℕ, ◌<◌, ◌≤◌, ◌⊎◌, inl, ⊎_elim, List, [], ◌∷◌, ◌++◌, map, Option, Some, None, refl, sym, ap, subst, ◌∙◌, arith}
use Rattle.std.specs.Prelude.{slice_get}
use Rattle.ms_list.specs.declared.at.At.{At as Place}
use Rattle.std.specs.Option.{IsSomeAnd}
use Rattle.ms_logic.specs.declared.checked.ExportUse.{ExportUse}
use Rattle.ms_logic.specs.declared.mode.Order.{Order}
use Rattle.ms_logic.specs.declared.mode.Order.TheVariants.{Zero, One, Two}
use Rattle.ms_logic.specs.Assignment.{Variable}
use Rattle.ms_logic.specs.FreeVariables.{IsVariable, Reads, FreeInArgument, FreeInArguments, FreeInForms, FreeInRestriction, FreeUnder, SetTermReads, TermReads, TermsRead, orders_of}
use Rattle.ms_logic_core.specs.Roots.{exports_among, exports_in}
use Rattle.ms_logic.specs.Tree.{Argument, Arguments, Form, Forms, SetTerm, Term, Terms}
use Rattle.ms_names_rules.specs.Scope.{Bytes, Scope, default_of, under_bounds}
use Rattle.ms_parse_grammar.specs.Tree.{Expression, Variables, no_variables, and_variable, Domain, unrestricted, restricted}
use Rattle.ms_names_rules.specs.Before.{Before, with_export}
use Rattle.ms_names_rules.specs.inner.Free.{Readings}
use Rattle.ms_names_rules.specs.Numbers.{Tables}
use Rattle.ms_names_rules.specs.Order.{formula_wanted}
use Rattle.ms_names_rules.specs.Occurrence.{Occurrence, occurrences}
use Rattle.ms_names_rules.specs.Reads.{free_variables, readings_at, readings_of_bounds, readings_of_default}
use Rattle.ms_names_rules.specs.Typed.{default_restriction}
use Rattle.ms_names_rules.proofs.Fitting.{If}
use Rattle.ms_names_checked.proofs.Leading.{Any, LeadsTo, Reaches}
use Rattle.ms_names_checked.proofs.Listing.{lists-free}
use Rattle.ms_names_checked.proofs.Scopes.{IsDefault, IsInScope, Names, old-more}
use Rattle.ms_names_checked.proofs.Told.{ExportLists, ListsFreeUnder, Told, exports_of, only, told-none}
use Rattle.ms_names_rules.specs.inner.Examples.{nothing}
use Rattle.std.proofs.lemmas.List.{append-nil}
use Rattle.ms_names_checked.proofs.Hiding.{At}

-- the default restriction of a variable that has none of its own
abbrev pub readings_of_domain : Scope → Order → Domain → Readings
readings_of_domain s o unrestricted = readings_of_default (default_of s o)
readings_of_domain s o (restricted e) = []

pub default-under : (s t : Scope) (o : Order) → s.default_of_numbers ≡ t.default_of_numbers → s.default_of_sets ≡ t.default_of_sets → default_of s o ≡ default_of t o
default-under s t Zero numbers sets = refl
default-under s t One numbers sets = numbers
default-under s t Two numbers sets = sets

pub readings-under : (s t : Scope) (vs : Variables) → s.default_of_numbers ≡ t.default_of_numbers → s.default_of_sets ≡ t.default_of_sets → readings_of_bounds s vs ≡ readings_of_bounds t vs
readings-under s t no_variables numbers sets = refl
readings-under s t (and_variable vs at o n unrestricted) numbers sets =
    ap (λ d. readings_of_bounds s vs ++ readings_of_default d) (default-under s t o numbers sets)
    ∙ ap (λ rs. rs ++ readings_of_default (default_of t o)) (readings-under s t vs numbers sets)
readings-under s t (and_variable vs at o n (restricted e)) numbers sets = readings-under s t vs numbers sets

pub domain-under : (s t : Scope) (o : Order) (d : Domain) → s.default_of_numbers ≡ t.default_of_numbers → s.default_of_sets ≡ t.default_of_sets →
    readings_of_domain s o d ≡ readings_of_domain t o d
domain-under s t o unrestricted numbers sets = ap readings_of_default (default-under s t o numbers sets)
domain-under s t o (restricted e) numbers sets = refl

pub readings-split : (s : Scope) (at : Place) (o : Order) (n : Bytes) (d : Domain) (vs : Variables) →
    readings_of_bounds s (and_variable vs at o n d) ≡ readings_of_bounds s vs ++ readings_of_domain s o d
readings-split s at o n unrestricted vs = refl
readings-split s at o n (restricted e) vs = sym (append-nil (readings_of_bounds s vs))

-- the defaults are the same under the variables of a list

pub numbers-under : (s : Scope) (x : ℕ) (vs : Variables) → (under_bounds s x vs).default_of_numbers ≡ s.default_of_numbers
numbers-under s x no_variables = refl
numbers-under s x (and_variable vs at o n d) = numbers-under s x vs

pub sets-under : (s : Scope) (x : ℕ) (vs : Variables) → (under_bounds s x vs).default_of_sets ≡ s.default_of_sets
sets-under s x no_variables = refl
sets-under s x (and_variable vs at o n d) = sets-under s x vs

module _ (tables : Tables) (r : Reads) (R : List Readings) (low : ℕ) where
  abbrev pub ArgumentTold : ℕ → Names → List Occurrence → Argument → Type 0
  ArgumentTold high names os a = Told r tables.exports low high names (Reaches R os) (λ v. FreeInArgument r a v) (exports_of a)

  abbrev pub FormTold : ℕ → Names → List Occurrence → Form → Type 0
  FormTold high names os f = Told r tables.exports low high names (Reaches R os) (λ v. FreeUnder r f v) (exports_in f)

  abbrev pub NumberTold : ℕ → Names → List Occurrence → Term → Type 0
  NumberTold high names os t = Told r tables.exports low high names (Reaches R os) (λ v. TermReads t v) []

  abbrev pub SetTold : ℕ → Names → List Occurrence → SetTerm → Type 0
  SetTold high names os t = Told r tables.exports low high names (Reaches R os) (λ v. SetTermReads t v) []

  abbrev pub NumbersTold : ℕ → Names → List Occurrence → Terms → Type 0
  NumbersTold high names os ts = Told r tables.exports low high names (Reaches R os) (λ v. TermsRead ts v) []

  abbrev pub FormsTold : ℕ → Names → List Occurrence → Forms → Type 0
  FormsTold high names os fs = Told r tables.exports low high names (Reaches R os) (λ v. FreeInForms r fs v) (exports_among fs)

  abbrev pub SidesTold : ℕ → Names → List Occurrence → List Order → Arguments → Type 0
  SidesTold high names os orders sides = Told r tables.exports low high names (Reaches R os) (λ v. FreeInArguments r sides v) [] × (orders_of sides ≡ orders)

  -- an expression that reads nothing and has none inside it
  pub leaf : (high : ℕ) (names : Names) (o : Occurrence) (F : Variable → Type 0) → ((x : ℕ) → Any (LeadsTo R x) (readings_at o) → ⊥) → ((w : Variable) → F w → ⊥) →
      Told r tables.exports low high names (Reaches R (o ∷ [])) F []
  leaf high names o F nothing none = told-none r tables.exports R low high names (Reaches R (o ∷ [])) F (λ x any. nothing x (only any)) none

  -- a default restriction at a new variable
  pub default-told : (start high : ℕ) (names : Names) (o : Order) (x : ℕ) (d : Option ℕ) → start ≤ high → (((w : Variable) → IsInScope names w → w.name < x)) →
      If (IsDefault r R low start names o) d →
      Told r tables.exports low high names (λ y. Any (LeadsTo R y) (readings_of_default d) ⊎ ⊥) (λ w. (IsVariable x o w → ⊥) × FreeInRestriction r (default_restriction d x) w) []
  default-told start high names o x None le below h = told-none r tables.exports R low high names (λ y. ⊥ ⊎ ⊥) (λ w. (IsVariable x o w → ⊥) × ⊥) (λ y any. only any) (λ w free. free.1)
  default-told start high names o x (Some p) le below h = record {
    free = λ w free. ⊎_elim (λ is. absurd (free.0 is)) (λ there. (inl (inl there.0), there.1)) (h.free x w free.1);
    back = λ w seen any. let under = below w seen in (λ is. let same = is.0 in omega (arith, under, same), h.back x w seen (only (only any)));
    old = λ y any. old-more low start high names names y le (λ w seen. seen) (h.old y (only (only any)));
    listed = tt;
  }

  -- an entry of the table of exports lists what is free
  pub entry-lists : (high start : ℕ) (s : Scope) (b : Before) (text_at : Place) (file : Bytes) (e : Expression) (f : Form) → At r R low start s b.next →
      FormTold high s.names (occurrences s (with_export b) formula_wanted e) f →
      slice_get tables.exports b.exports
      ≡ Some (record { at = text_at; name = file; variables = map (λ v. v.number) (free_variables s (with_export b) e); names = map (λ v. v.name) (free_variables s (with_export b) e) }) →
      ExportLists r tables.exports (record { number = b.exports; formula = f })
  entry-lists high start s b text_at file e f here h stands =
      let P : Option ExportUse → Type 0 = λ found. IsSomeAnd found (ListsFreeUnder r f) in
      subst P (sym stands)
      (lists-free r tables.exports low high R s (occurrences s (with_export b) formula_wanted e) (λ v. FreeUnder r f v) (exports_in f) here.knows.readings here.knows.falls h)
