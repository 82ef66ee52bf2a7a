-- What is known of the names in a scope: which variables they are, and to which their predicates lead.
use Rattle.std.proofs.Common.{◌≡◌, ℕ, ◌<◌, ◌≤◌, ◌⊎◌, ◌↔◌, inl, inr, ⊎_elim, Bool, true, false, if◌then◌else◌, List, [], ◌∷◌, length, Option, Some, refl, sym, ◌∙◌, arith}
use Rattle.std.specs.Prelude.{bytes_eq}
use Rattle.ms_logic.specs.declared.mode.Order.{Order}
use Rattle.ms_logic.specs.declared.mode.Order.TheVariants.{Zero, One, Two}
use Rattle.ms_logic.specs.Assignment.{Variable}
use Rattle.ms_logic.specs.FreeVariables.{IsVariable, Reads}
use Rattle.ms_names_rules.specs.declared.meaning.Meaning.{Meaning}
use Rattle.ms_names_rules.specs.declared.meaning.Meaning.TheVariants as meaning
use Rattle.ms_names_rules.specs.declared.meaning.Reading.TheVariants.{Predicate}
use Rattle.ms_names_rules.specs.inner.Free.{Readings}
use Rattle.ms_logic.specs.Lists.{Each}
use Rattle.ms_names_rules.specs.Scope.{Scope, bind, default_of, meaning_among, with_default, without_exports, Bytes}
use Rattle.ms_names_rules.proofs.Fitting.{Falls, If, IsBelow, each-weaker, if-weaker}
use Rattle.ms_names_checked.proofs.Leading.{LeadsTo}

abbrev pub Names : Type 0
Names = List (Bytes × Meaning)

-- the variables among the names
abbrev pub IsInScope : Names → Variable → Type 0
IsInScope [] w = ⊥
IsInScope ((n, meaning.Variable x o) ∷ outer) w = IsVariable x o w ⊎ IsInScope outer w
IsInScope ((n, meaning.Constant value) ∷ outer) w = IsInScope outer w
IsInScope ((n, meaning.Predicate p parameters) ∷ outer) w = IsInScope outer w

-- a number is that of a variable among the names, or of one that was bound before: those have numbers from low on and below high
abbrev pub IsOld : ℕ → ℕ → Names → ℕ → Type 0
IsOld low high names x = ((o : Order) × IsInScope names (record { name = x; order = o })) ⊎ ((low ≤ x) × (x < high))

-- a predicate reads those variables of the scope to which it leads, and leads to no new variable
pub record IsPredicate (r : Reads) (R : List Readings) (low high : ℕ) (names : Names) (p : ℕ) (parameters : List Order) : Type 0 where
  pub below : p < length R
  pub free : (w : Variable) → r.called p parameters w → LeadsTo R w.name (Predicate p) × IsInScope names w
  pub back : (w : Variable) → IsInScope names w → LeadsTo R w.name (Predicate p) → r.called p parameters w
  pub old : (x : ℕ) → LeadsTo R x (Predicate p) → IsOld low high names x

-- so does a default restriction, which also reads the variable at which it stands
pub record IsDefault (r : Reads) (R : List Readings) (low high : ℕ) (names : Names) (o : Order) (p : ℕ) : Type 0 where
  pub below : p < length R
  pub free : (x : ℕ) (w : Variable) → r.default p x w → IsVariable x o w ⊎ (LeadsTo R w.name (Predicate p) × IsInScope names w)
  pub back : (x : ℕ) (w : Variable) → IsInScope names w → LeadsTo R w.name (Predicate p) → r.default p x w
  pub old : (x : ℕ) → LeadsTo R x (Predicate p) → IsOld low high names x

abbrev pub IsMeaning : Reads → List Readings → ℕ → ℕ → Names → Meaning → Type 0
IsMeaning r R low high names (meaning.Variable x o) = IsInScope names (record { name = x; order = o })
IsMeaning r R low high names (meaning.Constant value) = Unit {0}
IsMeaning r R low high names (meaning.Predicate p parameters) = IsPredicate r R low high names p parameters

abbrev pub IsEntry : Reads → List Readings → ℕ → ℕ → Names → Bytes × Meaning → Type 0
IsEntry r R low high names entry = IsMeaning r R low high names entry.1

-- all names and default restrictions of a scope
pub record Knows (r : Reads) (R : List Readings) (low high : ℕ) (s : Scope) : Type 0 where
  pub readings : s.readings ≡ R
  pub names : Each (IsEntry r R low high s.names) s.names
  pub numbers : If (IsDefault r R low high s.names One) s.default_of_numbers
  pub sets : If (IsDefault r R low high s.names Two) s.default_of_sets
  pub falls : Falls s.names

-- variables among the names

pub in-scope-below : (x : ℕ) (names : Names) (w : Variable) → Each (IsBelow x) names → IsInScope names w → w.name < x
in-scope-below x [] w below h = absurd h
in-scope-below x ((n, meaning.Variable y o) ∷ outer) w below h =
    ⊎_elim (λ is. let same = is.0 in let less = below.0 in omega (arith, same, less)) (λ later. in-scope-below x outer w below.1 later) h
in-scope-below x ((n, meaning.Constant value) ∷ outer) w below h = in-scope-below x outer w below.1 h
in-scope-below x ((n, meaning.Predicate p parameters) ∷ outer) w below h = in-scope-below x outer w below.1 h

-- variables of one number have one order
pub in-scope-once : (names : Names) (v w : Variable) → Falls names → IsInScope names v → IsInScope names w → v.name ≡ w.name → v.order ≡ w.order
in-scope-once [] v w falls h k same = absurd h
in-scope-once ((n, meaning.Variable x o) ∷ outer) v w falls h k same =
    ⊎_elim
    (λ first. ⊎_elim (λ second. first.1 ∙ sym second.1)
    (λ later. let less = in-scope-below x outer w falls.0 later in let at = first.0 in absurd (omega (arith, less, at, same))) k)
    (λ before. ⊎_elim (λ second. let less = in-scope-below x outer v falls.0 before in let at = second.0 in absurd (omega (arith, less, at, same)))
    (λ later. in-scope-once outer v w falls.1 before later same) k) h
in-scope-once ((n, meaning.Constant value) ∷ outer) v w falls h k same = in-scope-once outer v w falls h k same
in-scope-once ((n, meaning.Predicate p parameters) ∷ outer) v w falls h k same = in-scope-once outer v w falls h k same

pub in-scope-same : (names : Names) (v w : Variable) → v.name ≡ w.name → v.order ≡ w.order → IsInScope names v → IsInScope names w
in-scope-same [] v w same also h = absurd h
in-scope-same ((n, meaning.Variable x o) ∷ outer) v w same also h =
    ⊎_elim (λ is. inl (sym same ∙ is.0, sym also ∙ is.1)) (λ later. inr (in-scope-same outer v w same also later)) h
in-scope-same ((n, meaning.Constant value) ∷ outer) v w same also h = in-scope-same outer v w same also h
in-scope-same ((n, meaning.Predicate p parameters) ∷ outer) v w same also h = in-scope-same outer v w same also h

-- what is old stays old

pub old-more : (low high more : ℕ) (names wide : Names) (x : ℕ) → high ≤ more → ((w : Variable) → IsInScope names w → IsInScope wide w) →
    IsOld low high names x → IsOld low more wide x
old-more low high more names wide x le within h =
    ⊎_elim (λ found. inl (found.0, within (record { name = x; order = found.0 }) found.1)) (λ before. let from = before.0 in let less = before.1 in inr (from, omega (arith, less, le))) h

-- A scope that knows more: more predicates, with what is read by other numbers, and more names. No old variable is among the new names.
module _ (r t : Reads) (R S : List Readings) (low high more : ℕ) (names wide : Names)
    (le : high ≤ more) (long : length R ≤ length S)
    (leads : (x p : ℕ) → p < length R → LeadsTo R x (Predicate p) ↔ LeadsTo S x (Predicate p))
    (called : (p : ℕ) (orders : List Order) (w : Variable) → p < length R → r.called p orders w ↔ t.called p orders w)
    (defaults : (p x : ℕ) (w : Variable) → p < length R → r.default p x w ↔ t.default p x w)
    (within : (w : Variable) → IsInScope names w → IsInScope wide w)
    (apart : (w : Variable) → IsInScope wide w → IsOld low high names w.name → IsInScope names w) where
  predicate-more : (p : ℕ) (parameters : List Order) → IsPredicate r R low high names p parameters → IsPredicate t S low more wide p parameters
  predicate-more p parameters h = record {
    below = let less = h.below in omega (arith, less, long);
    free = λ w free.
        let there = h.free w ((called p parameters w h.below).1 free) in ((leads w.name p h.below).0 there.0, within w there.1);
    back = λ w seen lead.
        let here = (leads w.name p h.below).1 lead in (called p parameters w h.below).0 (h.back w (apart w seen (h.old w.name here)) here);
    old = λ x lead. old-more low high more names wide x le within (h.old x ((leads x p h.below).1 lead));
  }

  default-more : (o : Order) (p : ℕ) → IsDefault r R low high names o p → IsDefault t S low more wide o p
  default-more o p h = record {
    below = let less = h.below in omega (arith, less, long);
    free = λ x w free.
        ⊎_elim (λ is. inl is) (λ there. inr ((leads w.name p h.below).0 there.0, within w there.1)) (h.free x w ((defaults p x w h.below).1 free));
    back = λ x w seen lead.
        let here = (leads w.name p h.below).1 lead in (defaults p x w h.below).0 (h.back x w (apart w seen (h.old w.name here)) here);
    old = λ x lead. old-more low high more names wide x le within (h.old x ((leads x p h.below).1 lead));
  }

  meaning-more : (m : Meaning) → IsMeaning r R low high names m → IsMeaning t S low more wide m
  meaning-more (meaning.Variable x o) h = within (record { name = x; order = o }) h
  meaning-more (meaning.Constant value) h = tt
  meaning-more (meaning.Predicate p parameters) h = predicate-more p parameters h

  pub entries-more : (entries : Names) → Each (IsEntry r R low high names) entries → Each (IsEntry t S low more wide) entries
  entries-more entries h = each-weaker (IsEntry r R low high names) (IsEntry t S low more wide) entries (λ entry is. meaning-more entry.1 is) h

  pub defaults-more : (o : Order) (d : Option ℕ) → If (IsDefault r R low high names o) d → If (IsDefault t S low more wide o) d
  defaults-more o d h = if-weaker (IsDefault r R low high names o) (IsDefault t S low more wide o) d (λ p is. default-more o p is) h

-- the same both ways
pub both-ways : (A : Type 0) → A ↔ A
both-ways A = (λ a. a, λ a. a)

-- with one more variable, whose number is that of no old one
pub knows-bind : (r : Reads) (R : List Readings) (low high : ℕ) (s : Scope) (x : ℕ) (o : Order) (n : Bytes) → Knows r R low high s → Each (IsBelow x) s.names →
    (x < low) ⊎ (high ≤ x) → Knows r R low high (bind n (meaning.Variable x o) s)
knows-bind r R low high s x o n knows below new =
    let wide : Names = (n, meaning.Variable x o) ∷ s.names in
    let within : (w : Variable) → IsInScope s.names w → IsInScope wide w = λ w seen. inr seen in
    let apart : (w : Variable) → IsInScope wide w → IsOld low high s.names w.name → IsInScope s.names w = λ w seen old. is-apart w seen old in
    record {
      readings = knows.readings;
      names = (
        inl (refl, refl),
        entries-more r r R R low high high s.names wide (omega arith) (omega arith) (λ y p less. both-ways (LeadsTo R y (Predicate p)))
            (λ p orders w less. both-ways (r.called p orders w)) (λ p y w less. both-ways (r.default p y w)) within apart s.names knows.names,
      );
      numbers = defaults-more r r R R low high high s.names wide (omega arith) (omega arith) (λ y p less. both-ways (LeadsTo R y (Predicate p)))
          (λ p orders w less. both-ways (r.called p orders w)) (λ p y w less. both-ways (r.default p y w)) within apart One s.default_of_numbers knows.numbers;
      sets = defaults-more r r R R low high high s.names wide (omega arith) (omega arith) (λ y p less. both-ways (LeadsTo R y (Predicate p)))
          (λ p orders w less. both-ways (r.called p orders w)) (λ p y w less. both-ways (r.default p y w)) within apart Two s.default_of_sets knows.sets;
      falls = (below, knows.falls);
    }
  where
    not-new : (w : Variable) → w.name ≡ x → IsOld low high s.names w.name → ⊥
    not-new w same old =
        ⊎_elim (λ found. let less = in-scope-below x s.names (record { name = w.name; order = found.0 }) below found.1 in omega (arith, less, same))
        (λ before. let from = before.0 in let less = before.1 in ⊎_elim (λ early. omega (arith, from, same, early)) (λ late. omega (arith, less, same, late)) new) old

    is-apart : (w : Variable) → IsInScope ((n, meaning.Variable x o) ∷ s.names) w → IsOld low high s.names w.name → IsInScope s.names w
    is-apart w seen old = ⊎_elim (λ is. absurd (not-new w is.0 old)) (λ there. there) seen

pub knows-without : (r : Reads) (R : List Readings) (low high : ℕ) (s : Scope) → Knows r R low high s → Knows r R low high (without_exports s)
knows-without r R low high s knows = record { readings = knows.readings; names = knows.names; numbers = knows.numbers; sets = knows.sets; falls = knows.falls }

-- a name means what is known of it

meaning-chosen : (P : Meaning → Type 0) (here : Bool) (m : Meaning) (outer : Option Meaning) → P m → If P outer → If P (if here then Some m else outer)
meaning-chosen P true m outer h k = h
meaning-chosen P false m outer h k = k

pub meaning-known : (P : Meaning → Type 0) (names : Names) (n : Bytes) → Each (λ entry. P entry.1) names → If P (meaning_among names n)
meaning-known P [] n h = tt
meaning-known P (entry ∷ outer) n h = meaning-chosen P (bytes_eq entry.0 n) entry.1 (meaning_among outer n) h.0 (meaning-known P outer n h.1)

pub default-known : (r : Reads) (R : List Readings) (low high : ℕ) (s : Scope) (o : Order) → Knows r R low high s →
    If (IsDefault r R low high s.names o) (default_of s o)
default-known r R low high s Zero knows = tt
default-known r R low high s One knows = knows.numbers
default-known r R low high s Two knows = knows.sets

-- a default restriction is no name
pub default-names : (s : Scope) (o : Order) (p : ℕ) → (with_default o p s).names ≡ s.names
default-names s Zero p = refl
default-names s One p = refl
default-names s Two p = refl
