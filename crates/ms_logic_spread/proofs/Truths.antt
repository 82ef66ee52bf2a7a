-- The truth values among arguments, put in place of variables.
use Rattle.std.proofs.Common.{◌≡◌, ℕ, ◌+◌, ◌≤◌, Bool, true, false, ◌↔◌, ◌⊎◌, inl, inr, ⊎_elim, List, [], ◌∷◌, Option, Some, None, IsNone, IsSomeAnd, option_map, refl, sym, ◌∙◌, ap, subst, arith}
use Rattle.std.proofs.lemmas.Bool.{false≢true}
use Rattle.ms_logic.specs.declared.mode.Order.{Order}
use Rattle.ms_logic.specs.declared.mode.Order.TheVariants.{Zero}
use Rattle.ms_logic_core.specs.declared.core_formula.Basic.TheVariants as Basic
use Rattle.ms_logic.specs.declared.assignment.Value.{Value}
use Rattle.ms_logic.specs.declared.assignment.Value.TheVariants.{Truth, Number, Set}
use Rattle.ms_logic.specs.Assignment.{Env, assign, IsValueOf}
use Rattle.ms_logic_core.specs.CoreForm.{CoreForm, basic, equivalence, restrict, CoreYes, CoreNo}
use Rattle.ms_logic.specs.FreeVariables.{Reads, orders_of, order_of, FreeUnder, FreeInArguments}
use Rattle.ms_logic_core.specs.Spread.{Names, Saying, Callees, both_of, spread_under, truth_value, truth_values, variable_of_form, first_named, after_first}
use Rattle.ms_logic.specs.Terms.{number_value, set_value}
use Rattle.ms_logic.specs.Tree.{Form, truth_variable, Argument, truth_argument, number_argument, set_argument, Arguments, no_arguments, more_arguments}
use Rattle.ms_logic.specs.Truth.{Meanings, HaveValues, HasValue, LacksValue, Import}
use Rattle.ms_logic.proofs.Agreement.{named, order_of_value}
use Rattle.ms_logic_core.proofs.CoreConsistent.{core_never_both}
use Rattle.ms_logic_core.proofs.Saying.{Extends, extends-itself, extends-assign, extends-further, Reading, reading-weaker, reading-extends, Inside}
use Rattle.ms_logic.proofs.AssignedValues.{value_at-assign}
use Rattle.ms_logic_core.proofs.SpreadKeeps.{truth_in}
use Rattle.ms_logic_spread.proofs.Equivalences.{iff_then}
use Rattle.ms_logic_spread.proofs.Keeping.{Keeps, TruthsKept, truths_later}
use Rattle.ms_logic_spread.proofs.Places.{Places, places_none, places_one, places_other, first_named-other}

-- a formula is a variable, or is read as no variable
is_variable_or_not : (f : Form) → ((x : ℕ) × (f ≡ truth_variable x)) ⊎ (variable_of_form f ≡ None)
is_variable_or_not (truth_variable x) = inl (x, refl)
is_variable_or_not _ = inr refl

-- the truth value of a variable
variable_has : (m : Meanings) (x : ℕ) (e : Env) (b : Bool) → (e.truth x ≡ b) ↔ HasValue m (truth_argument (truth_variable x)) e (Truth b)
variable_has m x e true = (λ h. h, λ h. h)
variable_has m x e false = (λ h. h, λ h. h)

-- what is there, and does not lack
value_there : {A : Type 0} (o : Option A) → (IsNone o → ⊥) → (a : A) × (o ≡ Some a)
value_there None there = absurd (there refl)
value_there (Some a) there = (a, refl)

has_there : {A : Type 0} (wrap : A → Value) (o : Option A) (a : A) → o ≡ Some a → IsSomeAnd o (λ x. wrap a ≡ wrap x)
has_there {A} wrap o a is = let P : Option A → Type 0 = λ p. IsSomeAnd p (λ x. wrap a ≡ wrap x) in subst P (sym is) refl

only_there : {A : Type 0} (wrap : A → Value) (o : Option A) (a : A) (v : Value) → o ≡ Some a → IsSomeAnd o (λ x. v ≡ wrap x) → v ≡ wrap a
only_there {A} wrap o a v is has = let P : Option A → Type 0 = λ p. IsSomeAnd p (λ x. v ≡ wrap x) in subst P is has

module _ (m : Meanings) (k : Callees) (imports : List Import) where
  -- one fact holds where a core formula is Yes, and another where it is No
  abbrev pub SaidAt : Type 0 → Type 0 → CoreForm → Env → Type 0
  SaidAt Y N f c = (Y ↔ CoreYes imports f c) × (N ↔ CoreNo imports f c)

  abbrev HasTruth : Form → Env → Bool → Type 0
  HasTruth f e b = HasValue m (truth_argument f) e (Truth b)

  -- some truth value that a formula has is as P says
  abbrev SomeTruth : Form → Env → (Bool → Type 0) → Type 0
  SomeTruth f e P = (b : Bool) × HasTruth f e b × P b

  -- a new variable that is restricted to be the truth value of a formula
  module _ (f : Form) (names : Names) (free : ℕ) (e c : Env) (Said : Saying) (kept : (b : Bool) → Keeps m k imports f names (free + 1) e (assign free (Truth b) c)) where
    abbrev Body : CoreForm
    Body = both_of (restrict (equivalence (basic (Basic.Truth free)) (spread_under k f names (free + 1)))) (Said (free + 1) free)

    is_value : (b : Bool) → HasTruth f e b ↔ CoreYes imports (equivalence (basic (Basic.Truth free)) (spread_under k f names (free + 1))) (assign free (Truth b) c)
    is_value true =
        let is : (assign free (Truth true) c).truth free ≡ true = ap truth_in (value_at-assign Zero free (Truth true) c None tt) in
        (λ yes. inl (is, (kept true).0.0 yes), λ h. ⊎_elim (λ both. (kept true).0.1 both.1) (λ other. absurd (other.0 is)) h)
    is_value false =
        let is : (assign free (Truth false) c).truth free ≡ false = ap truth_in (value_at-assign Zero free (Truth false) c None tt) in
        (λ no. inr (λ holds. false≢true (sym is ∙ holds), (kept false).1.0 no), λ h. ⊎_elim (λ both. absurd (false≢true (sym is ∙ both.0))) (λ other. (kept false).1.1 other.1) h)

    one_value : (a b : Bool) → HasTruth f e a → HasTruth f e b → a ≡ b
    one_value true true first second = refl
    one_value true false first second = absurd (core_never_both imports (spread_under k f names (free + 1)) (assign free (Truth true) c) ((kept true).0.0 first) ((kept true).1.0 second))
    one_value false true first second = absurd (core_never_both imports (spread_under k f names (free + 1)) (assign free (Truth true) c) ((kept true).0.0 second) ((kept true).1.0 first))
    one_value false false first second = refl

    module _ (Y N : Bool → Type 0) (means : (b : Bool) → HasTruth f e b → SaidAt (Y b) (N b) (Said (free + 1) free) (assign free (Truth b) c)) where
      from_yes : (v : Value) → IsValueOf Zero c.universe v → CoreYes imports Body (assign free v c) → SomeTruth f e Y
      from_yes (Truth b) valid holds = let has = (is_value b).1 holds.0 in (b, has, (means b has).0.1 holds.1.0)
      from_yes (Number n) valid holds = absurd valid
      from_yes (Set s) valid holds = absurd valid

      from_no : (v : Value) → IsValueOf Zero c.universe v → CoreNo imports Body (assign free v c) → SomeTruth f e N
      from_no (Truth b) valid fails =
          let has = (is_value b).1 (⊎_elim (λ yes. yes) (λ no. absurd no) fails.0.0) in
          (b, has, (means b has).1.1 (⊎_elim (λ no. absurd no) (λ later. ⊎_elim (λ no. no) (λ none. absurd none) later) fails.1))
      from_no (Number n) valid fails = absurd valid
      from_no (Set s) valid fails = absurd valid

      not_both : (a : Bool) → HasTruth f e a → N a → (v : Value) → IsValueOf Zero c.universe v → CoreYes imports Body (assign free v c) → ⊥
      not_both a has fails (Truth b) valid holds =
          let same : b ≡ a = one_value b a ((is_value b).1 holds.0) has in
          let P : Bool → Type 0 = λ t. CoreYes imports (Said (free + 1) free) (assign free (Truth t) c) in
          core_never_both imports (Said (free + 1) free) (assign free (Truth a) c) (subst P same holds.1.0) ((means a has).1.0 fails)
      not_both a has fails (Number n) valid holds = absurd valid
      not_both a has fails (Set s) valid holds = absurd valid

      truth_said_new : SaidAt (SomeTruth f e Y) (SomeTruth f e N) (truth_value None (spread_under k f names) free Said) c
      truth_said_new = (
        (
          λ h. (Truth h.0, (tt, tt), ((is_value h.0).0 h.1, ((means h.0 h.1).0.0 h.2, tt))),
          λ found. from_yes found.0 found.1.0 found.2,
        ),
        (
          λ h. (
            λ v in_range holds. not_both h.0 h.1 h.2 v in_range.0 holds,
            inl (Truth h.0, (tt, tt), ((inl ((is_value h.0).0 h.1), (inr ((means h.0 h.1).1.0 h.2), tt)), inr (inl ((means h.0 h.1).1.0 h.2)))),
          ),
          λ fails. ⊎_elim (λ found. from_no found.0 found.1.0 found.2) (λ empty. absurd (empty (Truth true) (tt, tt))) fails.1,
        ),
      )

  -- something is said of the truth value of a formula
  module _ (r : Reads) (names : Names) (free : ℕ) (e c : Env) (Said : Saying) (Y N : Bool → Type 0) where
    -- whatever truth value the formula has, it is said of a variable with that value
    abbrev IsSaidOfTruth : Form → Type 0
    IsSaidOfTruth f = (b : Bool) (next y : ℕ) (d : Env) → HasTruth f e b → Inside Zero free c next y d (Truth b) → SaidAt (Y b) (N b) (Said next y) d

    abbrev TruthSaid : Form → Type 0
    TruthSaid f = SaidAt (SomeTruth f e Y) (SomeTruth f e N) (truth_value (option_map (names Zero) (variable_of_form f)) (spread_under k f names) free Said) c

    truth_said_variable : (x : ℕ) → Reading (FreeUnder r (truth_variable x)) names free e c → IsSaidOfTruth (truth_variable x) → TruthSaid (truth_variable x)
    truth_said_variable x reading means =
        let has = (variable_has m x e (e.truth x)).0 refl in
        let there = means (e.truth x) free (names Zero x) c has (record {
          later = omega arith;
          placed = reading.below (named x Zero) (refl, refl);
          extends = extends-itself free c;
          value = reading.values (named x Zero) (refl, refl);
          valid = tt;
        }) in (
          (λ h. there.0.0 (subst Y (sym ((variable_has m x e h.0).1 h.1)) h.2), λ holds. (e.truth x, has, there.0.1 holds)),
          (λ h. there.1.0 (subst N (sym ((variable_has m x e h.0).1 h.1)) h.2), λ fails. (e.truth x, has, there.1.1 fails)),
        )

    truth_said : (f : Form) → Reading (FreeUnder r f) names free e c → ((next : ℕ) (d : Env) → free ≤ next → Extends free c d → Keeps m k imports f names next e d) → IsSaidOfTruth f → TruthSaid f
    truth_said f reading kept means =
        ⊎_elim
        (λ is. let P : Form → Type 0 = λ g. Reading (FreeUnder r g) names free e c → IsSaidOfTruth g → TruthSaid g in
        subst P (sym is.1) (truth_said_variable is.0) reading means)
        (λ none. let P : Option ℕ → Type 0 = λ o. SaidAt (SomeTruth f e Y) (SomeTruth f e N) (truth_value (option_map (names Zero) o) (spread_under k f names) free Said) c in
        subst P (sym none) (truth_said_new f names free e c Said (λ b. kept (free + 1) (assign free (Truth b) c) (omega arith) (extends-assign free free (Truth b) c (omega arith))) Y N
        (λ b has. means b (free + 1) free (assign free (Truth b) c) has (record {
          later = omega arith;
          placed = omega arith;
          extends = extends-assign free free (Truth b) c (omega arith);
          value = value_at-assign Zero free (Truth b) c None tt;
          valid = tt;
        }))))
        (is_variable_or_not f)

  -- some values that the arguments have are as P says
  abbrev pub SomeValues : Arguments → Env → (List Value → Type 0) → Type 0
  SomeValues given e P = (vs : List Value) × HaveValues m given e vs × P vs

  -- whatever values the arguments have, it is said with names in which the variables of order 0 have them
  abbrev pub AreSaidOfTruths : List ℕ → Arguments → Names → ℕ → Env → Env → (Names → ℕ → CoreForm) → (List Value → Type 0) → (List Value → Type 0) → Type 0
  AreSaidOfTruths xs given outer free e c Said Y N =
      (vs : List Value) (place : Names → Names) (next : ℕ) (d : Env) → HaveValues m given e vs → free ≤ next → Extends free c d →
      Places Zero xs (orders_of given) vs place next d → ((o : Order) (inner : Names) (z : ℕ) → (o ≡ Zero → ⊥) → place inner o z ≡ inner o z) →
      SaidAt (Y vs) (N vs) (Said (place outer) next) d

  no_values : (e : Env) (P : List Value → Type 0) → SomeValues no_arguments e P ↔ P []
  no_values e P = (λ h. only h.0 h.1 h.2, λ p. ([], tt, p))
    where
      only : (vs : List Value) → HaveValues m no_arguments e vs → P vs → P []
      only [] have p = p
      only (v ∷ vs) have p = absurd have

  term_values : (a : Argument) (more : Arguments) (e : Env) (v : Value) (P : List Value → Type 0) → HasValue m a e v → ((w : Value) → HasValue m a e w → w ≡ v) →
      SomeValues (more_arguments a more) e P ↔ SomeValues more e (λ vs. P (v ∷ vs))
  term_values a more e v P has only = (λ h. first h.0 h.1 h.2, λ h. (v ∷ h.0, (has, h.1), h.2))
    where
      first : (vs : List Value) → HaveValues m (more_arguments a more) e vs → P vs → SomeValues more e (λ vs. P (v ∷ vs))
      first [] have p = absurd have
      first (w ∷ vs) have p = (vs, have.1, let Q : Value → Type 0 = λ u. P (u ∷ vs) in subst Q (only w have.0) p)

  truth_values_first : (f : Form) (more : Arguments) (e : Env) (P : List Value → Type 0) →
      SomeValues (more_arguments (truth_argument f) more) e P ↔ SomeTruth f e (λ b. SomeValues more e (λ vs. P (Truth b ∷ vs)))
  truth_values_first f more e P = (λ h. first h.0 h.1 h.2, λ h. (Truth h.0 ∷ h.2.0, (h.1, h.2.1), h.2.2))
    where
      first : (vs : List Value) → HaveValues m (more_arguments (truth_argument f) more) e vs → P vs → SomeTruth f e (λ b. SomeValues more e (λ vs. P (Truth b ∷ vs)))
      first [] have p = absurd have
      first (Truth b ∷ vs) have p = (b, have.0, (vs, have.1, p))
      first (Number n ∷ vs) have p = absurd have.0
      first (Set s ∷ vs) have p = absurd have.0

  -- a number or a set in front of others stands in its place already
  term_said : (xs : List ℕ) (a : Argument) (more : Arguments) (outer : Names) (free : ℕ) (e c : Env) (Said : Names → ℕ → CoreForm) (Y N : List Value → Type 0) (v : Value) →
      (Zero ≡ order_of a → ⊥) → order_of_value v ≡ order_of a → HasValue m a e v → AreSaidOfTruths xs (more_arguments a more) outer free e c Said Y N →
      AreSaidOfTruths (after_first xs) more outer free e c Said (λ vs. Y (v ∷ vs)) (λ vs. N (v ∷ vs))
  term_said xs a more outer free e c Said Y N v not_truth is_order has means vs place next d have later extends places others =
      means (v ∷ vs) place next d (has, have) later extends (places_other Zero (order_of a) v xs (orders_of more) vs place next d not_truth is_order places) others

  -- something is said of the truth values of arguments
  pub truths_said : (r : Reads) (xs : List ℕ) (given : Arguments) (names outer : Names) (free : ℕ) (e c : Env) (Said : Names → ℕ → CoreForm) (Y N : List Value → Type 0) →
      (LacksValue given e → ⊥) → Reading (FreeInArguments r given) names free e c → TruthsKept m k imports given names free e c → AreSaidOfTruths xs given outer free e c Said Y N →
      SaidAt (SomeValues given e Y) (SomeValues given e N) (truth_values k xs given names outer free Said) c
  unfolding TruthsKept
  truths_said r xs no_arguments names outer free e c Said Y N there reading kept means =
      let said = means [] (λ inner. inner) free c tt (omega arith) (extends-itself free c) (places_none Zero xs free c) (λ o inner z differ. refl) in
      (iff_then (no_values e Y) said.0, iff_then (no_values e N) said.1)
  truths_said r xs (more_arguments (truth_argument f) more) names outer free e c Said Y N there reading kept means =
      let said = truth_said r names free e c (λ next y. truth_values k (after_first xs) more names outer next (λ inner last. Said (first_named Zero xs y inner) last))
      (λ b. SomeValues more e (λ vs. Y (Truth b ∷ vs))) (λ b. SomeValues more e (λ vs. N (Truth b ∷ vs))) f (reading-weaker _ _ names free e c (λ w read. inl read) reading) kept.0
      (λ b next y d has inside.
      truths_said r (after_first xs) more names outer next e d (λ inner last. Said (first_named Zero xs y inner) last) (λ vs. Y (Truth b ∷ vs)) (λ vs. N (Truth b ∷ vs)) there
      (reading-extends _ names free next e c d inside.later inside.extends (reading-weaker _ _ names free e c (λ w read. inr read) reading))
      (truths_later m k imports more names free next e c d inside.later inside.extends kept.1)
      (λ vs place last a have later extends places others.
      means (Truth b ∷ vs) (λ inner. first_named Zero xs y (place inner)) last a (has, have) (let before = inside.later in omega arith)
      (extends-further free next c d a inside.later inside.extends extends)
      (places_one Zero Zero y (Truth b) xs (orders_of more) vs place last a (let placed = inside.placed in omega arith) (extends.values Zero y inside.placed ∙ inside.value) tt places)
      (λ o inner z differ. first_named-other o Zero xs y (place inner) z differ ∙ others o inner z differ))) in
      (iff_then (truth_values_first f more e Y) said.0, iff_then (truth_values_first f more e N) said.1)
  truths_said r xs (more_arguments (number_argument t) more) names outer free e c Said Y N there reading kept means =
      let n = value_there (number_value t e) (λ none. there (inl none)) in
      let has = has_there Number (number_value t e) n.0 n.1 in
      let only : (w : Value) → HasValue m (number_argument t) e w → w ≡ Number n.0 = λ w is. only_there Number (number_value t e) n.0 w n.1 is in
      let said = truths_said r (after_first xs) more names outer free e c Said (λ vs. Y (Number n.0 ∷ vs)) (λ vs. N (Number n.0 ∷ vs)) (λ lacks. there (inr lacks)) (reading-weaker _ _ names free e c (λ w read. inr read) reading) kept
      (term_said xs (number_argument t) more outer free e c Said Y N (Number n.0) (λ same. cc) refl has means) in
      (iff_then (term_values (number_argument t) more e (Number n.0) Y has only) said.0, iff_then (term_values (number_argument t) more e (Number n.0) N has only) said.1)
  truths_said r xs (more_arguments (set_argument s) more) names outer free e c Said Y N there reading kept means =
      let members = value_there (set_value s e) (λ none. there (inl none)) in
      let has = has_there Set (set_value s e) members.0 members.1 in
      let only : (w : Value) → HasValue m (set_argument s) e w → w ≡ Set members.0 = λ w is. only_there Set (set_value s e) members.0 w members.1 is in
      let said = truths_said r (after_first xs) more names outer free e c Said (λ vs. Y (Set members.0 ∷ vs)) (λ vs. N (Set members.0 ∷ vs)) (λ lacks. there (inr lacks)) (reading-weaker _ _ names free e c (λ w read. inr read) reading) kept
      (term_said xs (set_argument s) more outer free e c Said Y N (Set members.0) (λ same. cc) refl has means) in
      (iff_then (term_values (set_argument s) more e (Set members.0) Y has only) said.0, iff_then (term_values (set_argument s) more e (Set members.0) N has only) said.1)
