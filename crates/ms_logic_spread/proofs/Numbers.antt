-- The numbers and sets among arguments, put in place of variables.
use Rattle.std.proofs.Common.{◌≡◌, ℕ, ◌≤◌, ◌↔◌, ◌⊎◌, inl, inr, ⊎_elim, List, [], ◌∷◌, Option, Some, None, IsNone, IsSomeAnd, refl, sym, ◌∙◌, subst, arith}
use Rattle.ms_logic.specs.declared.mode.Order.{Order}
use Rattle.ms_logic.specs.declared.mode.Order.TheVariants.{Zero}
use Rattle.ms_logic.specs.declared.assignment.Value.{Value}
use Rattle.ms_logic.specs.declared.assignment.Value.TheVariants.{Truth, Number, Set}
use Rattle.ms_logic.specs.Assignment.{Env, IsValueOf}
use Rattle.ms_logic_core.specs.CoreForm.{CoreForm, CoreYes, CoreNo}
use Rattle.ms_logic.specs.FreeVariables.{Reads, orders_of, order_of, FreeInArguments}
use Rattle.ms_logic_core.specs.Spread.{Names, TermSpread, spread_number, spread_set, numbers_and_sets, first_named, after_first}
use Rattle.ms_logic.specs.Terms.{number_value, set_value}
use Rattle.ms_logic.specs.Tree.{Form, Argument, truth_argument, number_argument, set_argument, Arguments, no_arguments, more_arguments}
use Rattle.ms_logic.specs.Truth.{Meanings, HaveValues, HasValue, LacksValue, Import}
use Rattle.ms_logic_core.proofs.Saying.{Extends, extends-itself, extends-further, Reading, reading-weaker, reading-extends, Inside, Denotes}
use Rattle.ms_logic_core.proofs.SpreadTerms.{number_denotes, set_denotes}
use Rattle.ms_logic_spread.proofs.Places.{Places, places_none, places_one, places_other, first_named-other}

-- what is there is not lacking
some_not_none : {A : Type 0} (o : Option A) (a : A) → o ≡ Some a → IsNone o → ⊥
some_not_none {A} o a is none = cc

module _ (m : Meanings) (imports : List Import) where
  -- Each number and set among the arguments has a value. What is said with names in which the variables have theirs is said where
  -- these variables have the values.
  pub record AreSaid (xs : List ℕ) (given : Arguments) (names : Names) (free : ℕ) (e c : Env) : Type 0 where
    pub next : ℕ
    pub place : Names → Names
    pub inner : Env
    pub later : free ≤ next
    pub extends : Extends free c inner
    pub there : LacksValue given e → ⊥
    pub others : (outer : Names) (z : ℕ) → place outer Zero z ≡ outer Zero z
    pub places : (o : Order) → (o ≡ Zero → ⊥) → (vs : List Value) → HaveValues m given e vs → Places o xs (orders_of given) vs place next inner
    pub yes : (outer : Names) (Said : Names → ℕ → CoreForm) → CoreYes imports (numbers_and_sets xs given names outer free Said) c ↔ CoreYes imports (Said (place outer) next) inner
    pub no : (outer : Names) (Said : Names → ℕ → CoreForm) → CoreNo imports (numbers_and_sets xs given names outer free Said) c ↔ CoreNo imports (Said (place outer) next) inner

  -- some number or set has no value, and whatever is said is No
  pub record IsLacking (xs : List ℕ) (given : Arguments) (names : Names) (free : ℕ) (e c : Env) : Type 0 where
    pub lacks : LacksValue given e
    pub not_yes : (outer : Names) (Said : Names → ℕ → CoreForm) → CoreYes imports (numbers_and_sets xs given names outer free Said) c → ⊥
    pub no : (outer : Names) (Said : Names → ℕ → CoreForm) → CoreNo imports (numbers_and_sets xs given names outer free Said) c

  abbrev pub AreSaidOrLacking : List ℕ → Arguments → Names → ℕ → Env → Env → Type 0
  AreSaidOrLacking xs given names free e c = AreSaid xs given names free e c ⊎ IsLacking xs given names free e c

  -- an argument in front of others, which is the value of a term
  module _ {A : Type 0} (wrap : A → Value) (T : TermSpread) (xs : List ℕ) (a : Argument) (more : Arguments) (names : Names) (free : ℕ) (e c : Env)
      (spreads : (outer : Names) (Said : Names → ℕ → CoreForm) →
      numbers_and_sets xs (more_arguments a more) names outer free Said ≡ T free (λ next y. numbers_and_sets (after_first xs) more names outer next (λ inner last. Said (first_named (order_of a) xs y inner) last))) where
    -- what is said once the argument stands at y
    abbrev Then : Names → (Names → ℕ → CoreForm) → ℕ → ℕ → CoreForm
    Then outer Said next y = numbers_and_sets (after_first xs) more names outer next (λ inner last. Said (first_named (order_of a) xs y inner) last)

    -- the value of the argument, and where the variables are that get values
    term_places : (x : A) (next y : ℕ) (d : Env) → Inside (order_of a) free c next y d (wrap x) → ((v : Value) → HasValue m a e v → v ≡ wrap x) → (said : AreSaid (after_first xs) more names next e d) →
        (o : Order) → (o ≡ Zero → ⊥) → (vs : List Value) → HaveValues m (more_arguments a more) e vs →
        Places o xs (order_of a ∷ orders_of more) vs (λ outer. first_named (order_of a) xs y (said.place outer)) said.next said.inner
    term_places x next y d inside has said o not_zero [] have = absurd have
    term_places x next y d inside has said o not_zero (v ∷ vs) have =
        let is = has v have.0 in
        places_one o (order_of a) y v xs (orders_of more) vs said.place said.next said.inner
        (let placed = inside.placed in let later = said.later in omega arith)
        (said.extends.values (order_of a) y inside.placed ∙ (inside.value ∙ sym is))
        (subst (λ u. IsValueOf (order_of a) u v) (sym (said.extends.universe ∙ inside.extends.universe)) (subst (λ w. IsValueOf (order_of a) c.universe w) (sym is) inside.valid))
        (said.places o not_zero vs have.1)

    term_first : (o : Option A) → Denotes imports (order_of a) wrap T free c o → (order_of a ≡ Zero → ⊥) →
        (LacksValue (more_arguments a more) e ↔ (IsNone o ⊎ LacksValue more e)) → ((v : Value) → HasValue m a e v → IsSomeAnd o (λ x. v ≡ wrap x)) →
        ((next : ℕ) (d : Env) → free ≤ next → Extends free c d → AreSaidOrLacking (after_first xs) more names next e d) → AreSaidOrLacking xs (more_arguments a more) names free e c
    unfolding Denotes
    term_first None denotes not_truth lacking has others =
        inr (record {
          lacks = lacking.1 (inl refl);
          not_yes = λ outer Said holds. (denotes (Then outer Said)).0 (subst (λ f. CoreYes imports f c) (spreads outer Said) holds);
          no = λ outer Said. subst (λ f. CoreNo imports f c) (sym (spreads outer Said)) (denotes (Then outer Said)).1;
        })
    term_first (Some x) denotes not_truth lacking has others =
        ⊎_elim
        (λ said. inl (record {
          next = said.next;
          place = λ outer. first_named (order_of a) xs denotes.y (said.place outer);
          inner = said.inner;
          later = let first = denotes.inside.later in let second = said.later in omega arith;
          extends = extends-further free denotes.next c denotes.inner said.inner denotes.inside.later denotes.inside.extends said.extends;
          there = λ lacks. ⊎_elim (λ none. some_not_none (Some x) x refl none) said.there (lacking.0 lacks);
          others = λ outer z. first_named-other Zero (order_of a) xs denotes.y (said.place outer) z (λ same. not_truth (sym same)) ∙ said.others outer z;
          places = term_places x denotes.next denotes.y denotes.inner denotes.inside has said;
          yes = λ outer Said. (
            λ holds. (said.yes outer (λ inner last. Said (first_named (order_of a) xs denotes.y inner) last)).0 ((denotes.yes (Then outer Said)).0 (subst (λ f. CoreYes imports f c) (spreads outer Said) holds)),
            λ holds. subst (λ f. CoreYes imports f c) (sym (spreads outer Said)) ((denotes.yes (Then outer Said)).1 ((said.yes outer (λ inner last. Said (first_named (order_of a) xs denotes.y inner) last)).1 holds)),
          );
          no = λ outer Said. (
            λ fails. (said.no outer (λ inner last. Said (first_named (order_of a) xs denotes.y inner) last)).0 ((denotes.no (Then outer Said)).0 (subst (λ f. CoreNo imports f c) (spreads outer Said) fails)),
            λ fails. subst (λ f. CoreNo imports f c) (sym (spreads outer Said)) ((denotes.no (Then outer Said)).1 ((said.no outer (λ inner last. Said (first_named (order_of a) xs denotes.y inner) last)).1 fails)),
          );
        }))
        (λ none. inr (record {
          lacks = lacking.1 (inr none.lacks);
          not_yes = λ outer Said holds. none.not_yes outer (λ inner last. Said (first_named (order_of a) xs denotes.y inner) last) ((denotes.yes (Then outer Said)).0 (subst (λ f. CoreYes imports f c) (spreads outer Said) holds));
          no = λ outer Said. subst (λ f. CoreNo imports f c) (sym (spreads outer Said)) ((denotes.no (Then outer Said)).1 (none.no outer (λ inner last. Said (first_named (order_of a) xs denotes.y inner) last)));
        }))
        (others denotes.next denotes.inner denotes.inside.later denotes.inside.extends)

  -- a truth value in front of others, which stands in no place yet
  truth_places : (xs : List ℕ) (f : Form) (more : Arguments) (e : Env) (place : Names → Names) (next : ℕ) (d : Env) →
      ((o : Order) → (o ≡ Zero → ⊥) → (vs : List Value) → HaveValues m more e vs → Places o (after_first xs) (orders_of more) vs place next d) →
      (o : Order) → (o ≡ Zero → ⊥) → (vs : List Value) → HaveValues m (more_arguments (truth_argument f) more) e vs → Places o xs (Zero ∷ orders_of more) vs place next d
  truth_places xs f more e place next d others o not_zero [] have = absurd have
  truth_places xs f more e place next d others o not_zero (Truth b ∷ vs) have =
      places_other o Zero (Truth b) xs (orders_of more) vs place next d not_zero refl (others o not_zero vs have.1)
  truth_places xs f more e place next d others o not_zero (Number n ∷ vs) have = absurd have.0
  truth_places xs f more e place next d others o not_zero (Set s ∷ vs) have = absurd have.0

  no_places : (xs : List ℕ) (e : Env) (next : ℕ) (d : Env) (o : Order) (vs : List Value) → HaveValues m no_arguments e vs → Places o xs [] vs (λ names. names) next d
  no_places xs e next d o [] have = places_none o xs next d
  no_places xs e next d o (v ∷ vs) have = absurd have

  -- the numbers and sets among arguments have values, or some number or set has none
  pub numbers_said : (r : Reads) (xs : List ℕ) (given : Arguments) (names : Names) (free : ℕ) (e c : Env) → Reading (FreeInArguments r given) names free e c →
      AreSaidOrLacking xs given names free e c
  numbers_said r xs no_arguments names free e c reading =
      inl (record {
        next = free;
        place = λ outer. outer;
        inner = c;
        later = omega arith;
        extends = extends-itself free c;
        there = λ lacks. lacks;
        others = λ outer z. refl;
        places = λ o not_zero vs have. no_places xs e free c o vs have;
        yes = λ outer Said. (λ h. h, λ h. h);
        no = λ outer Said. (λ h. h, λ h. h);
      })
  numbers_said r xs (more_arguments (truth_argument f) more) names free e c reading =
      ⊎_elim
      (λ said. inl (record {
        next = said.next;
        place = said.place;
        inner = said.inner;
        later = said.later;
        extends = said.extends;
        there = said.there;
        others = said.others;
        places = truth_places xs f more e said.place said.next said.inner said.places;
        yes = said.yes;
        no = said.no;
      }))
      (λ none. inr (record { lacks = none.lacks; not_yes = none.not_yes; no = none.no }))
      (numbers_said r (after_first xs) more names free e c (reading-weaker _ _ names free e c (λ w there. inr there) reading))
  numbers_said r xs (more_arguments (number_argument t) more) names free e c reading =
      term_first Number (spread_number t names) xs (number_argument t) more names free e c (λ outer Said. refl) (number_value t e)
      (number_denotes imports t names free e c (reading-weaker _ _ names free e c (λ w there. inl there) reading))
      (λ same. cc) (λ h. h, λ h. h) (λ v has. has)
      (λ next d later extends. numbers_said r (after_first xs) more names next e d (reading-weaker _ _ names next e d (λ w there. inr there) (reading-extends _ names free next e c d later extends reading)))
  numbers_said r xs (more_arguments (set_argument s) more) names free e c reading =
      term_first Set (spread_set s names) xs (set_argument s) more names free e c (λ outer Said. refl) (set_value s e)
      (set_denotes imports s names free e c (reading-weaker _ _ names free e c (λ w there. inl there) reading))
      (λ same. cc) (λ h. h, λ h. h) (λ v has. has)
      (λ next d later extends. numbers_said r (after_first xs) more names next e d (reading-weaker _ _ names next e d (λ w there. inr there) (reading-extends _ names free next e c d later extends reading)))
