-- What is said of a term: of a variable that has the term's value, or of nothing.
use Rattle.std.proofs.Common.{◌≡◌, ℕ, ◌+◌, ◌<◌, ◌≤◌, ◌==◌, true, false, cond, ◌↔◌, inl, inr, ⊎_elim, List, Option, Some, None, IsSomeAnd, refl, ◌∙◌, ap, subst, arith}
use Rattle.std.proofs.lemmas.Bool.Decides.{nat_tests}
use Rattle.ms_logic.specs.declared.mode.Order.{Order}
use Rattle.ms_logic.specs.declared.mode.Order.TheVariants.{Zero, One, Two}
use Rattle.ms_logic.specs.declared.assignment.Value.{Value}
use Rattle.ms_logic.specs.declared.assignment.Value.TheVariants.{Truth, Number, Set}
use Rattle.ms_logic.specs.Assignment.{Universe, Env, Variable, assign, value_at, IsValueOf}
use Rattle.ms_logic_core.specs.CoreForm.{CoreYes, CoreNo}
use Rattle.ms_logic_core.specs.Spread.{Names, Saying, TermSpread, the_variable, new_variable}
use Rattle.ms_logic.specs.Truth.{Import}
use Rattle.ms_logic.proofs.Agreement.{universe-assign}
use Rattle.ms_logic_core.proofs.CoreConsistent.{core_never_both}
use Rattle.ms_logic.proofs.AssignedValues.{value_at-assign, value_at-assign_other}

-- the second environment has what the first has of the variables below a number
pub record Extends (count : ℕ) (c d : Env) : Type 0 where
  pub universe : d.universe ≡ c.universe
  pub values : (o : Order) (y : ℕ) → y < count → value_at o y d ≡ value_at o y c

pub extends-itself : (count : ℕ) (c : Env) → Extends count c c
extends-itself count c = record { universe = refl; values = λ o y below. refl }

pub extends-assign : (count x : ℕ) (v : Value) (c : Env) → count ≤ x → Extends count c (assign x v c)
extends-assign count x v c at_least = record {
  universe = universe-assign x v c;
  values = λ o y below. value_at-assign_other o x v y c (λ same. omega (arith, same));
}

pub extends-further : (count more : ℕ) (b c d : Env) → count ≤ more → Extends count b c → Extends more c d → Extends count b d
extends-further count more b c d at_most first second = record {
  universe = second.universe ∙ first.universe;
  values = λ o y below. second.values o y (omega arith) ∙ first.values o y below;
}

-- the core environment has the values of the variables in scope, under their names, and they are values of their orders
pub record Reading (InScope : Variable → Type 0) (names : Names) (free : ℕ) (e c : Env) : Type 0 where
  pub universe : c.universe ≡ e.universe
  pub below : (w : Variable) → InScope w → names w.order w.name < free
  pub values : (w : Variable) → InScope w → value_at w.order (names w.order w.name) c ≡ value_at w.order w.name e
  pub valid : (w : Variable) → InScope w → IsValueOf w.order e.universe (value_at w.order w.name e)

pub reading-extends : (InScope : Variable → Type 0) (names : Names) (free next : ℕ) (e c d : Env) → free ≤ next → Extends free c d →
    Reading InScope names free e c → Reading InScope names next e d
reading-extends InScope names free next e c d later extends reading = record {
  universe = extends.universe ∙ reading.universe;
  below = λ w there. let low = reading.below w there in omega arith;
  values = λ w there. extends.values w.order (names w.order w.name) (reading.below w there) ∙ reading.values w there;
  valid = reading.valid;
}

pub reading-weaker : (InScope Fewer : Variable → Type 0) (names : Names) (free : ℕ) (e c : Env) → ((w : Variable) → Fewer w → InScope w) →
    Reading InScope names free e c → Reading Fewer names free e c
reading-weaker InScope Fewer names free e c fewer reading = record {
  universe = reading.universe;
  below = λ w there. reading.below w (fewer w there);
  values = λ w there. reading.values w (fewer w there);
  valid = λ w there. reading.valid w (fewer w there);
}

-- an environment inside a quantifier, where the variable y has the value v
pub record Inside (order : Order) (free : ℕ) (c : Env) (next y : ℕ) (inner : Env) (v : Value) : Type 0 where
  pub later : free ≤ next
  pub placed : y < next
  pub extends : Extends free c inner
  pub value : value_at order y inner ≡ v
  pub valid : IsValueOf order c.universe v

module _ (imports : List Import) where
  -- what is said of a term is said of a variable with this value
  pub record IsSaidOf (order : Order) (T : TermSpread) (free : ℕ) (c : Env) (v : Value) : Type 0 where
    pub next : ℕ
    pub y : ℕ
    pub inner : Env
    pub inside : Inside order free c next y inner v
    pub yes : (Said : Saying) → CoreYes imports (T free Said) c ↔ CoreYes imports (Said next y) inner
    pub no : (Said : Saying) → CoreNo imports (T free Said) c ↔ CoreNo imports (Said next y) inner

  -- the term has this value, or none
  unfoldable pub Denotes : {A : Type 0} → Order → (A → Value) → TermSpread → ℕ → Env → Option A → Type 0
  Denotes order wrap T free c None = (Said : Saying) → (CoreYes imports (T free Said) c → ⊥) × CoreNo imports (T free Said) c
  Denotes order wrap T free c (Some a) = IsSaidOf order T free c (wrap a)

  module _ {A : Type 0} (order : Order) (wrap : A → Value) (T : TermSpread) (free : ℕ) (c : Env) where
    -- what is said of the term is Yes where the term has a value of which it is Yes
    pub said_yes : (o : Option A) → Denotes order wrap T free c o → (Said : Saying) (P : A → Type 0) →
        ((next y : ℕ) (inner : Env) (a : A) → Inside order free c next y inner (wrap a) → CoreYes imports (Said next y) inner ↔ P a) →
        CoreYes imports (T free Said) c ↔ IsSomeAnd o P
    unfolding Denotes
    said_yes None denotes Said P means = ((denotes Said).0, λ impossible. absurd impossible)
    said_yes (Some a) denotes Said P means =
        let there = means denotes.next denotes.y denotes.inner a denotes.inside in
        (λ holds. there.0 ((denotes.yes Said).0 holds), λ holds. (denotes.yes Said).1 (there.1 holds))

    -- it is No where the term has no value, or it is No of the value
    pub said_no : (o : Option A) → Denotes order wrap T free c o → (Said : Saying) →
        ((next y : ℕ) (inner : Env) (a : A) → Inside order free c next y inner (wrap a) → (CoreYes imports (Said next y) inner → ⊥) → CoreNo imports (Said next y) inner) →
        (CoreYes imports (T free Said) c → ⊥) → CoreNo imports (T free Said) c
    unfolding Denotes
    said_no None denotes Said decided fails = (denotes Said).1
    said_no (Some a) denotes Said decided fails =
        (denotes.no Said).1 (decided denotes.next denotes.y denotes.inner a denotes.inside (λ holds. fails ((denotes.yes Said).1 holds)))

  -- a variable in scope
  pub denotes_variable : {A : Type 0} (order : Order) (wrap : A → Value) (free y : ℕ) (c : Env) (a : A) → y < free → value_at order y c ≡ wrap a →
      IsValueOf order c.universe (wrap a) → Denotes order wrap (the_variable y) free c (Some a)
  unfolding Denotes
  denotes_variable order wrap free y c a below value valid = record {
    next = free;
    y = y;
    inner = c;
    inside = record { later = omega arith; placed = below; extends = extends-itself free c; value = value; valid = valid };
    yes = λ Said. (λ h. h, λ h. h);
    no = λ Said. (λ h. h, λ h. h);
  }

  -- a new variable whose restriction is Yes at one value
  pub denotes_some : {A : Type 0} (order : Order) (wrap : A → Value) (Is : Saying) (free : ℕ) (c : Env) (a : A) → IsValueOf order c.universe (wrap a) →
      ((u : Value) → IsValueOf order c.universe u → CoreYes imports (Is (free + 1) free) (assign free u c) ↔ (u ≡ wrap a)) →
      Denotes order wrap (new_variable order Is) free c (Some a)
  unfolding Denotes
  denotes_some order wrap Is free c a valid only = record {
    next = free + 1;
    y = free;
    inner = assign free (wrap a) c;
    inside = record {
      later = omega arith;
      placed = omega arith;
      extends = extends-assign free free (wrap a) c (omega arith);
      value = value_at-assign order free (wrap a) c c.universe valid;
      valid = valid;
    };
    yes = λ Said. (
      λ found. let P : Value → Type 0 = λ u. CoreYes imports (Said (free + 1) free) (assign free u c) in subst P ((only found.0 found.1.0).0 found.1.1) found.2,
      λ holds. (wrap a, (valid, (only (wrap a) valid).1 refl), holds),
    );
    no = λ Said. (
      λ fails. ⊎_elim
          (λ found. let P : Value → Type 0 = λ u. CoreNo imports (Said (free + 1) free) (assign free u c) in subst P ((only found.0 found.1.0).0 found.1.1) found.2)
          (λ empty. absurd (empty (wrap a) (valid, (only (wrap a) valid).1 refl)))
          fails.1,
      λ fails. (
        λ u in_range holds. let P : Value → Type 0 = λ w. CoreYes imports (Said (free + 1) free) (assign free w c) in core_never_both imports (Said (free + 1) free) (assign free (wrap a) c) (subst P ((only u in_range.0).0 in_range.1) holds) fails,
        inl (wrap a, (valid, (only (wrap a) valid).1 refl), fails),
      ),
    );
  }

  -- a new variable whose restriction is Yes at no value
  pub denotes_none : {A : Type 0} (order : Order) (wrap : A → Value) (Is : Saying) (free : ℕ) (c : Env) →
      ((u : Value) → IsValueOf order c.universe u → CoreYes imports (Is (free + 1) free) (assign free u c) → ⊥) →
      Denotes order wrap (new_variable order Is) free c None
  unfolding Denotes
  denotes_none order wrap Is free c never =
      λ Said. (λ found. never found.0 found.1.0 found.1.1, (λ u in_range holds. never u in_range.0 in_range.1, inr (λ u in_range. never u in_range.0 in_range.1)))
