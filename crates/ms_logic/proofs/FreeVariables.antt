-- The value of a formula depends on its free variables alone.
use Rattle.std.proofs.Common.{◌≡◌, ℕ, ◌+◌, ◌==◌, Bool, true, false, MatchBool, ◌⊎◌, inl, inr, ⊎_elim, List, [], ◌∷◌, map, slice_get, Option, Some, None, IsNone, IsSomeAnd, refl, sym, ◌∙◌, ap, subst}
use Rattle.ms_logic.specs.declared.mode.Order.{Order}
use Rattle.ms_logic.specs.declared.mode.Order.TheVariants.{Zero, One, Two}
use Rattle.ms_logic.specs.declared.mode.Quant.TheVariants.{Ex, All}
use Rattle.ms_logic.specs.declared.assignment.Value.{Value}
use Rattle.ms_logic.specs.declared.assignment.Value.TheVariants.{Truth, Number, Set}
use Rattle.ms_logic.specs.Assignment.{Universe, Env, Variable, assign, assign_all, value_at, IsValueOf}
use Rattle.ms_logic.specs.FreeVariables.{IsVariable, IsBound, Reads, order_of, orders_of, FreeUnder, FreeInForms, FreeInRestriction, FreeInArguments, FreeInArgument, FreeInRestrictions, IsReadFor, names_of, parameter_orders_of, reads_with_predicate, reads_with_predicates, reads_of_imports, IsListed, IsReadBy, IsFree, ValueDependsOnFreeVariables}
use Rattle.ms_logic.specs.Terms.{number_value, set_value}
use Rattle.ms_logic.specs.Tree.{Form, truth, falsity, truth_variable, negation, conjunction, disjunction, implication, equivalence, comparison, set_comparison, membership, emptiness, quantified, where_let, call, restrict, imported, exported, default_at, Forms, no_forms, more_forms, Restriction, unrestricted, restricted, Argument, truth_argument, number_argument, set_argument, Arguments, no_arguments, more_arguments, Declaration, Predicate}
use Rattle.ms_logic.specs.Truth.{Meanings, YesUnder, NoUnder, AllYes, AllNo, AllDefined, SomeYes, SomeNo, IsMet, HaveValues, HasValue, LacksValue, HoldsOfBoth, SomeInRange, NoneInRange, IsEmptyRange, AllMet, entered, values_at, with_predicate, with_predicates, meanings_of_imports, Import, answer_at}
use Rattle.ms_logic.proofs.Agreement.{order_of_value, universe-assign, universe-assign_all, agree_assign, agree_assign_all, named, Agrees, agrees_swap, agrees_weaker, number_value-same, set_value-same}

-- a name of a predicate or an import depends on what it reads alone
pub record Respects (m : Meanings) (r : Reads) : Type 0 where
  pub calls_yes : (p : ℕ) (vs : List Value) (e f : Env) → Agrees (r.called p (map order_of_value vs)) e f → m.call_yes p vs e → m.call_yes p vs f
  pub calls_no : (p : ℕ) (vs : List Value) (e f : Env) → Agrees (r.called p (map order_of_value vs)) e f → m.call_no p vs e → m.call_no p vs f
  pub defaults_yes : (p x : ℕ) (e f : Env) → Agrees (r.default p x) e f → m.default_yes p x e → m.default_yes p x f
  pub defaults_no : (p x : ℕ) (e f : Env) → Agrees (r.default p x) e f → m.default_no p x e → m.default_no p x f
  pub imports : (i : ℕ) (e f : Env) → Agrees (r.imported i) e f → m.import_answer i e ≡ m.import_answer i f

-- agreement goes into a body, whose variable has one value in both
agrees_inside : (x : ℕ) (o : Order) (v : Value) (Free : Variable → Type 0) (e f : Env) → order_of_value v ≡ o →
    Agrees (λ w. (IsVariable x o w → ⊥) × Free w) e f → Agrees Free (assign x v e) (assign x v f)
agrees_inside x o v Free e f is_order agrees = record {
  universe = universe-assign x v e ∙ (agrees.universe ∙ sym (universe-assign x v f));
  values = λ w free. agree_assign x v w e f (λ other. agrees.values w ((λ same. other (same.0, same.1 ∙ sym is_order)), free));
}

agrees_inside_all : (xs : List ℕ) (orders : List Order) (vs : List Value) (Free : Variable → Type 0) (e f : Env) → map order_of_value vs ≡ orders →
    Agrees (λ w. (IsBound xs orders w → ⊥) × Free w) e f → Agrees Free (assign_all xs vs e) (assign_all xs vs f)
agrees_inside_all xs orders vs Free e f are_orders agrees = record {
  universe = universe-assign_all xs vs e ∙ (agrees.universe ∙ sym (universe-assign_all xs vs f));
  values = λ w free. agree_assign_all xs vs w e f (λ other. agrees.values w ((λ bound. let P : List Order → Type 0 = λ os. IsBound xs os w in other (subst P (sym are_orders) bound)), free));
}

pub order_of_value_of : (o : Order) (universe : Universe) (v : Value) → IsValueOf o universe v → order_of_value v ≡ o
order_of_value_of Zero universe (Truth b) is_value = refl
order_of_value_of Zero universe (Number n) is_value = absurd is_value
order_of_value_of Zero universe (Set members) is_value = absurd is_value
order_of_value_of One universe (Truth b) is_value = absurd is_value
order_of_value_of One universe (Number n) is_value = refl
order_of_value_of One universe (Set members) is_value = absurd is_value
order_of_value_of Two universe (Truth b) is_value = absurd is_value
order_of_value_of Two universe (Number n) is_value = absurd is_value
order_of_value_of Two universe (Set members) is_value = refl

-- facts on what is there, along equal options
holds_same : {A B : Type 0} (R : A → B → Type 0) (a c : Option A) (b d : Option B) → a ≡ c → b ≡ d → HoldsOfBoth R a b → HoldsOfBoth R c d
holds_same {A} {B} R a c b d first second holds =
    let P : Option A → Type 0 = λ o. HoldsOfBoth R o b in let Q : Option B → Type 0 = λ o. HoldsOfBoth R c o in subst Q second (subst P first holds)

some_same : {A : Type 0} (P : A → Type 0) (a b : Option A) → a ≡ b → IsSomeAnd a P → IsSomeAnd b P
some_same {A} P a b same holds = let Q : Option A → Type 0 = λ o. IsSomeAnd o P in subst Q same holds

none_same : {A : Type 0} (a b : Option A) → a ≡ b → IsNone a → IsNone b
none_same {A} a b same lacking = let Q : Option A → Type 0 = λ o. IsNone o in subst Q same lacking

-- a value of one universe is one of an equal universe
moved_value : (o : Order) (v : Value) (e f : Env) → e.universe ≡ f.universe → IsValueOf o e.universe v → IsValueOf o f.universe v
moved_value o v e f same is_value = let P : Universe → Type 0 = λ u. IsValueOf o u v in subst P same is_value

-- a choice keeps what both sides keep
keep_chosen : (b : Bool) (P There Q Elsewhere : Type 0) (F G : Variable → Type 0) (e f : Env) → Agrees (λ w. MatchBool b (F w) (G w)) e f →
    (Agrees F e f → P → There) → (Agrees G e f → Q → Elsewhere) → MatchBool b P Q → MatchBool b There Elsewhere
keep_chosen true P There Q Elsewhere F G e f agrees first second = first agrees
keep_chosen false P There Q Elsewhere F G e f agrees first second = second agrees

-- values have the orders of their arguments
order_of_has : (m : Meanings) (a : Argument) (e : Env) (v : Value) → HasValue m a e v → order_of_value v ≡ order_of a
order_of_has m (truth_argument g) e (Truth b) has = refl
order_of_has m (truth_argument g) e (Number n) has = absurd has
order_of_has m (truth_argument g) e (Set members) has = absurd has
order_of_has m (number_argument t) e v has = is_number (number_value t e) v has
  where
    is_number : (o : Option ℕ) (v : Value) → IsSomeAnd o (λ n. v ≡ Number n) → order_of_value v ≡ One
    is_number None v has = absurd has
    is_number (Some n) v has = ap order_of_value has
order_of_has m (set_argument s) e v has = is_set (set_value s e) v has
  where
    is_set : (o : Option (List ℕ)) (v : Value) → IsSomeAnd o (λ members. v ≡ Set members) → order_of_value v ≡ Two
    is_set None v has = absurd has
    is_set (Some members) v has = ap order_of_value has

orders_of_have : (m : Meanings) (given : Arguments) (e : Env) (vs : List Value) → HaveValues m given e vs → map order_of_value vs ≡ orders_of given
orders_of_have m no_arguments e [] have = refl
orders_of_have m no_arguments e (v ∷ vs) have = absurd have
orders_of_have m (more_arguments a more) e [] have = absurd have
orders_of_have m (more_arguments a more) e (v ∷ vs) have =
    let first = order_of_has m a e v have.0 in let others = orders_of_have m more e vs have.1 in cc

-- agreement at what a quantified formula reads: for its restriction, and inside its body
for_restriction : (o : Order) (x : ℕ) (D Free : Variable → Type 0) (e f : Env) → Agrees (λ w. (IsVariable x o w → ⊥) × (D w ⊎ Free w)) e f →
    Agrees (λ w. (IsVariable x o w → ⊥) × D w) e f
for_restriction o x D Free e f agrees = agrees_weaker (λ w free. (free.0, inl free.1)) agrees

for_body : (o : Order) (x : ℕ) (v : Value) (universe : Universe) (D Free : Variable → Type 0) (e f : Env) → IsValueOf o universe v →
    Agrees (λ w. (IsVariable x o w → ⊥) × (D w ⊎ Free w)) e f → Agrees Free (assign x v e) (assign x v f)
for_body o x v universe D Free e f is_value agrees =
    agrees_inside x o v Free e f (order_of_value_of o universe v is_value) (agrees_weaker (λ w free. (free.0, inr free.1)) agrees)

-- a property of some value, of none, and an empty range, where each value of one range is in the other
pub some_moves : (Here There P Q : Value → Type 0) → ((v : Value) → Here v → There v) → ((v : Value) → Here v → P v → Q v) → SomeInRange Here P → SomeInRange There Q
some_moves Here There P Q there keep some = (some.0, there some.0 some.1, keep some.0 some.1 some.2)

pub none_moves : (Here There P Q : Value → Type 0) → ((v : Value) → There v → Here v) → ((v : Value) → There v → Q v → P v) → NoneInRange Here P → NoneInRange There Q
none_moves Here There P Q back keep none = λ v in_range holds. none v (back v in_range) (keep v in_range holds)

pub some_or_empty_moves : (Here There P Q : Value → Type 0) → ((v : Value) → Here v → There v) → ((v : Value) → There v → Here v) → ((v : Value) → Here v → P v → Q v) →
    SomeInRange Here P ⊎ IsEmptyRange Here → SomeInRange There Q ⊎ IsEmptyRange There
some_or_empty_moves Here There P Q there back keep either =
    ⊎_elim (λ some. inl (some_moves Here There P Q there keep some)) (λ empty. inr (λ v in_range. empty v (back v in_range))) either

module _ (m : Meanings) (r : Reads) (respects : Respects m r) where
  keep_lacks : (given : Arguments) (e f : Env) → Agrees (FreeInArguments r given) e f → LacksValue given e → LacksValue given f
  keep_lacks no_arguments e f agrees lacking = lacking
  keep_lacks (more_arguments (truth_argument g) more) e f agrees lacking =
      keep_lacks more e f (agrees_weaker (λ w free. inr free) agrees) lacking
  keep_lacks (more_arguments (number_argument t) more) e f agrees lacking =
      ⊎_elim (λ first. inl (none_same _ _ (number_value-same t e f (agrees_weaker (λ w free. inl free) agrees)) first))
      (λ later. inr (keep_lacks more e f (agrees_weaker (λ w free. inr free) agrees) later)) lacking
  keep_lacks (more_arguments (set_argument s) more) e f agrees lacking =
      ⊎_elim (λ first. inl (none_same _ _ (set_value-same s e f (agrees_weaker (λ w free. inl free) agrees)) first))
      (λ later. inr (keep_lacks more e f (agrees_weaker (λ w free. inr free) agrees) later)) lacking

  mutual
    pub keep_yes : (g : Form) (e f : Env) → Agrees (FreeUnder r g) e f → YesUnder m g e → YesUnder m g f
    keep_yes truth e f agrees holds = tt
    keep_yes falsity e f agrees holds = holds
    keep_yes (truth_variable x) e f agrees holds =
        let same = agrees.values (named x Zero) (refl, refl) in let bits : e.truth x ≡ f.truth x = cc in sym bits ∙ holds
    keep_yes (negation g) e f agrees holds = keep_no g e f agrees holds
    keep_yes (conjunction gs) e f agrees holds = keep_all_yes gs e f agrees holds
    keep_yes (disjunction gs) e f agrees holds = (keep_all_defined gs e f agrees holds.0, keep_some_yes gs e f agrees holds.1)
    keep_yes (implication g h) e f agrees holds =
        let left = agrees_weaker (λ w free. inl free) agrees in
        let right = agrees_weaker (λ w free. inr free) agrees in
        (⊎_elim (λ yes. inl (keep_yes g e f left yes)) (λ no. inr (keep_no g e f left no)) holds.0, ⊎_elim (λ yes. inl (keep_yes h e f right yes)) (λ no. inr (keep_no h e f right no)) holds.1, ⊎_elim (λ no. inl (keep_no g e f left no)) (λ yes. inr (keep_yes h e f right yes)) holds.2)
    keep_yes (equivalence g h) e f agrees holds =
        let left = agrees_weaker (λ w free. inl free) agrees in
        let right = agrees_weaker (λ w free. inr free) agrees in
        ⊎_elim (λ both. inl (keep_yes g e f left both.0, keep_yes h e f right both.1)) (λ both. inr (keep_no g e f left both.0, keep_no h e f right both.1)) holds
    keep_yes (comparison rel t u) e f agrees holds =
        holds_same _ _ _ _ _ (number_value-same t e f (agrees_weaker (λ w free. inl free) agrees)) (number_value-same u e f (agrees_weaker (λ w free. inr free) agrees)) holds
    keep_yes (set_comparison rel s t) e f agrees holds =
        holds_same _ _ _ _ _ (set_value-same s e f (agrees_weaker (λ w free. inl free) agrees)) (set_value-same t e f (agrees_weaker (λ w free. inr free) agrees)) holds
    keep_yes (membership positive t s) e f agrees holds =
        holds_same _ _ _ _ _ (number_value-same t e f (agrees_weaker (λ w free. inl free) agrees)) (set_value-same s e f (agrees_weaker (λ w free. inr free) agrees)) holds
    keep_yes (emptiness s) e f agrees holds = some_same _ _ _ (set_value-same s e f agrees) holds
    keep_yes (quantified Ex o x d g) e f agrees holds =
        some_moves _ _ _ _ (λ v in_range. keep_range d o x v e f (for_restriction o x _ _ e f agrees) in_range)
        (λ v in_range yes. keep_yes g _ _ (for_body o x v _ _ _ e f in_range.0 agrees) yes) holds
    keep_yes (quantified All o x d g) e f agrees holds =
        let back = agrees_swap agrees in
        (none_moves _ _ _ _ (λ v in_range. keep_range d o x v f e (for_restriction o x _ _ f e back) in_range) (λ v in_range no. keep_no g _ _ (for_body o x v _ _ _ f e in_range.0 back) no) holds.0, some_or_empty_moves _ _ _ _ (λ v in_range. keep_range d o x v e f (for_restriction o x _ _ e f agrees) in_range) (λ v in_range. keep_range d o x v f e (for_restriction o x _ _ f e back) in_range) (λ v in_range yes. keep_yes g _ _ (for_body o x v _ _ _ e f in_range.0 agrees) yes) holds.1)
    keep_yes (where_let xs right_sides g) e f agrees holds =
        (holds.0, keep_values right_sides e f (agrees_weaker (λ w free. inl free) agrees) holds.0 holds.1, keep_yes g _ _ (agrees_inside_all xs (orders_of right_sides) holds.0 _ e f (orders_of_have m right_sides e holds.0 holds.1) (agrees_weaker (λ w free. inr free) agrees)) holds.2)
    keep_yes (call p given) e f agrees holds =
        (holds.0, keep_values given e f (agrees_weaker (λ w free. inl free) agrees) holds.0 holds.1, respects.calls_yes p holds.0 e f (let P : List Order → Type 0 = λ os. Agrees (r.called p os) e f in subst P (sym (orders_of_have m given e holds.0 holds.1)) (agrees_weaker (λ w free. inr free) agrees)) holds.2)
    keep_yes (restrict g) e f agrees holds = keep_yes g e f agrees holds
    keep_yes (imported i) e f agrees holds = sym (respects.imports i e f agrees) ∙ holds
    keep_yes (exported i g) e f agrees holds = keep_yes g e f agrees holds
    keep_yes (default_at p x) e f agrees holds = respects.defaults_yes p x e f agrees holds

    pub keep_no : (g : Form) (e f : Env) → Agrees (FreeUnder r g) e f → NoUnder m g e → NoUnder m g f
    keep_no truth e f agrees fails = fails
    keep_no falsity e f agrees fails = tt
    keep_no (truth_variable x) e f agrees fails =
        let same = agrees.values (named x Zero) (refl, refl) in let bits : e.truth x ≡ f.truth x = cc in sym bits ∙ fails
    keep_no (negation g) e f agrees fails = keep_yes g e f agrees fails
    keep_no (conjunction gs) e f agrees fails = (keep_all_defined gs e f agrees fails.0, keep_some_no gs e f agrees fails.1)
    keep_no (disjunction gs) e f agrees fails = keep_all_no gs e f agrees fails
    keep_no (implication g h) e f agrees fails =
        (keep_yes g e f (agrees_weaker (λ w free. inl free) agrees) fails.0, keep_no h e f (agrees_weaker (λ w free. inr free) agrees) fails.1)
    keep_no (equivalence g h) e f agrees fails =
        let left = agrees_weaker (λ w free. inl free) agrees in
        let right = agrees_weaker (λ w free. inr free) agrees in
        ⊎_elim (λ both. inl (keep_yes g e f left both.0, keep_no h e f right both.1)) (λ both. inr (keep_no g e f left both.0, keep_yes h e f right both.1)) fails
    keep_no (comparison rel t u) e f agrees fails = λ holds.
        fails (holds_same _ _ _ _ _ (sym (number_value-same t e f (agrees_weaker (λ w free. inl free) agrees))) (sym (number_value-same u e f (agrees_weaker (λ w free. inr free) agrees))) holds)
    keep_no (set_comparison rel s t) e f agrees fails = λ holds.
        fails (holds_same _ _ _ _ _ (sym (set_value-same s e f (agrees_weaker (λ w free. inl free) agrees))) (sym (set_value-same t e f (agrees_weaker (λ w free. inr free) agrees))) holds)
    keep_no (membership positive t s) e f agrees fails = λ holds.
        fails (holds_same _ _ _ _ _ (sym (number_value-same t e f (agrees_weaker (λ w free. inl free) agrees))) (sym (set_value-same s e f (agrees_weaker (λ w free. inr free) agrees))) holds)
    keep_no (emptiness s) e f agrees fails = λ holds. fails (some_same _ _ _ (sym (set_value-same s e f agrees)) holds)
    keep_no (quantified Ex o x d g) e f agrees fails =
        let back = agrees_swap agrees in
        (none_moves _ _ _ _ (λ v in_range. keep_range d o x v f e (for_restriction o x _ _ f e back) in_range) (λ v in_range yes. keep_yes g _ _ (for_body o x v _ _ _ f e in_range.0 back) yes) fails.0, some_or_empty_moves _ _ _ _ (λ v in_range. keep_range d o x v e f (for_restriction o x _ _ e f agrees) in_range) (λ v in_range. keep_range d o x v f e (for_restriction o x _ _ f e back) in_range) (λ v in_range no. keep_no g _ _ (for_body o x v _ _ _ e f in_range.0 agrees) no) fails.1)
    keep_no (quantified All o x d g) e f agrees fails =
        some_moves _ _ _ _ (λ v in_range. keep_range d o x v e f (for_restriction o x _ _ e f agrees) in_range)
        (λ v in_range no. keep_no g _ _ (for_body o x v _ _ _ e f in_range.0 agrees) no) fails
    keep_no (where_let xs right_sides g) e f agrees fails =
        ⊎_elim (λ lacking. inl (keep_lacks right_sides e f (agrees_weaker (λ w free. inl free) agrees) lacking)) (λ other. inr
        (other.0, keep_values right_sides e f (agrees_weaker (λ w free. inl free) agrees) other.0 other.1, keep_no g _ _ (agrees_inside_all xs (orders_of right_sides) other.0 _ e f (orders_of_have m right_sides e other.0 other.1) (agrees_weaker (λ w free. inr free) agrees)) other.2)) fails
    keep_no (call p given) e f agrees fails =
        ⊎_elim (λ lacking. inl (keep_lacks given e f (agrees_weaker (λ w free. inl free) agrees) lacking)) (λ other. inr
        (other.0, keep_values given e f (agrees_weaker (λ w free. inl free) agrees) other.0 other.1, respects.calls_no p other.0 e f (let P : List Order → Type 0 = λ os. Agrees (r.called p os) e f in subst P (sym (orders_of_have m given e other.0 other.1)) (agrees_weaker (λ w free. inr free) agrees)) other.2)) fails
    keep_no (restrict g) e f agrees fails = fails
    keep_no (imported i) e f agrees fails = sym (respects.imports i e f agrees) ∙ fails
    keep_no (exported i g) e f agrees fails = keep_no g e f agrees fails
    keep_no (default_at p x) e f agrees fails = respects.defaults_no p x e f agrees fails

    keep_all_yes : (gs : Forms) (e f : Env) → Agrees (FreeInForms r gs) e f → AllYes m gs e → AllYes m gs f
    keep_all_yes no_forms e f agrees holds = tt
    keep_all_yes (more_forms g gs) e f agrees holds =
        (keep_yes g e f (agrees_weaker (λ w free. inl free) agrees) holds.0, keep_all_yes gs e f (agrees_weaker (λ w free. inr free) agrees) holds.1)

    keep_all_no : (gs : Forms) (e f : Env) → Agrees (FreeInForms r gs) e f → AllNo m gs e → AllNo m gs f
    keep_all_no no_forms e f agrees fails = tt
    keep_all_no (more_forms g gs) e f agrees fails =
        (keep_no g e f (agrees_weaker (λ w free. inl free) agrees) fails.0, keep_all_no gs e f (agrees_weaker (λ w free. inr free) agrees) fails.1)

    keep_all_defined : (gs : Forms) (e f : Env) → Agrees (FreeInForms r gs) e f → AllDefined m gs e → AllDefined m gs f
    keep_all_defined no_forms e f agrees defined = tt
    keep_all_defined (more_forms g gs) e f agrees defined =
        let first = agrees_weaker (λ w free. inl free) agrees in
        (⊎_elim (λ yes. inl (keep_yes g e f first yes)) (λ no. inr (keep_no g e f first no)) defined.0, keep_all_defined gs e f (agrees_weaker (λ w free. inr free) agrees) defined.1)

    keep_some_yes : (gs : Forms) (e f : Env) → Agrees (FreeInForms r gs) e f → SomeYes m gs e → SomeYes m gs f
    keep_some_yes no_forms e f agrees holds = holds
    keep_some_yes (more_forms g gs) e f agrees holds =
        ⊎_elim (λ yes. inl (keep_yes g e f (agrees_weaker (λ w free. inl free) agrees) yes)) (λ later. inr (keep_some_yes gs e f (agrees_weaker (λ w free. inr free) agrees) later)) holds

    keep_some_no : (gs : Forms) (e f : Env) → Agrees (FreeInForms r gs) e f → SomeNo m gs e → SomeNo m gs f
    keep_some_no no_forms e f agrees fails = fails
    keep_some_no (more_forms g gs) e f agrees fails =
        ⊎_elim (λ no. inl (keep_no g e f (agrees_weaker (λ w free. inl free) agrees) no)) (λ later. inr (keep_some_no gs e f (agrees_weaker (λ w free. inr free) agrees) later)) fails

    pub keep_met : (d : Restriction) (e f : Env) → Agrees (FreeInRestriction r d) e f → IsMet m d e → IsMet m d f
    keep_met unrestricted e f agrees met = tt
    keep_met (restricted d) e f agrees met = keep_yes d e f agrees met

    keep_range : (d : Restriction) (o : Order) (x : ℕ) (v : Value) (e f : Env) → Agrees (λ w. (IsVariable x o w → ⊥) × FreeInRestriction r d w) e f →
        IsValueOf o e.universe v × IsMet m d (assign x v e) → IsValueOf o f.universe v × IsMet m d (assign x v f)
    keep_range unrestricted o x v e f agrees in_range = (moved_value o v e f agrees.universe in_range.0, tt)
    keep_range (restricted d) o x v e f agrees in_range =
        (moved_value o v e f agrees.universe in_range.0, keep_yes d _ _ (agrees_inside x o v _ e f (order_of_value_of o _ v in_range.0) agrees) in_range.1)

    keep_values : (given : Arguments) (e f : Env) → Agrees (FreeInArguments r given) e f → (vs : List Value) → HaveValues m given e vs → HaveValues m given f vs
    keep_values no_arguments e f agrees [] have = tt
    keep_values no_arguments e f agrees (v ∷ vs) have = have
    keep_values (more_arguments a more) e f agrees [] have = have
    keep_values (more_arguments a more) e f agrees (v ∷ vs) have =
        (keep_value a e f (agrees_weaker (λ w free. inl free) agrees) v have.0, keep_values more e f (agrees_weaker (λ w free. inr free) agrees) vs have.1)

    keep_value : (a : Argument) (e f : Env) → Agrees (FreeInArgument r a) e f → (v : Value) → HasValue m a e v → HasValue m a f v
    keep_value (truth_argument g) e f agrees (Truth true) has = keep_yes g e f agrees has
    keep_value (truth_argument g) e f agrees (Truth false) has = keep_no g e f agrees has
    keep_value (truth_argument g) e f agrees (Number n) has = has
    keep_value (truth_argument g) e f agrees (Set members) has = has
    keep_value (number_argument t) e f agrees v has = some_same _ _ _ (number_value-same t e f agrees) has
    keep_value (set_argument s) e f agrees v has = some_same _ _ _ (set_value-same s e f agrees) has

  keep_all_met : (ds : List Declaration) (e f : Env) → Agrees (FreeInRestrictions r ds) e f → AllMet m ds e → AllMet m ds f
  keep_all_met [] e f agrees met = tt
  keep_all_met (d ∷ ds) e f agrees met =
      (keep_met d.restriction e f (agrees_weaker (λ w free. inl free) agrees) met.0, keep_all_met ds e f (agrees_weaker (λ w free. inr free) agrees) met.1)

  -- agreement at what a call reads goes into the predicate's body
  inside_call : (q : Predicate) (vs : List Value) (Free : Variable → Type 0) (e f : Env) →
      Agrees (λ w. (IsBound (names_of q) (map order_of_value vs) w → ⊥) × Free w) e f → Agrees Free (entered q vs e) (entered q vs f)
  inside_call q vs Free e f agrees = agrees_inside_all (names_of q) (map order_of_value vs) vs Free e f refl agrees

  -- the values of the parameters of a default restriction at a variable
  values_at-same : (ds : List Declaration) (x : ℕ) (e f : Env) → Agrees (IsReadFor ds x) e f →
      map (λ d. value_at d.variable.order x e) ds ≡ map (λ d. value_at d.variable.order x f) ds
  values_at-same [] x e f agrees = refl
  values_at-same (d ∷ ds) x e f agrees =
      let first = agrees.values (named x d.variable.order) (inl (refl, refl)) in
      let others = values_at-same ds x e f (agrees_weaker (λ w free. inr free) agrees) in cc

  orders-values_at : (ds : List Declaration) (x : ℕ) (e : Env) → map order_of_value (map (λ d. value_at d.variable.order x e) ds) ≡ map (λ d. d.variable.order) ds
  orders-values_at [] x e = refl
  orders-values_at (d ∷ ds) x e =
      let first = order_of_value_at d.variable.order x e in let others = orders-values_at ds x e in cc
    where
      order_of_value_at : (o : Order) (x : ℕ) (e : Env) → order_of_value (value_at o x e) ≡ o
      order_of_value_at Zero x e = refl
      order_of_value_at One x e = refl
      order_of_value_at Two x e = refl

  inside_default : (q : Predicate) (x : ℕ) (e f : Env) →
      Agrees (λ w. IsReadFor q.parameters x w ⊎ ((IsBound (names_of q) (parameter_orders_of q) w → ⊥) × FreeUnder r q.body w)) e f →
      Agrees (FreeUnder r q.body) (entered q (values_at q x e) e) (entered q (values_at q x f) f)
  inside_default q x e f agrees =
      let inside = agrees_inside_all (names_of q) (parameter_orders_of q) (values_at q x e) (FreeUnder r q.body) e f (orders-values_at q.parameters x e) (agrees_weaker (λ w free. inr free) agrees) in
      let P : List Value → Type 0 = λ vs. Agrees (FreeUnder r q.body) (entered q (values_at q x e) e) (entered q vs f) in
      subst P (values_at-same q.parameters x e f (agrees_weaker (λ w free. inl free) agrees)) inside

  respects_with_predicate : (number : ℕ) (q : Predicate) → Respects (with_predicate m number q) (reads_with_predicate r number q)
  respects_with_predicate number q = record {
    calls_yes = λ p vs e f agrees.
        keep_chosen (p == number) _ _ _ _ _ _ e f agrees
        (λ here holds. let inside = inside_call q vs _ e f here in
        (keep_all_met q.parameters _ _ (agrees_weaker (λ w free. inl free) inside) holds.0, keep_yes q.body _ _ (agrees_weaker (λ w free. inr free) inside) holds.1)) (respects.calls_yes p vs e f);
    calls_no = λ p vs e f agrees.
        keep_chosen (p == number) _ _ _ _ _ _ e f agrees
        (λ here fails. let inside = inside_call q vs _ e f here in
        (keep_all_met q.parameters _ _ (agrees_weaker (λ w free. inl free) inside) fails.0, keep_no q.body _ _ (agrees_weaker (λ w free. inr free) inside) fails.1)) (respects.calls_no p vs e f);
    defaults_yes = λ p x e f agrees.
        keep_chosen (p == number) _ _ _ _ _ _ e f agrees (λ here. keep_yes q.body _ _ (inside_default q x e f here)) (respects.defaults_yes p x e f);
    defaults_no = λ p x e f agrees.
        keep_chosen (p == number) _ _ _ _ _ _ e f agrees (λ here. keep_no q.body _ _ (inside_default q x e f here)) (respects.defaults_no p x e f);
    imports = respects.imports;
  }

respects_with_predicates : (m : Meanings) (r : Reads) (count : ℕ) (predicates : List Predicate) → Respects m r →
    Respects (with_predicates m count predicates) (reads_with_predicates r count predicates)
respects_with_predicates m r count [] respects = respects
respects_with_predicates m r count (first ∷ later) respects =
    respects_with_predicates (with_predicate m count first) (reads_with_predicate r count first) (count + 1) later (respects_with_predicate m r respects count first)

-- an import depends on its variables alone
values-listed : (vs : List Variable) (e f : Env) → Agrees (IsListed vs) e f → map (λ v. value_at v.order v.name e) vs ≡ map (λ v. value_at v.order v.name f) vs
values-listed [] e f agrees = refl
values-listed (v ∷ vs) e f agrees =
    let first = agrees.values v (inl (refl, refl)) in
    let others = values-listed vs e f (agrees_weaker (λ w free. inr free) agrees) in cc

answer_at-same : (found : Option Import) (e f : Env) → Agrees (IsReadBy found) e f → answer_at found e ≡ answer_at found f
answer_at-same None e f agrees = refl
answer_at-same (Some found) e f agrees =
    ap (λ u. found.answer u (map (λ v. value_at v.order v.name e) found.variables)) agrees.universe
    ∙ ap (found.answer f.universe) (values-listed found.variables e f agrees)

respects_imports : (imports : List Import) → Respects (meanings_of_imports imports) (reads_of_imports imports)
respects_imports imports = record {
  calls_yes = λ p vs e f agrees holds. holds;
  calls_no = λ p vs e f agrees fails. fails;
  defaults_yes = λ p x e f agrees holds. holds;
  defaults_no = λ p x e f agrees fails. fails;
  imports = λ i e f agrees. answer_at-same (slice_get imports i) e f agrees;
}

pub value_depends_on_free_variables : ValueDependsOnFreeVariables
value_depends_on_free_variables given g e f universe values =
    let respects = respects_with_predicates (meanings_of_imports given.imports) (reads_of_imports given.imports) 0 given.predicates (respects_imports given.imports) in
    let agrees : Agrees (IsFree given g) e f = record { universe = universe; values = values } in
    ((keep_yes _ _ respects g e f agrees, keep_yes _ _ respects g f e (agrees_swap agrees)), (keep_no _ _ respects g e f agrees, keep_no _ _ respects g f e (agrees_swap agrees)))
