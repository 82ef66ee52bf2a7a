-- When a formula is Yes and when it is No at an environment: the semantics of monadic second-order logic (Büchi, 1960;
-- Elgot, 1961), with a third value for restrictions (MONA Version 1.4 User Manual, Klarlund and Møller, 2001). A formula
-- that is neither Yes nor No is Undefined.
--
-- A call has the value of a predicate's body, and a body calls only predicates that stand before it. So Yes and No are
-- first given over any meanings of the names of predicates, by recursion on the formula alone; and the meanings are then
-- made one predicate after the other, each over those before it.
use Rattle.std.specs.Prelude.{◌≡◌, ◌≢◌, ℕ, ◌+◌, ◌<◌, ◌≤◌, ◌==◌, Bool, true, false, MatchBool, ◌⊎◌, List, [], ◌∷◌, map, slice_get, Option, Some, None, IsNone, IsSomeAnd}
use Rattle.ms_logic.specs.declared.mode.Order.{Order}
use Rattle.ms_logic.specs.declared.mode.Quant.TheVariants.{Ex, All}
use Rattle.ms_logic.specs.declared.mode.Rel.{Rel}
use Rattle.ms_logic.specs.declared.mode.Rel.TheVariants.{Equal, Differs, Less, AtMost, Greater, AtLeast, Member, NotMember, Sub}
use Rattle.ms_logic.specs.declared.assignment.Value.{Value}
use Rattle.ms_logic.specs.declared.assignment.Value.TheVariants.{Truth, Number, Set}
use Rattle.ms_logic.specs.Assignment.{Universe, Env, Variable, assign, assign_all, value_at, IsValueOf}
use Rattle.ms_logic.specs.FiniteSet.{IsMember, IsSubset}
use Rattle.ms_logic.specs.Terms.{number_value, set_value}
use Rattle.ms_logic.specs.Tree.{Form, truth, falsity, truth_variable, negation, conjunction, disjunction, implication, equivalence, comparison, set_comparison, membership, emptiness, quantified, where_let, call, restrict, imported, exported, default_at, Forms, no_forms, more_forms, Restriction, unrestricted, restricted, Argument, truth_argument, number_argument, set_argument, Arguments, no_arguments, more_arguments, Declaration, Predicate}

-- what an imported automaton says at an environment
pub data Answer : Type 0 where
  answer_yes : Answer
  answer_no : Answer
  answer_undefined : Answer

-- what the names of predicates and of imports mean
pub record Meanings : Type 1 where
  -- a call of a predicate, by its number, with these values for its parameters
  pub call_yes : ℕ → List Value → Env → Type 0
  pub call_no : ℕ → List Value → Env → Type 0
  -- a default restriction, by its number, at a variable
  pub default_yes : ℕ → ℕ → Env → Type 0
  pub default_no : ℕ → ℕ → Env → Type 0
  -- an import, by its number
  pub import_answer : ℕ → Env → Answer

-- the relation holds of two numbers
abbrev pub NumbersRelate : Rel → ℕ → ℕ → Type 0
NumbersRelate Equal m n = m ≡ n
NumbersRelate Differs m n = m ≢ n
NumbersRelate Less m n = m < n
NumbersRelate AtMost m n = m ≤ n
NumbersRelate Greater m n = n < m
NumbersRelate AtLeast m n = n ≤ m
NumbersRelate Member m n = ⊥
NumbersRelate NotMember m n = ⊥
NumbersRelate Sub m n = ⊥

-- the relation holds of two sets
abbrev pub SetsRelate : Rel → List ℕ → List ℕ → Type 0
SetsRelate Equal left right = left ≡ right
SetsRelate Differs left right = left ≢ right
SetsRelate Sub left right = IsSubset left right
SetsRelate Less left right = ⊥
SetsRelate AtMost left right = ⊥
SetsRelate Greater left right = ⊥
SetsRelate AtLeast left right = ⊥
SetsRelate Member left right = ⊥
SetsRelate NotMember left right = ⊥

-- the number is a member of the set, or where `positive` is false it is none
abbrev pub MembershipHolds : Bool → ℕ → List ℕ → Type 0
MembershipHolds true n members = IsMember n members
MembershipHolds false n members = ¬ IsMember n members

-- both have values, and the relation holds of them
abbrev pub HoldsOfBoth : {A B : Type 0} → (A → B → Type 0) → Option A → Option B → Type 0
HoldsOfBoth R None right = ⊥
HoldsOfBoth R (Some x) None = ⊥
HoldsOfBoth R (Some x) (Some y) = R x y

-- the range of a variable: the values of its order within the universe at which its restriction is met
abbrev pub InRange : Order → ℕ → (Env → Type 0) → Env → Value → Type 0
InRange o x IsMetAt e v = IsValueOf o e.universe v × IsMetAt (assign x v e)

-- some value of the range has the property
abbrev pub SomeInRange : (Value → Type 0) → (Value → Type 0) → Type 0
SomeInRange InRange P = (v : Value) × InRange v × P v

-- no value of the range has the property
abbrev pub NoneInRange : (Value → Type 0) → (Value → Type 0) → Type 0
NoneInRange InRange P = (v : Value) → InRange v → ¬ P v

abbrev pub IsEmptyRange : (Value → Type 0) → Type 0
IsEmptyRange InRange = (v : Value) → ¬ InRange v

-- some argument of order 1 or 2 has no value
abbrev pub LacksValue : Arguments → Env → Type 0
LacksValue no_arguments e = ⊥
LacksValue (more_arguments (truth_argument f) more) e = LacksValue more e
LacksValue (more_arguments (number_argument t) more) e = IsNone (number_value t e) ⊎ LacksValue more e
LacksValue (more_arguments (set_argument s) more) e = IsNone (set_value s e) ⊎ LacksValue more e

abbrev mutual
  pub YesUnder : Meanings → Form → Env → Type 0
  YesUnder m truth e = Unit {0}
  YesUnder m falsity e = ⊥
  YesUnder m (truth_variable x) e = e.truth x ≡ true
  YesUnder m (negation f) e = NoUnder m f e
  YesUnder m (conjunction fs) e = AllYes m fs e
  YesUnder m (disjunction fs) e = AllDefined m fs e × SomeYes m fs e
  YesUnder m (implication f g) e =
      (YesUnder m f e ⊎ NoUnder m f e) × (YesUnder m g e ⊎ NoUnder m g e) × (NoUnder m f e ⊎ YesUnder m g e)
  YesUnder m (equivalence f g) e = (YesUnder m f e × YesUnder m g e) ⊎ (NoUnder m f e × NoUnder m g e)
  YesUnder m (comparison r t u) e = HoldsOfBoth (NumbersRelate r) (number_value t e) (number_value u e)
  YesUnder m (set_comparison r s t) e = HoldsOfBoth (SetsRelate r) (set_value s e) (set_value t e)
  YesUnder m (membership positive t s) e = HoldsOfBoth (MembershipHolds positive) (number_value t e) (set_value s e)
  YesUnder m (emptiness s) e = IsSomeAnd (set_value s e) (λ members. members ≡ [])
  YesUnder m (quantified Ex o x d f) e = SomeInRange (InRange o x (λ there. IsMet m d there) e) (λ v. YesUnder m f (assign x v e))
  YesUnder m (quantified All o x d f) e =
      NoneInRange (InRange o x (λ there. IsMet m d there) e) (λ v. NoUnder m f (assign x v e))
      × (SomeInRange (InRange o x (λ there. IsMet m d there) e) (λ v. YesUnder m f (assign x v e)) ⊎ IsEmptyRange (InRange o x (λ there. IsMet m d there) e))
  YesUnder m (where_let xs right_sides f) e =
      (values : List Value) × HaveValues m right_sides e values × YesUnder m f (assign_all xs values e)
  YesUnder m (call p given) e = (values : List Value) × HaveValues m given e values × m.call_yes p values e
  YesUnder m (restrict f) e = YesUnder m f e
  YesUnder m (imported i) e = m.import_answer i e ≡ answer_yes
  YesUnder m (exported i f) e = YesUnder m f e
  YesUnder m (default_at p x) e = m.default_yes p x e

  pub NoUnder : Meanings → Form → Env → Type 0
  NoUnder m truth e = ⊥
  NoUnder m falsity e = Unit {0}
  NoUnder m (truth_variable x) e = e.truth x ≡ false
  NoUnder m (negation f) e = YesUnder m f e
  NoUnder m (conjunction fs) e = AllDefined m fs e × SomeNo m fs e
  NoUnder m (disjunction fs) e = AllNo m fs e
  NoUnder m (implication f g) e = YesUnder m f e × NoUnder m g e
  NoUnder m (equivalence f g) e = (YesUnder m f e × NoUnder m g e) ⊎ (NoUnder m f e × YesUnder m g e)
  NoUnder m (comparison r t u) e = ¬ HoldsOfBoth (NumbersRelate r) (number_value t e) (number_value u e)
  NoUnder m (set_comparison r s t) e = ¬ HoldsOfBoth (SetsRelate r) (set_value s e) (set_value t e)
  NoUnder m (membership positive t s) e = ¬ HoldsOfBoth (MembershipHolds positive) (number_value t e) (set_value s e)
  NoUnder m (emptiness s) e = ¬ IsSomeAnd (set_value s e) (λ members. members ≡ [])
  NoUnder m (quantified Ex o x d f) e =
      NoneInRange (InRange o x (λ there. IsMet m d there) e) (λ v. YesUnder m f (assign x v e))
      × (SomeInRange (InRange o x (λ there. IsMet m d there) e) (λ v. NoUnder m f (assign x v e)) ⊎ IsEmptyRange (InRange o x (λ there. IsMet m d there) e))
  NoUnder m (quantified All o x d f) e = SomeInRange (InRange o x (λ there. IsMet m d there) e) (λ v. NoUnder m f (assign x v e))
  NoUnder m (where_let xs right_sides f) e =
      LacksValue right_sides e
      ⊎ ((values : List Value) × HaveValues m right_sides e values × NoUnder m f (assign_all xs values e))
  NoUnder m (call p given) e =
      LacksValue given e ⊎ ((values : List Value) × HaveValues m given e values × m.call_no p values e)
  NoUnder m (restrict f) e = ⊥
  NoUnder m (imported i) e = m.import_answer i e ≡ answer_no
  NoUnder m (exported i f) e = NoUnder m f e
  NoUnder m (default_at p x) e = m.default_no p x e

  pub AllYes : Meanings → Forms → Env → Type 0
  AllYes m no_forms e = Unit {0}
  AllYes m (more_forms f fs) e = YesUnder m f e × AllYes m fs e

  pub AllNo : Meanings → Forms → Env → Type 0
  AllNo m no_forms e = Unit {0}
  AllNo m (more_forms f fs) e = NoUnder m f e × AllNo m fs e

  pub AllDefined : Meanings → Forms → Env → Type 0
  AllDefined m no_forms e = Unit {0}
  AllDefined m (more_forms f fs) e = (YesUnder m f e ⊎ NoUnder m f e) × AllDefined m fs e

  pub SomeYes : Meanings → Forms → Env → Type 0
  SomeYes m no_forms e = ⊥
  SomeYes m (more_forms f fs) e = YesUnder m f e ⊎ SomeYes m fs e

  pub SomeNo : Meanings → Forms → Env → Type 0
  SomeNo m no_forms e = ⊥
  SomeNo m (more_forms f fs) e = NoUnder m f e ⊎ SomeNo m fs e

  -- a restriction is Yes
  pub IsMet : Meanings → Restriction → Env → Type 0
  IsMet m unrestricted e = Unit {0}
  IsMet m (restricted d) e = YesUnder m d e

  -- the arguments have these values, one for each; a formula has the value true where it is Yes, and false where it is No
  pub HaveValues : Meanings → Arguments → Env → List Value → Type 0
  HaveValues m no_arguments e [] = Unit {0}
  HaveValues m no_arguments e (v ∷ vs) = ⊥
  HaveValues m (more_arguments a more) e [] = ⊥
  HaveValues m (more_arguments a more) e (v ∷ vs) = HasValue m a e v × HaveValues m more e vs

  pub HasValue : Meanings → Argument → Env → Value → Type 0
  HasValue m (truth_argument f) e (Truth true) = YesUnder m f e
  HasValue m (truth_argument f) e (Truth false) = NoUnder m f e
  HasValue m (truth_argument f) e (Number n) = ⊥
  HasValue m (truth_argument f) e (Set members) = ⊥
  HasValue m (number_argument t) e v = IsSomeAnd (number_value t e) (λ n. v ≡ Number n)
  HasValue m (set_argument s) e v = IsSomeAnd (set_value s e) (λ members. v ≡ Set members)

-- each restriction is met
abbrev pub AllMet : Meanings → List Declaration → Env → Type 0
AllMet m [] e = Unit {0}
AllMet m (declared ∷ more) e = IsMet m declared.restriction e × AllMet m more e

-- the environment in which a predicate's body is read: the parameters at these values, and all else as where it is called
abbrev pub entered : Predicate → List Value → Env → Env
entered predicate values e = assign_all (map (λ declared. declared.variable.name) predicate.parameters) values e

-- the values of the parameters of a default restriction at a variable
abbrev pub values_at : Predicate → ℕ → Env → List Value
values_at predicate x e = map (λ declared. value_at declared.variable.order x e) predicate.parameters

-- one more predicate, by its number, whose body is read with the meanings so far
abbrev pub with_predicate : Meanings → ℕ → Predicate → Meanings
with_predicate m number predicate = record {
  call_yes = λ p values e.
      MatchBool (p == number)
      (AllMet m predicate.parameters (entered predicate values e) × YesUnder m predicate.body (entered predicate values e))
      (m.call_yes p values e);
  call_no = λ p values e.
      MatchBool (p == number)
      (AllMet m predicate.parameters (entered predicate values e) × NoUnder m predicate.body (entered predicate values e))
      (m.call_no p values e);
  default_yes = λ p x e.
      MatchBool (p == number) (YesUnder m predicate.body (entered predicate (values_at predicate x e) e)) (m.default_yes p x e);
  default_no = λ p x e.
      MatchBool (p == number) (NoUnder m predicate.body (entered predicate (values_at predicate x e) e)) (m.default_no p x e);
  import_answer = m.import_answer;
}

-- an imported automaton: the variables at whose values it is asked, and its answer in a universe at such values, which
-- come in the order of the variables
pub record Import : Type 0 where
  pub variables : List Variable
  pub answer : Universe → List Value → Answer

-- the answer of an import at the values that e gives its variables
abbrev pub answer_at : Option Import → Env → Answer
answer_at None e = answer_undefined
answer_at (Some found) e = found.answer e.universe (map (λ v. value_at v.order v.name e) found.variables)

-- the imports alone: no call has a value
abbrev pub meanings_of_imports : List Import → Meanings
meanings_of_imports imports = record {
  call_yes = λ p values e. ⊥;
  call_no = λ p values e. ⊥;
  default_yes = λ p x e. ⊥;
  default_no = λ p x e. ⊥;
  import_answer = λ i e. answer_at (slice_get imports i) e;
}

-- the meanings with these predicates, whose numbers go on from a count
abbrev pub with_predicates : Meanings → ℕ → List Predicate → Meanings
with_predicates m count [] = m
with_predicates m count (first ∷ later) = with_predicates (with_predicate m count first) (count + 1) later

-- the predicates and the imports beside which a formula is read
pub record Given : Type 0 where
  pub predicates : List Predicate
  pub imports : List Import

abbrev pub meanings_of : Given → Meanings
meanings_of given = with_predicates (meanings_of_imports given.imports) 0 given.predicates

abbrev pub Yes : Given → Form → Env → Type 0
Yes given f e = YesUnder (meanings_of given) f e

abbrev pub No : Given → Form → Env → Type 0
No given f e = NoUnder (meanings_of given) f e

abbrev pub IsUndefined : Given → Form → Env → Type 0
IsUndefined given f e = (¬ Yes given f e) × (¬ No given f e)
