-- No formula is both Yes and No.
use Rattle.std.proofs.Common.{◌≡◌, ℕ, ◌+◌, ◌==◌, Bool, true, false, MatchBool, ⊎_elim, List, [], ◌∷◌, Option, Some, None, IsNone, IsSomeAnd, refl, sym, ◌∙◌, subst}
use Rattle.ms_logic.specs.declared.mode.Quant.TheVariants.{Ex, All}
use Rattle.ms_logic.specs.declared.assignment.Value.{Value}
use Rattle.ms_logic.specs.declared.assignment.Value.TheVariants.{Truth, Number, Set}
use Rattle.ms_logic.specs.Assignment.{Env, assign_all}
use Rattle.ms_logic.specs.Tree.{Form, truth, falsity, truth_variable, negation, conjunction, disjunction, implication, equivalence, comparison, set_comparison, membership, emptiness, quantified, where_let, call, restrict, imported, exported, default_at, Forms, no_forms, more_forms, Argument, truth_argument, number_argument, set_argument, Arguments, no_arguments, more_arguments, Predicate}
use Rattle.ms_logic.specs.Terms.{number_value, set_value}
use Rattle.ms_logic.specs.Truth.{Meanings, YesUnder, NoUnder, AllYes, AllNo, SomeYes, SomeNo, HaveValues, HasValue, LacksValue, with_predicate, with_predicates, meanings_of_imports, meanings_of, Given, Yes, No, Import}

-- no call and no default restriction is both Yes and No
pub record IsConsistent (m : Meanings) : Type 0 where
  pub calls : (p : ℕ) (values : List Value) (e : Env) → m.call_yes p values e → m.call_no p values e → ⊥
  pub defaults : (p x : ℕ) (e : Env) → m.default_yes p x e → m.default_no p x e → ⊥

-- a value that is there is not lacking
some_not_none : {A : Type 0} (P : A → Type 0) (o : Option A) → IsSomeAnd o P → IsNone o → ⊥
some_not_none P None held lacking = held
some_not_none P (Some x) held lacking = cc

-- two values of one term are equal
same_from_some : {A : Type 0} (f : A → Value) (o : Option A) (v w : Value) → IsSomeAnd o (λ x. v ≡ f x) → IsSomeAnd o (λ x. w ≡ f x) → v ≡ w
same_from_some f None v w one two = absurd one
same_from_some f (Some x) v w one two = one ∙ sym two

-- arguments that have values lack none
lacks_none : (m : Meanings) (given : Arguments) (e : Env) (values : List Value) → HaveValues m given e values → LacksValue given e → ⊥
lacks_none m no_arguments e values held lacking = lacking
lacks_none m (more_arguments a more) e [] held lacking = held
lacks_none m (more_arguments (truth_argument f) more) e (v ∷ vs) held lacking = lacks_none m more e vs held.1 lacking
lacks_none m (more_arguments (number_argument t) more) e (v ∷ vs) held lacking =
    ⊎_elim (some_not_none _ (number_value t e) held.0) (lacks_none m more e vs held.1) lacking
lacks_none m (more_arguments (set_argument s) more) e (v ∷ vs) held lacking =
    ⊎_elim (some_not_none _ (set_value s e) held.0) (lacks_none m more e vs held.1) lacking

module _ (m : Meanings) (consistent : IsConsistent m) where
  mutual
    pub never_both : (f : Form) (e : Env) → YesUnder m f e → NoUnder m f e → ⊥
    never_both truth e holds fails = fails
    never_both falsity e holds fails = holds
    never_both (truth_variable x) e holds fails = cc
    never_both (negation f) e holds fails = never_both f e fails holds
    never_both (conjunction fs) e holds fails = all_yes_none_no fs e holds fails.1
    never_both (disjunction fs) e holds fails = all_no_none_yes fs e fails holds.1
    never_both (implication f g) e holds fails = ⊎_elim (never_both f e fails.0) (λ second. never_both g e second fails.1) holds.2
    never_both (equivalence f g) e holds fails =
        ⊎_elim (λ yes_both. ⊎_elim (λ no_second. never_both g e yes_both.1 no_second.1) (λ no_first. never_both f e yes_both.0 no_first.0) fails)
        (λ no_both. ⊎_elim (λ no_second. never_both f e no_second.0 no_both.0) (λ no_first. never_both g e no_first.1 no_both.1) fails) holds
    never_both (comparison r t u) e holds fails = fails holds
    never_both (set_comparison r s t) e holds fails = fails holds
    never_both (membership positive t s) e holds fails = fails holds
    never_both (emptiness s) e holds fails = fails holds
    never_both (quantified Ex o x d f) e holds fails = fails.0 holds.0 holds.1 holds.2
    never_both (quantified All o x d f) e holds fails = holds.0 fails.0 fails.1 fails.2
    never_both (where_let xs right_sides f) e holds fails =
        ⊎_elim (lacks_none m right_sides e holds.0 holds.1)
        (λ other. never_both f (assign_all xs holds.0 e) holds.2 (let P : List Value → Type 0 = λ values. NoUnder m f (assign_all xs values e) in subst P (same_values right_sides e other.0 holds.0 other.1 holds.1) other.2)) fails
    never_both (call p given) e holds fails =
        ⊎_elim (lacks_none m given e holds.0 holds.1)
        (λ other. consistent.calls p holds.0 e holds.2 (let P : List Value → Type 0 = λ values. m.call_no p values e in subst P (same_values given e other.0 holds.0 other.1 holds.1) other.2)) fails
    never_both (restrict f) e holds fails = fails
    never_both (imported i) e holds fails = cc
    never_both (exported i f) e holds fails = never_both f e holds fails
    never_both (default_at p x) e holds fails = consistent.defaults p x e holds fails

    all_yes_none_no : (fs : Forms) (e : Env) → AllYes m fs e → SomeNo m fs e → ⊥
    all_yes_none_no no_forms e holds fails = fails
    all_yes_none_no (more_forms f fs) e holds fails = ⊎_elim (never_both f e holds.0) (all_yes_none_no fs e holds.1) fails

    all_no_none_yes : (fs : Forms) (e : Env) → AllNo m fs e → SomeYes m fs e → ⊥
    all_no_none_yes no_forms e fails holds = holds
    all_no_none_yes (more_forms f fs) e fails holds =
        ⊎_elim (λ first. never_both f e first fails.0) (all_no_none_yes fs e fails.1) holds

    -- arguments have one list of values
    pub same_values : (given : Arguments) (e : Env) (vs ws : List Value) → HaveValues m given e vs → HaveValues m given e ws → vs ≡ ws
    same_values no_arguments e [] [] one two = refl
    same_values no_arguments e [] (w ∷ ws) one two = absurd two
    same_values no_arguments e (v ∷ vs) ws one two = absurd one
    same_values (more_arguments a more) e [] ws one two = absurd one
    same_values (more_arguments a more) e (v ∷ vs) [] one two = absurd two
    same_values (more_arguments a more) e (v ∷ vs) (w ∷ ws) one two =
        let first = same_value a e v w one.0 two.0 in let others = same_values more e vs ws one.1 two.1 in cc

    same_value : (a : Argument) (e : Env) (v w : Value) → HasValue m a e v → HasValue m a e w → v ≡ w
    same_value (truth_argument f) e (Truth true) (Truth true) one two = refl
    same_value (truth_argument f) e (Truth false) (Truth false) one two = refl
    same_value (truth_argument f) e (Truth true) (Truth false) one two = absurd (never_both f e one two)
    same_value (truth_argument f) e (Truth false) (Truth true) one two = absurd (never_both f e two one)
    same_value (truth_argument f) e (Truth b) (Number n) one two = absurd two
    same_value (truth_argument f) e (Truth b) (Set members) one two = absurd two
    same_value (truth_argument f) e (Number n) w one two = absurd one
    same_value (truth_argument f) e (Set members) w one two = absurd one
    same_value (number_argument t) e v w one two = same_from_some Number (number_value t e) v w one two
    same_value (set_argument s) e v w one two = same_from_some Set (set_value s e) v w one two

-- of two facts that exclude each other, a choice keeps it so
neither_chosen : (b : Bool) (P P' Q Q' : Type 0) → (P → P' → ⊥) → (Q → Q' → ⊥) → MatchBool b P Q → MatchBool b P' Q' → ⊥
neither_chosen true P P' Q Q' first second = first
neither_chosen false P P' Q Q' first second = second

-- one more predicate keeps meanings consistent
consistent_with_predicate : (m : Meanings) (number : ℕ) (predicate : Predicate) → IsConsistent m → IsConsistent (with_predicate m number predicate)
consistent_with_predicate m number predicate consistent = record {
  calls = λ p values e.
      neither_chosen (p == number) _ _ _ _ (λ holds fails. never_both m consistent predicate.body _ holds.1 fails.1) (consistent.calls p values e);
  defaults = λ p x e.
      neither_chosen (p == number) _ _ _ _ (never_both m consistent predicate.body _) (consistent.defaults p x e);
}

consistent_with_predicates : (m : Meanings) (count : ℕ) (predicates : List Predicate) → IsConsistent m → IsConsistent (with_predicates m count predicates)
consistent_with_predicates m count [] consistent = consistent
consistent_with_predicates m count (first ∷ later) consistent =
    consistent_with_predicates (with_predicate m count first) (count + 1) later (consistent_with_predicate m count first consistent)

-- imports alone give no call a value
consistent_imports : (imports : List Import) → IsConsistent (meanings_of_imports imports)
consistent_imports imports = record { calls = λ p values e holds fails. holds; defaults = λ p x e holds fails. holds }

-- predicates and imports give consistent meanings
pub consistent_given : (given : Given) → IsConsistent (meanings_of given)
consistent_given given = consistent_with_predicates (meanings_of_imports given.imports) 0 given.predicates (consistent_imports given.imports)

pub yes_is_not_no : (given : Given) (f : Form) (e : Env) → Yes given f e → No given f e → ⊥
yes_is_not_no given = never_both (meanings_of given) (consistent_given given)
