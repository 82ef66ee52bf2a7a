-- Where nothing is wrong with an expression, it becomes a typed tree of its order.
use Rattle.std.proofs.Common.{◌≡◌, ℕ, ◌+◌, ◌==◌, Bool, true, false, if◌then◌else◌, nat_lt, List, [], ◌∷◌, ◌++◌, length, Option, Some, None, refl, sym, subst, ◌∙◌, arith, ap, is_some, slice_get, ◌<◌, ◌≤◌}
use Rattle.std.specs.Prelude.{flat_map}
use Rattle.std.specs.Option.{IsSome, option_map, option_and_then}
use Rattle.std.proofs.lemmas.Bool.Decides.{nat_tests}
use Rattle.std.proofs.lemmas.Grind.{flat_map-append}
use Rattle.ms_list.specs.declared.at.At.{At}
use Rattle.ms_logic.specs.declared.mode.Order.{Order}
use Rattle.ms_logic.specs.declared.mode.Order.TheVariants.{Zero, One, Two}
use Rattle.ms_logic.specs.declared.mode.Quant.{Quant}
use Rattle.ms_logic.specs.declared.mode.Rel.{Rel}
use Rattle.ms_logic.specs.declared.mode.Rel.TheVariants.{Equal, Differs, Less, AtMost, Greater, AtLeast, Member, NotMember, Sub}
use Rattle.ms_logic.specs.declared.source.Int.TheVariants.{Number, Constant}
use Rattle.ms_logic.specs.declared.source.Int.{Int}
use Rattle.ms_logic.specs.Tree as tree
use Rattle.ms_logic.specs.Tree.{Term, SetTerm, Form, Argument, truth_argument, number_argument, set_argument, Arguments}
use Rattle.ms_names_rules.specs.declared.fault.Fault.{Fault}
use Rattle.ms_names_rules.specs.declared.meaning.Meaning.{Meaning}
use Rattle.ms_names_rules.specs.declared.meaning.Meaning.TheVariants as meaning
use Rattle.ms_names_rules.specs.declared.wanted.Wanted.{Wanted}
use Rattle.ms_names_rules.specs.declared.wanted.Wanted.TheVariants.{Exactly, NumberOrSet}
use Rattle.ms_parse_grammar.specs.Tree.{truth, falsity, whole, empty_set, named, numeral, pconst, imported, Expression, atom, prefixed, binary, joined, shifted, enclosed, listed, quantified, let_in, Expressions, no_expressions, and_expression, Variables, no_variables, and_variable, Domain, unrestricted, restricted, Parts, no_parts, and_part, Atom}
use Rattle.ms_parse_grammar.specs.declared.operator.Prefix.TheVariants.{Negation, Minimum, Maximum}
use Rattle.ms_parse_grammar.specs.declared.operator.Binary.TheVariants.{Implication, Equivalence, Relation, Union, Intersection, Difference}
use Rattle.ms_parse_grammar.specs.declared.operator.Bracket.TheVariants as bracket
use Rattle.ms_parse_grammar.specs.declared.operator.Bracket.TheVariants.{Parentheses, Emptiness, Export}
use Rattle.ms_parse_grammar.specs.declared.operator.Listing.TheVariants.{Literal, Call}
use Rattle.ms_names_rules.specs.Scope.{Bytes, Scope, count_of_bounds, count_of_parts, meaning_of, under_bounds, under_parts, without_exports, count}
use Rattle.ms_names_rules.specs.Before.{Before, with_names, after, after_bounds, after_parts, after_all, opened}
use Rattle.ms_names_rules.specs.Constant.{value_of, value_of_int, value_of_meaning}
use Rattle.ms_names_rules.specs.Order.{formula_wanted, number_wanted, set_wanted, order_of, order_of_name, order_of_call, parameters_of, wanted_on_the_left, wanted_on_the_right, fits, content_wanted, left_wanted, operand_wanted, order_of_atom, order_of_binary, order_of_bracket, order_of_prefix, right_wanted, wanted_by}
use Rattle.ms_names_rules.specs.Occurrence.{Occurrence, standing, occurrences, inside, inside_operands, inside_arguments, inside_bounds, inside_domain, inside_parts}
use Rattle.ms_names_rules.specs.Rules.{faults_at, faults_of_call, faults_of_constant, faults_of_form, faults_of_int, faults_of_name, faults_of_offset, faults_of_order, faults_of_placed, in_case}
use Rattle.ms_names_rules.specs.Typed.{both, formula_in, number_in, set_in, of_order, related_member, related_numbers, related_sets, typed, typed_arguments, typed_call, typed_domain, typed_formulas, typed_name, typed_numbers, typed_parts, typed_quantifiers, typed_relation, typed_shift, variable_argument, argument_for, as_many, joined_formula, quantifier, typed_atom, typed_binary, typed_bracket, typed_prefix}
use Rattle.ms_names_rules.proofs.Exports.{typed-same, under_parts-same}
use Rattle.ms_parse_grammar.specs.declared.operator.Binary.{Binary}
use Rattle.ms_parse_grammar.specs.declared.operator.Bracket.{Bracket}
use Rattle.ms_parse_grammar.specs.declared.operator.Prefix.{Prefix}
use Rattle.std.proofs.lemmas.Option.{slice_get-get_or}

-- what an expression became has its order
pub data HasOrder : Option Order → Option Argument → Type 0 where
  is_truth : (f : Form) → HasOrder (Some Zero) (Some (truth_argument f))
  is_number : (t : Term) → HasOrder (Some One) (Some (number_argument t))
  is_set : (s : SetTerm) → HasOrder (Some Two) (Some (set_argument s))

-- nothing is wrong with some expressions
abbrev pub AreRight : List Occurrence → Type 0
AreRight os = flat_map faults_at os ≡ []

-- lists

pub front-empty : {A : Type 0} (xs ys : List A) → xs ++ ys ≡ [] → xs ≡ []
front-empty [] ys e = refl
front-empty (x ∷ xs) ys e = absurd (cc)

pub back-empty : {A : Type 0} (xs ys : List A) → xs ++ ys ≡ [] → ys ≡ []
back-empty [] ys e = e
back-empty (x ∷ xs) ys e = absurd (cc)

pub right-front : (os ps : List Occurrence) → AreRight (os ++ ps) → AreRight os
right-front os ps h = front-empty (flat_map faults_at os) (flat_map faults_at ps) (sym (flat_map-append faults_at os ps) ∙ h)

pub right-back : (os ps : List Occurrence) → AreRight (os ++ ps) → AreRight ps
right-back os ps h = back-empty (flat_map faults_at os) (flat_map faults_at ps) (sym (flat_map-append faults_at os ps) ∙ h)

-- options

pub some-both : {A B C : Type 0} (make : A → B → C) (a : Option A) (b : Option B) → IsSome a → IsSome b → IsSome (both make a b)
some-both make None b h k = absurd (cc)
some-both make (Some a) None h k = absurd (cc)
some-both make (Some a) (Some b) h k = refl

pub some-map : {A B : Type 0} (make : A → B) (a : Option A) → IsSome a → IsSome (option_map make a)
some-map make None h = absurd (cc)
some-map make (Some a) h = refl

formula-one : {A : Type 0} (make : A → Form) (a : Option A) → IsSome a → HasOrder (Some Zero) (option_map (λ x. truth_argument (make x)) a)
formula-one make None h = absurd (cc)
formula-one make (Some a) h = is_truth (make a)

formula-two : {A B : Type 0} (make : A → B → Form) (a : Option A) (b : Option B) → IsSome a → IsSome b →
    HasOrder (Some Zero) (both (λ x y. truth_argument (make x y)) a b)
formula-two make None b h k = absurd (cc)
formula-two make (Some a) None h k = absurd (cc)
formula-two make (Some a) (Some b) h k = is_truth (make a b)

number-one : {A : Type 0} (make : A → Term) (a : Option A) → IsSome a → HasOrder (Some One) (option_map (λ x. number_argument (make x)) a)
number-one make None h = absurd (cc)
number-one make (Some a) h = is_number (make a)

set-one : {A : Type 0} (make : A → SetTerm) (a : Option A) → IsSome a → HasOrder (Some Two) (option_map (λ x. set_argument (make x)) a)
set-one make None h = absurd (cc)
set-one make (Some a) h = is_set (make a)

set-two : {A B : Type 0} (make : A → B → SetTerm) (a : Option A) (b : Option B) → IsSome a → IsSome b →
    HasOrder (Some Two) (both (λ x y. set_argument (make x y)) a b)
set-two make None b h k = absurd (cc)
set-two make (Some a) None h k = absurd (cc)
set-two make (Some a) (Some b) h k = is_set (make a b)

-- one expression that stands somewhere

kept-test : {A : Type 0} (b : Bool) (x : A) → (if b then [] else x ∷ []) ≡ [] → b ≡ true
kept-test true x h = refl
kept-test false x h = absurd (cc)

no-case : (b : Bool) (f : Fault) → in_case b f ≡ [] → b ≡ false
no-case true f h = absurd (cc)
no-case false f h = refl

-- an expression by itself and those inside it
abbrev pub IsOrdered : Scope → Before → Expression → Type 0
IsOrdered s b e = faults_of_form s e ≡ [] → AreRight (inside s b e) → HasOrder (order_of s e) (typed s b e)

here-ordered : (s : Scope) (b : Before) (w : Wanted) (e : Expression) → IsOrdered s b e → AreRight (occurrences s b w e) →
    HasOrder (order_of s e) (typed s b e)
here-ordered s b w e ordered h =
    ordered (back-empty (faults_of_order s w e) (faults_of_form s e) (front-empty (faults_at (standing s b w e)) (flat_map faults_at (inside s b e)) h))
    (back-empty (faults_at (standing s b w e)) (flat_map faults_at (inside s b e)) h)

here-fits : (s : Scope) (b : Before) (w : Wanted) (e : Expression) → AreRight (occurrences s b w e) → fits w (order_of s e) ≡ true
here-fits s b w e h =
    kept-test (fits w (order_of s e)) _
    (front-empty (faults_of_order s w e) (faults_of_form s e) (front-empty (faults_at (standing s b w e)) (flat_map faults_at (inside s b e)) h))

formula-some : {o : Option Order} {a : Option Argument} → HasOrder o a → fits formula_wanted o ≡ true → IsSome (formula_in a)
formula-some (is_truth f) w = refl
formula-some (is_number t) w = absurd (cc)
formula-some (is_set s) w = absurd (cc)

number-some : {o : Option Order} {a : Option Argument} → HasOrder o a → fits number_wanted o ≡ true → IsSome (number_in a)
number-some (is_truth f) w = absurd (cc)
number-some (is_number t) w = refl
number-some (is_set s) w = absurd (cc)

set-some : {o : Option Order} {a : Option Argument} → HasOrder o a → fits set_wanted o ≡ true → IsSome (set_in a)
set-some (is_truth f) w = absurd (cc)
set-some (is_number t) w = absurd (cc)
set-some (is_set s) w = refl

order-some : (p : Order) {o : Option Order} {a : Option Argument} → HasOrder o a → fits (Exactly p) o ≡ true → IsSome (option_and_then (of_order p) a)
order-some Zero (is_truth f) w = refl
order-some Zero (is_number t) w = absurd (cc)
order-some Zero (is_set s) w = absurd (cc)
order-some One (is_truth f) w = absurd (cc)
order-some One (is_number t) w = refl
order-some One (is_set s) w = absurd (cc)
order-some Two (is_truth f) w = absurd (cc)
order-some Two (is_number t) w = absurd (cc)
order-some Two (is_set s) w = refl

pub formula-here : (s : Scope) (b : Before) (e : Expression) → IsOrdered s b e → AreRight (occurrences s b formula_wanted e) → IsSome (formula_in (typed s b e))
formula-here s b e ordered h = formula-some (here-ordered s b formula_wanted e ordered h) (here-fits s b formula_wanted e h)

number-here : (s : Scope) (b : Before) (e : Expression) → IsOrdered s b e → AreRight (occurrences s b number_wanted e) → IsSome (number_in (typed s b e))
number-here s b e ordered h = number-some (here-ordered s b number_wanted e ordered h) (here-fits s b number_wanted e h)

set-here : (s : Scope) (b : Before) (e : Expression) → IsOrdered s b e → AreRight (occurrences s b set_wanted e) → IsSome (set_in (typed s b e))
set-here s b e ordered h = set-some (here-ordered s b set_wanted e ordered h) (here-fits s b set_wanted e h)

order-here : (s : Scope) (b : Before) (p : Order) (e : Expression) → IsOrdered s b e → AreRight (occurrences s b (Exactly p) e) →
    IsSome (option_and_then (of_order p) (typed s b e))
order-here s b p e ordered h = order-some p (here-ordered s b (Exactly p) e ordered h) (here-fits s b (Exactly p) e h)

-- names, numbers and relations

variable-order : (x : ℕ) (o : Order) → HasOrder (Some o) (Some (variable_argument x o))
variable-order x Zero = is_truth (tree.truth_variable x)
variable-order x One = is_number (tree.number_variable x)
variable-order x Two = is_set (tree.set_variable x)

name-order : (at : At) (n : Bytes) (m : Option Meaning) → faults_of_name at n m ≡ [] → HasOrder (order_of_name m) (typed_name m)
name-order at n None h = absurd (cc)
name-order at n (Some (meaning.Variable x o)) h = variable-order x o
name-order at n (Some (meaning.Constant value)) h = is_number (tree.numeral value)
name-order at n (Some (meaning.Predicate p [])) h = is_truth (tree.call p tree.no_arguments)
name-order at n (Some (meaning.Predicate p (o ∷ parameters))) h =
    let some : nat_lt 0 (length (o ∷ parameters)) ≡ true = grind (arith, nat_tests) in
    let none : nat_lt 0 (length (o ∷ parameters)) ≡ false = no-case (nat_lt 0 (length (o ∷ parameters))) _ h in
    absurd (cc)

constant-some : (at : At) (n : Bytes) (m : Option Meaning) → faults_of_constant at n m ≡ [] → IsSome (value_of_meaning m)
constant-some at n None h = absurd (cc)
constant-some at n (Some (meaning.Variable x o)) h = absurd (cc)
constant-some at n (Some (meaning.Constant value)) h = refl
constant-some at n (Some (meaning.Predicate p parameters)) h = absurd (cc)

int-some : (s : Scope) (at : At) (i : Int) → faults_of_int s at i ≡ [] → IsSome (value_of_int s i)
int-some s at (Number n) h = refl
int-some s at (Constant n) h = constant-some at n (meaning_of s n) h

-- as many arguments as parameters
as_many-some : (given : ℕ) (parameters : List Order) (arguments : Option Arguments) → (given == length parameters) ≡ true → IsSome arguments →
    IsSome (as_many given parameters arguments)
as_many-some given parameters arguments test some = subst (λ b. IsSome (if b then arguments else None)) (sym test) some

call-order : (at : At) (n : Bytes) (given : ℕ) (m : Option Meaning) (arguments : Option Arguments) → faults_of_call at n given m ≡ [] →
    (given ≡ length (parameters_of m) → IsSome arguments) → HasOrder (order_of_call m) (typed_call m (as_many given (parameters_of m) arguments))
call-order at n given None arguments h all = absurd (cc)
call-order at n given (Some (meaning.Variable x o)) arguments h all = absurd (cc)
call-order at n given (Some (meaning.Constant value)) arguments h all = absurd (cc)
call-order at n given (Some (meaning.Predicate p parameters)) arguments h all =
    let test = kept-test (given == length parameters) _ h in
    let counted : given ≡ length parameters = grind (arith, nat_tests) in
    formula-one (tree.call p) (as_many given parameters arguments) (as_many-some given parameters arguments test (all counted))

numbers-related : (r : Rel) (t u : Term) → fits (wanted_on_the_right r (Some One)) (Some One) ≡ true → HasOrder (Some Zero) (related_numbers r t u)
numbers-related Equal t u w = is_truth (tree.comparison Equal t u)
numbers-related Differs t u w = is_truth (tree.comparison Differs t u)
numbers-related Less t u w = is_truth (tree.comparison Less t u)
numbers-related AtMost t u w = is_truth (tree.comparison AtMost t u)
numbers-related Greater t u w = is_truth (tree.comparison Greater t u)
numbers-related AtLeast t u w = is_truth (tree.comparison AtLeast t u)
numbers-related Member t u w = absurd (cc)
numbers-related NotMember t u w = absurd (cc)
numbers-related Sub t u w = absurd (cc)

member-related : (r : Rel) (t : Term) (u : SetTerm) → fits (wanted_on_the_right r (Some One)) (Some Two) ≡ true →
    fits (wanted_on_the_left r) (Some One) ≡ true → HasOrder (Some Zero) (related_member r t u)
member-related Equal t u w v = absurd (cc)
member-related Differs t u w v = absurd (cc)
member-related Less t u w v = absurd (cc)
member-related AtMost t u w v = absurd (cc)
member-related Greater t u w v = absurd (cc)
member-related AtLeast t u w v = absurd (cc)
member-related Member t u w v = is_truth (tree.membership true t u)
member-related NotMember t u w v = is_truth (tree.membership false t u)
member-related Sub t u w v = absurd (cc)

sets-related : (r : Rel) (t u : SetTerm) → fits (wanted_on_the_left r) (Some Two) ≡ true → HasOrder (Some Zero) (related_sets r t u)
sets-related Equal t u w = is_truth (tree.set_comparison Equal t u)
sets-related Differs t u w = is_truth (tree.set_comparison Differs t u)
sets-related Less t u w = absurd (cc)
sets-related AtMost t u w = absurd (cc)
sets-related Greater t u w = absurd (cc)
sets-related AtLeast t u w = absurd (cc)
sets-related Member t u w = absurd (cc)
sets-related NotMember t u w = absurd (cc)
sets-related Sub t u w = is_truth (tree.set_comparison Sub t u)

-- no relation wants a truth value, or a number beside a set
no-truth : (r : Rel) → fits (wanted_on_the_left r) (Some Zero) ≡ true → ⊥
no-truth Equal w = cc
no-truth Differs w = cc
no-truth Less w = cc
no-truth AtMost w = cc
no-truth Greater w = cc
no-truth AtLeast w = cc
no-truth Member w = cc
no-truth NotMember w = cc
no-truth Sub w = cc

no-truth-by-number : (r : Rel) → fits (wanted_on_the_right r (Some One)) (Some Zero) ≡ true → ⊥
no-truth-by-number Equal w = cc
no-truth-by-number Differs w = cc
no-truth-by-number Less w = cc
no-truth-by-number AtMost w = cc
no-truth-by-number Greater w = cc
no-truth-by-number AtLeast w = cc
no-truth-by-number Member w = cc
no-truth-by-number NotMember w = cc
no-truth-by-number Sub w = cc

no-other-by-set : (r : Rel) (o : Order) → fits (wanted_on_the_left r) (Some Two) ≡ true → fits (wanted_on_the_right r (Some Two)) (Some o) ≡ true → o ≡ Two
no-other-by-set r Two v w = refl
no-other-by-set Equal Zero v w = absurd (cc)
no-other-by-set Equal One v w = absurd (cc)
no-other-by-set Differs Zero v w = absurd (cc)
no-other-by-set Differs One v w = absurd (cc)
no-other-by-set Less o v w = absurd (cc)
no-other-by-set AtMost o v w = absurd (cc)
no-other-by-set Greater o v w = absurd (cc)
no-other-by-set AtLeast o v w = absurd (cc)
no-other-by-set Member o v w = absurd (cc)
no-other-by-set NotMember o v w = absurd (cc)
no-other-by-set Sub Zero v w = absurd (cc)
no-other-by-set Sub One v w = absurd (cc)

relation-order : (r : Rel) {o p : Option Order} {a b : Option Argument} → HasOrder o a → HasOrder p b →
    fits (wanted_on_the_left r) o ≡ true → fits (wanted_on_the_right r o) p ≡ true → HasOrder (Some Zero) (typed_relation r a b)
relation-order r (is_truth f) k v w = absurd (no-truth r v)
relation-order r (is_number t) (is_truth f) v w = absurd (no-truth-by-number r w)
relation-order r (is_number t) (is_number u) v w = numbers-related r t u w
relation-order r (is_number t) (is_set u) v w = member-related r t u w v
relation-order r (is_set t) (is_truth f) v w = let e = no-other-by-set r Zero v w in absurd (cc)
relation-order r (is_set t) (is_number u) v w = let e = no-other-by-set r One v w in absurd (cc)
relation-order r (is_set t) (is_set u) v w = sets-related r t u v

shift-order : (minus : Bool) (n : Option ℕ) {o : Option Order} {a : Option Argument} → IsSome n → HasOrder o a → fits NumberOrSet o ≡ true →
    HasOrder o (typed_shift minus n a)
shift-order minus None some k w = absurd (cc)
shift-order minus (Some n) some (is_truth f) w = absurd (cc)
shift-order true (Some n) some (is_number t) w = is_number (tree.minus t n)
shift-order false (Some n) some (is_number t) w = is_number (tree.plus t n)
shift-order true (Some n) some (is_set t) w = is_set (tree.shift_down t n)
shift-order false (Some n) some (is_set t) w = is_set (tree.shift_up t n)

-- operators

prefix-order : (op : Prefix) {o : Option Order} (a : Option Argument) → HasOrder o a → fits (operand_wanted op) o ≡ true →
    HasOrder (Some (order_of_prefix op)) (typed_prefix op a)
prefix-order Negation a k w = formula-one (λ f. tree.negation f) (formula_in a) (formula-some k w)
prefix-order Minimum a k w = number-one (λ t. tree.minimum t) (set_in a) (set-some k w)
prefix-order Maximum a k w = number-one (λ t. tree.maximum t) (set_in a) (set-some k w)

binary-order : (op : Binary) {o p : Option Order} (a c : Option Argument) → HasOrder o a → HasOrder p c →
    fits (left_wanted op) o ≡ true → fits (right_wanted op o) p ≡ true → HasOrder (Some (order_of_binary op)) (typed_binary op a c)
binary-order Implication a c h k v w = formula-two (λ f g. tree.implication f g) (formula_in a) (formula_in c) (formula-some h v) (formula-some k w)
binary-order Equivalence a c h k v w = formula-two (λ f g. tree.equivalence f g) (formula_in a) (formula_in c) (formula-some h v) (formula-some k w)
binary-order (Relation r) a c h k v w = relation-order r h k v w
binary-order Union a c h k v w = set-two (λ t u. tree.union t u) (set_in a) (set_in c) (set-some h v) (set-some k w)
binary-order Intersection a c h k v w = set-two (λ t u. tree.intersection t u) (set_in a) (set_in c) (set-some h v) (set-some k w)
binary-order Difference a c h k v w = set-two (λ t u. tree.difference t u) (set_in a) (set_in c) (set-some h v) (set-some k w)

bracket-order : (b : Before) (k : Bracket) {o : Option Order} (a : Option Argument) → HasOrder o a → fits (content_wanted k) o ≡ true →
    HasOrder (order_of_bracket k o) (typed_bracket b k a)
bracket-order b Parentheses a h w = h
bracket-order b Emptiness a h w = formula-one (λ t. tree.emptiness t) (set_in a) (set-some h w)
bracket-order b bracket.Restriction a h w = formula-one (λ f. tree.restrict f) (formula_in a) (formula-some h w)
bracket-order b (Export text_at file) a h w = formula-one (λ f. tree.exported b.exports f) (formula_in a) (formula-some h w)

atom-order : (s : Scope) (b : Before) (at : At) (a : Atom) → faults_of_form s (atom at a) ≡ [] → HasOrder (order_of_atom s a) (typed_atom s b a)
atom-order s b at truth own = is_truth tree.truth
atom-order s b at falsity own = is_truth tree.falsity
atom-order s b at whole own = is_set tree.whole
atom-order s b at empty_set own = is_set tree.empty_set
atom-order s b at (named n) own = name-order at n (meaning_of s n) own
atom-order s b at (numeral n) own = is_number (tree.numeral n)
atom-order s b at (pconst i) own = set-one (λ n. tree.pconst n) (value_of s i) (int-some s i.at i.value own)
atom-order s b at (imported file rs) own = is_truth (tree.imported b.imports)

-- an argument of a parameter

parameter-some : (ps : List Order) (i : ℕ) → i < length ps → IsSome (slice_get ps i)
parameter-some ps i below = ap is_some (slice_get-get_or ps i Zero below)

argument-some : (s : Scope) (b : Before) (o : Option Order) (e : Expression) → IsOrdered (without_exports s) b e → IsSome o →
    AreRight (occurrences (without_exports s) b (wanted_by o) e) → IsSome (argument_for o (typed s b e))
argument-some s b None e ordered some h = absurd (cc)
argument-some s b (Some o) e ordered some h =
    let outer = without_exports s in
    subst (λ a. IsSome (option_and_then (of_order o) a)) (typed-same outer s b e refl) (order-here outer b o e ordered h)

-- expressions

mutual
  pub ordered : (s : Scope) (b : Before) (e : Expression) → IsOrdered s b e
  ordered s b (atom at a) own h = atom-order s b at a own
  ordered s b (prefixed at op e) own h =
      prefix-order op (typed s b e) (here-ordered s b (operand_wanted op) e (ordered s b e) h) (here-fits s b (operand_wanted op) e h)
  ordered s b (binary at op e f) own h =
      let v = left_wanted op in
      let w = right_wanted op (order_of s e) in
      let left = occurrences s b v e in
      let right = occurrences s (after b e) w f in
      binary-order op (typed s b e) (typed s (after b e) f)
      (here-ordered s b v e (ordered s b e) (right-front left right h)) (here-ordered s (after b e) w f (ordered s (after b e) f) (right-back left right h))
      (here-fits s b v e (right-front left right h)) (here-fits s (after b e) w f (right-back left right h))
  ordered s b (joined at op es) own h = formula-one (joined_formula op) (typed_formulas s b es) (formulas-all s b es h)
  ordered s b (shifted at e i) own h =
      shift-order i.minus (value_of s i)
      (int-some s i.at i.value (front-empty (faults_of_placed s i) (faults_of_offset i.at (value_of s i)) own))
      (here-ordered s b NumberOrSet e (ordered s b e) h) (here-fits s b NumberOrSet e h)
  ordered s b (enclosed at k e) own h =
      let c = opened b k in
      bracket-order b k (typed s c e) (here-ordered s c (content_wanted k) e (ordered s c e) h) (here-fits s c (content_wanted k) e h)
  ordered s b (listed at Literal es) own h = set-one (λ ts. tree.literal ts) (typed_numbers s b es) (numbers-all s b es h)
  ordered s b (listed at (Call n) es) own h =
      let parameters = parameters_of (meaning_of s n) in
      call-order at n (count es) (meaning_of s n) (typed_arguments s b parameters es) own
      (λ counted. arguments-all s b parameters es (omega (arith, counted)) h)
  ordered s b (quantified at q o vs e) own h =
      let here = with_names b (count_of_bounds vs) in
      let inner = under_bounds s b.next vs in
      let within = occurrences inner (after_bounds here vs) formula_wanted e in
      formula-one (λ f. f) (typed_quantifiers s b.next here q vs (formula_in (typed inner (after_bounds here vs) e)))
      (quantifiers-all s b.next here q vs (formula_in (typed inner (after_bounds here vs) e))
      (right-front (inside_bounds s b.next here vs) within h)
      (formula-here inner (after_bounds here vs) e (ordered inner (after_bounds here vs) e) (right-back (inside_bounds s b.next here vs) within h)))
  ordered s b (let_in at o ps e) own h =
      let here = with_names b (count_of_parts ps) in
      let outer = without_exports s in
      let inner = under_parts outer b.next o ps in
      let before = inside_parts outer here o ps in
      let within = occurrences inner (after_parts here ps) formula_wanted e in
      formula-two (λ sides f. tree.where_let _ sides f) (typed_parts s here o ps) (formula_in (typed (under_parts s b.next o ps) (after_parts here ps) e))
      (parts-all s here o ps (right-front before within h))
      (subst (λ a. IsSome (formula_in a))
      (typed-same inner (under_parts s b.next o ps) (after_parts here ps) e (under_parts-same outer s b.next o ps refl))
      (formula-here inner (after_parts here ps) e (ordered inner (after_parts here ps) e) (right-back before within h)))

  numbers-all : (s : Scope) (b : Before) (es : Expressions) → AreRight (inside_operands s b number_wanted es) → IsSome (typed_numbers s b es)
  numbers-all s b no_expressions h = refl
  numbers-all s b (and_expression es e) h =
      let end = after_all b es in
      let before = inside_operands s b number_wanted es in
      let here = occurrences s end number_wanted e in
      some-both _ (typed_numbers s b es) (number_in (typed s end e))
      (numbers-all s b es (right-front before here h)) (number-here s end e (ordered s end e) (right-back before here h))

  formulas-all : (s : Scope) (b : Before) (es : Expressions) → AreRight (inside_operands s b formula_wanted es) → IsSome (typed_formulas s b es)
  formulas-all s b no_expressions h = refl
  formulas-all s b (and_expression es e) h =
      let end = after_all b es in
      let before = inside_operands s b formula_wanted es in
      let here = occurrences s end formula_wanted e in
      some-both _ (typed_formulas s b es) (formula_in (typed s end e))
      (formulas-all s b es (right-front before here h)) (formula-here s end e (ordered s end e) (right-back before here h))

  arguments-all : (s : Scope) (b : Before) (parameters : List Order) (es : Expressions) → count es ≤ length parameters →
      AreRight (inside_arguments (without_exports s) b parameters es) → IsSome (typed_arguments s b parameters es)
  arguments-all s b parameters no_expressions counted h = refl
  arguments-all s b parameters (and_expression es e) counted h =
      let end = after_all b es in
      let outer = without_exports s in
      let o = slice_get parameters (count es) in
      let before = inside_arguments outer b parameters es in
      let here = occurrences outer end (wanted_by o) e in
      some-both _ (typed_arguments s b parameters es) (argument_for o (typed s end e))
      (arguments-all s b parameters es (omega (arith, counted)) (right-front before here h))
      (argument-some s end o e (ordered outer end e) (parameter-some parameters (count es) (omega (arith, counted))) (right-back before here h))

  quantifiers-all : (s : Scope) (x : ℕ) (b : Before) (q : Quant) (vs : Variables) (f : Option Form) → AreRight (inside_bounds s x b vs) → IsSome f →
      IsSome (typed_quantifiers s x b q vs f)
  quantifiers-all s x b q no_variables f h some = some
  quantifiers-all s x b q (and_variable vs at o n d) f h some =
      let y = x + count_of_bounds vs in
      let end = after_bounds b vs in
      let inner = under_bounds s x (and_variable vs at o n d) in
      let before = inside_bounds s x b vs in
      let here = inside_domain (without_exports inner) end d in
      quantifiers-all s x b q vs (quantifier q o y (typed_domain inner end o y d) f) (right-front before here h)
      (some-both _ (typed_domain inner end o y d) f (domain-all inner end o y d (right-back before here h)) some)

  pub domain-all : (s : Scope) (b : Before) (o : Order) (x : ℕ) (d : Domain) → AreRight (inside_domain (without_exports s) b d) → IsSome (typed_domain s b o x d)
  domain-all s b o x unrestricted h = refl
  domain-all s b o x (restricted e) h =
      let outer = without_exports s in
      some-map _ (formula_in (typed s b e))
      (subst (λ a. IsSome (formula_in a)) (typed-same outer s b e refl) (formula-here outer b e (ordered outer b e) h))

  parts-all : (s : Scope) (b : Before) (o : Order) (ps : Parts) → AreRight (inside_parts (without_exports s) b o ps) → IsSome (typed_parts s b o ps)
  parts-all s b o no_parts h = refl
  parts-all s b o (and_part ps at n e) h =
      let end = after_parts b ps in
      let outer = without_exports s in
      let before = inside_parts outer b o ps in
      let here = occurrences outer end (Exactly o) e in
      some-both _ (typed_parts s b o ps) (option_and_then (of_order o) (typed s end e))
      (parts-all s b o ps (right-front before here h))
      (subst (λ a. IsSome (option_and_then (of_order o) a)) (typed-same outer s end e refl) (order-here outer end o e (ordered outer end e) (right-back before here h)))
