-- Declarations: constants, names of globals, predicates and default restrictions.
use Rattle.std.proofs.Common.{◌≡◌, ℕ, ◌+◌, Bool, true, false, if◌then◌else◌, List, [], ◌∷◌, ◌++◌, Some, None, refl, ap, ◌∙◌}
use Rattle.std.specs.Prelude.{bytes_eq}
use Rattle.ms_logic.specs.declared.mode.Order.{Order}
use Rattle.ms_logic.specs.declared.source.PlacedInt.{PlacedInt}
use Rattle.ms_names_rules.specs.Scope.{Bytes, Scope, without_exports, count_of_bounds, under_bounds}
use Rattle.ms_parse_grammar.specs.Tree.{Variables, no_variables, and_variable, Domain, unrestricted, restricted}
use Rattle.ms_names_rules.specs.Before.{Before, after_bounds}
use Rattle.ms_names_rules.specs.inner.Binder.{restricted_variable, restricted_variables, restriction_in}
use Rattle.ms_names_rules.specs.Constant.{leaves_range, has_no_value, next_sum, sum_from, sum_in_range, sum_of_value, value_of}
use Rattle.ms_names_rules.specs.Rules.{is_name_among}
use Rattle.ms_names_rules.specs.Typed.{typed_restriction}
use Rattle.ms_names_rules.proofs.Exports.{domain-same, typed-same, both-same, under_bounds-same}

-- constants

pub sum-none : (s : Scope) (sum : ℕ) (i : PlacedInt) (rest : List PlacedInt) → value_of s i ≡ None → sum_from s sum (i ∷ rest) ≡ has_no_value
sum-none s sum i rest none = ap (λ v. sum_of_value v (λ n. sum_in_range (next_sum i.minus sum n) (λ next. sum_from s next rest))) none

pub sum-out : (s : Scope) (sum n : ℕ) (i : PlacedInt) (rest : List PlacedInt) → value_of s i ≡ Some n → next_sum i.minus sum n ≡ None →
    sum_from s sum (i ∷ rest) ≡ leaves_range
sum-out s sum n i rest some out =
    ap (λ v. sum_of_value v (λ k. sum_in_range (next_sum i.minus sum k) (λ next. sum_from s next rest))) some
    ∙ ap (λ v. sum_in_range v (λ next. sum_from s next rest)) out

pub sum-next : (s : Scope) (sum n m : ℕ) (i : PlacedInt) (rest : List PlacedInt) → value_of s i ≡ Some n → next_sum i.minus sum n ≡ Some m →
    sum_from s sum (i ∷ rest) ≡ sum_from s m rest
sum-next s sum n m i rest some within =
    ap (λ v. sum_of_value v (λ k. sum_in_range (next_sum i.minus sum k) (λ next. sum_from s next rest))) some
    ∙ ap (λ v. sum_in_range v (λ next. sum_from s next rest)) within

-- names of globals

nested : (a b c : Bool) → (if a then true else (if b then true else c)) ≡ (if (if a then true else b) then true else c)
nested true b c = refl
nested false b c = refl

pub among-append : (n : Bytes) (ms more : List Bytes) → is_name_among n (ms ++ more) ≡ (if is_name_among n ms then true else is_name_among n more)
among-append n [] more = refl
among-append n (m ∷ ms) more = ap (λ b. if bytes_eq m n then true else b) (among-append n ms more) ∙ nested (bytes_eq m n) (is_name_among n ms) (is_name_among n more)

-- predicates

restriction_in-same : (takes_defaults : Bool) (s t : Scope) (b : Before) (o : Order) (x : ℕ) (d : Domain) → without_exports s ≡ without_exports t →
    restriction_in takes_defaults s b o x d ≡ restriction_in takes_defaults t b o x d
restriction_in-same true s t b o x d h = domain-same s t b o x d h
restriction_in-same false s t b o x unrestricted h = refl
restriction_in-same false s t b o x (restricted e) h = ap typed_restriction (typed-same s t b e h)

pub restricted-same : (takes_defaults : Bool) (s t : Scope) (x : ℕ) (b : Before) (vs : Variables) → without_exports s ≡ without_exports t →
    restricted_variables takes_defaults s x b vs ≡ restricted_variables takes_defaults t x b vs
restricted-same takes_defaults s t x b no_variables h = refl
restricted-same takes_defaults s t x b (and_variable vs at o n d) h =
    let y = x + count_of_bounds vs in
    let inner = under_bounds s x (and_variable vs at o n d) in
    let other = under_bounds t x (and_variable vs at o n d) in
    both-same (λ earlier r. earlier ++ restricted_variable y o r ∷ []) (restricted-same takes_defaults s t x b vs h)
    (restriction_in-same takes_defaults inner other (after_bounds b vs) o y d (under_bounds-same s t x (and_variable vs at o n d) h))
