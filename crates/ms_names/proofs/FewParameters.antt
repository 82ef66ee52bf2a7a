-- Of the parameters of a call, no more than one beyond the arguments say anything of it.
use Rattle.std.proofs.Common.{◌≡◌, ℕ, zero, suc, ◌<◌, ◌≤◌, List, [], ◌∷◌, ◌++◌, take, refl, ap, arith, Bool, true, false, if◌then◌else◌, Option, None, Some, length, slice_get, sym, ◌+◌, ◌==◌, ◌∙◌}
use Rattle.ms_logic.specs.declared.mode.Order.{Order}
use Rattle.ms_logic.specs.Tree.{Arguments}
use Rattle.ms_parse_grammar.specs.Tree.{Expressions, no_expressions, and_expression}
use Rattle.ms_names_rules.specs.Before.{Before, after_all}
use Rattle.ms_names_rules.specs.Occurrence.{inside_arguments, occurrences}
use Rattle.ms_names_rules.specs.Order.{wanted_by}
use Rattle.ms_names_rules.specs.Scope.{Scope, count}
use Rattle.ms_names_rules.specs.Typed.{both, typed, typed_arguments, argument_behind, argument_for, as_many}
use Rattle.ms_names_rules.proofs.Exports.{both-same}
use Rattle.std.proofs.lemmas.List.{length-take}
use Rattle.std.proofs.lemmas.Bool.Decides.{nat_tests}
use Rattle.std.proofs.lemmas.Option.{slice_get_past}

few-parameter : (ps : List Order) (n i : ℕ) → i < n → slice_get (take n ps) i ≡ slice_get ps i
few-parameter [] zero i below = refl
few-parameter [] (suc n) i below = refl
few-parameter (o ∷ ps) zero i below = absurd (omega (arith, below))
few-parameter (o ∷ ps) (suc n) zero below = refl
few-parameter (o ∷ ps) (suc n) (suc i) below = few-parameter ps n i (omega (arith, below))

-- what is inside the arguments
pub arguments-inside-few : (s : Scope) (b : Before) (ps : List Order) (es : Expressions) (n : ℕ) → count es ≤ n →
    inside_arguments s b (take n ps) es ≡ inside_arguments s b ps es
arguments-inside-few s b ps no_expressions n few = refl
arguments-inside-few s b ps (and_expression es e) n few =
    ap (λ o. inside_arguments s b (take n ps) es ++ occurrences s (after_all b es) (wanted_by o) e) (few-parameter ps n (count es) (omega (arith, few)))
    ∙ ap (λ before. before ++ occurrences s (after_all b es) (wanted_by (slice_get ps (count es))) e) (arguments-inside-few s b ps es n (omega (arith, few)))

-- what the arguments become
arguments-typed-few : (s : Scope) (b : Before) (ps : List Order) (es : Expressions) (n : ℕ) → count es ≤ n →
    typed_arguments s b (take n ps) es ≡ typed_arguments s b ps es
arguments-typed-few s b ps no_expressions n few = refl
arguments-typed-few s b ps (and_expression es e) n few =
    both-same argument_behind (arguments-typed-few s b ps es n (omega (arith, few)))
    (ap (λ o. argument_for o (typed s (after_all b es) e)) (few-parameter ps n (count es) (omega (arith, few))))

same-test : (k : ℕ) (ps : List Order) → (k == length (take (k + 1) ps)) ≡ (k == length ps)
same-test k ps = let taken = length-take (k + 1) ps in grind (arith, nat_tests)

pub call-few : (s : Scope) (b : Before) (ps : List Order) (es : Expressions) →
    as_many (count es) (take (count es + 1) ps) (typed_arguments s b (take (count es + 1) ps) es) ≡ as_many (count es) ps (typed_arguments s b ps es)
call-few s b ps es =
    ap (λ given. as_many (count es) (take (count es + 1) ps) given) (arguments-typed-few s b ps es (count es + 1) (omega arith))
    ∙ ap (λ test. if test then typed_arguments s b ps es else None) (same-test (count es) ps)

-- arguments without parameters become nothing

both-none : {A B C : Type 0} (make : A → B → C) (a : Option A) → both make a None ≡ None
both-none make None = refl
both-none make (Some a) = refl

many-none : (s : Scope) (b : Before) (ps : List Order) (es : Expressions) → length ps < count es → typed_arguments s b ps es ≡ None
many-none s b ps no_expressions many = absurd (omega (arith, many))
many-none s b ps (and_expression es e) many =
    ap (λ o. both argument_behind (typed_arguments s b ps es) (argument_for o (typed s (after_all b es) e))) (slice_get_past ps (count es) (omega (arith, many)))
    ∙ both-none argument_behind (typed_arguments s b ps es)

chosen : {A : Type 0} (b : Bool) (a : Option A) → (b ≡ false → a ≡ None) → a ≡ (if b then a else None)
chosen true a none = refl
chosen false a none = none refl

pub arguments-end : (s : Scope) (b : Before) (ps : List Order) (es : Expressions) → length ps ≤ count es →
    typed_arguments s b ps es ≡ as_many (count es) ps (typed_arguments s b ps es)
arguments-end s b ps es enough =
    chosen (count es == length ps) (typed_arguments s b ps es) (λ test. let many : length ps < count es = grind (arith, nat_tests) in many-none s b ps es many)

pub arguments-short : (k : ℕ) (ps : List Order) (given : Option Arguments) → k < length ps → None ≡ as_many k ps given
arguments-short k ps given short =
    let test : (k == length ps) ≡ false = grind (arith, nat_tests) in
    ap (λ b. if b then given else None) (sym test)
