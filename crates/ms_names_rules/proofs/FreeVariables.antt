-- Readings, and the variables that are free.
use Rattle.std.proofs.Common.{◌≡◌, ℕ, ◌+◌, ◌<◌, Bool, true, false, if◌then◌else◌, ◌==◌, List, [], ◌∷◌, ◌++◌, append_assoc, length, get_or, take, reverse, refl, sym, ap, ◌∙◌, arith}
use Rattle.std.proofs.lemmas.List.{append-nil, take_more, reverse-append, length-reverse, length-take}
use Rattle.std.proofs.lemmas.Bool.Decides.{nat_tests}
use Rattle.ms_names_rules.specs.declared.meaning.Meaning.{Meaning}
use Rattle.ms_names_rules.specs.declared.meaning.Meaning.TheVariants as meaning
use Rattle.ms_names_rules.specs.declared.meaning.Reading.{Reading}
use Rattle.ms_names_rules.specs.declared.meaning.Reading.TheVariants.{Variable, Predicate}
use Rattle.ms_names_rules.specs.inner.Free.{Readings}
use Rattle.ms_names_rules.specs.Reads.{reads_predicate, reads_variable}
use Rattle.ms_names_rules.specs.Scope.{variables_among, Bytes}

pub flip : (a b : ℕ) (c : Bool) → (if a == b then true else c) ≡ (if b == a then true else c)
flip a b c = grind (arith, nat_tests)

swap : (a b : Bool) (c : Bool) → (if a then true else (if b then true else c)) ≡ (if b then true else (if a then true else c))
swap true true c = refl
swap true false c = refl
swap false true c = refl
swap false false c = refl

pub variable-more : (k x : ℕ) (rs : Readings) → (if k == x then true else reads_variable k rs) ≡ reads_variable k (rs ++ Variable x ∷ [])
variable-more k x [] = refl
variable-more k x (Variable y ∷ rs) = swap (k == x) (k == y) (reads_variable k rs) ∙ ap (λ b. if k == y then true else b) (variable-more k x rs)
variable-more k x (Predicate q ∷ rs) = variable-more k x rs

pub variable-same : (k p : ℕ) (rs : Readings) → reads_variable k rs ≡ reads_variable k (rs ++ Predicate p ∷ [])
variable-same k p [] = refl
variable-same k p (Variable y ∷ rs) = ap (λ b. if k == y then true else b) (variable-same k p rs)
variable-same k p (Predicate q ∷ rs) = variable-same k p rs

pub predicate-more : (k p : ℕ) (rs : Readings) → (if k == p then true else reads_predicate k rs) ≡ reads_predicate k (rs ++ Predicate p ∷ [])
predicate-more k p [] = refl
predicate-more k p (Variable y ∷ rs) = predicate-more k p rs
predicate-more k p (Predicate q ∷ rs) = swap (k == p) (k == q) (reads_predicate k rs) ∙ ap (λ b. if k == q then true else b) (predicate-more k p rs)

pub predicate-same : (k x : ℕ) (rs : Readings) → reads_predicate k rs ≡ reads_predicate k (rs ++ Variable x ∷ [])
predicate-same k x [] = refl
predicate-same k x (Variable y ∷ rs) = predicate-same k x rs
predicate-same k x (Predicate q ∷ rs) = ap (λ b. if k == q then true else b) (predicate-same k x rs)

-- one reading of a slice more
pub readings-next : (rs readings : Readings) (i : ℕ) (r : Reading) → i < length readings → r ≡ get_or readings i r →
    (rs ++ take i readings) ++ r ∷ [] ≡ rs ++ take (i + 1) readings
readings-next rs readings i r below is =
    append_assoc rs (take i readings) (r ∷ [])
    ∙ ap (λ more. rs ++ more) (ap (λ q. take i readings ++ q ∷ []) is ∙ sym (take_more readings i r below))

pub from-last : (predicates : List Readings) (i : ℕ) (p : Readings) → i < length predicates → p ≡ get_or predicates i p →
    reverse (take (i + 1) predicates) ≡ p ∷ reverse (take i predicates)
from-last predicates i p below is =
    ap reverse (take_more predicates i p below ∙ ap (λ q. take i predicates ++ q ∷ []) (sym is)) ∙ reverse-append (take i predicates) (p ∷ [])

pub length-earlier : (predicates : List Readings) (i : ℕ) → i < length predicates → length (reverse (take i predicates)) ≡ i
length-earlier predicates i below = let e = length-reverse (take i predicates) in let f = length-take i predicates in omega (arith, e, f)

-- the variables of one more entry

pub variables-behind : (n : Bytes) (m : Meaning) (outer : List (Bytes × Meaning)) →
    variables_among ((n, m) ∷ outer) ≡ variables_among outer ++ variables_among ((n, m) ∷ [])
variables-behind n (meaning.Variable x o) outer = refl
variables-behind n (meaning.Constant value) outer = sym (append-nil (variables_among outer))
variables-behind n (meaning.Predicate p parameters) outer = sym (append-nil (variables_among outer))
