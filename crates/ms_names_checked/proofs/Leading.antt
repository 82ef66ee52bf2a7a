-- The variables to which readings lead, through the predicates of a source.
use Rattle.std.proofs.Common.{◌≡◌, ℕ, ◌<◌, ◌==◌, ◌⊎◌, inl, inr, ⊎_elim, Bool, true, false, if◌then◌else◌, List, [], ◌∷◌, ◌++◌, length, refl, arith}
use Rattle.std.specs.Prelude.{flat_map}
use Rattle.std.proofs.lemmas.Bool.Decides.{nat_tests}
use Rattle.ms_names_rules.specs.declared.meaning.Reading.{Reading}
use Rattle.ms_names_rules.specs.declared.meaning.Reading.TheVariants.{Variable, Predicate}
use Rattle.ms_names_rules.specs.inner.Free.{Readings}
use Rattle.ms_names_rules.specs.Occurrence.{Occurrence}
use Rattle.ms_names_rules.specs.Reads.{reads_predicate, reads_variable, readings_at, with_predicates}

-- P holds of some item
abbrev pub Any : {A : Type 0} → (A → Type 0) → List A → Type 0
Any P [] = ⊥
Any P (x ∷ xs) = P x ⊎ Any P xs

pub any-front : {A : Type 0} (P : A → Type 0) (xs ys : List A) → Any P xs → Any P (xs ++ ys)
any-front P [] ys h = absurd h
any-front P (x ∷ xs) ys h = ⊎_elim (λ here. inl here) (λ later. inr (any-front P xs ys later)) h

pub any-back : {A : Type 0} (P : A → Type 0) (xs ys : List A) → Any P ys → Any P (xs ++ ys)
any-back P [] ys h = h
any-back P (x ∷ xs) ys h = inr (any-back P xs ys h)

pub any-split : {A : Type 0} (P : A → Type 0) (xs ys : List A) → Any P (xs ++ ys) → Any P xs ⊎ Any P ys
any-split P [] ys h = inr h
any-split P (x ∷ xs) ys h = ⊎_elim (λ here. inl (inl here)) (λ later. ⊎_elim (λ front. inl (inr front)) (λ back. inr back) (any-split P xs ys later)) h

any-weaker : {A : Type 0} (P Q : A → Type 0) (xs : List A) → ((x : A) → P x → Q x) → Any P xs → Any Q xs
any-weaker P Q [] weaker h = absurd h
any-weaker P Q (x ∷ xs) weaker h = ⊎_elim (λ here. inl (weaker x here)) (λ later. inr (any-weaker P Q xs weaker later)) h

-- A reading leads to a variable: it reads the variable, or a predicate that does. Of what predicates read the last stands first.
abbrev pub LeadsTo : List Readings → ℕ → Reading → Type 0
LeadsTo [] x (Variable y) = x ≡ y
LeadsTo [] x (Predicate q) = ⊥
LeadsTo (last ∷ earlier) x (Variable y) = x ≡ y
LeadsTo (last ∷ earlier) x (Predicate q) = LeadsTo earlier x (Predicate q) ⊎ ((q ≡ length earlier) × Any (LeadsTo earlier x) last)

pub leads-variable : (R : List Readings) (x y : ℕ) → LeadsTo R x (Variable y) → x ≡ y
leads-variable [] x y h = h
leads-variable (last ∷ earlier) x y h = h

pub variable-leads : (R : List Readings) (x y : ℕ) → x ≡ y → LeadsTo R x (Variable y)
variable-leads [] x y h = h
variable-leads (last ∷ earlier) x y h = h

-- one more predicate leads where it led, if it is not the last
pub leads-later : (last : Readings) (R : List Readings) (x q : ℕ) → LeadsTo R x (Predicate q) → LeadsTo (last ∷ R) x (Predicate q)
leads-later last R x q h = inl h

pub leads-earlier : (last : Readings) (R : List Readings) (x q : ℕ) → q < length R → LeadsTo (last ∷ R) x (Predicate q) → LeadsTo R x (Predicate q)
leads-earlier last R x q below h = ⊎_elim (λ earlier. earlier) (λ here. let same = here.0 in absurd (omega (arith, same))) h

-- no reading leads through a predicate that is not there
leads-nowhere : (R : List Readings) (x q : ℕ) → (q < length R → ⊥) → LeadsTo R x (Predicate q) → ⊥
leads-nowhere [] x q none h = h
leads-nowhere (last ∷ earlier) x q none h =
    let less : q < length earlier → ⊥ = λ below. none (omega arith) in
    ⊎_elim (λ first. leads-nowhere earlier x q less first) (λ here. let same = here.0 in none (omega (arith, same))) h

pub leads-last : (last : Readings) (R : List Readings) (x : ℕ) → LeadsTo (last ∷ R) x (Predicate (length R)) → Any (LeadsTo R x) last
leads-last last R x h =
    let none : length R < length R → ⊥ = λ below. omega arith in
    ⊎_elim (λ earlier. absurd (leads-nowhere R x (length R) none earlier)) (λ here. here.1) h

-- a predicate is among readings
abbrev ReadsPredicate : ℕ → Readings → Type 0
ReadsPredicate p rs = Any (λ r. r ≡ Predicate p) rs

choose-true : (b c : Bool) → (if b then true else c) ≡ true → (b ≡ true) ⊎ (c ≡ true)
choose-true true c h = inl refl
choose-true false c h = inr h

true-first : (b c : Bool) → b ≡ true → (if b then true else c) ≡ true
true-first true c h = refl
true-first false c h = absurd (cc)

true-later : (b c : Bool) → c ≡ true → (if b then true else c) ≡ true
true-later true c h = refl
true-later false c h = h

same-number : (a b : ℕ) → (a == b) ≡ true → a ≡ b
same-number a b h = grind (arith, nat_tests)

number-same : (a b : ℕ) → a ≡ b → (a == b) ≡ true
number-same a b h = grind (arith, nat_tests)

predicate-there : (p : ℕ) (rs : Readings) → reads_predicate p rs ≡ true → ReadsPredicate p rs
predicate-there p [] h = absurd (cc)
predicate-there p (Variable x ∷ rs) h = inr (predicate-there p rs h)
predicate-there p (Predicate q ∷ rs) h =
    ⊎_elim (λ here. let same = same-number p q here in inl (cc)) (λ later. inr (predicate-there p rs later)) (choose-true (p == q) (reads_predicate p rs) h)

there-predicate : (p : ℕ) (rs : Readings) → ReadsPredicate p rs → reads_predicate p rs ≡ true
there-predicate p [] h = absurd h
there-predicate p (Variable x ∷ rs) h = ⊎_elim (λ here. absurd (cc)) (λ later. there-predicate p rs later) h
there-predicate p (Predicate q ∷ rs) h =
    ⊎_elim (λ here. let same : p ≡ q = cc in true-first (p == q) (reads_predicate p rs) (number-same p q same))
    (λ later. true-later (p == q) (reads_predicate p rs) (there-predicate p rs later)) h

variable-there : (x : ℕ) (rs : Readings) → reads_variable x rs ≡ true → Any (LeadsTo [] x) rs
variable-there x [] h = absurd (cc)
variable-there x (Variable y ∷ rs) h =
    ⊎_elim (λ here. inl (same-number x y here)) (λ later. inr (variable-there x rs later)) (choose-true (x == y) (reads_variable x rs) h)
variable-there x (Predicate q ∷ rs) h = inr (variable-there x rs h)

there-variable : (x : ℕ) (rs : Readings) → Any (LeadsTo [] x) rs → reads_variable x rs ≡ true
there-variable x [] h = absurd h
there-variable x (Variable y ∷ rs) h =
    ⊎_elim (λ here. true-first (x == y) (reads_variable x rs) (number-same x y here)) (λ later. true-later (x == y) (reads_variable x rs) (there-variable x rs later)) h
there-variable x (Predicate q ∷ rs) h = ⊎_elim (λ here. absurd here) (λ later. there-variable x rs later) h

-- readings lead where they lead through the earlier predicates, or where the last leads, if they read it
more-leads : (last : Readings) (earlier : List Readings) (x : ℕ) (r : Reading) → LeadsTo earlier x r → LeadsTo (last ∷ earlier) x r
more-leads last earlier x (Variable y) h = leads-variable earlier x y h
more-leads last earlier x (Predicate q) h = inl h

last-leads : (last : Readings) (earlier : List Readings) (x : ℕ) (rs : Readings) → ReadsPredicate (length earlier) rs → Any (LeadsTo earlier x) last →
    Any (LeadsTo (last ∷ earlier) x) rs
last-leads last earlier x [] reads h = absurd reads
last-leads last earlier x (Variable y ∷ rs) reads h = ⊎_elim (λ here. absurd (cc)) (λ later. inr (last-leads last earlier x rs later h)) reads
last-leads last earlier x (Predicate q ∷ rs) reads h =
    ⊎_elim (λ here. let same : q ≡ length earlier = cc in inl (inr (same, h))) (λ later. inr (last-leads last earlier x rs later h)) reads

leads-split : (last : Readings) (earlier : List Readings) (x : ℕ) (rs : Readings) → Any (LeadsTo (last ∷ earlier) x) rs →
    Any (LeadsTo earlier x) rs ⊎ (ReadsPredicate (length earlier) rs × Any (LeadsTo earlier x) last)
leads-split last earlier x [] h = absurd h
leads-split last earlier x (Variable y ∷ rs) h =
    ⊎_elim (λ here. inl (inl (variable-leads earlier x y here)))
    (λ later. ⊎_elim (λ front. inl (inr front)) (λ through. inr (inr through.0, through.1)) (leads-split last earlier x rs later)) h
leads-split last earlier x (Predicate q ∷ rs) h =
    ⊎_elim (λ here. ⊎_elim (λ front. inl (inl front)) (λ through. let same = through.0 in inr (inl (cc), through.1)) here)
    (λ later. ⊎_elim (λ front. inl (inr front)) (λ through. inr (inr through.0, through.1)) (leads-split last earlier x rs later)) h

read-through : (last : Readings) (earlier : List Readings) (x : ℕ) (rs : Readings) (b : Bool) →
    ((found : Readings) → reads_variable x (with_predicates earlier found) ≡ true → Any (LeadsTo earlier x) found) → reads_predicate (length earlier) rs ≡ b →
    reads_variable x (with_predicates earlier (if b then rs ++ last else rs)) ≡ true → Any (LeadsTo (last ∷ earlier) x) rs
read-through last earlier x rs true before test h =
    ⊎_elim (any-weaker (LeadsTo earlier x) (LeadsTo (last ∷ earlier) x) rs (more-leads last earlier x))
    (λ through. last-leads last earlier x rs (predicate-there (length earlier) rs test) through)
    (any-split (LeadsTo earlier x) rs last (before (rs ++ last) h))
read-through last earlier x rs false before test h =
    any-weaker (LeadsTo earlier x) (LeadsTo (last ∷ earlier) x) rs (more-leads last earlier x) (before rs h)

pub read-leads : (R : List Readings) (x : ℕ) (rs : Readings) → reads_variable x (with_predicates R rs) ≡ true → Any (LeadsTo R x) rs
read-leads [] x rs h = variable-there x rs h
read-leads (last ∷ earlier) x rs h = read-through last earlier x rs (reads_predicate (length earlier) rs) (λ found read. read-leads earlier x found read) refl h

leads-through : (last : Readings) (earlier : List Readings) (x : ℕ) (rs : Readings) (b : Bool) →
    ((found : Readings) → Any (LeadsTo earlier x) found → reads_variable x (with_predicates earlier found) ≡ true) → reads_predicate (length earlier) rs ≡ b →
    Any (LeadsTo (last ∷ earlier) x) rs → reads_variable x (with_predicates earlier (if b then rs ++ last else rs)) ≡ true
leads-through last earlier x rs true before test h =
    before (rs ++ last)
    (⊎_elim (any-front (LeadsTo earlier x) rs last) (λ through. any-back (LeadsTo earlier x) rs last through.1) (leads-split last earlier x rs h))
leads-through last earlier x rs false before test h =
    before rs
    (⊎_elim (λ front. front) (λ through. let reads = there-predicate (length earlier) rs through.0 in absurd (cc)) (leads-split last earlier x rs h))

pub leads-read : (R : List Readings) (x : ℕ) (rs : Readings) → Any (LeadsTo R x) rs → reads_variable x (with_predicates R rs) ≡ true
leads-read [] x rs h = there-variable x rs h
leads-read (last ∷ earlier) x rs h = leads-through last earlier x rs (reads_predicate (length earlier) rs) (λ found leads. leads-read earlier x found leads) refl h

-- the readings of some expressions lead to a variable
abbrev pub Reaches : List Readings → List Occurrence → ℕ → Type 0
Reaches R os x = Any (λ o. Any (LeadsTo R x) (readings_at o)) os

pub reaches-leads : (R : List Readings) (os : List Occurrence) (x : ℕ) → Reaches R os x → Any (LeadsTo R x) (flat_map readings_at os)
reaches-leads R [] x h = absurd h
reaches-leads R (o ∷ os) x h =
    ⊎_elim (any-front (LeadsTo R x) (readings_at o) (flat_map readings_at os))
    (λ later. any-back (LeadsTo R x) (readings_at o) (flat_map readings_at os) (reaches-leads R os x later)) h

pub leads-reach : (R : List Readings) (os : List Occurrence) (x : ℕ) → Any (LeadsTo R x) (flat_map readings_at os) → Reaches R os x
leads-reach R [] x h = absurd h
leads-reach R (o ∷ os) x h =
    ⊎_elim (λ here. inl here) (λ later. inr (leads-reach R os x later)) (any-split (LeadsTo R x) (readings_at o) (flat_map readings_at os) h)
