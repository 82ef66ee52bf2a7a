-- Finite lists of choices: what is among them, what is picked from them, and pairs and lists of them.
use Rattle.std.proofs.Common.{◌≡◌, ℕ, zero, ◌<◌, ◌≤◌, suc, ◌⊎◌, inl, inr, ⊎_elim, List, [], ◌∷◌, ◌++◌, length, map, slice_index_or, Contains, refl, sym, ◌∙◌, ap, subst, arith}
use Rattle.ms_logic_machines.specs.Machine.{IsTested}

abbrev pub Decided : Type 0 → Type 0
Decided P = P ⊎ (¬ P)

abbrev pub Among : {A : Type 0} → A → List A → Type 0
Among x [] = ⊥
Among x (y ∷ ys) = (y ≡ x) ⊎ Among x ys

pub among-or : {A : Type 0} → IsTested A → (x : A) (ys : List A) → Decided (Among x ys)
among-or test x [] = inr (λ never. never)
among-or test x (y ∷ ys) =
    ⊎_elim (λ same. inl (inl same)) (λ differs. ⊎_elim (λ later. inl (inr later)) (λ none. inr (λ some. ⊎_elim differs none some)) (among-or test x ys))
    (test y x)

pub among-left : {A : Type 0} (x : A) (ys zs : List A) → Among x ys → Among x (ys ++ zs)
among-left x [] zs among = absurd among
among-left x (y ∷ ys) zs among = ⊎_elim (λ same. inl same) (λ later. inr (among-left x ys zs later)) among

pub among-right : {A : Type 0} (x : A) (ys zs : List A) → Among x zs → Among x (ys ++ zs)
among-right x [] zs among = among
among-right x (y ∷ ys) zs among = inr (among-right x ys zs among)

pub among-map : {A B : Type 0} (f : A → B) (x : A) (ys : List A) → Among x ys → Among (f x) (map f ys)
among-map f x [] among = absurd among
among-map f x (y ∷ ys) among = ⊎_elim (λ same. inl (ap f same)) (λ later. inr (among-map f x ys later)) among

-- what stands at a place is among the items
pub among-at : {A : Type 0} (x : A) (xs : List A) → Contains xs x → Among x xs
among-at x xs found = at x xs found.0 found.1 found.2
  where
    at : {A : Type 0} (x : A) (xs : List A) (k : ℕ) → k < length xs → slice_index_or xs k x ≡ x → Among x xs
    at x [] k within is = absurd (omega (arith, within))
    at x (y ∷ ys) zero within is = inl is
    at x (y ∷ ys) (suc k) within is = inr (at x ys k (omega (arith, within)) is)

-- some choice has a property, or none has
pub some-or : {A : Type 0} (P : A → Type 0) → ((x : A) → Decided (P x)) → (xs : List A) → Decided ((x : A) × Among x xs × P x)
some-or P test [] = inr (λ found. found.1)
some-or {A} P test (y ∷ ys) =
    ⊎_elim (λ here. inl (y, inl refl, here))
    (λ fails. ⊎_elim (λ found. inl (found.0, inr found.1, found.2))
    (λ none. inr (λ found. ⊎_elim (λ same. fails (subst P (sym same) found.2)) (λ later. none (found.0, later, found.2)) found.1)) (some-or P test ys)) (test y)

-- those with a property
abbrev pub picked : {A : Type 0} (P : A → Type 0) → ((x : A) → Decided (P x)) → List A → List A
picked P test [] = []
picked P test (x ∷ xs) = ⊎_elim (λ _. x ∷ picked P test xs) (λ _. picked P test xs) (test x)

pub among-picked : {A : Type 0} (P : A → Type 0) (test : (x : A) → Decided (P x)) (y : A) (xs : List A) → Among y (picked P test xs) → P y × Among y xs
among-picked P test y [] among = absurd among
among-picked {A} P test y (x ∷ xs) among =
    (elim (test x) as (λ t. Among y (⊎_elim (λ _. x ∷ picked P test xs) (λ _. picked P test xs) t) → P y × Among y (x ∷ xs)) [
      | inl held ↦ λ among'. ⊎_elim (λ same. (subst P same held, inl same))
          (λ later. let found = among-picked P test y xs later in (found.0, inr found.1)) among'
      | inr fails ↦ λ among'. let found = among-picked P test y xs among' in (found.0, inr found.1)
    ]) among

pub picked-among : {A : Type 0} (P : A → Type 0) (test : (x : A) → Decided (P x)) (y : A) (xs : List A) → P y → Among y xs → Among y (picked P test xs)
picked-among P test y [] held among = absurd among
picked-among {A} P test y (x ∷ xs) held among =
    elim (test x) as (λ t. Among y (⊎_elim (λ _. x ∷ picked P test xs) (λ _. picked P test xs) t)) [
      | inl here ↦ ⊎_elim (λ same. inl same) (λ later. inr (picked-among P test y xs held later)) among
      | inr fails ↦ ⊎_elim (λ same. absurd (fails (subst P (sym same) held))) (λ later. picked-among P test y xs held later) among
    ]

-- all lists that leave some out
abbrev pub sublists : {A : Type 0} → List A → List (List A)
sublists [] = [] ∷ []
sublists (x ∷ xs) = map (λ ys. x ∷ ys) (sublists xs) ++ sublists xs

pub picked-sublist : {A : Type 0} (P : A → Type 0) (test : (x : A) → Decided (P x)) (xs : List A) → Among (picked P test xs) (sublists xs)
picked-sublist P test [] = inl refl
picked-sublist {A} P test (x ∷ xs) =
    elim (test x) as (λ t. Among (⊎_elim (λ _. x ∷ picked P test xs) (λ _. picked P test xs) t) (map (λ ys. x ∷ ys) (sublists xs) ++ sublists xs)) [
      | inl here ↦ among-left (x ∷ picked P test xs) (map (λ ys. x ∷ ys) (sublists xs)) (sublists xs) (among-map (λ (ys : List A). x ∷ ys) (picked P test xs) (sublists xs) (picked-sublist P test xs))
      | inr fails ↦ among-right (picked P test xs) (map (λ ys. x ∷ ys) (sublists xs)) (sublists xs) (picked-sublist P test xs)
    ]

pub lists-tested : {A : Type 0} → IsTested A → IsTested (List A)
lists-tested test [] [] = inl refl
lists-tested test [] (y ∷ ys) = inr (λ same. cc)
lists-tested test (x ∷ xs) [] = inr (λ same. cc)
lists-tested test (x ∷ xs) (y ∷ ys) =
    ⊎_elim (λ heads. ⊎_elim (λ tails. inl cc) (λ differ. inr (λ same. differ cc)) (lists-tested test xs ys)) (λ differ. inr (λ same. differ cc)) (test x y)

-- pairs

abbrev pub pairs : {A B : Type 0} → List A → List B → List (A × B)
pairs [] ys = []
pairs (x ∷ xs) ys = map (λ y. (x, y)) ys ++ pairs xs ys

pub among-pairs : {A B : Type 0} (x : A) (y : B) (xs : List A) (ys : List B) → Among x xs → Among y ys → Among (x, y) (pairs xs ys)
among-pairs x y [] ys one other = absurd one
among-pairs {A} {B} x y (z ∷ zs) ys one other =
    ⊎_elim (λ same. let P : A → Type 0 = λ w. Among (x, y) (map (λ t. (w, t)) ys ++ pairs zs ys) in
    subst P (sym same) (among-left (x, y) (map (λ t. (x, t)) ys) (pairs zs ys) (among-map (λ (t : B). (x, t)) y ys other)))
    (λ later. among-right (x, y) (map (λ t. (z, t)) ys) (pairs zs ys) (among-pairs x y zs ys later other)) one

append-among : {A : Type 0} (x : A) (ys zs : List A) → Among x (ys ++ zs) → Among x ys ⊎ Among x zs
append-among x [] zs among = inr among
append-among x (y ∷ ys) zs among = ⊎_elim (λ same. inl (inl same)) (λ later. ⊎_elim (λ one. inl (inr one)) (λ other. inr other) (append-among x ys zs later)) among

map-among : {A B : Type 0} (f : A → B) (y : B) (xs : List A) → Among y (map f xs) → (x : A) × Among x xs × (f x ≡ y)
map-among f y [] among = absurd among
map-among f y (x ∷ xs) among = ⊎_elim (λ same. (x, inl refl, same)) (λ later. let found = map-among f y xs later in (found.0, inr found.1, found.2)) among

pub pairs-among : {A B : Type 0} (p : A × B) (xs : List A) (ys : List B) → Among p (pairs xs ys) → Among p.0 xs × Among p.1 ys
pairs-among p [] ys among = absurd among
pairs-among {A} {B} p (x ∷ xs) ys among =
    ⊎_elim (λ here. let found = map-among (λ (y : B). (x, y)) p ys here in
    let P : B → Type 0 = λ y. Among y ys in (inl (ap (λ (q : A × B). q.0) found.2), subst P (ap (λ (q : A × B). q.1) found.2) found.1))
    (λ later. let found = pairs-among p xs ys later in (inr found.0, found.1)) (append-among p (map (λ y. (x, y)) ys) (pairs xs ys) among)

pub pairs-tested : {A B : Type 0} → IsTested A → IsTested B → IsTested (A × B)
pairs-tested {A} {B} one other p q =
    ⊎_elim (λ first. ⊎_elim (λ second. inl (ap (λ (a : A). (a, p.1)) first ∙ ap (λ (b : B). (q.0, b)) second))
    (λ differ. inr (λ same. differ (ap (λ (r : A × B). r.1) same))) (other p.1 q.1))
    (λ differ. inr (λ same. differ (ap (λ (r : A × B). r.0) same))) (one p.0 q.0)

-- without one choice

abbrev pub opposite : {P : Type 0} → Decided P → Decided (¬ P)
opposite (inl held) = inr (λ fails. fails held)
opposite (inr fails) = inl fails

abbrev pub without : {A : Type 0} → IsTested A → A → List A → List A
without test x ys = picked (λ y. ¬ (y ≡ x)) (λ y. opposite (test y x)) ys

pub shorter-without : {A : Type 0} (test : IsTested A) (x : A) (ys : List A) → Among x ys → length (without test x ys) < length ys
shorter-without test x [] among = absurd among
shorter-without {A} test x (y ∷ ys) among =
    elim (test y x) as (λ t. length (⊎_elim (λ _. y ∷ without test x ys) (λ _. without test x ys) (opposite t)) < suc (length ys)) [
      | inl same ↦ omega (arith, no-longer test x ys)
      | inr differs ↦ ⊎_elim (λ same. absurd (differs same)) (λ later. omega (arith, shorter-without test x ys later)) among
    ]
  where
    no-longer : (test : IsTested A) (x : A) (ys : List A) → length (without test x ys) ≤ length ys
    no-longer test x [] = omega arith
    no-longer test x (y ∷ ys) =
        elim (test y x) as (λ t. length (⊎_elim (λ _. y ∷ without test x ys) (λ _. without test x ys) (opposite t)) ≤ suc (length ys)) [
          | inl same ↦ omega (arith, no-longer test x ys)
          | inr differs ↦ omega (arith, no-longer test x ys)
        ]
