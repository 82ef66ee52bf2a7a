-- The goals among the formulas of a source, and what is found of them.
use Rattle.std.proofs.Common.{◌≡◌, ℕ, zero, suc, ◌+◌, ◌==◌, Bool, true, false, filter, if◌then◌else◌, List, [], ◌∷◌, ◌++◌, length, take, drop, slice_get, get_or, Option, Some, None, refl, sym, ap, subst, ◌∙◌, arith}
use Rattle.std.proofs.lemmas.Bool.Decides.{nat_tests}
use Rattle.std.specs.List.{AllZip}
use Rattle.std.specs.Option.{is_none, is_some}
use Rattle.std.proofs.lemmas.List.{append-nil, take-append-drop}
use Rattle.std.proofs.lemmas.List.Elements.{filter-append}
use Rattle.ms_build.proofs.ManyLemmas.{take_next}
use Rattle.ms_logic.specs.declared.checked.Placed.{Placed}
use Rattle.ms_app.specs.Decision.{asks_main}

abbrev pub declared_among : List Placed → List Placed
declared_among fs = filter (λ (f : Placed). is_none f.title) fs

abbrev pub goals_among : List Placed → List Placed
goals_among fs = filter (λ (f : Placed). is_some f.title) fs

-- a goal more, or a formula declaration

goal_alone : (p : Placed) (title : List ℕ) → p.title ≡ Some title → goals_among (p ∷ []) ≡ p ∷ []
goal_alone p title is = rw is refl

no_goal_alone : (p : Placed) → p.title ≡ None → goals_among (p ∷ []) ≡ []
no_goal_alone p is = rw is refl

next_among : (fs : List Placed) (i : ℕ) (p : Placed) → slice_get fs i ≡ Some p → goals_among (take (i + 1) fs) ≡ goals_among (take i fs) ++ goals_among (p ∷ [])
next_among fs i p at = ap goals_among (take_next fs i p at) ∙ filter-append (λ (f : Placed). is_some f.title) (take i fs) (p ∷ [])

pub goal_next : (fs : List Placed) (i : ℕ) (p : Placed) (title : List ℕ) → slice_get fs i ≡ Some p → p.title ≡ Some title
    → goals_among (take (i + 1) fs) ≡ goals_among (take i fs) ++ p ∷ []
goal_next fs i p title at is = next_among fs i p at ∙ ap (λ more. goals_among (take i fs) ++ more) (goal_alone p title is)

pub no_goal_next : (fs : List Placed) (i : ℕ) (p : Placed) → slice_get fs i ≡ Some p → p.title ≡ None → goals_among (take (i + 1) fs) ≡ goals_among (take i fs)
no_goal_next fs i p at is = next_among fs i p at ∙ (ap (λ more. goals_among (take i fs) ++ more) (no_goal_alone p is) ∙ append-nil (goals_among (take i fs)))

-- the place of an item behind a list
at_seam : {X : Type 0} (xs ys : List X) (x : X) → slice_get (xs ++ x ∷ ys) (length xs) ≡ Some x
at_seam [] ys x = refl
at_seam (z ∷ xs) ys x = at_seam xs ys x

joined : {X : Type 0} (front back : List X) (x : X) → (front ++ x ∷ []) ++ back ≡ front ++ x ∷ back
joined [] back x = refl
joined (z ∷ front) back x = ap (λ list. z ∷ list) (joined front back x)

split_at : {X : Type 0} (xs front back : List X) (x : X) → xs ≡ (front ++ x ∷ []) ++ back → slice_get xs (length front) ≡ Some x
split_at xs front back x is = ap (λ list. slice_get list (length front)) (is ∙ joined front back x) ∙ at_seam front back x

-- a goal stands among all goals behind those before it
pub goal_at : (fs : List Placed) (i : ℕ) (p : Placed) (title : List ℕ) → slice_get fs i ≡ Some p → p.title ≡ Some title
    → slice_get (goals_among fs) (length (goals_among (take i fs))) ≡ Some p
goal_at fs i p title at is =
    let all = ap goals_among (sym (take-append-drop (i + 1) fs)) ∙ filter-append (λ (f : Placed). is_some f.title) (take (i + 1) fs) (drop (i + 1) fs) in
    split_at (goals_among fs) (goals_among (take i fs)) (goals_among (drop (i + 1) fs)) p
    (all ∙ ap (λ front. front ++ goals_among (drop (i + 1) fs)) (goal_next fs i p title at is))

-- what is of two lists place by place is of what one reads at a place where the other has an item
pub element_at : {A B : Type 0} (R : A → B → Type 0) (xs : List A) (ys : List B) (k : ℕ) (x : A) (d : B) → AllZip R xs ys → slice_get xs k ≡ Some x → R x (get_or ys k d)
element_at R [] ys k x d all at = absurd (cc)
element_at R (z ∷ xs) [] k x d all at = absurd all
element_at R (z ∷ xs) (w ∷ ys) zero x d all at =
    let same : z ≡ x = cc in
    subst (λ v. R v w) same all.0
element_at R (z ∷ xs) (w ∷ ys) (suc k) x d all at = element_at R xs ys k x d all.1 at

pub zipped_long : {A B : Type 0} (R : A → B → Type 0) (xs : List A) (ys : List B) → AllZip R xs ys → length xs ≡ length ys
zipped_long R [] [] all = refl
zipped_long R [] (y ∷ ys) all = absurd all
zipped_long R (x ∷ xs) [] all = absurd all
zipped_long R (x ∷ xs) (y ∷ ys) all = ap suc (zipped_long R xs ys all.1)

-- whether the main question is asked

pub none_is : (title : Option (List ℕ)) → is_some title ≡ false → title ≡ None
none_is None is = refl
none_is (Some title) is = absurd (cc)

asked_by_one : (declared goals : List Placed) (p : Placed) → asks_main (declared ++ p ∷ []) goals ≡ true
asked_by_one [] goals p = refl
asked_by_one (first ∷ more) goals p = refl

asked_before : (front back goals : List Placed) (p : Placed) → asks_main ((front ++ p ∷ []) ++ back) goals ≡ true
asked_before [] back goals p = refl
asked_before (first ∷ front) back goals p = refl

declared_alone : (p : Placed) → p.title ≡ None → declared_among (p ∷ []) ≡ p ∷ []
declared_alone p is = rw is refl

-- a formula declaration asks it
pub asked_at : (fs : List Placed) (i : ℕ) (p : Placed) → slice_get fs i ≡ Some p → p.title ≡ None → true ≡ asks_main (declared_among fs) (goals_among fs)
asked_at fs i p at is =
    let test = λ (f : Placed). is_none f.title in
    let front = ap declared_among (take_next fs i p at) ∙ (filter-append test (take i fs) (p ∷ []) ∙ ap (λ more. declared_among (take i fs) ++ more) (declared_alone p is)) in
    let all = ap declared_among (sym (take-append-drop (i + 1) fs)) ∙ (filter-append test (take (i + 1) fs) (drop (i + 1) fs) ∙ ap (λ some. some ++ declared_among (drop (i + 1) fs)) front) in
    sym (ap (λ declared. asks_main declared (goals_among fs)) all ∙ asked_before (declared_among (take i fs)) (declared_among (drop (i + 1) fs)) (goals_among fs) p)

-- where there is none, it is asked where there is no formula at all
pub asked_without : (fs : List Placed) → declared_among fs ≡ [] → (b : Bool) → b ≡ (length fs == 0) → b ≡ asks_main (declared_among fs) (goals_among fs)
asked_without [] none b is = is
asked_without (p ∷ fs) none b is =
    let some : (length (p ∷ fs) == 0) ≡ false = grind (arith, nat_tests) in
    is ∙ some ∙ sym (ap (λ declared. asks_main declared (goals_among (p ∷ fs))) none ∙ titled p.title refl)
  where
    titled : (title : Option (List ℕ)) → p.title ≡ title → asks_main [] (goals_among (p ∷ fs)) ≡ false
    titled None same = absurd (let never : p ∷ declared_among fs ≡ [] = sym (rw same refl) ∙ none in cc)
    titled (Some title) same = rw same refl
