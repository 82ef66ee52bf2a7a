-- The merge of two rising lists of variables rises, and has the variables of both.
use Rattle.std.proofs.Common.{◌≡◌, ℕ, zero, suc, ◌+◌, ◌<◌, ◌≤◌, nat_lt, nat_eq, ◌⊎◌, inl, inr, ⊎_elim, Bool, true, false, if◌then◌else◌, List, [], ◌∷◌, ◌++◌, drop, slice_get, Some, refl, sym, ap, subst, ◌∙◌, arith}
use Rattle.std.proofs.lemmas.Bool.{eqb-true}
use Rattle.std.proofs.lemmas.Bool.Decides.{nat_tests}
use Rattle.ms_dfa.specs.declared.track.Track.{Track}
use Rattle.ms_dfa.specs.Automaton.{variable_of, variables_of}
use Rattle.ms_logic.specs.Assignment.{Variable}
use Rattle.ms_logic.specs.Lists.{AreRising, IsBelowFirst, IsAmong}
use Rattle.ms_dfa_explore.specs.Tracks.{before, from, without_first, merged, gathered_with, distinct, place_of}

-- each variable of the list has a number above this one, or below it
abbrev pub AreAbove : ℕ → List Variable → Type 0
AreAbove name [] = Unit {0}
AreAbove name (v ∷ vs) = (name < v.name) × AreAbove name vs

abbrev AreBelow : ℕ → List Variable → Type 0
AreBelow name [] = Unit {0}
AreBelow name (v ∷ vs) = (v.name < name) × AreBelow name vs

-- what is above a number is above a lower one
above-lower : (low name : ℕ) (vs : List Variable) → low ≤ name → AreAbove name vs → AreAbove low vs
above-lower low name [] less above = tt
above-lower low name (v ∷ vs) less above = (omega (arith, less, above.0), above-lower low name vs less above.1)

-- in a rising list all are above the first
pub above-first : (v : Variable) (vs : List Variable) → AreRising (v ∷ vs) → AreAbove v.name vs
above-first v [] rising = tt
above-first v (w ∷ vs) rising =
    let less : v.name < w.name = rising.0 in (less, above-lower v.name w.name vs (omega (arith, less)) (above-first w vs rising.1))

first-above : (name : ℕ) (vs : List Variable) → AreAbove name vs → IsBelowFirst name vs
first-above name [] above = tt
first-above name (v ∷ vs) above = above.0

-- the parts of a list at a number
before-below : (name : ℕ) (vs : List Variable) → AreBelow name (before name vs)
before-below name [] = tt
before-below name (v ∷ vs) = by_test (nat_lt v.name name) refl (before-below name vs)
  where
    by_test : (test : Bool) → nat_lt v.name name ≡ test → AreBelow name (before name vs) → AreBelow name (if test then v ∷ before name vs else [])
    by_test true is rest = (grind (arith, nat_tests, is), rest)
    by_test false is rest = tt

before-above : (low name : ℕ) (vs : List Variable) → AreAbove low vs → AreAbove low (before name vs)
before-above low name [] above = tt
before-above low name (v ∷ vs) above =
    elim (nat_lt v.name name) as (λ test. AreAbove low (if test then v ∷ before name vs else [])) [ true ↦ (above.0, before-above low name vs above.1) | false ↦ tt ]

before-rising : (name : ℕ) (vs : List Variable) → AreRising vs → AreRising (before name vs)
before-rising name [] rising = tt
before-rising name (v ∷ vs) rising =
    elim (nat_lt v.name name) as (λ test. AreRising (if test then v ∷ before name vs else [])) [
      | true ↦ (first-above v.name (before name vs) (before-above v.name name vs (above-first v vs rising)), before-rising name vs rising.1)
      | false ↦ tt
    ]

from-above : (low name : ℕ) (vs : List Variable) → AreAbove low vs → AreAbove low (from name vs)
from-above low name [] above = tt
from-above low name (v ∷ vs) above =
    elim (nat_lt v.name name) as (λ test. AreAbove low (if test then from name vs else v ∷ vs)) [ true ↦ from-above low name vs above.1 | false ↦ above ]

from-rising : (name : ℕ) (vs : List Variable) → AreRising vs → AreRising (from name vs)
from-rising name [] rising = tt
from-rising name (v ∷ vs) rising =
    elim (nat_lt v.name name) as (λ test. AreRising (if test then from name vs else v ∷ vs)) [ true ↦ from-rising name vs rising.1 | false ↦ rising ]

without-above : (low name : ℕ) (vs : List Variable) → AreAbove low vs → AreAbove low (without_first name vs)
without-above low name [] above = tt
without-above low name (v ∷ vs) above =
    elim (nat_eq v.name name) as (λ test. AreAbove low (if test then vs else v ∷ vs)) [ true ↦ above.1 | false ↦ above ]

without-rising : (name : ℕ) (vs : List Variable) → AreRising vs → AreRising (without_first name vs)
without-rising name [] rising = tt
without-rising name (v ∷ vs) rising =
    elim (nat_eq v.name name) as (λ test. AreRising (if test then vs else v ∷ vs)) [ true ↦ rising.1 | false ↦ rising ]

-- behind a number all are above it
rest-above : (name : ℕ) (vs : List Variable) → AreRising vs → AreAbove name (without_first name (from name vs))
rest-above name [] rising = tt
rest-above name (v ∷ vs) rising = by_test (nat_lt v.name name) refl (rest-above name vs rising.1)
  where
    at_first : (test : Bool) → nat_lt v.name name ≡ false → nat_eq v.name name ≡ test → AreAbove name (if test then vs else v ∷ vs)
    at_first true not_less is = subst (λ n. AreAbove n vs) (eqb-true v.name name is) (above-first v vs rising)
    at_first false not_less is =
        let less : name < v.name = grind (arith, nat_tests, not_less, is) in
        (less, above-lower name v.name vs (omega (arith, less)) (above-first v vs rising))

    by_test : (test : Bool) → nat_lt v.name name ≡ test → AreAbove name (without_first name (from name vs)) → AreAbove name (without_first name (if test then from name vs else v ∷ vs))
    by_test true is rest = rest
    by_test false is rest = at_first (nat_eq v.name name) is refl

append-above : (low : ℕ) (xs ys : List Variable) → AreAbove low xs → AreAbove low ys → AreAbove low (xs ++ ys)
append-above low [] ys above_x above_y = above_y
append-above low (x ∷ xs) ys above_x above_y = (above_x.0, append-above low xs ys above_x.1 above_y)

-- a list below a number before one that begins with it
append-rising : (xs : List Variable) (v : Variable) (ys : List Variable) → AreRising xs → AreBelow v.name xs → AreRising (v ∷ ys) → AreRising (xs ++ v ∷ ys)
append-rising [] v ys rising_x below rising = rising
append-rising (x ∷ []) v ys rising_x below rising = (below.0, rising)
append-rising (x ∷ y ∷ xs) v ys rising_x below rising = (rising_x.0, append-rising (y ∷ xs) v ys rising_x.1 below.1 rising)

merged-above : (low : ℕ) (left right : List Variable) → AreAbove low left → AreAbove low right → AreAbove low (merged left right)
merged-above low [] right above_l above_r = above_r
merged-above low (v ∷ vs) right above_l above_r =
    append-above low (before v.name right) (v ∷ merged vs (without_first v.name (from v.name right))) (before-above low v.name right above_r)
    (above_l.0, merged-above low vs (without_first v.name (from v.name right)) above_l.1 (without-above low v.name (from v.name right) (from-above low v.name right above_r)))

-- the merge rises
pub merged-rising : (left right : List Variable) → AreRising left → AreRising right → AreRising (merged left right)
merged-rising [] right rising_l rising_r = rising_r
merged-rising (v ∷ vs) right rising_l rising_r =
    let rest = without_first v.name (from v.name right) in
    append-rising (before v.name right) v (merged vs rest) (before-rising v.name right rising_r) (before-below v.name right) (
      first-above v.name (merged vs rest) (merged-above v.name vs rest (above-first v vs rising_l) (rest-above v.name right rising_r)),
      merged-rising vs rest rising_l.1 (without-rising v.name (from v.name right) (from-rising v.name right rising_r)),
    )

pub among-left : (xs ys : List Variable) (w : Variable) → IsAmong xs w → IsAmong (xs ++ ys) w
among-left [] ys w among = absurd among
among-left (x ∷ xs) ys w among = ⊎_elim inl (λ there. inr (among-left xs ys w there)) among

pub among-right : (xs ys : List Variable) (w : Variable) → IsAmong ys w → IsAmong (xs ++ ys) w
among-right [] ys w among = among
among-right (x ∷ xs) ys w among = inr (among-right xs ys w among)

-- a variable of a list is before a number, or from it on
among-split : (name : ℕ) (vs : List Variable) (w : Variable) → IsAmong vs w → IsAmong (before name vs) w ⊎ IsAmong (from name vs) w
among-split name [] w among = absurd among
among-split name (v ∷ vs) w among =
    elim (nat_lt v.name name) as (λ test. IsAmong (if test then v ∷ before name vs else []) w ⊎ IsAmong (if test then from name vs else v ∷ vs) w) [
      | true ↦ ⊎_elim (λ here. inl (inl here)) (λ there. ⊎_elim (λ b. inl (inr b)) (λ f. inr f) (among-split name vs w there)) among
      | false ↦ inr among
    ]

-- or it is the first with this number
among-rest : (name : ℕ) (vs : List Variable) (w : Variable) → IsAmong vs w → (w.name ≡ name) ⊎ IsAmong (without_first name vs) w
among-rest name [] w among = absurd among
among-rest name (v ∷ vs) w among = by_test (nat_eq v.name name) refl
  where
    by_test : (test : Bool) → nat_eq v.name name ≡ test → (w.name ≡ name) ⊎ IsAmong (if test then vs else v ∷ vs) w
    by_test true is = ⊎_elim (λ here. inl (ap (λ (u : Variable). u.name) (sym here) ∙ eqb-true v.name name is)) (λ there. inr there) among
    by_test false is = inr among

-- the variables of the left list are in the merge, and those of the right one, where equal numbers have equal orders
pub merged-left : (left right : List Variable) (w : Variable) → IsAmong left w → IsAmong (merged left right) w
merged-left [] right w among = absurd among
merged-left (v ∷ vs) right w among =
    among-right (before v.name right) (v ∷ merged vs (without_first v.name (from v.name right))) w
    (⊎_elim inl (λ there. inr (merged-left vs (without_first v.name (from v.name right)) w there)) among)

pub merged-right : (left right : List Variable) (w : Variable) → ((v : Variable) → IsAmong left v → v.name ≡ w.name → v ≡ w) → IsAmong right w → IsAmong (merged left right) w
merged-right [] right w same among = among
merged-right (v ∷ vs) right w same among =
    let rest = without_first v.name (from v.name right) in
    ⊎_elim (λ b. among-left (before v.name right) (v ∷ merged vs rest) w b)
    (λ f. among-right (before v.name right) (v ∷ merged vs rest) w (⊎_elim (λ is. inl (same v (inl refl) (sym is)))
    (λ r. inr (merged-right vs rest w (λ u there. same u (inr there)) r)) (among-rest v.name (from v.name right) w f)))
    (among-split v.name right w among)

-- the distinct variables of a list rise
gathered-rising : (there vs : List Variable) → AreRising there → AreRising (gathered_with there vs)
gathered-rising there [] rising = rising
gathered-rising there (v ∷ vs) rising = gathered-rising (merged there (v ∷ [])) vs (merged-rising there (v ∷ []) rising (tt, tt))

pub distinct-rising : (vs : List Variable) → AreRising (distinct vs)
distinct-rising vs = gathered-rising [] vs tt

-- at its place a variable of a rising list stands
pub place_of-among : (vs : List Variable) (v : Variable) → AreRising vs → IsAmong vs v → slice_get vs (place_of v.name vs) ≡ Some v
place_of-among [] v rising among = absurd among
place_of-among (first ∷ vs) v rising among = by_test (nat_eq first.name v.name) refl (λ there. place_of-among vs v rising.1 there) among
  where
    never_again : (us : List Variable) → AreAbove v.name us → IsAmong us v → ⊥
    never_again [] above there = there
    never_again (u ∷ us) above there = ⊎_elim (λ same. let equal : u.name ≡ v.name = ap (λ (w : Variable). w.name) same in omega (arith, above.0, equal)) (λ later. never_again us above.1 later) there

    by_test : (test : Bool) → nat_eq first.name v.name ≡ test → (IsAmong vs v → slice_get vs (place_of v.name vs) ≡ Some v) → (first ≡ v) ⊎ IsAmong vs v
        → slice_get (first ∷ vs) (if test then 0 else suc (place_of v.name vs)) ≡ Some v
    by_test true is rest (inl here) = ap Some here
    by_test true is rest (inr there) =
        absurd (never_again vs (subst (λ n. AreAbove n vs) (eqb-true first.name v.name is) (above-first first vs rising)) there)
    by_test false is rest (inl here) = (let equal : first.name ≡ v.name = ap (λ (w : Variable). w.name) here in absurd (differs equal))
      where
        differs : first.name ≡ v.name → ⊥
        differs equal = grind (arith, nat_tests, is, equal)
    by_test false is rest (inr there) = rest there

-- a variable of a rising list is above the first, or is the first
pub among-above : (first : Variable) (vs : List Variable) (v : Variable) → AreAbove first.name vs → IsAmong vs v → first.name < v.name
among-above first [] v above among = absurd among
among-above first (u ∷ vs) v above among =
    ⊎_elim (λ same. let equal : u.name ≡ v.name = ap (λ (w : Variable). w.name) same in omega (arith, above.0, equal)) (λ there. among-above first vs v above.1 there) among

-- a number above that of a variable of a rising list is sought behind that variable
pub place_of-behind : (vs : List Variable) (u : Variable) (name : ℕ) → AreRising vs → IsAmong vs u → u.name < name
    → place_of name vs ≡ place_of u.name vs + place_of name (drop (place_of u.name vs) vs)
place_of-behind [] u name rising among less = absurd among
place_of-behind (first ∷ vs) u name rising among less = by_test (nat_eq first.name u.name) refl (λ there. place_of-behind vs u name rising.1 there less) among
  where
    later : IsAmong vs u → nat_eq first.name name ≡ false
    later there = (let below = among-above first vs u (above-first first vs rising) there in grind (arith, nat_tests, below, less))

    by_test : (test : Bool) → nat_eq first.name u.name ≡ test → (IsAmong vs u → place_of name vs ≡ place_of u.name vs + place_of name (drop (place_of u.name vs) vs)) → (first ≡ u) ⊎ IsAmong vs u
        → place_of name (first ∷ vs) ≡ (if test then 0 else suc (place_of u.name vs)) + place_of name (drop (if test then 0 else suc (place_of u.name vs)) (first ∷ vs))
    by_test true is rest among = (let same : place_of name (first ∷ vs) ≡ 0 + place_of name (first ∷ vs) = omega arith in same)
    by_test false is rest (inl here) =
        (let equal : first.name ≡ u.name = ap (λ (w : Variable). w.name) here in let never : ⊥ = grind (arith, nat_tests, is, equal) in absurd never)
    by_test false is rest (inr there) =
        ap (λ test. if test then 0 else suc (place_of name vs)) (later there)
        ∙ (let counted = rest there in let same : suc (place_of name vs) ≡ suc (place_of u.name vs) + place_of name (drop (place_of u.name vs) vs) = omega (arith, counted) in same)

-- the variables of a list that rises are above those before them
pub drop-above : (tracks : List Track) (i : ℕ) (track : Track) (more : List Track) → drop i tracks ≡ track ∷ more → AreRising (variables_of tracks) → AreAbove track.variable (variables_of more)
drop-above [] zero track more is rising = let never : ⊥ = cc in absurd never
drop-above [] (suc i) track more is rising = let never : ⊥ = cc in absurd never
drop-above (first ∷ tracks) zero track more is rising =
    let same_first : first ≡ track = cc in
    let same_rest : tracks ≡ more = cc in
    subst (λ (t : Track). AreAbove t.variable (variables_of more)) same_first (subst (λ (ts : List Track). AreAbove first.variable (variables_of ts)) same_rest (above-first (variable_of first) (variables_of tracks) rising))
drop-above (first ∷ tracks) (suc i) track more is rising = drop-above tracks i track more is rising.1

-- and are all among them
pub drop-among : (tracks : List Track) (i : ℕ) (v : Variable) → IsAmong (variables_of (drop i tracks)) v → IsAmong (variables_of tracks) v
drop-among tracks zero v among = among
drop-among [] (suc i) v among = absurd among
drop-among (first ∷ tracks) (suc i) v among = inr (drop-among tracks i v among)

-- what is sought behind the variable that was found last
pub next_place : (narrow wide : List Track) (i found : ℕ) (track : Track) (more : List Track) → AreRising (variables_of narrow) → AreRising (variables_of wide)
    → ((v : Variable) → IsAmong (variables_of narrow) v → IsAmong (variables_of wide) v) → drop i narrow ≡ track ∷ more → place_of track.variable (variables_of wide) ≡ found
    → (v : Variable) → IsAmong (variables_of more) v → place_of v.name (variables_of wide) ≡ found + place_of v.name (variables_of (drop found wide))
next_place narrow wide i found track more rising_n rising_w among is at v there =
    let here : IsAmong (variables_of (drop i narrow)) (variable_of track) = subst (λ (ts : List Track). IsAmong (variables_of ts) (variable_of track)) (sym is) (inl refl) in
    let held = among (variable_of track) (drop-among narrow i (variable_of track) here) in
    let less = among-above (variable_of track) (variables_of more) v (drop-above narrow i track more is rising_n) there in
    place_of-behind (variables_of wide) (variable_of track) v.name rising_w held less
    ∙ ap (λ n. n + place_of v.name (drop n (variables_of wide))) at
    ∙ ap (λ (vs : List Variable). found + place_of v.name vs) (sym (drop-variables wide found))
  where
    drop-variables : (tracks : List Track) (n : ℕ) → variables_of (drop n tracks) ≡ drop n (variables_of tracks)
    drop-variables tracks zero = refl
    drop-variables [] (suc n) = refl
    drop-variables (first ∷ tracks) (suc n) = drop-variables tracks n
