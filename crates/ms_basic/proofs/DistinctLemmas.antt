-- The distinct variables of a list are those of the list, and no more than it has.
use Rattle.std.proofs.Common.{◌≡◌, ℕ, zero, suc, ◌+◌, ◌<◌, ◌≤◌, nat_lt, nat_eq, ◌⊎◌, inl, inr, ⊎_elim, true, false, if◌then◌else◌, List, [], ◌∷◌, ◌++◌, length, slice_get, Some, refl, ap, subst, ◌∙◌, arith, length-append}
use Rattle.std.proofs.lemmas.Bool.{eq-eqb}
use Rattle.std.proofs.lemmas.Bool.Decides.{nat_tests}
use Rattle.std.proofs.lemmas.Option.{none-some, same_Some}
use Rattle.ms_logic.specs.declared.mode.Mode.{Mode}
use Rattle.ms_logic.specs.Assignment.{Env, Variable, GivesEach, IsAssignment, IsValueOf, value_at}
use Rattle.ms_logic.specs.Lists.{AreRising, IsAmong}
use Rattle.ms_logic.specs.Letters.{bound_at, bound_of}
use Rattle.ms_dfa_explore.specs.Tracks.{before, from, without_first, merged, gathered_with, distinct, place_of}
use Rattle.ms_dfa_explore.proofs.TracksLemmas.{AreAbove, merged-left, merged-right}
use Rattle.ms_basic.specs.Operands.{HaveOneOrder}

-- what is before a number, from it on or behind its variable is in the list
before-among : (name : ℕ) (vs : List Variable) (w : Variable) → IsAmong (before name vs) w → IsAmong vs w
before-among name [] w among = among
before-among name (v ∷ vs) w among =
    (elim (nat_lt v.name name) as (λ test. IsAmong (if test then v ∷ before name vs else []) w → IsAmong (v ∷ vs) w) [
      | true ↦ λ there. ⊎_elim inl (λ later. inr (before-among name vs w later)) there
      | false ↦ λ there. absurd there
    ]) among

from-among : (name : ℕ) (vs : List Variable) (w : Variable) → IsAmong (from name vs) w → IsAmong vs w
from-among name [] w among = among
from-among name (v ∷ vs) w among =
    (elim (nat_lt v.name name) as (λ test. IsAmong (if test then from name vs else v ∷ vs) w → IsAmong (v ∷ vs) w) [
      | true ↦ λ there. inr (from-among name vs w there)
      | false ↦ λ there. there
    ]) among

without-among : (name : ℕ) (vs : List Variable) (w : Variable) → IsAmong (without_first name vs) w → IsAmong vs w
without-among name [] w among = among
without-among name (v ∷ vs) w among =
    (elim (nat_eq v.name name) as (λ test. IsAmong (if test then vs else v ∷ vs) w → IsAmong (v ∷ vs) w) [ true ↦ λ there. inr there | false ↦ λ there. there ]) among

append-either : (xs ys : List Variable) (w : Variable) → IsAmong (xs ++ ys) w → IsAmong xs w ⊎ IsAmong ys w
append-either [] ys w among = inr among
append-either (x ∷ xs) ys w among =
    ⊎_elim (λ here. inl (inl here)) (λ there. ⊎_elim (λ left. inl (inr left)) (λ right. inr right) (append-either xs ys w there)) among

-- the merge has the variables of its lists alone
merged-either : (left right : List Variable) (w : Variable) → IsAmong (merged left right) w → IsAmong left w ⊎ IsAmong right w
merged-either [] right w among = inr among
merged-either (v ∷ vs) right w among =
    let rest = without_first v.name (from v.name right) in
    ⊎_elim (λ early. inr (before-among v.name right w early))
    (λ late. ⊎_elim (λ here. inl (inl here))
    (λ there. ⊎_elim (λ on_left. inl (inr on_left)) (λ on_right. inr (from-among v.name right w (without-among v.name (from v.name right) w on_right))) (merged-either vs rest w there)) late)
    (append-either (before v.name right) (v ∷ merged vs rest) w among)

gathered-either : (there vs : List Variable) (w : Variable) → IsAmong (gathered_with there vs) w → IsAmong there w ⊎ IsAmong vs w
gathered-either there [] w among = inl among
gathered-either there (v ∷ vs) w among =
    ⊎_elim
    (λ early. ⊎_elim (λ was. inl was) (λ new. inr (⊎_elim inl (λ never. absurd never) new)) (merged-either there (v ∷ []) w early))
    (λ later. inr (inr later))
    (gathered-either (merged there (v ∷ [])) vs w among)

pub distinct-among : (vs : List Variable) (w : Variable) → IsAmong (distinct vs) w → IsAmong vs w
distinct-among vs w among = ⊎_elim (λ never. absurd never) (λ there. there) (gathered-either [] vs w among)

-- and all of them, where variables of one number are of one order
gathered-there : (there vs : List Variable) (w : Variable) → IsAmong there w → IsAmong (gathered_with there vs) w
gathered-there there [] w among = among
gathered-there there (v ∷ vs) w among = gathered-there (merged there (v ∷ [])) vs w (merged-left there (v ∷ []) w among)

gathered-new : (there vs : List Variable) (w : Variable) → ((v : Variable) → IsAmong there v ⊎ IsAmong vs v → v.name ≡ w.name → v ≡ w) → IsAmong vs w
    → IsAmong (gathered_with there vs) w
gathered-new there [] w same among = absurd among
gathered-new there (v ∷ vs) w same among = ⊎_elim
    (λ here. gathered-there (merged there (v ∷ [])) vs w (merged-right there (v ∷ []) w (λ u was. same u (inl was)) (inl here)))
    (λ later. gathered-new (merged there (v ∷ [])) vs w (λ u either. same u (sorted u either)) later)
    among
  where
    sorted : (u : Variable) → IsAmong (merged there (v ∷ [])) u ⊎ IsAmong vs u → IsAmong there u ⊎ IsAmong (v ∷ vs) u
    sorted u (inl early) = ⊎_elim (λ was. inl was) (λ new. inr (⊎_elim inl (λ never. absurd never) new)) (merged-either there (v ∷ []) u early)
    sorted u (inr later) = inr (inr later)

pub among-distinct : (vs : List Variable) (w : Variable) → HaveOneOrder vs → IsAmong vs w → IsAmong (distinct vs) w
among-distinct vs w orders among = gathered-new [] vs w (λ v either same. orders v w (⊎_elim (λ never. absurd never) (λ there. there) either) among same) among

-- the parts of a list are no longer than it
length-parts : (name : ℕ) (vs : List Variable) → length (before name vs) + length (from name vs) ≤ length vs
length-parts name [] = omega arith
length-parts name (v ∷ vs) =
    let others = length-parts name vs in
    elim (nat_lt v.name name) as (λ test. length (if test then v ∷ before name vs else []) + length (if test then from name vs else v ∷ vs) ≤ length (v ∷ vs)) [
      | true ↦ omega (arith, others)
      | false ↦ omega arith
    ]

length-without : (name : ℕ) (vs : List Variable) → length (without_first name vs) ≤ length vs
length-without name [] = omega arith
length-without name (v ∷ vs) =
    elim (nat_eq v.name name) as (λ test. length (if test then vs else v ∷ vs) ≤ length (v ∷ vs)) [ true ↦ omega arith | false ↦ omega arith ]

length-merged : (left right : List Variable) → length (merged left right) ≤ length left + length right
length-merged [] right = omega arith
length-merged (v ∷ vs) right =
    let rest = without_first v.name (from v.name right) in
    omega (arith, length-append (before v.name right) (v ∷ merged vs rest), length-merged vs rest, length-without v.name (from v.name right), length-parts v.name right)

length-gathered : (there vs : List Variable) → length (gathered_with there vs) ≤ length there + length vs
length-gathered there [] = omega arith
length-gathered there (v ∷ vs) = omega (arith, length-gathered (merged there (v ∷ [])) vs, length-merged there (v ∷ []))

pub length-distinct : (vs : List Variable) → length (distinct vs) ≤ length vs
length-distinct vs = omega (arith, length-gathered [] vs)

-- a variable at a place is one of the list, and each of the list stands at a place
pub among-at : (vs : List Variable) (place : ℕ) (v : Variable) → slice_get vs place ≡ Some v → IsAmong vs v
among-at [] place v there = absurd (none-some v there)
among-at (first ∷ vs) zero v there = inl (same_Some first v there)
among-at (first ∷ vs) (suc place) v there = inr (among-at vs place v there)

pub at-among : (vs : List Variable) (v : Variable) → IsAmong vs v → (place : ℕ) × (slice_get vs place ≡ Some v)
at-among [] v among = absurd among
at-among (first ∷ vs) v among = ⊎_elim (λ here. (0, ap Some here)) (λ there. let found = at-among vs v there in (suc found.0, found.1)) among

-- in a rising list all are above the first
above-lower : (low name : ℕ) (vs : List Variable) → low < name → AreAbove name vs → AreAbove low vs
above-lower low name [] less above = tt
above-lower low name (v ∷ vs) less above = (omega (arith, less, above.0), above-lower low name vs less above.1)

above-first : (v : Variable) (vs : List Variable) → AreRising (v ∷ vs) → AreAbove v.name vs
above-first v [] rising = tt
above-first v (w ∷ vs) rising = (rising.0, above-lower v.name w.name vs rising.0 (above-first w vs rising.1))

-- the place of a variable of a rising list is sought where it stands
not_above : (name : ℕ) (vs : List Variable) (place : ℕ) (v : Variable) → AreAbove name vs → slice_get vs place ≡ Some v → name < v.name
not_above name [] place v above there = absurd (none-some v there)
not_above name (first ∷ vs) zero v above there = (let same : first.name ≡ v.name = ap (λ (u : Variable). u.name) (same_Some first v there) in omega (arith, above.0, same))
not_above name (first ∷ vs) (suc place) v above there = not_above name vs place v above.1 there

pub place_of-at : (vs : List Variable) (place : ℕ) (v : Variable) → AreRising vs → slice_get vs place ≡ Some v → place_of v.name vs ≡ place
place_of-at [] place v rising there = absurd (none-some v there)
place_of-at (first ∷ vs) zero v rising there =
    ap (λ test. if test then 0 else suc (place_of v.name vs)) (eq-eqb first.name v.name (ap (λ (u : Variable). u.name) (same_Some first v there)))
place_of-at (first ∷ vs) (suc place) v rising there =
    let less = not_above first.name vs place v (above-first first vs rising) there in
    let other : nat_eq first.name v.name ≡ false = grind (arith, nat_tests, less) in
    ap (λ test. if test then 0 else suc (place_of v.name vs)) other ∙ ap suc (place_of-at vs place v rising.1 there)

-- a list of some of the variables of an assignment
gives-at : (vs : List Variable) (e : Env) (v : Variable) → GivesEach vs e → IsAmong vs v → IsValueOf v.order e.universe (value_at v.order v.name e)
gives-at [] e v gives among = absurd among
gives-at (first ∷ vs) e v gives among =
    ⊎_elim (λ same. subst (λ (u : Variable). IsValueOf u.order e.universe (value_at u.order u.name e)) same gives.0) (λ there. gives-at vs e v gives.1 there) among

gives-all : (vs : List Variable) (e : Env) → ((v : Variable) → IsAmong vs v → IsValueOf v.order e.universe (value_at v.order v.name e)) → GivesEach vs e
gives-all [] e each = tt
gives-all (v ∷ vs) e each = (each v (inl refl), gives-all vs e (λ u there. each u (inr there)))

pub IsAssignment-some : (mode : Mode) (all some : List Variable) (e : Env) → ((v : Variable) → IsAmong some v → IsAmong all v) → IsAssignment mode all e → IsAssignment mode some e
IsAssignment-some mode all some e among assigned = record {
  universe = assigned.universe;
  values = gives-all some e (λ v there. gives-at all e v assigned.values (among v there));
}

bound-at : (vs : List Variable) (e : Env) (v : Variable) → IsAmong vs v → bound_at v.order v.name e ≤ bound_of vs e
bound-at [] e v among = absurd among
bound-at (first ∷ vs) e v among = ⊎_elim
    (λ same. let equal : bound_at first.order first.name e ≡ bound_at v.order v.name e = ap (λ (u : Variable). bound_at u.order u.name e) same in omega (arith, equal))
    (λ there. omega (arith, bound-at vs e v there)) among

bound-all : (vs : List Variable) (e : Env) (n : ℕ) → ((v : Variable) → IsAmong vs v → bound_at v.order v.name e ≤ n) → bound_of vs e ≤ n
bound-all [] e n each = omega arith
bound-all (v ∷ vs) e n each = omega (arith, each v (inl refl), bound-all vs e n (λ u there. each u (inr there)))

pub bound_of-some : (all some : List Variable) (e : Env) → ((v : Variable) → IsAmong some v → IsAmong all v) → bound_of some e ≤ bound_of all e
bound_of-some all some e among = bound-all some e (bound_of all e) (λ v there. bound-at all e v (among v there))
