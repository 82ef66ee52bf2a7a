-- Variables by their places, rising variables with the same members, and assignments of some of them.
use Rattle.std.proofs.Common.{◌≡◌, ℕ, zero, suc, ◌+◌, ◌<◌, inl, inr, ⊎_elim, List, [], ◌∷◌, ◌++◌, length, slice_get, Some, refl, sym, ap, subst, ◌∙◌, arith}
use Rattle.std.proofs.lemmas.Bool.{cases_lt}
use Rattle.std.proofs.lemmas.Option.{none-some, same_Some}
use Rattle.ms_logic.specs.declared.mode.Mode.{Mode}
use Rattle.ms_logic.specs.declared.mode.Order.{Order}
use Rattle.ms_logic.specs.Assignment.{Env, Variable, GivesEach, IsAssignment, IsValueOf, value_at}
use Rattle.ms_logic_words.specs.Content.{variables_from}
use Rattle.ms_logic.specs.Lists.{AreRising, IsBelowFirst, IsAmong}
use Rattle.ms_dfa_explore.proofs.AmongLemmas.{held_among, names_rise}

below_first : (base : ℕ) (orders : List Order) (name : ℕ) → name < base → IsBelowFirst name (variables_from base orders)
below_first base [] name less = tt
below_first base (o ∷ orders) name less = less

-- variables by their places rise
pub rising-by_place : (base : ℕ) (orders : List Order) → AreRising (variables_from base orders)
rising-by_place base [] = tt
rising-by_place base (o ∷ orders) = (below_first (base + 1) orders base (omega arith), rising-by_place (base + 1) orders)

pub length-by_place : (base : ℕ) (orders : List Order) → length (variables_from base orders) ≡ length orders
length-by_place base [] = refl
length-by_place base (o ∷ orders) = ap suc (length-by_place (base + 1) orders)

-- one variable more
pub variables_from-push : (base : ℕ) (orders : List Order) (o : Order) → variables_from base (orders ++ o ∷ []) ≡ variables_from base orders ++ record { name = base + length orders; order = o } ∷ []
variables_from-push base [] o = let here : base ≡ base + 0 = omega arith in ap (λ (n : ℕ). record { name = n; order = o } ∷ []) here
variables_from-push base (first ∷ orders) o =
    let moved : (base + 1) + length orders ≡ base + suc (length orders) = omega arith in
    ap (λ vs. record { name = base; order = first } ∷ vs)
    (variables_from-push (base + 1) orders o ∙ ap (λ (n : ℕ). variables_from (base + 1) orders ++ record { name = n; order = o } ∷ []) moved)

-- the variable at a place has the place as its number
pub at-by_place : (base : ℕ) (orders : List Order) (place : ℕ) (o : Order) → slice_get orders place ≡ Some o → slice_get (variables_from base orders) place ≡ Some (record { name = base + place; order = o })
at-by_place base [] place o held = absurd (none-some o held)
at-by_place base (first ∷ orders) zero o held =
    let here : base ≡ base + 0 = omega arith in
    let same = same_Some first o held in
    ap (λ (order : Order). Some (record { name = base; order = order })) same ∙ ap (λ (n : ℕ). Some (record { name = n; order = o })) here
at-by_place base (first ∷ orders) (suc place) o held =
    let moved : (base + 1) + place ≡ base + suc place = omega arith in
    at-by_place (base + 1) orders place o held ∙ ap (λ (n : ℕ). Some (record { name = n; order = o })) moved

pub by_place-at : (base : ℕ) (orders : List Order) (place : ℕ) (v : Variable) → slice_get (variables_from base orders) place ≡ Some v → (v.name ≡ base + place) × (slice_get orders place ≡ Some v.order)
by_place-at base [] place v held = absurd (none-some v held)
by_place-at base (first ∷ orders) zero v held =
    let same = same_Some (record { name = base; order = first }) v held in
    let name : base ≡ v.name = ap (λ (w : Variable). w.name) same in
    (let own : v.name ≡ base + 0 = omega (arith, name) in own, ap (λ (w : Variable). Some w.order) same)
by_place-at base (first ∷ orders) (suc place) v held =
    let found = by_place-at (base + 1) orders place v held in
    let name = found.0 in
    (let own : v.name ≡ base + suc place = omega (arith, name) in own, found.1)

-- all that stands behind the first is above it
rising_above : (u : Variable) (vs : List Variable) → AreRising (u ∷ vs) → (v : Variable) → IsAmong vs v → u.name < v.name
rising_above u [] rising v among = absurd among
rising_above u (w ∷ vs) rising v among = ⊎_elim
    (λ here. subst (λ (x : Variable). u.name < x.name) here rising.0)
    (λ there. let first = rising.0 in let later = rising_above w vs rising.1 v there in omega (arith, first, later))
    among

-- rising lists with the same variables are equal
pub rising_equal : (vs ws : List Variable) → AreRising vs → AreRising ws → ((x : Variable) → IsAmong vs x → IsAmong ws x) → ((x : Variable) → IsAmong ws x → IsAmong vs x) → vs ≡ ws
rising_equal [] [] rising_v rising_w to from = refl
rising_equal [] (w ∷ ws) rising_v rising_w to from = absurd (from w (inl refl))
rising_equal (v ∷ vs) [] rising_v rising_w to from = absurd (to v (inl refl))
rising_equal (v ∷ vs) (w ∷ ws) rising_v rising_w to from =
    let same : v ≡ w = ⊎_elim (λ here. sym here)
    (λ there. ⊎_elim (λ here. here)
    (λ also. let above = rising_above w ws rising_w v there in let below = rising_above v vs rising_v w also in absurd (omega (arith, above, below)))
    (from w (inl refl)))
    (to v (inl refl)) in
    ap (λ (x : Variable). x ∷ vs) same
    ∙ ap (λ (xs : List Variable). w ∷ xs) (rising_equal vs ws rising_v.1 rising_w.1
    (λ x among. ⊎_elim (λ here. let above = rising_above v vs rising_v x among in let name = ap (λ (y : Variable). y.name) (same ∙ here) in absurd (omega (arith, above, name))) (λ there. there)
    (to x (inr among)))
    (λ x among. ⊎_elim (λ here. let above = rising_above w ws rising_w x among in let name = ap (λ (y : Variable). y.name) (sym same ∙ here) in absurd (omega (arith, above, name))) (λ there. there)
    (from x (inr among))))

-- in a rising list one number is that of one variable
pub one_named : (vs : List Variable) → AreRising vs → (v w : Variable) → IsAmong vs v → IsAmong vs w → v.name ≡ w.name → v ≡ w
one_named vs rising v w is also same =
    let first = held_among vs v is in
    let second = held_among vs w also in
    ⊎_elim
    (λ less. let names = names_rise vs rising first.0 second.0 v w first.1 second.1 less in absurd (omega (arith, names, same)))
    (λ least. ⊎_elim
    (λ more. let names = names_rise vs rising second.0 first.0 w v second.1 first.1 more in absurd (omega (arith, names, same)))
    (λ most.
    let at : first.0 ≡ second.0 = omega (arith, least, most) in
    same_Some v w (sym first.1 ∙ ap (slice_get vs) at ∙ second.1))
    (cases_lt second.0 first.0))
    (cases_lt first.0 second.0)

-- what each variable is given
pub gives_among : (vs : List Variable) (e : Env) → GivesEach vs e → (v : Variable) → IsAmong vs v → IsValueOf v.order e.universe (value_at v.order v.name e)
gives_among [] e gives v among = absurd among
gives_among (w ∷ vs) e gives v among = ⊎_elim
    (λ here. subst (λ (u : Variable). IsValueOf u.order e.universe (value_at u.order u.name e)) here gives.0)
    (λ there. gives_among vs e gives.1 v there)
    among

gives_all : (vs : List Variable) (e : Env) → ((v : Variable) → IsAmong vs v → IsValueOf v.order e.universe (value_at v.order v.name e)) → GivesEach vs e
gives_all [] e each = tt
gives_all (v ∷ vs) e each = (each v (inl refl), gives_all vs e (λ w among. each w (inr among)))

-- an assignment of variables is one of some of them
pub IsAssignment-among : (mode : Mode) (few many : List Variable) (e : Env) → ((v : Variable) → IsAmong few v → IsAmong many v) → IsAssignment mode many e → IsAssignment mode few e
IsAssignment-among mode few many e among assigned = record {
  universe = assigned.universe;
  values = gives_all few e (λ v is. gives_among many e assigned.values v (among v is));
}
