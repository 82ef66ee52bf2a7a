-- Variables that stand at their own places, and where a map leads them.
use Rattle.std.proofs.Common.{◌≡◌, ℕ, zero, suc, ◌+◌, ◌<◌, nat_eq, inl, inr, ⊎_elim, false, if◌then◌else◌, List, [], ◌∷◌, ◌++◌, Contains, drop, get_or, length, map, slice_get, slice_index, Some, refl, sym, ap, subst, ◌∙◌, arith, add-one, append_assoc, drop-cons}
use Rattle.std.proofs.lemmas.Bool.{cases_Bool, eqb-true, eq-eqb}
use Rattle.std.proofs.lemmas.Option.{none-some, same_Some, slice_get_within, slice_get-map, slice_get-get_or}
use Rattle.std.specs.Option.{option_map}
use Rattle.std.proofs.lemmas.List.{length-map, map_push}
use Rattle.ms_dfa.specs.declared.track.Track.{Track}
use Rattle.ms_dfa.specs.Automaton.{variable_of, variables_of}
use Rattle.ms_dag.specs.Places.{AreAt}
use Rattle.ms_dag.specs.Values.{read_through}
use Rattle.ms_logic.specs.declared.mode.Mode.{Mode}
use Rattle.ms_logic.specs.declared.mode.Order.{Order}
use Rattle.ms_logic.specs.declared.mode.Order.TheVariants.{Zero, One, Two}
use Rattle.ms_logic.specs.declared.assignment.Value.TheVariants.{Truth, Number, Set}
use Rattle.ms_logic.specs.Assignment.{Env, Variable, GivesEach, IsAssignment, IsValueOf, value_at}
use Rattle.ms_logic_words.specs.Content.{variables_from, variables_by_place}
use Rattle.ms_dfa_explore.specs.Tracks.{place_of}
use Rattle.ms_logic.specs.Lists.{IsAmong}
use Rattle.ms_rename.specs.Renamed.{read_by, renamed}
use Rattle.ms_build.proofs.AgreementLemmas.{Agree, AgreeOn}

not_equal : (m n : ℕ) → (m ≡ n → ⊥) → nat_eq m n ≡ false
not_equal m n differ = ⊎_elim (λ same. absurd (differ (eqb-true m n same))) (λ is. is) (cases_Bool (nat_eq m n))

-- a variable by its place stands at it
pub place_of-by_place : (orders : List Order) (base place : ℕ) → place < length orders → place_of (base + place) (variables_from base orders) ≡ place
place_of-by_place [] base place within = absurd (omega (arith, within))
place_of-by_place (o ∷ orders) base zero within =
    ap (λ test. if test then 0 else suc (place_of (base + 0) (variables_from (base + 1) orders))) (eq-eqb base (base + 0) (omega arith))
place_of-by_place (o ∷ orders) base (suc place) within =
    ap (λ test. if test then 0 else suc (place_of (base + suc place) (variables_from (base + 1) orders))) (not_equal base (base + suc place) (λ same. omega (arith, same)))
    ∙ ap (λ n. suc (place_of n (variables_from (base + 1) orders))) (let moved : base + suc place ≡ (base + 1) + place = omega arith in moved)
    ∙ ap suc (place_of-by_place orders (base + 1) place (omega (arith, within)))

-- a variable among those by their places has its order there
pub order_at-by_place : (orders : List Order) (base : ℕ) (v : Variable) → IsAmong (variables_from base orders) v
    → (place : ℕ) × (v.name ≡ base + place) × (slice_get orders place ≡ Some v.order)
order_at-by_place [] base v among = absurd among
order_at-by_place (o ∷ orders) base v among = ⊎_elim
    (λ here. (0, (let name = ap (λ (w : Variable). w.name) here in omega (arith, name)), ap (λ (w : Variable). Some w.order) here))
    (λ there.
    let found = order_at-by_place orders (base + 1) v there in
    (suc found.0, (let name = found.1 in omega (arith, name)), found.2))
    among

-- and the other way round
pub among-by_place : (orders : List Order) (base place : ℕ) (o : Order) → slice_get orders place ≡ Some o → IsAmong (variables_from base orders) (record { name = base + place; order = o })
among-by_place [] base place o held = absurd (none-some o held)
among-by_place (first ∷ orders) base zero o held =
    inl (ap (λ (order : Order). record { name = base; order = order }) (same_Some first o held) ∙ ap (λ (n : ℕ). record { name = n; order = o }) (let same : base ≡ base + 0 = omega arith in same))
among-by_place (first ∷ orders) base (suc place) o held =
    inr (subst (λ n. IsAmong (variables_from (base + 1) orders) (record { name = n; order = o })) (let moved : (base + 1) + place ≡ base + suc place = omega arith in moved)
    (among-by_place orders (base + 1) place o held))

-- a variable with its order is one of those by their places
pub among-own : (orders : List Order) (v : Variable) → slice_get orders v.name ≡ Some v.order → IsAmong (variables_by_place orders) v
among-own orders v held =
    subst (λ n. IsAmong (variables_by_place orders) (record { name = n; order = v.order })) (let same : 0 + v.name ≡ v.name = omega arith in same) (among-by_place orders 0 v.name v.order held)

pub own-among : (orders : List Order) (v : Variable) → IsAmong (variables_by_place orders) v → slice_get orders v.name ≡ Some v.order
own-among orders v among =
    let found = order_at-by_place orders 0 v among in
    let own : v.name ≡ found.0 = let name = found.1 in omega (arith, name) in
    ap (slice_get orders) own ∙ found.2

-- what each variable is given
pub gives_among : (vs : List Variable) (e : Env) → GivesEach vs e → (v : Variable) → IsAmong vs v → IsValueOf v.order e.universe (value_at v.order v.name e)
gives_among [] e gives v among = absurd among
gives_among (w ∷ vs) e gives v among = ⊎_elim
    (λ here. subst (λ (u : Variable). IsValueOf u.order e.universe (value_at u.order u.name e)) here gives.0)
    (λ there. gives_among vs e gives.1 v there)
    among

pub gives_all : (vs : List Variable) (e : Env) → ((v : Variable) → IsAmong vs v → IsValueOf v.order e.universe (value_at v.order v.name e)) → GivesEach vs e
gives_all [] e each = tt
gives_all (v ∷ vs) e each = (each v (inl refl), gives_all vs e (λ w among. each w (inr among)))

-- an assignment of variables is one of some of them
pub IsAssignment-among : (mode : Mode) (few many : List Variable) (e : Env) → ((v : Variable) → IsAmong few v → IsAmong many v) → IsAssignment mode many e → IsAssignment mode few e
IsAssignment-among mode few many e among assigned = record {
  universe = assigned.universe;
  values = gives_all few e (λ v is. gives_among many e assigned.values v (among v is));
}

-- the head and the tail of equal lists
heads : {X : Type 0} (x y : X) (xs ys : List X) → x ∷ xs ≡ y ∷ ys → x ≡ y
heads x y xs ys same = same_Some x y (ap (λ list. slice_get list 0) same)

tails : {X : Type 0} (x y : X) (xs ys : List X) → x ∷ xs ≡ y ∷ ys → xs ≡ ys
tails x y xs ys same = ap (drop 1) same

-- a variable of a map stands among the items with its order
pub renamed-at_place : (orders : List Order) (places : List ℕ) (given : List Order) (base : ℕ) → AreAt orders places given → (w : Variable) → IsAmong (renamed places (variables_from base given)) w
    → slice_get orders w.name ≡ Some w.order
renamed-at_place orders [] given base at w among = absurd among
renamed-at_place orders (place ∷ places) [] base at w among = absurd among
renamed-at_place orders (place ∷ places) (o ∷ given) base at w among = ⊎_elim
    (λ here.
    ap (λ (v : Variable). slice_get orders v.name) (sym here) ∙ heads (slice_get orders place) (Some o) (map (slice_get orders) places) (map Some given) at
    ∙ ap (λ (v : Variable). Some v.order) here)
    (λ there. renamed-at_place orders places given (base + 1) (tails (slice_get orders place) (Some o) (map (slice_get orders) places) (map Some given) at) w there)
    among

-- the map is as long as the items
pub AreAt-length : {X : Type 0} (items : List X) (places : List ℕ) (given : List X) → AreAt items places given → length places ≡ length given
AreAt-length items places given at = sym (length-map places (slice_get items)) ∙ ap length at ∙ length-map given Some

pub length-by_place : (base : ℕ) (orders : List Order) → length (variables_from base orders) ≡ length orders
length-by_place base [] = refl
length-by_place base (o ∷ orders) = ap suc (length-by_place (base + 1) orders)

-- the value at a place of a map, read through it and by it
same_value : (o : Order) (places : List ℕ) (vs : List Variable) (e : Env) (x : ℕ) → place_of x vs ≡ x → value_at o x (read_through places e) ≡ value_at o x (read_by places vs e)
same_value Zero places vs e x at = ap (λ p. Truth (e.truth (slice_index places p))) (sym at)
same_value One places vs e x at = ap (λ p. Number (e.number (slice_index places p))) (sym at)
same_value Two places vs e x at = ap (λ p. Set (e.set (slice_index places p))) (sym at)

pub agree_each : (vs : List Variable) (e f : Env) → ((v : Variable) → IsAmong vs v → value_at v.order v.name f ≡ value_at v.order v.name e) → AgreeOn vs e f
agree_each [] e f each = tt
agree_each (v ∷ vs) e f each = (each v (inl refl), agree_each vs e f (λ w among. each w (inr among)))

module _ (places : List ℕ) (orders : List Order) (e : Env) where
  same_read : (v : Variable) → IsAmong (variables_by_place orders) v → value_at v.order v.name (read_through places e) ≡ value_at v.order v.name (read_by places (variables_by_place orders) e)
  same_read v among =
      let held = own-among orders v among in
      same_value v.order places (variables_by_place orders) e v.name
      (ap (λ n. place_of n (variables_by_place orders)) (let same : v.name ≡ 0 + v.name = omega arith in same) ∙ place_of-by_place orders 0 v.name (slice_get_within orders v.name v.order held))

  -- what the map reads is what the renaming reads
  pub Agree-read : Agree (variables_by_place orders) (read_by places (variables_by_place orders) e) (read_through places e)
  Agree-read = record {
    universe = refl;
    values = agree_each (variables_by_place orders) (read_by places (variables_by_place orders) e) (read_through places e) same_read;
  }

  pub Agree-by : Agree (variables_by_place orders) (read_through places e) (read_by places (variables_by_place orders) e)
  Agree-by = record {
    universe = refl;
    values = agree_each (variables_by_place orders) (read_through places e) (read_by places (variables_by_place orders) e) (λ v among. sym (same_read v among));
  }

-- the item at one place of a map
pub AreAt-one : {X : Type 0} (items : List X) (places : List ℕ) (given : List X) → AreAt items places given → (place j : ℕ) (x : X) → slice_get places place ≡ Some j → slice_get given place ≡ Some x
    → slice_get items j ≡ Some x
AreAt-one items places given at place j x held there =
    same_Some (slice_get items j) (Some x)
    (sym (ap (option_map (slice_get items)) held) ∙ sym (slice_get-map (slice_get items) places place) ∙ ap (λ list. slice_get list place) at ∙ slice_get-map Some given place ∙ ap (option_map Some) there)

-- where an item of a list stands
pub contains_place : (list : List ℕ) (j : ℕ) → Contains list j → (place : ℕ) × (slice_get list place ≡ Some j)
contains_place list j is = (is.0, slice_get-get_or list is.0 j is.1 ∙ ap Some is.2)

-- tracks of the first of these variables, and one more
pub first_tracks : (orders behind : List Order) (made : List Track) (i : ℕ) (default : Order) → i < length orders
    → variables_of made ++ variables_from i (drop i orders ++ behind) ≡ variables_by_place (orders ++ behind)
    → variables_of (made ++ record { variable = i; order = get_or orders i default } ∷ []) ++ variables_from (i + 1) (drop (i + 1) orders ++ behind) ≡ variables_by_place (orders ++ behind)
first_tracks orders behind made i default less were =
    let order = get_or orders i default in
    let rest = variables_from (i + 1) (drop (i + 1) orders ++ behind) in
    let next : drop i orders ≡ order ∷ drop (i + 1) orders = drop-cons orders i default less ∙ ap (λ n. order ∷ drop n orders) (sym (add-one i)) in
    ap (λ (vs : List Variable). vs ++ rest) (map_push variable_of made (record { variable = i; order = order }))
    ∙ append_assoc (variables_of made) (record { name = i; order = order } ∷ []) rest
    ∙ ap (λ (list : List Order). variables_of made ++ variables_from i (list ++ behind)) (sym next)
    ∙ were
