-- Where the variables of one rising list stand among those of another, and of which list a variable of a merge is.
use Rattle.std.proofs.Common.{◌≡◌, ℕ, zero, suc, ◌<◌, ◌≤◌, nat_lt, nat_eq, ◌⊎◌, inl, inr, ⊎_elim, Bool, true, false, if◌then◌else◌, List, [], ◌∷◌, ◌++◌, length, slice_get, slice_index, Some, refl, sym, ap, subst, ◌∙◌, arith}
use Rattle.std.specs.Option.{option_map}
use Rattle.std.proofs.lemmas.Bool.{cases_lt}
use Rattle.std.proofs.lemmas.Option.{none-some, same_Some, slice_get-map, slice_get_within, get_or_from_slice_get}
use Rattle.ms_arena.proofs.Lists.{slice_get-held}
use Rattle.ms_logic.specs.Assignment.{Env, Variable}
use Rattle.ms_logic.specs.Lists.{AreRising, IsAmong}
use Rattle.ms_dfa.specs.Narrow.{ReadsThrough}
use Rattle.ms_dfa_explore.specs.Tracks.{before, from, without_first, merged, place_of, places_among}
use Rattle.ms_dfa_explore.proofs.TracksLemmas.{above-first, among-above, place_of-among, place_of-behind}

-- a variable at a place is one of the list
pub among_at : (vs : List Variable) (place : ℕ) (v : Variable) → slice_get vs place ≡ Some v → IsAmong vs v
among_at [] place v held = absurd (none-some v held)
among_at (u ∷ vs) zero v held = inl (same_Some u v held)
among_at (u ∷ vs) (suc place) v held = inr (among_at vs place v held)

-- and each variable of a list stands at a place
pub held_among : (vs : List Variable) (v : Variable) → IsAmong vs v → (place : ℕ) × (slice_get vs place ≡ Some v)
held_among [] v among = absurd among
held_among (u ∷ vs) v among = ⊎_elim (λ same. (0, ap Some same)) (λ there. let held = held_among vs v there in (suc held.0, held.1)) among

-- in a rising list later variables have greater numbers
pub names_rise : (vs : List Variable) → AreRising vs → (one two : ℕ) (u v : Variable) → slice_get vs one ≡ Some u → slice_get vs two ≡ Some v → one < two → u.name < v.name
names_rise [] rising one two u v first second less = absurd (none-some u first)
names_rise (w ∷ vs) rising zero zero u v first second less = absurd (omega (arith, less))
names_rise (w ∷ vs) rising zero (suc two) u v first second less =
    subst (λ (x : Variable). x.name < v.name) (same_Some w u first) (among-above w vs v (above-first w vs rising) (among_at vs two v second))
names_rise (w ∷ vs) rising (suc one) zero u v first second less = absurd (omega (arith, less))
names_rise (w ∷ vs) rising (suc one) (suc two) u v first second less = names_rise vs rising.1 one two u v first second (omega (arith, less))

-- so a variable stands at one place
pub one_place : (vs : List Variable) → AreRising vs → (one two : ℕ) (v : Variable) → slice_get vs one ≡ Some v → slice_get vs two ≡ Some v → one ≡ two
one_place vs rising one two v first second = ⊎_elim
    (λ less. let names = names_rise vs rising one two v v first second less in absurd (omega (arith, names)))
    (λ least. ⊎_elim
    (λ more. let names = names_rise vs rising two one v v second first more in absurd (omega (arith, names)))
    (λ most. let same : one ≡ two = omega (arith, least, most) in same)
    (cases_lt two one))
    (cases_lt one two)

module _ (narrow wide : List Variable) (rising_n : AreRising narrow) (rising_w : AreRising wide) (among : (v : Variable) → IsAmong narrow v → IsAmong wide v) where
  -- the place that the map has for a variable is that of the variable
  pub place_at : (place : ℕ) (v : Variable) → slice_get narrow place ≡ Some v → slice_index (places_among narrow wide) place ≡ place_of v.name wide
  place_at place v held =
      get_or_from_slice_get (places_among narrow wide) place (place_of v.name wide) 0
      (slice_get-map (λ (u : Variable). place_of u.name wide) narrow place ∙ ap (option_map (λ (u : Variable). place_of u.name wide)) held)

  -- there it stands
  pub leads_to : (place : ℕ) (v : Variable) → slice_get narrow place ≡ Some v → slice_get wide (slice_index (places_among narrow wide) place) ≡ Some v
  leads_to place v held = ap (slice_get wide) (place_at place v held) ∙ place_of-among wide v rising_w (among v (among_at narrow place v held))

  -- the places rise
  pub places_rise : (one two : ℕ) → one < two → two < length narrow → slice_index (places_among narrow wide) one < slice_index (places_among narrow wide) two
  places_rise one two less below =
      let first = slice_get-held narrow one (omega (arith, less, below)) in
      let second = slice_get-held narrow two below in
      let names = names_rise narrow rising_n one two first.0 second.0 first.1 second.1 less in
      let behind = place_of-behind wide first.0 second.0.name rising_w (among first.0 (among_at narrow one first.0 first.1)) names in
      let one_at = place_at one first.0 first.1 in
      let two_at = place_at two second.0 second.1 in
      ⊎_elim
      (λ rises. rises)
      (λ falls.
      let same : slice_index (places_among narrow wide) one ≡ slice_index (places_among narrow wide) two = omega (arith, falls, behind, one_at, two_at) in
      let equal : first.0 ≡ second.0 = same_Some first.0 second.0 (sym (leads_to one first.0 first.1) ∙ ap (slice_get wide) same ∙ leads_to two second.0 second.1) in
      let equal_names : first.0.name ≡ second.0.name = ap (λ (v : Variable). v.name) equal in
      absurd (omega (arith, names, equal_names)))
      (cases_lt (slice_index (places_among narrow wide) one) (slice_index (places_among narrow wide) two))

  -- so an assignment of the wide variables gives the narrow ones, read through the map, what it gives them anyway
  pub reads_through_places : (e : Env) → ReadsThrough (places_among narrow wide) narrow wide e e
  reads_through_places e = record { universe = refl; values = λ place v held. (v, leads_to place v held, refl, refl) }

-- a variable of two lists is one of the first or of the second
pub among_either : (xs ys : List Variable) (w : Variable) → IsAmong (xs ++ ys) w → IsAmong xs w ⊎ IsAmong ys w
among_either [] ys w among = inr among
among_either (x ∷ xs) ys w among = ⊎_elim (λ same. inl (inl same)) (λ there. ⊎_elim (λ first. inl (inr first)) (λ second. inr second) (among_either xs ys w there)) among

among_before : (name : ℕ) (vs : List Variable) (w : Variable) → IsAmong (before name vs) w → IsAmong vs w
among_before name [] w = λ among. among
among_before name (v ∷ vs) w =
    elim (nat_lt v.name name) as (λ test. IsAmong (if test then v ∷ before name vs else []) w → IsAmong (v ∷ vs) w) [
      | true ↦ ⊎_elim (λ same. inl same) (λ there. inr (among_before name vs w there))
      | false ↦ (λ never. absurd never)
    ]

among_from : (name : ℕ) (vs : List Variable) (w : Variable) → IsAmong (from name vs) w → IsAmong vs w
among_from name [] w = λ among. among
among_from name (v ∷ vs) w =
    elim (nat_lt v.name name) as (λ test. IsAmong (if test then from name vs else v ∷ vs) w → IsAmong (v ∷ vs) w) [
      | true ↦ (λ there. inr (among_from name vs w there))
      | false ↦ (λ there. there)
    ]

among_without : (name : ℕ) (vs : List Variable) (w : Variable) → IsAmong (without_first name vs) w → IsAmong vs w
among_without name [] w = λ among. among
among_without name (v ∷ vs) w =
    elim (nat_eq v.name name) as (λ test. IsAmong (if test then vs else v ∷ vs) w → IsAmong (v ∷ vs) w) [
      | true ↦ (λ there. inr there)
      | false ↦ (λ there. there)
    ]

-- a variable of a merge is one of the left list or one of the right
pub merged-either : (left right : List Variable) (w : Variable) → IsAmong (merged left right) w → IsAmong left w ⊎ IsAmong right w
merged-either [] right w among = inr among
merged-either (v ∷ vs) right w among =
    let rest = without_first v.name (from v.name right) in
    ⊎_elim
    (λ first. inr (among_before v.name right w first))
    (λ second. ⊎_elim
    (λ same. inl (inl same))
    (λ there. ⊎_elim
    (λ left. inl (inr left))
    (λ behind. inr (among_from v.name right w (among_without v.name (from v.name right) w behind)))
    (merged-either vs rest w there))
    second)
    (among_either (before v.name right) (v ∷ merged vs rest) w among)
