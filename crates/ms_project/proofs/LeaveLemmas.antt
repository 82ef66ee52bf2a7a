-- The variables but one: they rise, and stand at the places that were counted.
use Rattle.std.proofs.Common.{◌≡◌, ◌≢◌, ℕ, zero, suc, ◌+◌, ◌<◌, ◌==◌, inl, inr, ⊎_elim, Bool, true, false, not, if◌then◌else◌, List, [], ◌∷◌, length, slice_get, slice_index, Some, refl, sym, ap, subst, ◌∙◌, arith}
use Rattle.std.proofs.lemmas.Bool.{cases_lt, eqb-false, ne_eqb}
use Rattle.std.proofs.lemmas.Option.{same_Some, none-some}
use Rattle.ms_arena.proofs.Lists.{slice_get-held}
use Rattle.ms_logic.specs.Assignment.{Variable}
use Rattle.ms_logic.specs.Lists.{AreRising, IsBelowFirst, IsAmong, without}
use Rattle.ms_dfa_explore.specs.Tracks.{place_of, places_among}
use Rattle.ms_dfa_explore.proofs.AmongLemmas.{leads_to, names_rise, one_place}
use Rattle.ms_dfa_explore.proofs.TracksLemmas.{AreAbove, above-first, place_of-among}
use Rattle.ms_project.specs.Paired.{places_left}
use Rattle.ms_project.specs.Subsets.{IsLeftOut}

first-above : (name : ℕ) (vs : List Variable) → AreAbove name vs → IsBelowFirst name vs
first-above name [] above = tt
first-above name (v ∷ vs) above = above.0

without-above : (low name : ℕ) (vs : List Variable) → AreAbove low vs → AreAbove low (without name vs)
without-above low name [] above = tt
without-above low name (v ∷ vs) above = by_test (v.name == name) (without-above low name vs above.1)
  where
    by_test : (test : Bool) → AreAbove low (without name vs) → AreAbove low (if not test then v ∷ without name vs else without name vs)
    by_test true more = more
    by_test false more = (above.0, more)

pub without-rising : (name : ℕ) (vs : List Variable) → AreRising vs → AreRising (without name vs)
without-rising name [] rising = tt
without-rising name (v ∷ vs) rising = by_test (v.name == name) (without-rising name vs rising.1) (without-above v.name name vs (above-first v vs rising))
  where
    by_test : (test : Bool) → AreRising (without name vs) → AreAbove v.name (without name vs) → AreRising (if not test then v ∷ without name vs else without name vs)
    by_test true more above = more
    by_test false more above = (first-above v.name (without name vs) above, more)

pub without-among : (name : ℕ) (vs : List Variable) (w : Variable) → IsAmong (without name vs) w → IsAmong vs w
without-among name [] w there = there
without-among name (v ∷ vs) w there = by_test (v.name == name) (without-among name vs w) there
  where
    by_test : (test : Bool) → (IsAmong (without name vs) w → IsAmong vs w) → IsAmong (if not test then v ∷ without name vs else without name vs) w → IsAmong (v ∷ vs) w
    by_test true more at = inr (more at)
    by_test false more at = ⊎_elim (λ same. inl same) (λ later. inr (more later)) at

pub without-names : (name : ℕ) (vs : List Variable) (place : ℕ) (w : Variable) → slice_get (without name vs) place ≡ Some w → w.name ≢ name
without-names name [] place w held = absurd (none-some w held)
without-names name (v ∷ vs) place w held = by_test (v.name == name) refl (without-names name vs) place held
  where
    by_test : (test : Bool) → (v.name == name) ≡ test → ((k : ℕ) (u : Variable) → slice_get (without name vs) k ≡ Some u → u.name ≢ name) → (k : ℕ)
        → slice_get (if not test then v ∷ without name vs else without name vs) k ≡ Some w → w.name ≢ name
    by_test true is more k at = more k w at
    by_test false is more zero at = λ same. eqb-false v.name name is (ap (λ (u : Variable). u.name) (same_Some v w at) ∙ same)
    by_test false is more (suc k) at = more k w at

-- a variable with another name stands at the counted place
pub record IsCounted (name place : ℕ) (vs : List Variable) (var : ℕ) (w : Variable) : Type 0 where
  pub own : ℕ
  pub counted : slice_index (places_left name place vs) var ≡ place + own
  pub there : slice_get (without name vs) own ≡ Some w

abbrev IsCountedBy : ℕ → ℕ → Variable → List Variable → ℕ → Variable → Bool → Type 0
IsCountedBy name place v vs var w test =
    (own : ℕ) × (slice_index (places_left name (if test then place else place + 1) vs) var ≡ place + own) × (slice_get (if not test then v ∷ without name vs else without name vs) own ≡ Some w)

pub counted_at : (name place : ℕ) (vs : List Variable) (var : ℕ) (w : Variable) → slice_get vs var ≡ Some w → w.name ≢ name → IsCounted name place vs var w
counted_at name place [] var w held other = absurd (none-some w held)
counted_at name place (v ∷ vs) zero w held other =
    let same : v ≡ w = same_Some v w held in
    let not_name : (v.name == name) ≡ false = ne_eqb v.name name (subst (λ (u : Variable). u.name ≢ name) (sym same) other) in
    record {
      own = 0;
      counted = omega arith;
      there = ap (λ test. slice_get (if not test then v ∷ without name vs else without name vs) 0) not_name ∙ held;
    }
counted_at name place (v ∷ vs) (suc var) w held other =
    let found = by_test (v.name == name) (counted_at name place vs var w held other) (counted_at name (place + 1) vs var w held other) in
    record { own = found.0; counted = found.1; there = found.2 }
  where
    by_test : (test : Bool) → IsCounted name place vs var w → IsCounted name (place + 1) vs var w
        → IsCountedBy name place v vs var w test
    by_test true same later = (same.own, same.counted, same.there)
    by_test false same later = (suc later.own, (let is = later.counted in is ∙ omega arith), later.there)

pub length-places_left : (name place : ℕ) (vs : List Variable) → length (places_left name place vs) ≡ length vs
length-places_left name place [] = refl
length-places_left name place (v ∷ vs) = ap suc (length-places_left name (if v.name == name then place else place + 1) vs)

-- variables with one name stand at one place
one_name : (vs : List Variable) → AreRising vs → (one two : ℕ) (u v : Variable) → slice_get vs one ≡ Some u → slice_get vs two ≡ Some v → u.name ≡ v.name → one ≡ two
one_name vs rising one two u v first second same = ⊎_elim
    (λ less. let names = names_rise vs rising one two u v first second less in absurd (omega (arith, names, same)))
    (λ least. ⊎_elim
    (λ more. let names = names_rise vs rising two one v u second first more in absurd (omega (arith, names, same)))
    (λ most. let equal : one ≡ two = omega (arith, least, most) in equal)
    (cases_lt two one))
    (cases_lt one two)

module _ (wide : List Variable) (rising : AreRising wide) (own : Variable) (there : IsAmong wide own) where
  abbrev pub rest : List Variable
  rest = without own.name wide

  abbrev pub bound : ℕ
  bound = place_of own.name wide

  pub own_there : slice_get wide bound ≡ Some own
  own_there = place_of-among wide own rising there

  rest_leads : (place : ℕ) (v : Variable) → slice_get rest place ≡ Some v → slice_get wide (slice_index (places_among rest wide) place) ≡ Some v
  rest_leads = leads_to rest wide (without-rising own.name wide rising) rising (without-among own.name wide)

  other_name : (var : ℕ) (w : Variable) → slice_get wide var ≡ Some w → var ≢ bound → w.name ≢ own.name
  other_name var w held other same = other (one_name wide rising var bound w own held own_there same)

  back_there : (var : ℕ) (w : Variable) → slice_get wide var ≡ Some w → var ≢ bound → slice_get rest (slice_index (places_left own.name 0 wide) var) ≡ Some w
  back_there var w held other =
      let is = counted_at own.name 0 wide var w held (other_name var w held other) in
      let same : slice_index (places_left own.name 0 wide) var ≡ is.own = is.counted ∙ omega arith in
      ap (slice_get rest) same ∙ is.there

  rest_apart : (place : ℕ) (v : Variable) → slice_get rest place ≡ Some v → slice_index (places_among rest wide) place ≢ bound
  rest_apart place v held same =
      without-names own.name wide place v held (ap (λ (u : Variable). u.name) (same_Some v own (sym (rest_leads place v held) ∙ ap (slice_get wide) same ∙ own_there)))

  pub IsLeftOut-rest : IsLeftOut wide rest bound (places_among rest wide) (places_left own.name 0 wide)
  IsLeftOut-rest = record {
    leads = rest_leads;
    apart = rest_apart;
    round = λ place v held.
        one_place rest (without-rising own.name wide rising) (slice_index (places_left own.name 0 wide) (slice_index (places_among rest wide) place)) place v
        (back_there (slice_index (places_among rest wide) place) v (rest_leads place v held) (rest_apart place v held)) held;
    stays = λ var w held other.
        let back = back_there var w held other in (
          back,
          one_place wide rising (slice_index (places_among rest wide) (slice_index (places_left own.name 0 wide) var)) var w (rest_leads (slice_index (places_left own.name 0 wide) var) w back) held,
        );
  }

  -- the counted places rise
  pub places_left-rise : (one two : ℕ) → one < two → two < length wide → one ≢ bound → two ≢ bound → slice_index (places_left own.name 0 wide) one < slice_index (places_left own.name 0 wide) two
  places_left-rise one two less within not_one not_two =
      let first = slice_get-held wide one (omega (arith, less, within)) in
      let second = slice_get-held wide two within in
      let first_back = back_there one first.0 first.1 not_one in
      let second_back = back_there two second.0 second.1 not_two in
      let names = names_rise wide rising one two first.0 second.0 first.1 second.1 less in
      let here = slice_index (places_left own.name 0 wide) one in
      let later = slice_index (places_left own.name 0 wide) two in
      ⊎_elim (λ is. is)
      (λ falls. ⊎_elim
      (λ more. let back = names_rise rest (without-rising own.name wide rising) later here second.0 first.0 second_back first_back more in absurd (omega (arith, names, back)))
      (λ most.
      let same : here ≡ later = omega (arith, falls, most) in
      let equal : first.0.name ≡ second.0.name = ap (λ (u : Variable). u.name) (same_Some first.0 second.0 (sym first_back ∙ ap (slice_get rest) same ∙ second_back)) in
      absurd (omega (arith, names, equal)))
      (cases_lt later here))
      (cases_lt here later)
