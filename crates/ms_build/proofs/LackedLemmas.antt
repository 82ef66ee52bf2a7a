-- The tracks that an automaton lacks, one wanted variable after the other.
use Rattle.std.proofs.Common.{◌≡◌, ◌≢◌, ℕ, zero, suc, ◌+◌, ◌<◌, ◌≤◌, inl, inr, ⊎_elim, IsFalse, IsTrue, nat_eq, List, [], ◌∷◌, ◌++◌, Some, take, slice_get, get_or, length, refl, sym, subst, ap, ◌∙◌, arith}
use Rattle.std.proofs.lemmas.List.{length-map, map_push}
use Rattle.std.proofs.lemmas.Bool.{cases_lt, eqb-false, eqb-true}
use Rattle.std.proofs.lemmas.Option.{none-some, same_Some, slice_get_within}
use Rattle.ms_dfa.specs.declared.track.Track.{Track}
use Rattle.ms_dfa.specs.Automaton.{variable_of, variables_of}
use Rattle.ms_dfa_explore.proofs.AmongLemmas.{among_at, among_either}
use Rattle.ms_dfa_explore.proofs.TracksLemmas.{among-left, among-right}
use Rattle.ms_logic.specs.declared.mode.Order.{Order}
use Rattle.ms_logic.specs.declared.mode.Order.TheVariants.{Zero, One, Two}
use Rattle.ms_logic.specs.Assignment.{Variable}
use Rattle.ms_logic.specs.Lists.{AreRising, IsAmong}
use Rattle.ms_build.specs.declared.lacked.Lacked.{Lacked}
use Rattle.ms_build.specs.inner.Lacked.{AreBelow, HasNumber, IsLacked, IsNotBelow, with_track, with_track_of}
use Rattle.ms_build.proofs.VariableLemmas.{rising-more, taken-next, taken_below, variable_at_place}
use Rattle.ms_build.proofs.WholeLemmas.{rising_above}

-- a track at a place has its number there
pub HasNumber-at : (tracks : List Track) (place name : ℕ) (default : Track) → place < length tracks → IsTrue (nat_eq (get_or tracks place default).variable name) → HasNumber (variables_of tracks) name
HasNumber-at tracks place name default less equal =
    let v = variable_of (get_or tracks place default) in
    (v, among_at (variables_of tracks) place v (variable_at_place tracks place default less), eqb-true v.name name equal)

-- where the first variable that is not below a number is above it, none has that number
pub HasNumber-not : (vs : List Variable) (place name : ℕ) → AreRising vs → AreBelow vs place name → ((v : Variable) → slice_get vs place ≡ Some v → name < v.name) → ¬ HasNumber vs name
HasNumber-not [] place name rising below above (v, never, same) = absurd never
HasNumber-not (w ∷ vs) zero name rising below above (v, there, same) =
    let first = above w refl in
    ⊎_elim
    (λ here. let equal : w.name ≡ name = ap (λ (u : Variable). u.name) here ∙ same in omega (arith, first, equal))
    (λ later. let over = rising_above w vs rising v later in omega (arith, first, over, same))
    there
HasNumber-not (w ∷ vs) (suc place) name rising below above (v, there, same) = ⊎_elim
    (λ here. let equal : w.name ≡ name = ap (λ (u : Variable). u.name) here ∙ same in let under = below w (inl refl) in omega (arith, under, equal))
    (λ later. HasNumber-not vs place name rising.1 (λ u some. below u (inr some)) above (v, later, same))
    there

-- what stands before a place and one place further
pub AreBelow-more : (vs : List Variable) (place name : ℕ) (v : Variable) → slice_get vs place ≡ Some v → v.name < name → AreBelow vs place name → AreBelow vs (place + 1) name
AreBelow-more vs place name v held less below u there = ⊎_elim
    (λ some. below u some)
    (λ last. ⊎_elim (λ here. subst (λ (w : Variable). w.name < name) here less) (λ never. absurd never) last)
    (among_either (take place vs) (v ∷ []) u (subst (λ ws. IsAmong ws u) (taken-next vs place v held) there))

-- the variables before the next place, where the one at the place is lower
pub AreBelow-next : (tracks : List Track) (place name : ℕ) (default : Track) → place < length tracks → (get_or tracks place default).variable < name → AreBelow (variables_of tracks) place name
    → AreBelow (variables_of tracks) (place + 1) name
AreBelow-next tracks place name default less lower below =
    AreBelow-more (variables_of tracks) place name (variable_of (get_or tracks place default)) (variable_at_place tracks place default less) lower below

-- the place at which one stands that is not lower, and a place behind all
pub IsNotBelow-there : (tracks : List Track) (place name : ℕ) (default : Track) → place < length tracks → name ≤ (get_or tracks place default).variable → IsNotBelow (variables_of tracks) place name
IsNotBelow-there tracks place name default less over v held =
    let same : variable_of (get_or tracks place default) ≡ v = same_Some _ _ (sym (variable_at_place tracks place default less) ∙ held) in
    subst (λ (u : Variable). name ≤ u.name) same over

pub IsNotBelow-past : (tracks : List Track) (place name : ℕ) → length tracks ≤ place → IsNotBelow (variables_of tracks) place name
IsNotBelow-past tracks place name past v held =
    let within = slice_get_within (variables_of tracks) place v held in
    let long = length-map tracks variable_of in
    omega (arith, past, within, long)

-- where another one stands at that place, or none, none has the number
pub HasNumber-other : (tracks : List Track) (place name : ℕ) (default : Track) → place < length tracks → IsFalse (nat_eq (get_or tracks place default).variable name) → AreRising (variables_of tracks)
    → AreBelow (variables_of tracks) place name → IsNotBelow (variables_of tracks) place name → ¬ HasNumber (variables_of tracks) name
HasNumber-other tracks place name default less other rising below over =
    HasNumber-not (variables_of tracks) place name rising below
    (λ v held.
    let least = over v held in
    let same : variable_of (get_or tracks place default) ≡ v = same_Some _ _ (sym (variable_at_place tracks place default less) ∙ held) in
    let differ : v.name ≢ name = subst (λ (u : Variable). u.name ≢ name) same (eqb-false (get_or tracks place default).variable name other) in
    above_if name v.name least differ)
  where
    above_if : (m n : ℕ) → m ≤ n → n ≢ m → m < n
    above_if m n most differ = ⊎_elim (λ less. less) (λ back. absurd (differ (omega (arith, most, back)))) (cases_lt m n)

pub HasNumber-past : (tracks : List Track) (place name : ℕ) → length tracks ≤ place → AreRising (variables_of tracks) → AreBelow (variables_of tracks) place name → ¬ HasNumber (variables_of tracks) name
HasNumber-past tracks place name past rising below =
    HasNumber-not (variables_of tracks) place name rising below (λ v held. absurd (let within = slice_get_within (variables_of tracks) place v held in let long = length-map tracks variable_of in omega (arith, past, within, long)))

-- what stands at a place stands before each later one, and is below what stands there
among-taken : (vs : List Variable) (i j : ℕ) (v : Variable) → slice_get vs i ≡ Some v → i < j → IsAmong (take j vs) v
among-taken [] i j v held less = absurd (none-some v held)
among-taken (w ∷ vs) zero zero v held less = absurd (omega (arith, less))
among-taken (w ∷ vs) zero (suc j) v held less = inl (same_Some w v held)
among-taken (w ∷ vs) (suc i) zero v held less = absurd (omega (arith, less))
among-taken (w ∷ vs) (suc i) (suc j) v held less = inr (among-taken vs i j v held (omega (arith, less)))

-- what is below a wanted variable is below each later one
abbrev pub AreBelowLater : List Variable → List Variable → ℕ → ℕ → Type 0
AreBelowLater own wanted place i = (j : ℕ) (w : Variable) → slice_get wanted j ≡ Some w → i ≤ j → AreBelow own place w.name

pub AreBelowLater-next : (own wanted : List Variable) (place i : ℕ) (v : Variable) → AreRising wanted → slice_get wanted i ≡ Some v → AreBelow own place v.name → AreBelowLater own wanted place (i + 1)
AreBelowLater-next own wanted place i v rising held below j w later past u there =
    let first = below u there in
    let second = taken_below wanted j w rising later v (among-taken wanted i j v held (omega (arith, past))) in
    omega (arith, first, second)

pub IsLacked-none : (own : List Variable) (lacked : Lacked) → lacked.free ≡ [] → lacked.numbers ≡ [] → IsLacked own [] lacked
IsLacked-none own lacked no_free no_numbers = record {
  rising = subst (λ (tracks : List Track). AreRising (variables_of tracks)) (sym no_free) tt;
  no_number = λ v there. absurd (subst (λ (tracks : List Track). IsAmong (variables_of tracks) v) no_free there);
  number = λ v there. absurd (subst (λ (tracks : List Track). IsAmong (variables_of tracks) v) no_numbers there);
  free = λ v there. absurd (subst (λ (tracks : List Track). IsAmong (variables_of tracks) v) no_free there);
  numbers = λ v there. absurd (subst (λ (tracks : List Track). IsAmong (variables_of tracks) v) no_numbers there);
  all = λ v is. absurd is;
  free_lacks = λ v there. absurd (subst (λ (tracks : List Track). IsAmong (variables_of tracks) v) no_free there);
  numbers_lack = λ v there. absurd (subst (λ (tracks : List Track). IsAmong (variables_of tracks) v) no_numbers there);
}

module _ (own ws : List Variable) (lacked : Lacked) (is : IsLacked own ws lacked) (track : Track) where
  abbrev wanted : List Variable
  wanted = ws ++ variable_of track ∷ []

  before : (v : Variable) → IsAmong ws v → IsAmong wanted v
  before v there = among-left ws (variable_of track ∷ []) v there

  last : (v : Variable) → variable_of track ≡ v → IsAmong wanted v
  last v here = among-right ws (variable_of track ∷ []) v (inl here)

  -- where its number is there, nothing more is lacked
  pub IsLacked-there : HasNumber own track.variable → IsLacked own wanted lacked
  IsLacked-there there = record {
    rising = is.rising;
    no_number = is.no_number;
    number = is.number;
    free = λ v some. before v (is.free v some);
    numbers = λ v some. before v (is.numbers v some);
    all = λ v one. ⊎_elim (λ first. is.all v first) (λ here. ⊎_elim (λ same. inl (subst (λ (w : Variable). HasNumber own w.name) same there)) (λ never. absurd never) here)
        (among_either ws (variable_of track ∷ []) v one);
    free_lacks = is.free_lacks;
    numbers_lack = is.numbers_lack;
  }

  -- a list of tracks with this one behind them
  module _ (tracks : List Track) where
    of_pushed : (v : Variable) → IsAmong (variables_of (tracks ++ track ∷ [])) v → IsAmong (variables_of tracks ++ variable_of track ∷ []) v
    of_pushed v there = subst (λ vs. IsAmong vs v) (map_push variable_of tracks track) there

    kept : (v : Variable) → IsAmong (variables_of tracks) v → IsAmong (variables_of (tracks ++ track ∷ [])) v
    kept v there = subst (λ vs. IsAmong vs v) (sym (map_push variable_of tracks track)) (among-left (variables_of tracks) (variable_of track ∷ []) v there)

    pushed : (v : Variable) → variable_of track ≡ v → IsAmong (variables_of (tracks ++ track ∷ [])) v
    pushed v here = subst (λ vs. IsAmong vs v) (sym (map_push variable_of tracks track)) (among-right (variables_of tracks) (variable_of track ∷ []) v (inl here))

    within : ((v : Variable) → IsAmong (variables_of tracks) v → IsAmong ws v) → (v : Variable) → IsAmong (variables_of (tracks ++ track ∷ [])) v → IsAmong wanted v
    within each v there = ⊎_elim (λ some. before v (each v some)) (λ here. ⊎_elim (λ same. last v same) (λ never. absurd never) here)
        (among_either (variables_of tracks) (variable_of track ∷ []) v (of_pushed v there))

    lacking : ¬ HasNumber own track.variable → ((v : Variable) → IsAmong (variables_of tracks) v → ¬ HasNumber own v.name)
        → (v : Variable) → IsAmong (variables_of (tracks ++ track ∷ [])) v → ¬ HasNumber own v.name
    lacking lacks each v there = ⊎_elim (λ some. each v some) (λ here. ⊎_elim (λ same. subst (λ (w : Variable). ¬ HasNumber own w.name) same lacks) (λ never. absurd never) here)
        (among_either (variables_of tracks) (variable_of track ∷ []) v (of_pushed v there))

  module _ (below : (u : Variable) → IsAmong ws u → u.name < track.variable) (lacks : ¬ HasNumber own track.variable) where
    of_no_number : track.order ≢ One → IsLacked own wanted (record lacked { free = lacked.free ++ track ∷ [] })
    of_no_number other = record {
      rising = subst AreRising (sym (map_push variable_of lacked.free track)) (rising-more (variables_of lacked.free) (variable_of track) is.rising (λ u some. below u (is.free u some)));
      no_number = λ v there. ⊎_elim (λ some. is.no_number v some) (λ here. ⊎_elim (λ same. subst (λ (w : Variable). w.order ≢ One) same other) (λ never. absurd never) here)
          (among_either (variables_of lacked.free) (variable_of track ∷ []) v (of_pushed lacked.free v there));
      number = is.number;
      free = within lacked.free is.free;
      numbers = λ v some. before v (is.numbers v some);
      all = λ v one. ⊎_elim
          (λ first. ⊎_elim (λ there. inl there) (λ either. inr (⊎_elim (λ some. inl (kept lacked.free v some)) inr either)) (is.all v first))
          (λ here. ⊎_elim (λ same. inr (inl (pushed lacked.free v same))) (λ never. absurd never) here)
          (among_either ws (variable_of track ∷ []) v one);
      free_lacks = lacking lacked.free lacks is.free_lacks;
      numbers_lack = is.numbers_lack;
    }

    of_number : track.order ≡ One → IsLacked own wanted (record lacked { numbers = lacked.numbers ++ track ∷ [] })
    of_number one = record {
      rising = is.rising;
      no_number = is.no_number;
      number = λ v there. ⊎_elim (λ some. is.number v some) (λ here. ⊎_elim (λ same. subst (λ (w : Variable). w.order ≡ One) same one) (λ never. absurd never) here)
          (among_either (variables_of lacked.numbers) (variable_of track ∷ []) v (of_pushed lacked.numbers v there));
      free = λ v some. before v (is.free v some);
      numbers = within lacked.numbers is.numbers;
      all = λ v wish. ⊎_elim
          (λ first. ⊎_elim (λ there. inl there) (λ either. inr (⊎_elim inl (λ some. inr (kept lacked.numbers v some)) either)) (is.all v first))
          (λ here. ⊎_elim (λ same. inr (inr (pushed lacked.numbers v same))) (λ never. absurd never) here)
          (among_either ws (variable_of track ∷ []) v wish);
      free_lacks = is.free_lacks;
      numbers_lack = lacking lacked.numbers lacks is.numbers_lack;
    }

    -- and else it is one that is lacked
    pub IsLacked-more : IsLacked own wanted (with_track lacked track)
    IsLacked-more = by track.order refl
      where
        by : (order : Order) → track.order ≡ order → IsLacked own wanted (with_track_of order lacked track)
        by Zero order_is = of_no_number (λ one. let never : ⊥ = cc in never)
        by One order_is = of_number order_is
        by Two order_is = of_no_number (λ one. let never : ⊥ = cc in never)
