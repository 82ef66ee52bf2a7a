-- Places that are found by their numbers.
use Rattle.std.proofs.Common.{◌≡◌, ℕ, zero, suc, ◌+◌, ◌<◌, ◌≤◌, ◌==◌, Bool, true, false, if◌then◌else◌, List, [], ◌∷◌, ◌++◌, length, get_or, Option, Some, None, inl, inr, refl, sym, subst, ap, ◌∙◌, add-one, arith}
use Rattle.std.specs.Prelude.{◌&&◌, ◌||◌, nat_le}
use Rattle.std.specs.Option.{option_map_or}
use Rattle.std.proofs.lemmas.Bool.{cases_lt}
use Rattle.std.proofs.lemmas.Bool.Decides.{nat_tests}
use Rattle.std.proofs.lemmas.List.{get_or_append_left, get_or_past, get_or_push, length-map, length_push, map-append}
use Rattle.ms_names_scopes.specs.declared.numbers.Place.{Place}
use Rattle.ms_names_scopes.specs.inner.Numbers.{IsLinked, Numbered, is_number, last_before, number_at, numbers_of}
use Rattle.ms_names_rules.proofs.Growth.{past}

numbers-more : (places : List Place) (place : Place) → numbers_of (places ++ place ∷ []) ≡ numbers_of places ++ place.number ∷ []
numbers-more places place = map-append (λ p. p.number) places (place ∷ [])

number_at-last : (places : List Place) (place : Place) → number_at (numbers_of places ++ place.number ∷ []) (length places) ≡ place.number
number_at-last places place = get_or_push (numbers_of places) place.number None (length places) (length-map places (λ p. p.number))

is_number-true : (x : ℕ) (number : Option ℕ) → is_number x number ≡ true → number ≡ Some x
is_number-true x None is = grind arith
is_number-true x (Some y) is = grind (arith, nat_tests)

is_number-same : (x : ℕ) → is_number x (Some x) ≡ true
is_number-same x = grind (arith, nat_tests)

-- places behind change nothing before them
last_before-append : (numbers more : Numbered) (x end : ℕ) → end ≤ length numbers → last_before (numbers ++ more) x end ≡ last_before numbers x end
last_before-append numbers more x zero within = refl
last_before-append numbers more x (suc end) within =
    let below : end < length numbers = omega arith in
    ap (λ n. if is_number x n then Some end else last_before (numbers ++ more) x end) (get_or_append_left numbers more None end below)
    ∙ ap (λ r. if is_number x (number_at numbers end) then Some end else r) (last_before-append numbers more x end (omega arith))

-- before the end, and one place less
last_before-more : (places : List Place) (place : Place) (x : ℕ) →
    last_before (numbers_of (places ++ place ∷ [])) x (length (places ++ place ∷ []))
    ≡ (if is_number x place.number then Some (length places) else last_before (numbers_of places) x (length places))
last_before-more places place x =
    let numbers = numbers_of places in
    let more = numbers ++ place.number ∷ [] in
    let within : length places ≤ length numbers = omega (arith, length-map places (λ p. p.number)) in
    ap (λ n. last_before n x (length (places ++ place ∷ []))) (numbers-more places place)
    ∙ (ap (last_before more x) (length_push places place ∙ add-one (length places))
    ∙ (ap (λ n. if is_number x n then Some (length places) else last_before more x (length places)) (number_at-last places place)
    ∙ ap (λ r. if is_number x place.number then Some (length places) else r) (last_before-append numbers (place.number ∷ []) x (length places) within)))

number_at-kept : (places : List Place) (place : Place) (i : ℕ) → i < length places →
    number_at (numbers_of (places ++ place ∷ [])) i ≡ number_at (numbers_of places) i
number_at-kept places place i below =
    let within : i < length (numbers_of places) = omega (arith, length-map places (λ p. p.number)) in
    ap (λ n. number_at n i) (numbers-more places place) ∙ get_or_append_left (numbers_of places) (place.number ∷ []) None i within

last_before-kept : (places : List Place) (place : Place) (x i : ℕ) → i ≤ length places →
    last_before (numbers_of (places ++ place ∷ [])) x i ≡ last_before (numbers_of places) x i
last_before-kept places place x i upto =
    let within : i ≤ length (numbers_of places) = omega (arith, length-map places (λ p. p.number)) in
    ap (λ n. last_before n x i) (numbers-more places place) ∙ last_before-append (numbers_of places) (place.number ∷ []) x i within

linked-more : (last : ℕ → Option ℕ) (places : List Place) (place : Place) → IsLinked last places →
    ((x : ℕ) → place.number ≡ Some x → place.earlier ≡ last x) →
    (i x : ℕ) (d : Place) → i < length (places ++ place ∷ []) → number_at (numbers_of (places ++ place ∷ [])) i ≡ Some x →
    (get_or (places ++ place ∷ []) i d).earlier ≡ last_before (numbers_of (places ++ place ∷ [])) x i
linked-more last places place known earlier i x d within is =
    elim (cases_lt i (length places)) [
      | inl below ↦
          ap (λ p. p.earlier) (get_or_append_left places (place ∷ []) d i below)
          ∙ (known.linked i x d below (sym (number_at-kept places place i below) ∙ is)
          ∙ sym (last_before-kept places place x i (omega arith)))
      | inr past ↦
          let at_end : length places ≡ i = omega (arith, length_push places place) in
          let here : place.number ≡ Some x =
          sym (number_at-last places place) ∙ (ap (λ k. number_at (numbers_of places ++ place.number ∷ []) k) at_end
          ∙ (ap (λ n. number_at n i) (sym (numbers-more places place)) ∙ is)) in
          ap (λ p. p.earlier) (get_or_push places place d i at_end)
          ∙ (earlier x here ∙ (known.found x ∙ (ap (last_before (numbers_of places) x) at_end
          ∙ sym (last_before-kept places place x i (omega arith)))))
    ]

is-more : (last noted : ℕ → Option ℕ) (places : List Place) (place : Place) → IsLinked last places →
    ((x : ℕ) → place.number ≡ Some x → place.earlier ≡ last x) →
    ((x : ℕ) → noted x ≡ (if is_number x place.number then Some (length places) else last x)) →
    IsLinked noted (places ++ place ∷ [])
is-more last noted places place known earlier is_noted = record {
  found = λ x.
      is_noted x ∙ (ap (λ r. if is_number x place.number then Some (length places) else r) (known.found x)
      ∙ sym (last_before-more places place x));
  linked = linked-more last places place known earlier;
}

-- with one more place that has no number
pub IsLinked-more_plain : (last : ℕ → Option ℕ) (all places : List Place) (place : Place) → IsLinked last places →
    all ≡ places ++ place ∷ [] → place.number ≡ None → IsLinked last all
IsLinked-more_plain last all places place known are none =
    subst (IsLinked last) (sym are)
    (is-more last last places place known
    (λ x is. let never : Some x ≡ None = sym is ∙ none in cc)
    (λ x. ap (λ n. if is_number x n then Some (length places) else last x) (sym none)))

-- with one more place that has a number
pub IsLinked-more : (last noted : ℕ → Option ℕ) (all places : List Place) (place : Place) (x end : ℕ) → IsLinked last places →
    all ≡ places ++ place ∷ [] → place.number ≡ Some x → place.earlier ≡ last x → end ≡ length places →
    ((y : ℕ) → noted y ≡ (if x == y then Some end else last y)) → IsLinked noted all
IsLinked-more last noted all places place x end known are is earlier at_end is_noted =
    subst (IsLinked noted) (sym are)
    (is-more last noted places place known
    (λ y other. let same : x ≡ y = cc (sym is ∙ other) in earlier ∙ ap last same)
    (λ y.
    is_noted y ∙ (ap (λ n. if x == y then Some n else last y) at_end
    ∙ ap (λ n. if is_number y n then Some (length places) else last y) (sym is))))

choose-earlier : (b : Bool) (earlier last here r : Option ℕ) → (b ≡ true → earlier ≡ r) → last ≡ (if b then here else r) → (if b then earlier else last) ≡ r
choose-earlier true earlier last here r same is = same refl
choose-earlier false earlier last here r same is = is

is-less : (last noted : ℕ → Option ℕ) (all places : List Place) (place : Place) → IsLinked last all → all ≡ places ++ place ∷ [] →
    ((x : ℕ) → noted x ≡ (if is_number x place.number then place.earlier else last x)) → IsLinked noted places
is-less last noted all places place known are is_noted =
    let kept : IsLinked last (places ++ place ∷ []) = subst (IsLinked last) are known in
    let end : length places < length (places ++ place ∷ []) = omega (arith, length_push places place) in
    record {
      found = λ x.
          is_noted x
          ∙ choose-earlier (is_number x place.number) place.earlier (last x) (Some (length places)) (last_before (numbers_of places) x (length places))
          (λ same.
          ap (λ p. p.earlier) (sym (get_or_push places place place (length places) refl))
          ∙ (kept.linked (length places) x place end
          (ap (λ n. number_at n (length places)) (numbers-more places place) ∙ (number_at-last places place ∙ is_number-true x place.number same))
          ∙ last_before-kept places place x (length places) (omega arith)))
          (kept.found x ∙ last_before-more places place x);
      linked = λ i x d below is.
          ap (λ p. p.earlier) (sym (get_or_append_left places (place ∷ []) d i below))
          ∙ (kept.linked i x d (omega arith) (number_at-kept places place i below ∙ is)
          ∙ last_before-kept places place x i (omega arith));
    }

-- without the last place, which has no number
pub IsLinked-less_plain : (last : ℕ → Option ℕ) (all places : List Place) (place : Place) → IsLinked last all →
    all ≡ places ++ place ∷ [] → place.number ≡ None → IsLinked last places
IsLinked-less_plain last all places place known are none =
    is-less last last all places place known are (λ x. ap (λ n. if is_number x n then place.earlier else last x) (sym none))

-- without the last place, which has a number
pub IsLinked-less : (last noted : ℕ → Option ℕ) (all places : List Place) (place : Place) (x : ℕ) → IsLinked last all →
    all ≡ places ++ place ∷ [] → place.number ≡ Some x →
    ((y : ℕ) → noted y ≡ (if x == y then place.earlier else last y)) → IsLinked noted places
IsLinked-less last noted all places place x known are is is_noted =
    is-less last noted all places place known are (λ y. is_noted y ∙ ap (λ n. if is_number y n then place.earlier else last y) (sym is))

-- a number that the last place has is held
pub IsLinked-held : (last : ℕ → Option ℕ) (all places : List Place) (place : Place) (x : ℕ) → IsLinked last all → all ≡ places ++ place ∷ [] →
    place.number ≡ Some x → last x ≡ None → ⊥
IsLinked-held last all places place x known are is absent =
    let found : None ≡ (if is_number x place.number then Some (length places) else last_before (numbers_of places) x (length places)) =
    sym absent ∙ (known.found x ∙ (ap (λ ps. last_before (numbers_of ps) x (length ps)) are ∙ last_before-more places place x)) in
    let there : (if is_number x place.number then Some (length places) else last_before (numbers_of places) x (length places)) ≡ Some (length places) =
    ap (λ b. if b then Some (length places) else last_before (numbers_of places) x (length places)) (ap (is_number x) is ∙ is_number-same x) in
    let never : None ≡ Some (length places) = found ∙ there in
    cc

-- a place is the last of a number before another
record IsLastBefore (numbers : Numbered) (x end place : ℕ) : Type 0 where
  pub below : place < end
  pub here : is_number x (number_at numbers place) ≡ true
  pub behind : (i : ℕ) → place < i → i < end → is_number x (number_at numbers i) ≡ false

some-here : (numbers : Numbered) (x end place : ℕ) (b : Bool) → is_number x (number_at numbers end) ≡ b →
    (if b then Some end else last_before numbers x end) ≡ Some place →
    (last_before numbers x end ≡ Some place → IsLastBefore numbers x end place) → IsLastBefore numbers x (suc end) place
some-here numbers x end place true test is earlier =
    let same : end ≡ place = cc in
    record {
      below = omega arith;
      here = ap (λ i. is_number x (number_at numbers i)) (sym same) ∙ test;
      behind = λ i after before. absurd (omega arith);
    }
some-here numbers x end place false test is earlier =
    let found = earlier is in
    record {
      below = omega (arith, found.below);
      here = found.here;
      behind = λ i after before.
          elim (cases_lt i end) [
            | inl below ↦ found.behind i after below
            | inr past ↦ let same : i ≡ end = omega arith in ap (λ k. is_number x (number_at numbers k)) same ∙ test
          ];
    }

none-here : (numbers : Numbered) (x end : ℕ) (b : Bool) → is_number x (number_at numbers end) ≡ b →
    (if b then Some end else last_before numbers x end) ≡ None →
    (last_before numbers x end ≡ None → (i : ℕ) → i < end → is_number x (number_at numbers i) ≡ false) →
    (i : ℕ) → i < suc end → is_number x (number_at numbers i) ≡ false
none-here numbers x end true test is earlier i below = let never : Some end ≡ None = is in cc
none-here numbers x end false test is earlier i below =
    elim (cases_lt i end) [
      | inl before ↦ earlier is i before
      | inr past ↦ let same : i ≡ end = omega arith in ap (λ k. is_number x (number_at numbers k)) same ∙ test
    ]

below-here : (b : Bool) (end : ℕ) (earlier : Option ℕ) → option_map_or (λ place. place + 1) earlier 0 ≤ end →
    option_map_or (λ place. place + 1) (if b then Some end else earlier) 0 ≤ suc end
below-here true end earlier below = omega arith
below-here false end earlier below = omega arith

last_before-some : (numbers : Numbered) (x end place : ℕ) → last_before numbers x end ≡ Some place → IsLastBefore numbers x end place
last_before-some numbers x zero place is = let never : None ≡ Some place = is in cc
last_before-some numbers x (suc end) place is = some-here numbers x end place (is_number x (number_at numbers end)) refl is (last_before-some numbers x end place)

last_before-none : (numbers : Numbered) (x end : ℕ) → last_before numbers x end ≡ None → (i : ℕ) → i < end → is_number x (number_at numbers i) ≡ false
last_before-none numbers x zero is i below = absurd (omega arith)
last_before-none numbers x (suc end) is i below = none-here numbers x end (is_number x (number_at numbers end)) refl is (last_before-none numbers x end) i below

-- the last place is below the end
last_before-below : (numbers : Numbered) (x end : ℕ) → option_map_or (λ place. place + 1) (last_before numbers x end) 0 ≤ end
last_before-below numbers x zero = omega arith
last_before-below numbers x (suc end) = below-here (is_number x (number_at numbers end)) end (last_before numbers x end) (last_before-below numbers x end)

-- places of a number are followed from the last to the first: those from one place on are found
pub record Walked (x : ℕ) (numbers : Numbered) (old new : ℕ → Bool) (next : Option ℕ) : Type 0 where
  pub left : ℕ
  pub within : left ≤ length numbers
  pub next_is : next ≡ last_before numbers x left
  pub found : (i : ℕ) → new i ≡ (old i || (nat_le left i && is_number x (number_at numbers i)))

past-end : (x : ℕ) (numbers : Numbered) (i : ℕ) → length numbers ≤ i → is_number x (number_at numbers i) ≡ false
past-end x numbers i past = ap (is_number x) (get_or_past numbers i None past)

found-first : (old test : Bool) (end i : ℕ) → (end ≤ i → test ≡ false) → old ≡ (old || (nat_le end i && test))
found-first true test end i none = refl
found-first false true end i none = grind (arith, nat_tests, none)
found-first false false end i none = grind (arith, nat_tests)

pub Walked-first : (x : ℕ) (last : ℕ → Option ℕ) (places : List Place) (old : ℕ → Bool) (next : Option ℕ) → IsLinked last places → next ≡ last x →
    Walked x (numbers_of places) old old next
Walked-first x last places old next known is =
    let numbers = numbers_of places in
    record {
      left = length numbers;
      within = omega arith;
      next_is = is ∙ (known.found x ∙ ap (last_before numbers x) (sym (length-map places (λ p. p.number))));
      found = λ i. found-first (old i) (is_number x (number_at numbers i)) (length numbers) i (past-end x numbers i);
    }

found-next : (old new test : Bool) (place left i : ℕ) (is_new : Bool) → is_new ≡ (if place == i then true else new) →
    new ≡ (old || (nat_le left i && test)) → place < left → (place ≡ i → test ≡ true) → (place < i → i < left → test ≡ false) →
    is_new ≡ (old || (nat_le place i && test))
found-next true new test place left i is_new is found below here behind = grind (arith, nat_tests)
found-next false new true place left i is_new is found below here behind = grind (arith, nat_tests, behind)
found-next false new false place left i is_new is found below here behind = grind (arith, nat_tests, here)

-- the last place that is left
walked-last : (x : ℕ) (numbers : Numbered) (old now : ℕ → Bool) (next : Option ℕ) (place : ℕ) (walked : Walked x numbers old now next) →
    next ≡ Some place → IsLastBefore numbers x walked.left place
walked-last x numbers old now next place walked is = last_before-some numbers x walked.left place (sym walked.next_is ∙ is)

pub Walked-below : (x : ℕ) (places : List Place) (old now : ℕ → Bool) (next : Option ℕ) (place : ℕ) →
    Walked x (numbers_of places) old now next → next ≡ Some place → place < length places
Walked-below x places old now next place walked is =
    let last = walked-last x (numbers_of places) old now next place walked is in
    omega (arith, last.below, walked.within, length-map places (λ p. p.number))

walked-earlier : (x : ℕ) (last : ℕ → Option ℕ) (places : List Place) (old now : ℕ → Bool) (next : Option ℕ) (place : ℕ) (here : Place) →
    IsLinked last places → Walked x (numbers_of places) old now next → next ≡ Some place → here ≡ get_or places place here →
    here.earlier ≡ last_before (numbers_of places) x place
walked-earlier x last places old now next place here known walked is read =
    let found = walked-last x (numbers_of places) old now next place walked is in
    ap (λ p. p.earlier) read
    ∙ known.linked place x here (Walked-below x places old now next place walked is) (is_number-true x (number_at (numbers_of places) place) found.here)

pub Walked-smaller : (x : ℕ) (last : ℕ → Option ℕ) (places : List Place) (old now : ℕ → Bool) (next : Option ℕ) (place : ℕ) (here : Place) →
    IsLinked last places → Walked x (numbers_of places) old now next → next ≡ Some place → here ≡ get_or places place here →
    option_map_or (λ k. k + 1) here.earlier 0 < option_map_or (λ k. k + 1) next 0
Walked-smaller x last places old now next place here known walked is read =
    let measure : Option ℕ → ℕ = λ o. option_map_or (λ k. k + 1) o 0 in
    let earlier = ap measure (walked-earlier x last places old now next place here known walked is read) in
    let now_is = ap measure is in
    omega (arith, earlier, now_is, last_before-below (numbers_of places) x place)

-- the last place that is left is found
pub Walked-next : (x : ℕ) (last : ℕ → Option ℕ) (places : List Place) (old now new : ℕ → Bool) (next : Option ℕ) (place : ℕ) (here : Place) →
    IsLinked last places → Walked x (numbers_of places) old now next → next ≡ Some place → here ≡ get_or places place here →
    ((i : ℕ) → new i ≡ (if place == i then true else now i)) → Walked x (numbers_of places) old new here.earlier
Walked-next x last places old now new next place here known walked some read is_new =
    let numbers = numbers_of places in
    let next_is = walked-earlier x last places old now next place here known walked some read in
    let is = walked-last x numbers old now next place walked some in
    record {
      left = place;
      within = omega (arith, is.below, walked.within);
      next_is = next_is;
      found = λ i.
          found-next (old i) (now i) (is_number x (number_at numbers i)) place walked.left i (new i) (is_new i) (walked.found i) is.below
          (λ same. ap (λ k. is_number x (number_at numbers k)) (sym same) ∙ is.here) (is.behind i);
    }

found-last : (old new test : Bool) (left i : ℕ) → new ≡ (old || (nat_le left i && test)) → (i < left → test ≡ false) → new ≡ (old || test)
found-last true new test left i found none = found
found-last false new true left i found none = grind (arith, nat_tests, none)
found-last false new false left i found none = grind (arith, nat_tests)

-- none is left
pub Walked-last : (x : ℕ) (numbers : Numbered) (old new : ℕ → Bool) (next : Option ℕ) → Walked x numbers old new next → next ≡ None →
    (i : ℕ) → new i ≡ (old i || is_number x (number_at numbers i))
Walked-last x numbers old new next walked none i =
    found-last (old i) (new i) (is_number x (number_at numbers i)) walked.left i (walked.found i)
    (last_before-none numbers x walked.left (sym walked.next_is ∙ none) i)
