-- States that are due, and states that get their new classes.
use Rattle.std.proofs.Common.{◌≡◌, ◌≢◌, ℕ, zero, suc, ◌+◌, ◌<◌, ◌≤◌, ◌⊎◌, inl, inr, ⊎_elim, List, [], ◌∷◌, ◌++◌, length, slice_get, replicate, slice_index, slice_index_or, get_or, Some, refl, sym, ap, subst, ◌∙◌, arith}
use Rattle.std.proofs.lemmas.Bool.{cases_lt, cases_eq}
use Rattle.std.proofs.lemmas.Option.{same_Some, none-some, slice_get-get_or}
use Rattle.ms_arena.specs.Target.{Extends}
use Rattle.ms_arena.proofs.Appending.{Extends-further, slice_get-extends}
use Rattle.ms_arena.proofs.Lists.{slice_get-pushed}
use Rattle.ms_diagram.specs.Numbering.{Numbers}
use Rattle.ms_diagram.proofs.NumberingLemmas.{Extends-numbers}
use Rattle.ms_minim.specs.inner.Grouping.{AreListed, AreWithin, IsDue, IsMoved}
use Rattle.ms_minim.specs.inner.Predecessors.{AreBelow, IsListed}

-- what is due stays due
pub IsDue-later : (early late : List (ℕ × ℕ)) → Extends early late → (state : ℕ) → IsDue early state → IsDue late state
IsDue-later early late extends state was = record { place = was.place; pair = was.pair; there = slice_get-extends early late extends was.place was.pair was.there; own = was.own }

not_more : (pair : ℕ × ℕ) (due : List (ℕ × ℕ)) (state : ℕ) → (pair.0 ≡ state → ⊥) → (IsDue due state → ⊥) → (place : ℕ) (other : ℕ × ℕ) → slice_get (pair ∷ due) place ≡ Some other → other.0 ≡ state → ⊥
not_more pair due state differs none zero other there own = differs (ap (λ (p : ℕ × ℕ). p.0) (same_Some pair other there) ∙ own)
not_more pair due state differs none (suc place) other there own = none (record { place = place; pair = other; there = there; own = own })

-- a state is due or not
pub due_or_not : (due : List (ℕ × ℕ)) (state : ℕ) → IsDue due state ⊎ (IsDue due state → ⊥)
due_or_not [] state = inr (λ is. none-some is.pair is.there)
due_or_not (pair ∷ due) state = ⊎_elim
    (λ same. inl (record { place = 0; pair = pair; there = refl; own = same }))
    (λ differs. ⊎_elim
    (λ more. inl (record { place = suc more.place; pair = more.pair; there = more.there; own = more.own }))
    (λ none. inr (λ is. not_more pair due state differs none is.place is.pair is.there is.own))
    (due_or_not due state))
    (cases_eq pair.0 state)

-- a state with a number is due
pub IsDue-number : (late : List (ℕ × ℕ)) (place state other : ℕ) → slice_get late place ≡ Some (state, other) → IsDue late state
IsDue-number late place state other there = record { place = place; pair = (state, other); there = there; own = refl }

-- and a number more is due for its state alone
pub IsDue-numbers : (old late : List (ℕ × ℕ)) (state other : ℕ) → Numbers old late (state, other) → (found : ℕ) → IsDue late found → IsDue old found ⊎ (found ≡ state)
IsDue-numbers old late state other numbers found is = ⊎_elim
    (λ same. inl (record { place = is.place; pair = is.pair; there = ap (λ list. slice_get list is.place) (sym same) ∙ is.there; own = is.own }))
    (λ added. ⊎_elim
    (λ before. inl (record { place = is.place; pair = is.pair; there = before; own = is.own }))
    (λ last. inr (sym is.own ∙ ap (λ (p : ℕ × ℕ). p.0) (sym last.1)))
    (slice_get-pushed old (state, other) is.place is.pair (ap (λ list. slice_get list is.place) (sym added.1) ∙ is.there)))
    numbers

-- the states of a list up to a place are due, and no others were added
abbrev pub AreNoted : List (ℕ × ℕ) → List (ℕ × ℕ) → List ℕ → ℕ → Type 0
AreNoted early late states done =
    Extends early late × ((place state : ℕ) → place < done → slice_get states place ≡ Some state → IsDue late state)
    × ((state : ℕ) → IsDue late state → IsDue early state ⊎ ((place : ℕ) × (slice_get states place ≡ Some state)))

pub AreNoted-more : (early now late : List (ℕ × ℕ)) (states : List ℕ) (done number : ℕ) → AreNoted early now states done → done < length states
    → slice_get late number ≡ Some (slice_index states done, 0) → Numbers now late (slice_index states done, 0) → AreNoted early late states (done + 1)
AreNoted-more early now late states done number was within there numbers =
    let extends = Extends-numbers now late (slice_index states done, 0) numbers in
    let own : slice_get states done ≡ Some (slice_index states done) = slice_get-get_or states done 0 within in (
      Extends-further early now late was.0 extends,
      λ place state less held. ⊎_elim
          (λ before. IsDue-later now late extends state (was.1 place state before held))
          (λ past.
          let last : place ≡ done = omega (arith, less, past) in
          let same : slice_index states done ≡ state = same_Some (slice_index states done) state (sym own ∙ ap (slice_get states) (sym last) ∙ held) in
          subst (IsDue late) same (IsDue-number late number (slice_index states done) 0 there))
          (cases_lt place done),
      λ state is. ⊎_elim
          (λ before. was.2 state before)
          (λ same. inr (done, own ∙ ap Some (sym same)))
          (IsDue-numbers now late (slice_index states done) 0 numbers state is),
    )

-- the states that lead to the first so many members that are in the class still are due
pub record AreNotedAt (early late : List (ℕ × ℕ)) (predecessors : List (List ℕ)) (classes members : List ℕ) (class done : ℕ) : Type 0 where
  pub later : Extends early late
  pub noted :
      (place state item : ℕ) → place < done → slice_get members place ≡ Some state → slice_get classes state ≡ Some class → IsListed predecessors state item → IsDue late item
  pub only : (item : ℕ) → IsDue late item → IsDue early item ⊎ ((state : ℕ) × IsListed predecessors state item)

-- a member more, whose predecessors were noted, or which is not in the class
pub AreNotedAt-more : (early now late : List (ℕ × ℕ)) (predecessors : List (List ℕ)) (classes members : List ℕ) (class done : ℕ) → AreNotedAt early now predecessors classes members class done
    → (member : ℕ) → slice_get members done ≡ Some member → Extends now late
    → (slice_get classes member ≡ Some class → (item : ℕ) → IsListed predecessors member item → IsDue late item)
    → ((item : ℕ) → IsDue late item → IsDue now item ⊎ IsListed predecessors member item)
    → AreNotedAt early late predecessors classes members class (done + 1)
AreNotedAt-more early now late predecessors classes members class done was member there extends noted only = record {
  later = Extends-further early now late was.later extends;
  noted = λ place state item less held in_class listed. ⊎_elim
      (λ before. IsDue-later now late extends item (was.noted place state item before held in_class listed))
      (λ past.
      let last : done ≡ place = omega (arith, less, past) in
      let same : member ≡ state = same_Some member state (sym there ∙ ap (slice_get members) last ∙ held) in
      noted (ap (slice_get classes) same ∙ in_class) item (subst (λ s. IsListed predecessors s item) (sym same) listed))
      (cases_lt place done);
  only = λ item is. ⊎_elim (λ before. was.only item before) (λ listed. inr (member, listed)) (only item is);
}

-- the states that lead to a state of the first so many chosen classes are due
pub record AreCoveredAt (classes : List ℕ) (predecessors : List (List ℕ)) (chosen : List ℕ) (due : List (ℕ × ℕ)) (done : ℕ) : Type 0 where
  pub covered :
      (place state class item : ℕ) → place < done → slice_get chosen place ≡ Some class → slice_get classes state ≡ Some class → IsListed predecessors state item → IsDue due item
  pub only : (item : ℕ) → IsDue due item → (state : ℕ) × IsListed predecessors state item

pub AreCoveredAt-more : (classes : List ℕ) (predecessors : List (List ℕ)) (chosen : List ℕ) (now late : List (ℕ × ℕ)) (done : ℕ) → AreCoveredAt classes predecessors chosen now done
    → (class : ℕ) → slice_get chosen done ≡ Some class → Extends now late
    → ((state item : ℕ) → slice_get classes state ≡ Some class → IsListed predecessors state item → IsDue late item)
    → ((item : ℕ) → IsDue late item → IsDue now item ⊎ ((state : ℕ) × IsListed predecessors state item))
    → AreCoveredAt classes predecessors chosen late (done + 1)
AreCoveredAt-more classes predecessors chosen now late done was class there extends noted only = record {
  covered = λ place state other item less held in_class listed. ⊎_elim
      (λ before. IsDue-later now late extends item (was.covered place state other item before held in_class listed))
      (λ past.
      let last : done ≡ place = omega (arith, less, past) in
      let same : class ≡ other = same_Some class other (sym there ∙ ap (slice_get chosen) last ∙ held) in
      noted state item (in_class ∙ ap Some (sym same)) listed)
      (cases_lt place done);
  only = λ item is. ⊎_elim (λ before. was.only item before) (λ listed. listed) (only item is);
}

-- what is listed is in one of the lists
pub IsListed-within : (lists : List (List ℕ)) (place item : ℕ) → IsListed lists place item → place < length lists
IsListed-within lists place item is = ⊎_elim
    (λ less. less)
    (λ past. absurd (none-some item (sym (ap (λ list. slice_get list is.0) (get_or-past lists place past)) ∙ is.1)))
    (cases_lt place (length lists))
  where
    get_or-past : (lists : List (List ℕ)) (place : ℕ) → length lists ≤ place → get_or lists place [] ≡ []
    get_or-past [] place past = refl
    get_or-past (list ∷ lists) zero past = absurd (omega (arith, past))
    get_or-past (list ∷ lists) (suc place) past = get_or-past lists place (omega (arith, past))

-- so each class of a state is one of those with members
pub AreWithin-listed : (classes : List ℕ) (members : List (List ℕ)) (numbers : List ℕ) → AreListed classes members → length numbers ≡ length members → AreWithin classes numbers
AreWithin-listed classes members numbers listed same state class held =
    let within = IsListed-within members class state (listed state class held) in
    omega (arith, within, same)

-- one state more
pub IsMoved-more : (early now late : List ℕ) (members late_members : List (List ℕ)) (due : List (ℕ × ℕ)) (labels : List ℕ) (done : ℕ) → IsMoved early now members due labels done
    → (pair : ℕ × ℕ) (label : ℕ) → slice_get due done ≡ Some pair → slice_get labels done ≡ Some label → length late ≡ length now → slice_get late pair.0 ≡ Some label
    → ((other : ℕ) → other ≢ pair.0 → slice_get late other ≡ slice_get now other) → AreListed late late_members → IsMoved early late late_members due labels (done + 1)
IsMoved-more early now late members late_members due labels done was pair label there labelled count own others listed = record {
  count = count ∙ was.count;
  either = λ state. ⊎_elim
      (λ same. inl (record { place = done; before = omega arith; pair = pair; there = there; own = sym same; given = ap (slice_get late) same ∙ own ∙ sym labelled }))
      (λ differs. ⊎_elim
      (λ given. inl (record {
        place = given.place;
        before = (let before = given.before in omega (arith, before));
        pair = given.pair;
        there = given.there;
        own = given.own;
        given = others state differs ∙ given.given;
      }))
      (λ left. inr (record {
        same = others state differs ∙ left.same;
        none = λ place other less held. ⊎_elim
            (λ before. left.none place other before held)
            (λ past.
            let last : place ≡ done = omega (arith, less, past) in
            let same : pair ≡ other = same_Some pair other (sym there ∙ ap (slice_get due) (sym last) ∙ held) in
            λ is. differs (sym is ∙ ap (λ (p : ℕ × ℕ). p.0) (sym same)))
            (cases_lt place done);
      }))
      (was.either state))
      (cases_eq state pair.0);
  listed = listed;
}

-- an item that was read at a place
pub item_at : (list : List ℕ) (place item other : ℕ) → place < length list → item ≡ get_or list place item → item ≡ other → slice_get list place ≡ Some other
item_at list place item other within is same = slice_get-get_or list place item within ∙ ap Some (sym is ∙ same)

-- the numbers of all classes but those of the list from a place on are 0
abbrev pub AreForgotten : List ℕ → List ℕ → ℕ → Type 0
AreForgotten chosen numbers done = (class : ℕ) → slice_index numbers class ≢ 0 → (place : ℕ) × (slice_get chosen place ≡ Some class) × (done ≤ place)

-- those of the first so many of the list may be others
abbrev pub AreChosen : List ℕ → List ℕ → ℕ → Type 0
AreChosen chosen numbers done = (class : ℕ) → slice_index numbers class ≢ 0 → (place : ℕ) × (slice_get chosen place ≡ Some class) × (place < done)

pub AreForgotten-more : (chosen numbers late : List ℕ) (done class : ℕ) → AreForgotten chosen numbers done → slice_get chosen done ≡ Some class → slice_index late class ≡ 0
    → ((other : ℕ) → other ≢ class → slice_index late other ≡ slice_index numbers other) → AreForgotten chosen late (done + 1)
AreForgotten-more chosen numbers late done class were there own others other is = ⊎_elim
    (λ same. absurd (is (ap (slice_index late) same ∙ own)))
    (λ differs.
    let found = were other (λ none. is (others other differs ∙ none)) in
    let past = found.2 in
    let not_here : done ≢ found.0 = λ here. differs (same_Some other class (sym found.1 ∙ ap (slice_get chosen) (sym here) ∙ there)) in
    (found.0, found.1, omega (arith, past, not_here)))
    (cases_eq other class)

-- a number more at the end of a list, which is 0
pub slice_index-more : (numbers : List ℕ) (class : ℕ) → slice_index (numbers ++ 0 ∷ []) class ≢ 0 → slice_index numbers class ≢ 0
slice_index-more [] zero is = absurd (is refl)
slice_index-more [] (suc class) is = absurd (is refl)
slice_index-more (number ∷ numbers) zero is = is
slice_index-more (number ∷ numbers) (suc class) is = slice_index-more numbers class is

pub slice_index-zeros : (count class : ℕ) → slice_index (replicate count 0) class ≡ 0
slice_index-zeros zero class = refl
slice_index-zeros (suc count) zero = refl
slice_index-zeros (suc count) (suc class) = slice_index-zeros count class

-- a list more at the end, without an item
slice_index-empty : (lists : List (List ℕ)) (place : ℕ) → slice_index_or (lists ++ [] ∷ []) place [] ≡ slice_index_or lists place []
slice_index-empty [] zero = refl
slice_index-empty [] (suc place) = refl
slice_index-empty (list ∷ lists) zero = refl
slice_index-empty (list ∷ lists) (suc place) = slice_index-empty lists place

pub IsListed-more : (lists : List (List ℕ)) (place item : ℕ) → IsListed lists place item → IsListed (lists ++ [] ∷ []) place item
IsListed-more lists place item is = (is.0, ap (λ list. slice_get list is.0) (slice_index-empty lists place) ∙ is.1)

pub AreBelow-more : (bound : ℕ) (lists : List (List ℕ)) → AreBelow bound lists → AreBelow bound (lists ++ [] ∷ [])
AreBelow-more bound lists were place item is = were place item (is.0, ap (λ list. slice_get list is.0) (sym (slice_index-empty lists place)) ∙ is.1)

slice_index-past : (list : List ℕ) (place : ℕ) → length list ≤ place → slice_index list place ≡ 0
slice_index-past [] place past = refl
slice_index-past (item ∷ list) zero past = absurd (omega (arith, past))
slice_index-past (item ∷ list) (suc place) past = slice_index-past list place (omega (arith, past))

-- a number that was set to 0, or that is in no place
pub set_to_zero : (old new : List ℕ) (place : ℕ) → length new ≡ length old → (place < length old → slice_index new place ≡ 0) → slice_index new place ≡ 0
set_to_zero old new place same within = ⊎_elim (λ less. within less) (λ past. slice_index-past new place (omega (arith, past, same))) (cases_lt place (length old))
