-- States in lists, and their classes once they are put into one.
use Rattle.std.proofs.Common.{◌≡◌, ◌≢◌, ◌⊎◌, ℕ, zero, suc, ◌+◌, ◌<◌, ◌≤◌, Bool, true, false, cond, List, [], ◌∷◌, filter, length, length-set, replicate, slice_get, slice_set, Some, refl, sym, ap, subst, ◌∙◌, arith, inl, inr, ⊎_elim}
use Rattle.std.proofs.lemmas.Bool.{cases_eq}
use Rattle.std.proofs.lemmas.Option.{none-some, same_Some, slice_get_within}
use Rattle.std.specs.List.{range_with_len}
use Rattle.ms_arena.proofs.Lists.{slice_get-set_other, slice_get-set_same}
use Rattle.ms_logic.specs.FiniteSet.{numbers_below}
use Rattle.ms_cert.specs.inner.Partition.{IsIn, assigned}

-- a state is in a list or not
pub in-or_not : (states : List ℕ) (state : ℕ) → IsIn states state ⊎ (IsIn states state → ⊥)
in-or_not [] state = inr (λ there. none-some state there.1)
in-or_not (s ∷ states) state = ⊎_elim
    (λ same. inl (0, ap Some same))
    (λ differ. ⊎_elim (λ there. inl (suc there.0, there.1)) (λ never. inr (λ there. by differ never there.0 there.1)) (in-or_not states state))
    (cases_eq s state)
  where
    by : s ≢ state → (IsIn states state → ⊥) → (place : ℕ) → slice_get (s ∷ states) place ≡ Some state → ⊥
    by differ never zero held = differ (same_Some s state held)
    by differ never (suc place) held = never (place, held)

kept-first : (kept : Bool) (s : ℕ) (states : List ℕ) → kept ≡ true → IsIn (cond kept (s ∷ states) states) s
kept-first true s states is = (0, refl)
kept-first false s states is = cc

kept-later : (kept : Bool) (s state : ℕ) (states : List ℕ) → IsIn states state → IsIn (cond kept (s ∷ states) states) state
kept-later true s state states there = (suc there.0, there.1)
kept-later false s state states there = there

-- it is kept where the test is passed
pub kept : (test : ℕ → Bool) (states : List ℕ) (state place : ℕ) → slice_get states place ≡ Some state → test state ≡ true → IsIn (filter test states) state
kept test [] state place held passes = absurd (none-some state held)
kept test (s ∷ states) state zero held passes =
    let same = same_Some s state held in
    subst (λ (n : ℕ). IsIn (cond (test s) (s ∷ filter test states) (filter test states)) n) same (kept-first (test s) s (filter test states) (ap test same ∙ passes))
kept test (s ∷ states) state (suc place) held passes = kept-later (test s) s state (filter test states) (kept test states state place held passes)

-- what a test keeps is in the list, and passes
pub in-filter : (test : ℕ → Bool) (states : List ℕ) (state place : ℕ) → slice_get (filter test states) place ≡ Some state → IsIn states state × (test state ≡ true)
in-filter test [] state place held = absurd (none-some state held)
in-filter test (s ∷ states) state place held = by (λ at. in-filter test states state at) (test s) refl place held
  where
    later : IsIn states state × (test state ≡ true) → IsIn (s ∷ states) state × (test state ≡ true)
    later both = ((suc both.0.0, both.0.1), both.1)

    by : ((at : ℕ) → slice_get (filter test states) at ≡ Some state → IsIn states state × (test state ≡ true)) → (passes : Bool) → test s ≡ passes
        → (at : ℕ) → slice_get (cond passes (s ∷ filter test states) (filter test states)) at ≡ Some state → IsIn (s ∷ states) state × (test state ≡ true)
    by rest true is zero there = let same = same_Some s state there in ((0, ap Some same), ap test (sym same) ∙ is)
    by rest true is (suc at) there = later (rest at there)
    by rest false is at there = later (rest at there)

-- an item that is written leaves equal ones
set-stays : {X : Type 0} (xs : List X) (i j : ℕ) (x : X) → slice_get xs j ≡ Some x → slice_get (slice_set xs i x) j ≡ Some x
set-stays xs i j x is = ⊎_elim
    (λ same. subst (λ (k : ℕ). slice_get (slice_set xs i x) k ≡ Some x) (sym same) (slice_get-set_same xs i x (subst (λ (k : ℕ). k < length xs) same (slice_get_within xs j x is))))
    (λ other. slice_get-set_other xs i j x other ∙ is)
    (cases_eq j i)

pub length-assigned : (classes states : List ℕ) (class : ℕ) → length (assigned classes states class) ≡ length classes
length-assigned classes [] class = refl
length-assigned classes (s ∷ states) class = length-assigned (slice_set classes s class) states class ∙ length-set classes s class

assigned-stays : (classes states : List ℕ) (class state : ℕ) → slice_get classes state ≡ Some class → slice_get (assigned classes states class) state ≡ Some class
assigned-stays classes [] class state is = is
assigned-stays classes (s ∷ states) class state is = assigned-stays (slice_set classes s class) states class state (set-stays classes s state class is)

-- the states have the class
pub assigned-in : (classes states : List ℕ) (class state place : ℕ) → slice_get states place ≡ Some state → state < length classes → slice_get (assigned classes states class) state ≡ Some class
assigned-in classes [] class state place held within = absurd (none-some state held)
assigned-in classes (s ∷ states) class state zero held within =
    let same = same_Some s state held in
    assigned-stays (slice_set classes s class) states class state
    (subst (λ (k : ℕ). slice_get (slice_set classes s class) k ≡ Some class) same (slice_get-set_same classes s class (subst (λ (k : ℕ). k < length classes) (sym same) within)))
assigned-in classes (s ∷ states) class state (suc place) held within =
    assigned-in (slice_set classes s class) states class state place held (omega (arith, within, length-set classes s class))

-- and no other changes
pub assigned-out : (classes states : List ℕ) (class state : ℕ) → (IsIn states state → ⊥) → slice_get (assigned classes states class) state ≡ slice_get classes state
assigned-out classes [] class state never = refl
assigned-out classes (s ∷ states) class state never =
    assigned-out (slice_set classes s class) states class state (λ there. never (suc there.0, there.1))
    ∙ slice_get-set_other classes s state class (λ same. never (0, ap Some (sym same)))

-- equal items
pub replicate-held : (n x i y : ℕ) → slice_get (replicate n x) i ≡ Some y → (i < n) × (y ≡ x)
replicate-held zero x i y held = absurd (none-some y held)
replicate-held (suc n) x zero y held = (omega arith, sym (same_Some x y held))
replicate-held (suc n) x (suc i) y held = let rest = replicate-held n x i y held in let less = rest.0 in (omega (arith, less), rest.1)

pub replicate-at : (n x i : ℕ) → i < n → slice_get (replicate n x) i ≡ Some x
replicate-at zero x i less = absurd (omega arith)
replicate-at (suc n) x zero less = refl
replicate-at (suc n) x (suc i) less = replicate-at n x i (omega arith)

-- the numbers below one
range-held : (a n place number : ℕ) → slice_get (range_with_len a n) place ≡ Some number → (a ≤ number) × (number < a + n)
range-held a zero place number held = absurd (none-some number held)
range-held a (suc n) zero number held = let same : a ≡ number = same_Some a number held in (omega (arith, same), omega (arith, same))
range-held a (suc n) (suc place) number held =
    let rest = range-held (a + 1) n place number held in
    let low = rest.0 in
    let high = rest.1 in
    (omega (arith, low), omega (arith, high))

pub number-below : (n state : ℕ) → IsIn (numbers_below n) state → state < n
number-below n state there = let high = (range-held 0 n there.0 state there.1).1 in omega (arith, high)

range-at : (a n place : ℕ) → place < n → slice_get (range_with_len a n) place ≡ Some (a + place)
range-at a zero place less = absurd (omega arith)
range-at a (suc n) zero less = let same : a ≡ a + 0 = omega arith in ap Some same
range-at a (suc n) (suc place) less = let same : a + 1 + place ≡ a + suc place = omega arith in range-at (a + 1) n place (omega arith) ∙ ap Some same

pub number-in : (n state : ℕ) → state < n → IsIn (numbers_below n) state
number-in n state less = let same : 0 + state ≡ state = omega arith in (state, range-at 0 n state less ∙ ap Some same)
