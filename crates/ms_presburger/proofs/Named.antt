-- The free names of a formula: each is there, and once.
use Rattle.std.proofs.Common.{◌≡◌, ◌≢◌, ℕ, ◌<◌, zero, suc, Bool, true, false, not, cond, ◌||◌, List, [], ◌∷◌, length, get_or, refl, sym, ◌∙◌, ap, subst, arith}
use Rattle.std.specs.List.{list_any}
use Rattle.std.specs.Prelude.{AllPairs}
use Rattle.std.specs.Str.{bytes_eq}
use Rattle.std.proofs.lemmas.Slice.Eq.{bytes_eq-Decides}
use Rattle.ms_logic.specs.Lists.{Each}
use Rattle.ms_presburger.specs.Source.{place_of}
use Rattle.ms_presburger.specs.Tree.{except, each_once}

-- a name is one of a list
abbrev pub IsNamed : List (List ℕ) → List ℕ → Type 0
IsNamed names x = list_any (λ y. bytes_eq y x) names ≡ true

same-name : (x y : List ℕ) → bytes_eq x y ≡ true → x ≡ y
same-name x y = (bytes_eq-Decides x y).0

itself : (x : List ℕ) → bytes_eq x x ≡ true
itself x = (bytes_eq-Decides x x).1 refl

named-later : (names : List (List ℕ)) (x y : List ℕ) → IsNamed names y → IsNamed (x ∷ names) y
named-later names x y named = or-true (bytes_eq x y) (list_any (λ z. bytes_eq z y) names) named
  where
    or-true : (a b : Bool) → b ≡ true → (a || b) ≡ true
    or-true true b is = refl
    or-true false b is = is

named-first : (names : List (List ℕ)) (x : List ℕ) → IsNamed (x ∷ names) x
named-first names x = ap (λ t. t || list_any (λ z. bytes_eq z x) names) (itself x)

-- another name is not left out

or-first : (a b : Bool) → a ≡ true → (a || b) ≡ true
or-first a b is = ap (λ t. t || b) is

or-second : (a b : Bool) → a ≡ false → (a || b) ≡ true → b ≡ true
or-second a b is some = sym (ap (λ t. t || b) is) ∙ some

left-out : (x y z : List ℕ) (b : Bool) → bytes_eq x y ≡ false → b ≡ bytes_eq x z → bytes_eq z y ≡ true → b ≡ false
left-out x y z b differs is same = is ∙ (let P : List ℕ → Type 0 = λ w. bytes_eq x w ≡ false in subst P (sym (same-name z y same)) differs)

named-by : (x y z : List ℕ) (names : List (List ℕ)) → bytes_eq x y ≡ false → IsNamed (z ∷ names) y → (IsNamed names y → IsNamed (except (x ∷ []) names) y) → (a b : Bool) → a ≡ bytes_eq z y → b ≡ bytes_eq x z →
    list_any (λ w. bytes_eq w y) (cond (not (b || false)) (z ∷ except (x ∷ []) names) (except (x ∷ []) names)) ≡ true
named-by x y z names differs named others true true is is' = let never : true ≡ false = left-out x y z true differs is' (sym is) in absurd cc
named-by x y z names differs named others true false is is' = or-first (bytes_eq z y) (list_any (λ w. bytes_eq w y) (except (x ∷ []) names)) (sym is)
named-by x y z names differs named others false true is is' = others (or-second (bytes_eq z y) (list_any (λ w. bytes_eq w y) names) (sym is) named)
named-by x y z names differs named others false false is is' =
    named-later (except (x ∷ []) names) z y (others (or-second (bytes_eq z y) (list_any (λ w. bytes_eq w y) names) (sym is) named))

named-except : (x y : List ℕ) → bytes_eq x y ≡ false → (names : List (List ℕ)) → IsNamed names y → IsNamed (except (x ∷ []) names) y
named-except x y differs [] named = named
named-except x y differs (z ∷ names) named = named-by x y z names differs named (named-except x y differs names) (bytes_eq z y) (bytes_eq x z) refl refl

once-named : (x y : List ℕ) (names : List (List ℕ)) → IsNamed names y → IsNamed (x ∷ except (x ∷ []) names) y
once-named x y names named = by-test (bytes_eq x y) refl
  where
    by-test : (t : Bool) → bytes_eq x y ≡ t → IsNamed (x ∷ except (x ∷ []) names) y
    by-test true is = ap (λ t. t || list_any (λ z. bytes_eq z y) (except (x ∷ []) names)) is
    by-test false is = named-later (except (x ∷ []) names) x y (named-except x y is names named)

each-more : (P Q : List ℕ → Type 0) → ((x : List ℕ) → P x → Q x) → (names : List (List ℕ)) → Each P names → Each Q names
each-more P Q more [] each = tt
each-more P Q more (x ∷ names) each = (more x each.0, each-more P Q more names each.1)

-- each place has its name
pub once-covers : (places : List (List ℕ)) → Each (IsNamed (each_once places)) places
once-covers [] = tt
once-covers (x ∷ places) =
    (named-first (except (x ∷ []) (each_once places)) x, each-more (IsNamed (each_once places)) (IsNamed (each_once (x ∷ places))) (λ y named. once-named x y (each_once places) named) places (once-covers places))

-- no name comes twice

abbrev Apart : List (List ℕ) → Type 0
Apart [] = Unit {0}
Apart (x ∷ names) = Each (λ y. x ≢ y) names × Apart names

each-at : (P : List ℕ → Type 0) (names : List (List ℕ)) (j : ℕ) (d : List ℕ) → Each P names → j < length names → P (get_or names j d)
each-at P [] j d each below = absurd (omega (arith, below))
each-at P (x ∷ names) zero d each below = each.0
each-at P (x ∷ names) (suc j) d each below = each-at P names j d each.1 (omega (arith, below))

apart-pairs : (names : List (List ℕ)) → Apart names → (i j : ℕ) (d : List ℕ) → i < j → j < length names → get_or names i d ≢ get_or names j d
apart-pairs [] apart i j d before below = absurd (omega (arith, below))
apart-pairs (x ∷ names) apart i zero d before below = absurd (omega (arith, before))
apart-pairs (x ∷ names) apart zero (suc j) d before below = each-at (λ y. x ≢ y) names j d apart.0 (omega (arith, below))
apart-pairs (x ∷ names) apart (suc i) (suc j) d before below = apart-pairs names apart.1 i j d (omega (arith, before)) (omega (arith, below))

differ-by : (x z : List ℕ) (names : List (List ℕ)) → Each (λ y. x ≢ y) (except (x ∷ []) names) → (t : Bool) → bytes_eq x z ≡ t → Each (λ y. x ≢ y) (cond (not (t || false)) (z ∷ except (x ∷ []) names) (except (x ∷ []) names))
differ-by x z names others true is = others
differ-by x z names others false is = ((λ same. let never : true ≡ false = sym ((bytes_eq-Decides x z).1 same) ∙ is in cc), others)

all-differ : (x : List ℕ) (names : List (List ℕ)) → Each (λ y. x ≢ y) (except (x ∷ []) names)
all-differ x [] = tt
all-differ x (z ∷ names) = differ-by x z names (all-differ x names) (bytes_eq x z) refl

each-except : (P : List ℕ → Type 0) (bound names : List (List ℕ)) → Each P names → Each P (except bound names)
each-except P bound [] each = tt
each-except P bound (z ∷ names) each =
    elim (not (list_any (λ y. bytes_eq y z) bound)) as (λ t. Each P (cond t (z ∷ except bound names) (except bound names))) [ true ↦ (each.0, each-except P bound names each.1) | false ↦ each-except P bound names each.1 ]

apart-except : (bound names : List (List ℕ)) → Apart names → Apart (except bound names)
apart-except bound [] apart = tt
apart-except bound (z ∷ names) apart =
    elim (not (list_any (λ y. bytes_eq y z) bound)) as (λ t. Apart (cond t (z ∷ except bound names) (except bound names))) [
      | true ↦ (each-except (λ y. z ≢ y) bound names apart.0, apart-except bound names apart.1)
      | false ↦ apart-except bound names apart.1
    ]

once-apart : (places : List (List ℕ)) → Apart (each_once places)
once-apart [] = tt
once-apart (x ∷ places) = (all-differ x (each_once places), apart-except (x ∷ []) (each_once places) (once-apart places))

pub once-differ : (places : List (List ℕ)) → AllPairs (λ one other. one ≢ other) (each_once places)
once-differ places = apart-pairs (each_once places) (once-apart places)

-- the place of a name

place-by : (t : Bool) (n : ℕ) (k : ℕ) → (t ≡ false → n < k) → cond t 0 (suc n) < suc k
place-by true n k below = omega arith
place-by false n k below = omega (arith, below refl)

pub place-below : (names : List (List ℕ)) (x : List ℕ) → IsNamed names x → place_of names x < length names
place-below [] x named = let never : false ≡ true = named in absurd cc
place-below (y ∷ names) x named = place-by (bytes_eq y x) (place_of names x) (length names) (λ differs. place-below names x (sym (ap (λ t. t || list_any (λ z. bytes_eq z x) names) differs) ∙ named))

at-place-by : (names : List (List ℕ)) (x y : List ℕ) → (bytes_eq y x ≡ false → get_or names (place_of names x) [] ≡ x) → (t : Bool) → bytes_eq y x ≡ t → get_or (y ∷ names) (cond t 0 (suc (place_of names x))) [] ≡ x
at-place-by names x y later true is = same-name y x is
at-place-by names x y later false is = later is

pub name-at-place : (names : List (List ℕ)) (x : List ℕ) → IsNamed names x → get_or names (place_of names x) [] ≡ x
name-at-place [] x named = let never : false ≡ true = named in absurd cc
name-at-place (y ∷ names) x named =
    at-place-by names x y (λ differs. name-at-place names x (or-second (bytes_eq y x) (list_any (λ z. bytes_eq z x) names) differs named)) (bytes_eq y x) refl

pub each-named : (names : List (List ℕ)) → Each (IsNamed names) names
each-named [] = tt
each-named (x ∷ names) = (named-first names x, each-more (IsNamed names) (IsNamed (x ∷ names)) (λ y named. named-later names x y named) names (each-named names))

pub each-weaker : (P Q : List ℕ → Type 0) → ((x : List ℕ) → P x → Q x) → (names : List (List ℕ)) → Each P names → Each Q names
each-weaker = each-more
