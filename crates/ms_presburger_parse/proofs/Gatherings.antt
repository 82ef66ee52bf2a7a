-- What has been gathered of the free names of a formula.
use Rattle.std.proofs.Common.{◌≡◌, ℕ, zero, suc, ◌+◌, ◌-◌, ◌<◌, ◌≤◌, Bool, true, false, not, cond, ◌||◌, ◌&&◌, List, [], ◌∷◌, ◌++◌, length, take, map, get_or, refl, sym, ap, ◌∙◌, subst, inl, inr, arith, add-one, append_assoc, append-nil}
use Rattle.std.specs.Prelude.{filter, if◌then◌else◌, Result, OnOk}
use Rattle.std.specs.Str.{bytes_eq}
use Rattle.std.proofs.lemmas.Bool.{cases_Bool}
use Rattle.std.proofs.lemmas.List.Elements.{filter-append}
use Rattle.std.proofs.lemmas.List.Folds.{list_any-append}
use Rattle.std.proofs.lemmas.Result.{on_ok_weaker}
use Rattle.std.proofs.lemmas.Slice.Eq.{bytes_eq-Decides}
use Rattle.ms_presburger.specs.declared.linear.Linear.{Linear}
use Rattle.ms_presburger.specs.declared.linear.Part.{Part}
use Rattle.ms_presburger.specs.Tree.{Arithmetic, except, free_names, free_places, free_places_in_all, names_in_part, names_in_sum}
use Rattle.ms_presburger.specs.View.{arithmetic_of, arithmetics}
use Rattle.ms_presburger_parse.specs.declared.free.Gathered.{Gathered}
use Rattle.ms_presburger_parse.specs.declared.free.Standing.{Standing}
use Rattle.ms_presburger_parse.specs.inner.Gathering.{count_of, is_zero, is_among, with_name, with_names, standing_in, bound_in, free_among, IsMarked, Gathers, Binds}
use Rattle.ms_presburger_parse.proofs.Onces.{filter-both, filter-same, noted-free}

with_names-append : (names xs ys : List (List ℕ)) → with_names names (xs ++ ys) ≡ with_names (with_names names xs) ys
with_names-append names [] ys = refl
with_names-append names (x ∷ xs) ys = with_names-append (with_name names x) xs ys

free-same : (one other : List ℕ → ℕ) (xs : List (List ℕ)) → ((x : List ℕ) → one x ≡ other x) → free_among one xs ≡ free_among other xs
free-same one other xs same = filter-same (λ x. is_zero (one x)) (λ x. is_zero (other x)) xs (λ x. ap is_zero (same x))

pub gathers_none : (g : Gathered) → IsMarked g → Gathers g g []
gathers_none g marked = record { names = refl; bound = λ x. refl; marked = marked }

pub gathers_append : (a b c : Gathered) (xs ys : List (List ℕ)) → Gathers a b xs → Gathers b c ys → Gathers a c (xs ++ ys)
gathers_append a b c xs ys one two = record {
  names =
      two.names ∙ ap (with_names b.names) (free-same (bound_in b) (bound_in a) ys one.bound)
      ∙ ap (λ names. with_names names (free_among (bound_in a) ys)) one.names
      ∙ sym (with_names-append a.names (free_among (bound_in a) xs) (free_among (bound_in a) ys))
      ∙ ap (with_names a.names) (sym (filter-append (λ x. is_zero (bound_in a x)) xs ys));
  bound = λ x. two.bound x ∙ one.bound x;
  marked = two.marked;
}

-- the places of a formula are those of its first part and of its second
pub gathers_both : {T E : Type 0} (f : Arithmetic) (a b c : Gathered) (xs ys : List (List ℕ)) (r : Result T E) → free_places f ≡ xs ++ ys → Gathers a b xs → OnOk r (Gathers b c ys) → OnOk r (Gathers a c (free_places f))
gathers_both f a b c xs ys r is one two = on_ok_weaker {P = Gathers b c ys} {Q = Gathers a c (free_places f)} r (λ h. subst (Gathers a c) (sym is) (gathers_append a b c xs ys one h)) two

-- a place of a name

bound_zero : (n : ℕ) → 0 < n → is_zero n ≡ false
bound_zero zero h = absurd (omega (arith, h))
bound_zero (suc n) h = refl

pub mentions_bound : (g : Gathered) (x : List ℕ) → IsMarked g → 0 < (standing_in g x).bound → Gathers g g (x ∷ [])
mentions_bound g x marked some = record {
  names = ap (λ b. with_names g.names (cond b (x ∷ []) [])) (sym (bound_zero (bound_in g x) some));
  bound = λ y. refl;
  marked = marked;
}

noted_again : (names : List (List ℕ)) (x : List ℕ) (free : Bool) → is_among names x ≡ true → names ≡ with_names names (cond free (x ∷ []) [])
noted_again names x true there = ap (λ b. if b then names else names ++ x ∷ []) (sym there)
noted_again names x false there = refl

pub mentions_noted : (g : Gathered) (x : List ℕ) → IsMarked g → (standing_in g x).noted ≡ true → Gathers g g (x ∷ [])
mentions_noted g x marked noted = record {
  names = noted_again g.names x (is_zero (bound_in g x)) (sym (marked x) ∙ noted);
  bound = λ y. refl;
  marked = marked;
}

same_name : (x y : List ℕ) → bytes_eq x y ≡ true → x ≡ y
same_name x y = (bytes_eq-Decides x y).0

among-last : (names : List (List ℕ)) (x y : List ℕ) → is_among (names ++ x ∷ []) y ≡ (is_among names y || (bytes_eq x y || false))
among-last names x y = list_any-append (λ z. bytes_eq z y) names (x ∷ [])

or_true : (b : Bool) → (b || true) ≡ true
or_true true = refl
or_true false = refl

or_false : (b : Bool) → (b || false) ≡ b
or_false true = refl
or_false false = refl

pub mentions_new : (g g' : Gathered) (x : List ℕ) → IsMarked g → (standing_in g x).bound ≡ 0 → (standing_in g x).noted ≡ false
    → ((y : List ℕ) → standing_in g' y ≡ (if bytes_eq x y then record { bound = 0; noted = true } else standing_in g y)) → g'.names ≡ g.names ++ x ∷ [] → Gathers g g' (x ∷ [])
mentions_new g g' x marked unbound unnoted known names =
    let here : (y : List ℕ) → bytes_eq x y ≡ true → standing_in g' y ≡ record { bound = 0; noted = true } = λ y e. known y ∙ ap (λ b. if b then record { bound = 0; noted = true } else standing_in g y) e in
    let there : (y : List ℕ) → bytes_eq x y ≡ false → standing_in g' y ≡ standing_in g y = λ y e. known y ∙ ap (λ b. if b then record { bound = 0; noted = true } else standing_in g y) e in
    record {
      names =
          names ∙ ap (λ b. if b then g.names else g.names ++ x ∷ []) (sym unnoted ∙ marked x)
          ∙ ap (λ n. with_names g.names (cond (is_zero n) (x ∷ []) [])) (sym unbound);
      bound = λ y. elim (cases_Bool (bytes_eq x y)) [
        | inl e ↦ ap (λ (s : Standing). s.bound) (here y e) ∙ sym unbound ∙ ap (bound_in g) (same_name x y e)
        | inr e ↦ ap (λ (s : Standing). s.bound) (there y e)
      ];
      marked = λ y. elim (cases_Bool (bytes_eq x y)) [
        | inl e ↦
            ap (λ (s : Standing). s.noted) (here y e) ∙ sym (or_true (is_among g.names y)) ∙ ap (λ b. is_among g.names y || (b || false)) (sym e)
            ∙ sym (among-last g.names x y) ∙ ap (λ ns. is_among ns y) (sym names)
        | inr e ↦
            ap (λ (s : Standing). s.noted) (there y e) ∙ marked y ∙ sym (or_false (is_among g.names y)) ∙ ap (λ b. is_among g.names y || (b || false)) (sym e)
            ∙ sym (among-last g.names x y) ∙ ap (λ ns. is_among ns y) (sym names)
      ];
    }

-- names of a quantifier

pub binds_none : (g : Gathered) (often : List ℕ → ℕ) → IsMarked g → ((x : List ℕ) → bound_in g x ≡ often x) → Binds g g often
binds_none g often marked same = record { names = refl; bound = same; marked = marked }

pub binds_next : (g now now' : Gathered) (often often' : List ℕ → ℕ) (x : List ℕ) (s : Standing) → Binds g now often → s.noted ≡ (standing_in now x).noted
    → ((y : List ℕ) → standing_in now' y ≡ (if bytes_eq x y then s else standing_in now y)) → now'.names ≡ now.names → s.bound ≡ often' x → ((y : List ℕ) → bytes_eq x y ≡ false → often y ≡ often' y) → Binds g now' often'
binds_next g now now' often often' x s binds noted known names here there = record {
  names = names ∙ binds.names;
  bound = λ y. elim (cases_Bool (bytes_eq x y)) [
    | inl e ↦ ap (λ (t : Standing). t.bound) (known y ∙ ap (λ b. if b then s else standing_in now y) e) ∙ here ∙ ap often' (same_name x y e)
    | inr e ↦ ap (λ (t : Standing). t.bound) (known y ∙ ap (λ b. if b then s else standing_in now y) e) ∙ binds.bound y ∙ there y e
  ];
  marked = λ y. elim (cases_Bool (bytes_eq x y)) [
    | inl e ↦
        ap (λ (t : Standing). t.noted) (known y ∙ ap (λ b. if b then s else standing_in now y) e) ∙ noted ∙ ap (λ z. (standing_in now z).noted) (same_name x y e) ∙ binds.marked y
        ∙ ap (λ ns. is_among ns y) (sym names)
    | inr e ↦ ap (λ (t : Standing). t.noted) (known y ∙ ap (λ b. if b then s else standing_in now y) e) ∙ binds.marked y ∙ ap (λ ns. is_among ns y) (sym names)
  ];
}

pub count_of-most : (xs : List (List ℕ)) (y : List ℕ) → count_of xs y ≤ length xs
count_of-most [] y = omega arith
count_of-most (x ∷ xs) y =
    elim (cases_Bool (bytes_eq x y)) [
      | inl e ↦ omega (arith, ap (λ b. if b then suc (count_of xs y) else count_of xs y) e, count_of-most xs y)
      | inr e ↦ omega (arith, ap (λ b. if b then suc (count_of xs y) else count_of xs y) e, count_of-most xs y)
    ]

counted_more : (here : Bool) (m n : ℕ) → m ≡ n + 1 → (if here then suc m else m) ≡ (if here then suc n else n) + 1
counted_more true m n is = omega (arith, is)
counted_more false m n is = is

counted_below : (here : Bool) (m n : ℕ) → m < n → (if here then suc m else m) < (if here then suc n else n)
counted_below true m n below = omega (arith, below)
counted_below false m n below = below

-- the item at a place, one more time, and no other name

count_of-here-at : (xs : List (List ℕ)) (i : ℕ) (x : List ℕ) → i < length xs → x ≡ get_or xs i x → count_of (take (suc i) xs) x ≡ count_of (take i xs) x + 1
count_of-here-at [] i x within is = absurd (omega (arith, within))
count_of-here-at (y ∷ ys) zero x within is =
    let same : bytes_eq y x ≡ true = (bytes_eq-Decides y x).1 (sym is) in
    ap (λ b. if b then 1 else 0) same
count_of-here-at (y ∷ ys) (suc i) x within is =
    counted_more (bytes_eq y x) (count_of (take (suc i) ys) x) (count_of (take i ys) x) (count_of-here-at ys i x (omega (arith, within)) is)

pub count_of-here : (xs : List (List ℕ)) (i : ℕ) (x : List ℕ) → i < length xs → x ≡ get_or xs i x → count_of (take (i + 1) xs) x ≡ count_of (take i xs) x + 1
count_of-here xs i x within is = ap (λ j. count_of (take j xs) x) (add-one i) ∙ count_of-here-at xs i x within is

count_of-other-at : (xs : List (List ℕ)) (i : ℕ) (x z : List ℕ) → i < length xs → x ≡ get_or xs i x → bytes_eq x z ≡ false → count_of (take (suc i) xs) z ≡ count_of (take i xs) z
count_of-other-at [] i x z within is apart = absurd (omega (arith, within))
count_of-other-at (y ∷ ys) zero x z within is apart =
    let same : bytes_eq y z ≡ false = ap (λ w. bytes_eq w z) (sym is) ∙ apart in
    ap (λ b. if b then 1 else 0) same
count_of-other-at (y ∷ ys) (suc i) x z within is apart =
    ap (λ n. if bytes_eq y z then suc n else n) (count_of-other-at ys i x z (omega (arith, within)) is apart)

pub count_of-other : (xs : List (List ℕ)) (i : ℕ) (x z : List ℕ) → i < length xs → x ≡ get_or xs i x → bytes_eq x z ≡ false → count_of (take (i + 1) xs) z ≡ count_of (take i xs) z
count_of-other xs i x z within is apart = ap (λ j. count_of (take j xs) z) (add-one i) ∙ count_of-other-at xs i x z within is apart

pub count_of-within : (xs : List (List ℕ)) (i : ℕ) (x : List ℕ) → i < length xs → x ≡ get_or xs i x → count_of (take i xs) x < count_of xs x
count_of-within [] i x within is = absurd (omega (arith, within))
count_of-within (y ∷ ys) zero x within is =
    let same : bytes_eq y x ≡ true = (bytes_eq-Decides y x).1 (sym is) in
    omega (arith, ap (λ b. if b then suc (count_of ys x) else count_of ys x) same)
count_of-within (y ∷ ys) (suc i) x within is =
    counted_below (bytes_eq y x) (count_of (take i ys) x) (count_of ys x) (count_of-within ys i x (omega (arith, within)) is)

-- no quantifier around and none of these names binds
zero_sum : (n : ℕ) (xs : List (List ℕ)) (x : List ℕ) → is_zero (n + count_of xs x) ≡ (not (is_among xs x) && is_zero n)
zero_sum n [] x = ap is_zero (omega arith)
zero_sum n (y ∷ ys) x =
    elim (cases_Bool (bytes_eq y x)) [
      | inl e ↦
          let some : 0 < n + count_of (y ∷ ys) x = omega (arith, ap (λ b. if b then suc (count_of ys x) else count_of ys x) e) in
          bound_zero (n + count_of (y ∷ ys) x) some ∙ ap (λ b. not (b || is_among ys x) && is_zero n) (sym e)
      | inr e ↦
          ap (λ b. is_zero (n + (if b then suc (count_of ys x) else count_of ys x))) e ∙ zero_sum n ys x ∙ ap (λ b. not (b || is_among ys x) && is_zero n) (sym e)
    ]

free-except : (a b : Gathered) (xs places : List (List ℕ)) → Binds a b (λ x. bound_in a x + count_of xs x) → free_among (bound_in b) places ≡ free_among (bound_in a) (except xs places)
free-except a b xs places binds =
    filter-same (λ x. is_zero (bound_in b x)) (λ x. not (is_among xs x) && is_zero (bound_in a x)) places (λ x. ap is_zero (binds.bound x) ∙ zero_sum (bound_in a x) xs x)
    ∙ sym (filter-both (λ x. is_zero (bound_in a x)) (λ x. not (is_among xs x)) places)

-- the body of a quantifier
pub gathers_bound : (a b c d : Gathered) (xs places : List (List ℕ)) → Binds a b (λ x. bound_in a x + count_of xs x) → Gathers b c places → Binds c d (λ x. bound_in c x - count_of xs x) → Gathers a d (except xs places)
gathers_bound a b c d xs places binds inner unbinds = record {
  names =
      unbinds.names ∙ inner.names ∙ ap (λ ns. with_names ns (free_among (bound_in b) places)) binds.names
      ∙ ap (with_names a.names) (free-except a b xs places binds);
  bound = λ x. omega (arith, unbinds.bound x, inner.bound x, binds.bound x);
  marked = unbinds.marked;
}

-- lists with one more

sum-next-at : (parts : List Part) (i : ℕ) (p : Part) → i < length parts → p ≡ get_or parts i p → names_in_sum (take (suc i) parts) ≡ names_in_sum (take i parts) ++ names_in_part p
sum-next-at [] i p within is = absurd (omega (arith, within))
sum-next-at (q ∷ qs) zero p within is = ap (λ r. names_in_part r ++ []) (sym is) ∙ append-nil (names_in_part p)
sum-next-at (q ∷ qs) (suc i) p within is =
    ap (λ x. names_in_part q ++ x) (sum-next-at qs i p (omega (arith, within)) is) ∙ sym (append_assoc (names_in_part q) (names_in_sum (take i qs)) (names_in_part p))

pub sum-next : (parts : List Part) (i : ℕ) (p : Part) → i < length parts → p ≡ get_or parts i p → names_in_sum (take (i + 1) parts) ≡ names_in_sum (take i parts) ++ names_in_part p
sum-next parts i p within is = ap (λ j. names_in_sum (take j parts)) (add-one i) ∙ sum-next-at parts i p within is

abbrev pub places_of : List Linear → List (List ℕ)
places_of fs = free_places_in_all (arithmetics (map arithmetic_of fs))

places-next-at : (fs : List Linear) (i : ℕ) (f : Linear) → i < length fs → f ≡ get_or fs i f → places_of (take (suc i) fs) ≡ places_of (take i fs) ++ free_places (arithmetic_of f)
places-next-at [] i f within is = absurd (omega (arith, within))
places-next-at (g ∷ gs) zero f within is = ap (λ h. free_places (arithmetic_of h) ++ []) (sym is) ∙ append-nil (free_places (arithmetic_of f))
places-next-at (g ∷ gs) (suc i) f within is =
    ap (λ x. free_places (arithmetic_of g) ++ x) (places-next-at gs i f (omega (arith, within)) is) ∙ sym (append_assoc (free_places (arithmetic_of g)) (places_of (take i gs)) (free_places (arithmetic_of f)))

pub places-next : (fs : List Linear) (i : ℕ) (f : Linear) → i < length fs → f ≡ get_or fs i f → places_of (take (i + 1) fs) ≡ places_of (take i fs) ++ free_places (arithmetic_of f)
places-next fs i f within is = ap (λ j. places_of (take j fs)) (add-one i) ∙ places-next-at fs i f within is

-- the whole formula

filter-all : {X : Type 0} (p : X → Bool) (xs : List X) → ((x : X) → p x ≡ true) → filter p xs ≡ xs
filter-all p [] every = refl
filter-all p (x ∷ xs) every = ap (λ b. cond b (x ∷ filter p xs) (filter p xs)) (every x) ∙ ap (λ ys. x ∷ ys) (filter-all p xs every)

pub gathers_whole : (g g' : Gathered) (f : Arithmetic) → ((x : List ℕ) → bound_in g x ≡ 0) → g.names ≡ [] → Gathers g g' (free_places f) → g'.names ≡ free_names f
gathers_whole g g' f unbound none gathers =
    gathers.names ∙ ap (with_names g.names) (filter-all (λ x. is_zero (bound_in g x)) (free_places f) (λ x. ap is_zero (unbound x)))
    ∙ ap (λ names. with_names names (free_places f)) none ∙ noted-free f
