-- One more part of a source.
use Rattle.std.proofs.Common.{◌≡◌, ℕ, zero, suc, ◌+◌, ◌<◌, ◌≤◌, Bool, true, false, cond, List, [], ◌∷◌, ◌++◌, length, map, max, take, get_or, slice_get, Some, None, inl, inr, refl, sym, ap, ◌∙◌, arith, append_assoc, append-nil}
use Rattle.std.proofs.lemmas.Bool.{cases_lt}
use Rattle.std.proofs.lemmas.List.{take_more, map-append}
use Rattle.std.proofs.lemmas.List.Elements.{filter_more}
use Rattle.std.specs.Prelude.{filter}
use Rattle.ms_list.specs.declared.at.At.{At}
use Rattle.ms_logic_core.specs.Size.{Extent, greatest_depth}
use Rattle.ms_lower.specs.declared.counted.Counted.{Counted}
use Rattle.ms_lower.specs.declared.source_extents.Deep.{Deep}
use Rattle.ms_lower.specs.Counted.{counted, both_counts, deepest}
use Rattle.ms_lower.specs.TooDeep.{Part, HasTooDeep, NoneBefore, IsTooDeep, extents_of_parts}
use Rattle.ms_lower.proofs.Counting.{counted-append, within, beyond}

pub none_is_not_some : {A : Type 0} (x : A) → None ≡ Some x → ⊥
none_is_not_some x same = cc

too_deep-last : (item : ℕ) (at : At) (parts : List Part) (part : Part) → (part.item ≡ item) × (part.at ≡ at) × IsTooDeep part → HasTooDeep item at (parts ++ part ∷ [])
too_deep-last item at [] part deep = inl deep
too_deep-last item at (p ∷ parts) part deep = inr (too_deep-last item at parts part deep)

too_deep-front : (item : ℕ) (at : At) (parts : List Part) (part : Part) → HasTooDeep item at parts → HasTooDeep item at (parts ++ part ∷ [])
too_deep-front item at [] part deep = absurd deep
too_deep-front item at (p ∷ parts) part (inl deep) = inl deep
too_deep-front item at (p ∷ parts) part (inr later) = inr (too_deep-front item at parts part later)

none_before-more : (item : ℕ) (parts : List Part) (part : Part) → NoneBefore item parts → (IsTooDeep part → item ≤ part.item) → NoneBefore item (parts ++ part ∷ [])
none_before-more item [] part none here = (here, tt)
none_before-more item (p ∷ parts) part none here = (none.0, none_before-more item parts part none.1 here)

none_before-lower : (item other : ℕ) (parts : List Part) → other ≤ item → NoneBefore item parts → NoneBefore other parts
none_before-lower item other [] below none = tt
none_before-lower item other (p ∷ parts) below none = ((λ deep. omega (arith, none.0 deep)), none_before-lower item other parts below none.1)

pub greatest-append : (xs ys : List Extent) → greatest_depth (xs ++ ys) ≡ max (greatest_depth xs) (greatest_depth ys)
greatest-append [] ys = omega arith
greatest-append (x ∷ xs) ys = ap (max x.depth) (greatest-append xs ys) ∙ omega arith

-- where all parts are counted, none is too deep
none_deep : (item : ℕ) (parts : List Part) → greatest_depth (extents_of_parts parts) ≤ deepest → NoneBefore item parts
none_deep item [] small = tt
none_deep item (p ∷ parts) small =
    let both = greatest-append p.extents (extents_of_parts parts) in
    ((λ deep. absurd (omega (arith, both, small, deep))), none_deep item parts (omega (arith, both, small)))

counted-small : (parts : List Extent) (c : Counted) → counted deepest parts ≡ Some c → greatest_depth parts ≤ deepest
counted-small parts c is =
    elim (cases_lt deepest (greatest_depth parts)) [
      | inl deep ↦ absurd (none_is_not_some c (sym (beyond deepest parts deep) ∙ is))
      | inr small ↦ small
    ]

uncounted-deep : (parts : List Extent) → None ≡ counted deepest parts → deepest < greatest_depth parts
uncounted-deep parts is =
    elim (cases_lt deepest (greatest_depth parts)) [
      | inl deep ↦ deep
      | inr small ↦ absurd (none_is_not_some _ (is ∙ within deepest parts small))
    ]

extents_of_parts-more : (parts : List Part) (part : Part) → extents_of_parts (parts ++ part ∷ []) ≡ extents_of_parts parts ++ part.extents
extents_of_parts-more [] part = append-nil part.extents
extents_of_parts-more (p ∷ parts) part = ap (λ l. p.extents ++ l) (extents_of_parts-more parts part) ∙ sym (append_assoc p.extents (extents_of_parts parts) part.extents)

-- one part more: it is counted with the others ..
pub found_counted : (parts : List Part) (part : Part) (c k s : Counted) → counted deepest (extents_of_parts parts) ≡ Some c → Some k ≡ counted deepest part.extents →
    Some s ≡ both_counts (Some c) (Some k) → counted deepest (extents_of_parts (parts ++ part ∷ [])) ≡ Some s
found_counted parts part c k s found one is =
    ap (counted deepest) (extents_of_parts-more parts part)
    ∙ (sym (counted-append deepest (extents_of_parts parts) part.extents)
    ∙ (ap (λ o. both_counts o (counted deepest part.extents)) found ∙ (ap (both_counts (Some c)) (sym one) ∙ sym is)))

-- .. or it is the first that is too deep ..
pub found_deep : (parts : List Part) (part : Part) (c : Counted) → counted deepest (extents_of_parts parts) ≡ Some c → None ≡ counted deepest part.extents →
    HasTooDeep part.item part.at (parts ++ part ∷ []) × NoneBefore part.item (parts ++ part ∷ [])
found_deep parts part c found one = (
  too_deep-last part.item part.at parts part (refl, refl, uncounted-deep part.extents one),
  none_before-more part.item parts part (none_deep part.item parts (counted-small (extents_of_parts parts) c found)) (λ deep. omega arith),
)

-- .. or one before stays the first ..
pub found_before : (parts : List Part) (part : Part) (d : Deep) → HasTooDeep d.item d.at parts × NoneBefore d.item parts → (IsTooDeep part → d.item ≤ part.item) →
    HasTooDeep d.item d.at (parts ++ part ∷ []) × NoneBefore d.item (parts ++ part ∷ [])
found_before parts part d found later = (too_deep-front d.item d.at parts part found.0, none_before-more d.item parts part found.1 later)

-- .. or it comes before that one
pub found_earlier : (parts : List Part) (part : Part) (d : Deep) → HasTooDeep d.item d.at parts × NoneBefore d.item parts → None ≡ counted deepest part.extents → part.item ≤ d.item →
    HasTooDeep part.item part.at (parts ++ part ∷ []) × NoneBefore part.item (parts ++ part ∷ [])
found_earlier parts part d found one earlier = (
  too_deep-last part.item part.at parts part (refl, refl, uncounted-deep part.extents one),
  none_before-more part.item parts part (none_before-lower d.item part.item parts earlier found.1) (λ deep. omega arith),
)

counted-not_deep : (part : Part) (k : Counted) → Some k ≡ counted deepest part.extents → IsTooDeep part → ⊥
counted-not_deep part k is deep = let small = counted-small part.extents k (sym is) in omega (arith, small, deep)

pub found_still : (parts : List Part) (part : Part) (d : Deep) (k : Counted) → HasTooDeep d.item d.at parts × NoneBefore d.item parts → Some k ≡ counted deepest part.extents →
    HasTooDeep d.item d.at (parts ++ part ∷ []) × NoneBefore d.item (parts ++ part ∷ [])
found_still parts part d k found one = found_before parts part d found (λ deep. absurd (counted-not_deep part k one deep))

-- one item more of a list
pub map-more : {A B : Type 0} (f : A → B) (xs : List A) (i : ℕ) (x : A) → i < length xs → x ≡ get_or xs i x → map f (take (i + 1) xs) ≡ map f (take i xs) ++ f x ∷ []
map-more f xs i x below is =
    let taken : take (i + 1) xs ≡ take i xs ++ x ∷ [] = take_more xs i x below ∙ ap (λ y. take i xs ++ y ∷ []) (sym is) in
    ap (map f) taken ∙ map-append f (take i xs) (x ∷ [])

-- one item more, which a test keeps or does not

filtered-more : {A : Type 0} (test : A → Bool) (xs : List A) (i : ℕ) (x : A) (kept : Bool) → i < length xs → x ≡ get_or xs i x → test x ≡ kept →
    filter test (take (i + 1) xs) ≡ filter test (take i xs) ++ cond kept (x ∷ []) []
filtered-more test xs i x kept below is answer =
    filter_more test xs i x below
    ∙ (ap (λ y. filter test (take i xs) ++ cond (test y) (y ∷ []) []) (sym is) ∙ ap (λ b. filter test (take i xs) ++ cond b (x ∷ []) []) answer)

pub kept-more : {A : Type 0} (test : A → Bool) (xs : List A) (i : ℕ) (x : A) → i < length xs → x ≡ get_or xs i x → test x ≡ true → filter test (take (i + 1) xs) ≡ filter test (take i xs) ++ x ∷ []
kept-more test xs i x below is passes = filtered-more test xs i x true below is passes

pub not_kept-more : {A : Type 0} (test : A → Bool) (xs : List A) (i : ℕ) (x : A) → i < length xs → x ≡ get_or xs i x → test x ≡ false → filter test (take (i + 1) xs) ≡ filter test (take i xs)
not_kept-more test xs i x below is fails = filtered-more test xs i x false below is fails ∙ append-nil (filter test (take i xs))

-- an item of the front of a list, and one behind it

pub slice_get-front : {A : Type 0} (xs ys : List A) (i : ℕ) → i < length xs → slice_get (xs ++ ys) i ≡ slice_get xs i
slice_get-front [] ys i within = absurd (omega arith)
slice_get-front (x ∷ xs) ys zero within = refl
slice_get-front (x ∷ xs) ys (suc i) within = slice_get-front xs ys i (omega arith)

pub slice_get-behind : {A : Type 0} (xs ys : List A) (n i : ℕ) → n ≡ length xs + i → slice_get (xs ++ ys) n ≡ slice_get ys i
slice_get-behind [] ys n i same = let equal : n ≡ i = omega (arith, same) in ap (slice_get ys) equal
slice_get-behind (x ∷ xs) ys zero i same = absurd (omega (arith, same))
slice_get-behind (x ∷ xs) ys (suc n) i same = slice_get-behind xs ys n i (omega (arith, same))
