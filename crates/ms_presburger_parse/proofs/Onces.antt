-- Names noted by their first places are those of the places, each once.
use Rattle.std.proofs.Common.{◌≡◌, ℕ, Bool, true, false, not, cond, ◌||◌, ◌&&◌, List, [], ◌∷◌, ◌++◌, refl, sym, ap, ◌∙◌, subst, inl, inr, append_assoc, append-nil}
use Rattle.std.specs.Prelude.{filter, if◌then◌else◌}
use Rattle.std.specs.Str.{bytes_eq}
use Rattle.std.proofs.lemmas.Bool.{cases_Bool}
use Rattle.std.proofs.lemmas.List.Folds.{list_any-append}
use Rattle.std.proofs.lemmas.Slice.Eq.{bytes_eq-Decides}
use Rattle.ms_presburger.specs.Tree.{except, each_once, free_names, free_places, Arithmetic}
use Rattle.ms_presburger.proofs.Scopes.{except-none}
use Rattle.ms_presburger_parse.specs.inner.Gathering.{is_among, with_names}

-- items that pass one test and the other

pub filter-both : {X : Type 0} (p q : X → Bool) (xs : List X) → filter p (filter q xs) ≡ filter (λ x. q x && p x) xs
filter-both p q [] = refl
filter-both p q (x ∷ xs) =
    elim (cases_Bool (q x)) [
      | inl e ↦
          ap (λ b. filter p (cond b (x ∷ filter q xs) (filter q xs))) e ∙ ap (λ ys. cond (p x) (x ∷ ys) ys) (filter-both p q xs)
          ∙ sym (ap (λ b. cond (b && p x) (x ∷ filter (λ y. q y && p y) xs) (filter (λ y. q y && p y) xs)) e)
      | inr e ↦
          ap (λ b. filter p (cond b (x ∷ filter q xs) (filter q xs))) e ∙ filter-both p q xs
          ∙ sym (ap (λ b. cond (b && p x) (x ∷ filter (λ y. q y && p y) xs) (filter (λ y. q y && p y) xs)) e)
    ]

pub filter-same : {X : Type 0} (p q : X → Bool) (xs : List X) → ((x : X) → p x ≡ q x) → filter p xs ≡ filter q xs
filter-same p q [] same = refl
filter-same p q (x ∷ xs) same = ap (λ b. cond b (x ∷ filter p xs) (filter p xs)) (same x) ∙ ap (λ ys. cond (q x) (x ∷ ys) ys) (filter-same p q xs same)

-- names that are none of these

neither : (a b : Bool) → (not b && not a) ≡ not (a || b)
neither true true = refl
neither true false = refl
neither false true = refl
neither false false = refl

pub except-except : (some more xs : List (List ℕ)) → except some (except more xs) ≡ except (some ++ more) xs
except-except some more xs =
    filter-both (λ x. not (is_among some x)) (λ x. not (is_among more x)) xs
    ∙ filter-same (λ x. not (is_among more x) && not (is_among some x)) (λ x. not (is_among (some ++ more) x)) xs
    (λ x. neither (is_among some x) (is_among more x) ∙ ap not (sym (list_any-append (λ y. bytes_eq y x) some more)))

-- one that is among the names makes no difference

covered : (a b : Bool) → (b ≡ true → a ≡ true) → (a || (b || false)) ≡ a
covered true b h = refl
covered false true h = sym (h refl)
covered false false h = refl

among_same : (names : List (List ℕ)) (x y : List ℕ) → is_among names x ≡ true → bytes_eq x y ≡ true → is_among names y ≡ true
among_same names x y there same = let P : List ℕ → Type 0 = λ z. is_among names z ≡ true in subst P ((bytes_eq-Decides x y).0 same) there

except-among : (names : List (List ℕ)) (x : List ℕ) (ys : List (List ℕ)) → is_among names x ≡ true → except (names ++ x ∷ []) ys ≡ except names ys
except-among names x ys there =
    filter-same (λ y. not (is_among (names ++ x ∷ []) y)) (λ y. not (is_among names y)) ys
    (λ y. ap not (list_any-append (λ z. bytes_eq z y) names (x ∷ []) ∙ covered (is_among names y) (bytes_eq x y) (among_same names x y there)))

noted : (names xs : List (List ℕ)) → with_names names xs ≡ names ++ except names (each_once xs)
noted names [] = sym (append-nil names)
noted names (x ∷ xs) =
    let rest = each_once xs in
    elim (cases_Bool (is_among names x)) [
      | inl e ↦
          ap (λ b. with_names (if b then names else names ++ x ∷ []) xs) e ∙ noted names xs
          ∙ ap (λ ys. names ++ ys) (sym (except-among names x rest e) ∙ sym (except-except names (x ∷ []) rest))
          ∙ ap (λ b. names ++ cond (not b) (x ∷ except names (except (x ∷ []) rest)) (except names (except (x ∷ []) rest))) (sym e)
      | inr e ↦
          ap (λ b. with_names (if b then names else names ++ x ∷ []) xs) e ∙ noted (names ++ x ∷ []) xs
          ∙ append_assoc names (x ∷ []) (except (names ++ x ∷ []) rest)
          ∙ ap (λ ys. names ++ x ∷ ys) (sym (except-except names (x ∷ []) rest))
          ∙ ap (λ b. names ++ cond (not b) (x ∷ except names (except (x ∷ []) rest)) (except names (except (x ∷ []) rest))) (sym e)
    ]

-- the free names of a formula
pub noted-free : (f : Arithmetic) → with_names [] (free_places f) ≡ free_names f
noted-free f = noted [] (free_places f) ∙ except-none (each_once (free_places f))
