-- Lists of globals that have the same names and orders up to a place.
use Rattle.std.proofs.Common.{◌≡◌, ℕ, zero, suc, List, [], ◌∷◌, length, map, slice_get, Some, refl, sym, ap, ap₂, ◌∙◌, arith}
use Rattle.std.specs.Option.{option_map}
use Rattle.std.proofs.lemmas.Option.{none-some, same_Some}
use Rattle.ms_logic.specs.declared.checked.Checked.{Checked}
use Rattle.ms_logic.specs.declared.checked.Global.{Global}
use Rattle.ms_logic_words.specs.Content.{variables_from}
use Rattle.ms_logic.specs.Verdict.{variables_of}
use Rattle.ms_logic.specs.View.{problem_of, Answers}
use Rattle.ms_build_source.proofs.GlobalLemmas.{globals_by_place}
use Rattle.ms_app.specs.Comparison.{HaveSameGlobals}

abbrev pub IsSame : Global → Global → Type 0
IsSame x y = (x.name ≡ y.name) × (x.order ≡ y.order)

abbrev pub AreSame : List Global → List Global → Type 0
AreSame xs ys = (map (λ g. g.name) xs ≡ map (λ g. g.name) ys) × (map (λ g. g.order) xs ≡ map (λ g. g.order) ys)

abbrev pub AreSameUpTo : ℕ → List Global → List Global → Type 0
AreSameUpTo zero xs ys = Unit {0}
AreSameUpTo (suc n) (x ∷ xs) (y ∷ ys) = IsSame x y × AreSameUpTo n xs ys
AreSameUpTo (suc n) [] ys = ⊥
AreSameUpTo (suc n) (x ∷ xs) [] = ⊥

pub same_up_to_more : (n : ℕ) (xs ys : List Global) (x y : Global) → slice_get xs n ≡ Some x → slice_get ys n ≡ Some y → IsSame x y → AreSameUpTo n xs ys → AreSameUpTo (suc n) xs ys
same_up_to_more n [] ys x y at_x at_y same before = absurd (none-some x at_x)
same_up_to_more n (first ∷ xs) [] x y at_x at_y same before = absurd (none-some y at_y)
same_up_to_more zero (first ∷ xs) (other ∷ ys) x y at_x at_y same before =
    ((ap (λ g. g.name) (same_Some first x at_x) ∙ same.0 ∙ ap (λ g. g.name) (sym (same_Some other y at_y)), ap (λ g. g.order) (same_Some first x at_x) ∙ same.1 ∙ ap (λ g. g.order) (sym (same_Some other y at_y))), tt)
same_up_to_more (suc n) (first ∷ xs) (other ∷ ys) x y at_x at_y same before = (before.0, same_up_to_more n xs ys x y at_x at_y same before.1)

pub same_up_to_all : (n : ℕ) (xs ys : List Global) → n ≡ length xs → n ≡ length ys → AreSameUpTo n xs ys → AreSame xs ys
same_up_to_all zero [] [] one two same = (refl, refl)
same_up_to_all zero [] (y ∷ ys) one two same = absurd (omega (arith, two))
same_up_to_all zero (x ∷ xs) ys one two same = absurd (omega (arith, one))
same_up_to_all (suc n) [] ys one two same = absurd (omega (arith, one))
same_up_to_all (suc n) (x ∷ xs) [] one two same = absurd (omega (arith, two))
same_up_to_all (suc n) (x ∷ xs) (y ∷ ys) one two same =
    let rest = same_up_to_all n xs ys (omega (arith, one)) (omega (arith, two)) same.1 in
    (ap₂ (λ z zs. z ∷ zs) same.0.0 rest.0, ap₂ (λ z zs. z ∷ zs) same.0.1 rest.1)

at_place : {X Y : Type 0} (f : X → Y) (n : ℕ) (xs : List X) → slice_get (map f xs) n ≡ option_map f (slice_get xs n)
at_place f n [] = refl
at_place f zero (x ∷ xs) = refl
at_place f (suc n) (x ∷ xs) = at_place f n xs

mapped_same : {X Y : Type 0} (f : X → Y) (n : ℕ) (xs ys : List X) (x y : X) → slice_get xs n ≡ Some x → slice_get ys n ≡ Some y → map f xs ≡ map f ys → f x ≡ f y
mapped_same f n xs ys x y at_x at_y same =
    same_Some (f x) (f y)
    (sym (at_place f n xs ∙ ap (option_map f) at_x) ∙ ap (λ l. slice_get l n) same ∙ at_place f n ys ∙ ap (option_map f) at_y)

pub same_at : (n : ℕ) (xs ys : List Global) (x y : Global) → slice_get xs n ≡ Some x → slice_get ys n ≡ Some y → AreSame xs ys → IsSame x y
same_at n xs ys x y at_x at_y same = (mapped_same (λ g. g.name) n xs ys x y at_x at_y same.0, mapped_same (λ g. g.order) n xs ys x y at_x at_y same.1)

pub same_variables : (one two : Checked) (answers others : Answers) → HaveSameGlobals one two → variables_of (problem_of one answers).globals ≡ variables_of (problem_of two others).globals
same_variables one two answers others same = globals_by_place 0 one.globals ∙ ap (variables_from 0) same.orders ∙ sym (globals_by_place 0 two.globals)
