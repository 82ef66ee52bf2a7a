-- Values that are entered one after the other.
use Rattle.std.proofs.Common.{◌≡◌, ℕ, zero, suc, ◌+◌, ◌<◌, ◌≤◌, List, [], ◌∷◌, ◌++◌, length, map, drop, drop-cons, get_or, slice_get, Some, None, refl, sym, ap, ◌∙◌, arith}
use Rattle.ms_logic_core.specs.CoreForm.{CoreForm}
use Rattle.ms_logic.specs.declared.formula.Binding.{Binding}
use Rattle.ms_logic.specs.declared.formula.Arg.TheFolds.{fold_out-Binding}
use Rattle.ms_logic.specs.Tree.{Form, Argument}
use Rattle.ms_logic.specs.View.{argument_at, argument_of, binding_at, binding_of, form_at}
use Rattle.ms_lower.specs.declared.defined.Defined.{Defined}
use Rattle.ms_lower.specs.inner.Given.{below_all, below_given}

-- the items from a place on
pub drop_at : {A : Type 0} (xs : List A) (i : ℕ) (x : A) → i < length xs → x ≡ get_or xs i x → drop i xs ≡ x ∷ drop (i + 1) xs
drop_at xs i x within is = let next : suc i ≡ i + 1 = omega arith in drop-cons xs i x within ∙ (ap (λ y. y ∷ drop (suc i) xs) (sym is) ∙ ap (λ k. x ∷ drop k xs) next)

pub below_all-append : (made : List Defined) (last : Defined) (f : CoreForm) → below_all (made ++ last ∷ []) f ≡ below_all made (below_given last f)
below_all-append [] last f = refl
below_all-append (d ∷ made) last f = ap (below_given d) (below_all-append made last f)

-- the item at a place of a list that was mapped twice
pub get_map_two : {A B C : Type 0} (f : A → B) (g : B → C) (xs : List A) (i : ℕ) (x : A) → i < length xs → x ≡ get_or xs i x → slice_get (map g (map f xs)) i ≡ Some (g (f x))
get_map_two f g [] i x within is = absurd (omega arith)
get_map_two f g (y ∷ xs) zero x within is = ap (λ z. Some (g (f z))) (sym is)
get_map_two f g (y ∷ xs) (suc i) x within is = get_map_two f g xs i x (omega arith) is

pub get_map_beyond : {A B C : Type 0} (f : A → B) (g : B → C) (xs : List A) (i : ℕ) → length xs ≤ i → slice_get (map g (map f xs)) i ≡ None
get_map_beyond f g [] i beyond = refl
get_map_beyond f g (y ∷ xs) zero beyond = absurd (omega arith)
get_map_beyond f g (y ∷ xs) (suc i) beyond = get_map_beyond f g xs i (omega arith)

-- the values of a list without its last one, and then those of the last
pub below_last : (all front : List Defined) (last : Defined) (f : CoreForm) → all ≡ front ++ last ∷ [] → below_all front (below_given last f) ≡ below_all all f
below_last all front last f is = sym (below_all-append front last f) ∙ ap (λ l. below_all l f) (sym is)

binding_is : (b : Binding) → binding_of b ≡ (b.variable, argument_of b.value)
binding_is b = fold_out-Binding Argument Form (ℕ × Argument) argument_at form_at binding_at b

pub name_within : (bindings : List Binding) (i : ℕ) (b : Binding) → i < length bindings → b ≡ get_or bindings i b → Some (get_or bindings i b).variable ≡ slice_get (map (λ b. b.0) (map binding_of bindings)) i
name_within bindings i b within is =
    sym (get_map_two binding_of (λ b. b.0) bindings i b within is ∙ (ap (λ p. let n : ℕ = p.0 in Some n) (binding_is b) ∙ ap (λ b. let n : ℕ = b.variable in Some n) is))

pub side_within : (bindings : List Binding) (i : ℕ) (b : Binding) → i < length bindings → b ≡ get_or bindings i b → slice_get (map (λ b. b.1) (map binding_of bindings)) i ≡ Some (argument_of (get_or bindings i b).value)
side_within bindings i b within is =
    get_map_two binding_of (λ b. b.1) bindings i b within is ∙ (ap (λ p. let a : Argument = p.1 in Some a) (binding_is b) ∙ ap (λ b. let a : Argument = argument_of b.value in Some a) is)
