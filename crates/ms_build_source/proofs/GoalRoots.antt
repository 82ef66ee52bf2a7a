-- The automata of goals are those of the roots behind the roots of exports.
use Rattle.std.proofs.Common.{◌≡◌, ℕ, suc, ◌+◌, ⊎_elim, List, [], ◌∷◌, ◌++◌, length, slice_get, Some, refl, subst, arith}
use Rattle.std.specs.List.{AllZip}
use Rattle.ms_arena.proofs.Lists.{slice_get-pushed}
use Rattle.ms_build.specs.declared.plan.Plan.{Plan}
use Rattle.ms_build.specs.Built.{IsWithin}
use Rattle.ms_build.specs.Roots.{IsRootAt}
use Rattle.ms_logic.specs.Lists.{Each}
use Rattle.ms_logic_words.specs.declared.sign.Sign.{Sign}
use Rattle.ms_logic_words.specs.Content.{Content}

-- one root more
pub more_roots : (limit : ℕ) (plan : Plan) (first root : ℕ) (contents : List (Content Sign)) (content : Content Sign) → first + length contents ≡ root
    → ((place : ℕ) (other : Content Sign) → slice_get contents place ≡ Some other → IsRootAt plan (first + place) other × IsWithin limit other)
    → IsRootAt plan root content → IsWithin limit content
    → (place : ℕ) (other : Content Sign) → slice_get (contents ++ content ∷ []) place ≡ Some other → IsRootAt plan (first + place) other × IsWithin limit other
more_roots limit plan first root contents content counted each at within place other held =
    ⊎_elim (each place other)
    (λ last.
    let last_place = last.0 in
    let is : root ≡ first + place = omega (arith, counted, last_place) in
    subst (λ it. IsRootAt plan (first + place) it × IsWithin limit it) last.1 (subst (λ r. IsRootAt plan r content) is at, within))
    (slice_get-pushed contents content place other held)

-- lists of one length, side by side

pub zip_by : {A B : Type 0} (R : A → B → Type 0) (xs : List A) (ys : List B) → length xs ≡ length ys
    → ((k : ℕ) (x : A) (y : B) → slice_get xs k ≡ Some x → slice_get ys k ≡ Some y → R x y) → AllZip R xs ys
zip_by R [] [] same by = tt
zip_by R [] (y ∷ ys) same by = absurd (omega (arith, same))
zip_by R (x ∷ xs) [] same by = absurd (omega (arith, same))
zip_by R (x ∷ xs) (y ∷ ys) same by = (by 0 x y refl refl, zip_by R xs ys (omega (arith, same)) (λ k z w held there. by (suc k) z w held there))

pub each_zipped : {A B : Type 0} (R : A → B → Type 0) (P : B → Type 0) (xs : List A) (ys : List B) → ((x : A) (y : B) → R x y → P y) → AllZip R xs ys → Each P ys
each_zipped R P xs [] gives zipped = tt
each_zipped R P [] (y ∷ ys) gives zipped = absurd zipped
each_zipped R P (x ∷ xs) (y ∷ ys) gives zipped = (gives x y zipped.0, each_zipped R P xs ys gives zipped.1)
