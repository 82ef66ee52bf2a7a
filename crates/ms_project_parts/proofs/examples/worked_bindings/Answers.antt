use Rattle.std.proofs.Common.{◌≡◌, ℕ, zero, suc, ◌<◌, inl, inr, ⊎_elim, [], ◌∷◌, slice_get, Some, refl, sym, ap, ◌∙◌, arith}
use Rattle.std.proofs.lemmas.Option.{none-some, same_Some}
use Rattle.ms_dfa_explore.specs.Tracks.{place_of}
use Rattle.ms_logic.specs.Assignment.{Variable}
use Rattle.ms_logic.specs.declared.mode.Order.TheVariants.{Two}
use Rattle.ms_logic.specs.inner.Examples.{variable}
use Rattle.ms_project_parts.proofs.examples.worked_bindings.Goals as goal

pub returns-clause-bound : goal.returns-clause-bound
returns-clause-bound c = record { rising = (omega arith, (tt, tt)); among = inr (inl refl); stands = refl }

pub returns-clause-other_place : goal.returns-clause-other_place
returns-clause-other_place c = λ is.
    let same = ap (λ (v : Variable). v.name) (same_Some (variable 7 Two) (variable 3 Two) is.stands) in
    omega (arith, same)

-- no number of P or Q is 7
not_seventh : (v : Variable) → v.name ≡ 7 → (w : Variable) → w.name < 7 → w ≡ v → ⊥
not_seventh v named w less same = let equal = ap (λ (u : Variable). u.name) same in omega (arith, named, less, equal)

pub returns-clause-not_there : goal.returns-clause-not_there
returns-clause-not_there c = λ is. ⊎_elim
    (λ first. not_seventh (variable 7 Two) refl (variable 0 Two) (omega arith) first)
    (λ more. ⊎_elim (λ second. not_seventh (variable 7 Two) refl (variable 1 Two) (omega arith) second) (λ none. none) more)
    is.among

pub returns-clause-domain : goal.returns-clause-domain
returns-clause-domain c = record {
  rising = (tt, tt);
  among = λ v there. ⊎_elim (λ same. inr (inl same)) (λ none. absurd none) there;
  stands = at;
}
  where
    at : (place : ℕ) (v w : Variable) → slice_get (variable 1 Two ∷ []) place ≡ Some v → slice_get (variable 7 Two ∷ []) place ≡ Some w
        → slice_get (variable 3 Two ∷ variable 7 Two ∷ []) (place_of v.name (variable 0 Two ∷ variable 1 Two ∷ [])) ≡ Some w
    at zero v w first second = ap (λ (u : Variable). slice_get (variable 3 Two ∷ variable 7 Two ∷ []) (place_of u.name (variable 0 Two ∷ variable 1 Two ∷ []))) (sym (same_Some (variable 1 Two) v first)) ∙ second
    at (suc place) v w first second = absurd (none-some v first)

pub returns-clause-other_domain : goal.returns-clause-other_domain
returns-clause-other_domain c = λ is.
    let same = ap (λ (v : Variable). v.name) (same_Some (variable 7 Two) (variable 3 Two) (is.stands 0 (variable 1 Two) (variable 3 Two) refl refl)) in
    omega (arith, same)

pub returns-clause-not_among : goal.returns-clause-not_among
returns-clause-not_among c = λ is. ⊎_elim
    (λ first. not_seventh (variable 7 Two) refl (variable 0 Two) (omega arith) first)
    (λ more. ⊎_elim (λ second. not_seventh (variable 7 Two) refl (variable 1 Two) (omega arith) second) (λ none. none) more)
    (is.among (variable 7 Two) (inl refl))
