-- Lists of variables by rising numbers.
use Rattle.std.proofs.Common.{◌≡◌, ◌⊎◌, ℕ, zero, suc, ◌+◌, ◌<◌, Bool, true, false, nat_lt, nat_eq, if◌then◌else◌, List, [], ◌∷◌, get_or, map, Contains, refl, sym, subst, inl, inr, ⊎_elim, not, ltb-true, ltb-false, eqb-true, eq-eqb, true≢false, ◌∙◌, arith}
use Rattle.std.proofs.lemmas.Bool.{cases_lt}
use Rattle.std.specs.List.Sorted.{IsStrictlyIncreasing}
use Rattle.ms_diagram.proofs.ListLemmas.{Contains-cases, Contains-first, Contains-none, Contains-rest}
use Rattle.ms_diagram.proofs.RootLemmas.{Contains-from_mapped, Contains-mapped}
use Rattle.ms_logic.specs.Assignment.{Variable}
use Rattle.ms_logic.specs.Lists.{without}
use Rattle.ms_logic_measures.specs.Steps.{joined, with_variable}

-- the number of one of these variables
abbrev pub IsNamed : List Variable → ℕ → Type 0
IsNamed vs n = Contains (map (λ (v : Variable). v.name) vs) n

pub named : (vs : List Variable) (v : Variable) → Contains vs v → IsNamed vs v.name
named vs v there = Contains-mapped (λ (w : Variable). w.name) vs v there

-- each number is below all later ones
abbrev pub Rise : List Variable → Type 0
Rise [] = Unit {0}
Rise (v ∷ vs) = ((w : Variable) → Contains vs w → v.name < w.name) × Rise vs

pub rise_increasing : (vs : List Variable) → Rise vs → IsStrictlyIncreasing (map (λ (v : Variable). v.name) vs)
rise_increasing [] rise k within = absurd (omega (arith, within))
rise_increasing (v ∷ []) rise k within = absurd (omega (arith, within))
rise_increasing (v ∷ w ∷ vs) rise zero within = rise.0 w (Contains-first w vs)
rise_increasing (v ∷ w ∷ vs) rise (suc k) within =
    let next : suc (k + 1) ≡ suc k + 1 = omega arith in
    let names = map (λ (u : Variable). u.name) (w ∷ vs) in
    subst (λ place. get_or names k 0 < get_or (v.name ∷ names) place 0) next (rise_increasing (w ∷ vs) rise.1 k (omega (arith, within)))

module _ (P : List Variable → Type 0) (v w : Variable) (ws : List Variable) where
  by_equality : (b : Bool) → nat_eq v.name w.name ≡ b → (v.name ≡ w.name → P (w ∷ ws)) → (nat_eq v.name w.name ≡ false → P (w ∷ with_variable v ws))
      → P (if b then w ∷ ws else w ∷ with_variable v ws)
  by_equality true is same other = same (eqb-true v.name w.name is)
  by_equality false is same other = other is

  by_order : (b : Bool) → nat_lt v.name w.name ≡ b → (nat_lt v.name w.name ≡ true → P (v ∷ w ∷ ws)) → (nat_lt v.name w.name ≡ false → P (if nat_eq v.name w.name then w ∷ ws else w ∷ with_variable v ws))
      → P (if b then v ∷ w ∷ ws else (if nat_eq v.name w.name then w ∷ ws else w ∷ with_variable v ws))
  by_order true is less other = less is
  by_order false is less other = other is

  -- where a variable goes
  with_cases : (v.name < w.name → P (v ∷ w ∷ ws)) → (v.name ≡ w.name → P (w ∷ ws)) → (w.name < v.name → P (w ∷ with_variable v ws)) → P (with_variable v (w ∷ ws))
  with_cases less same more =
      by_order (nat_lt v.name w.name) refl (λ is. less (ltb-true v.name w.name is))
      (λ not_less. by_equality (nat_eq v.name w.name) refl same
      (λ not_same. more (let at_least = ltb-false v.name w.name not_less in let differ : v.name ≡ w.name → ⊥ = λ equal. absurd (true≢false (sym (eq-eqb v.name w.name equal) ∙ not_same)) in
      ⊎_elim (λ below. below) (λ above. absurd (differ (omega (arith, at_least, above)))) (cases_lt w.name v.name))))

with_there : (v u : Variable) (ws : List Variable) → Contains (with_variable v ws) u → (u ≡ v) ⊎ Contains ws u
with_there v u [] there = Contains-cases v [] u there
with_there v u (w ∷ ws) held = with_cases (λ list. Contains list u → (u ≡ v) ⊎ Contains (w ∷ ws) u) v w ws
    (λ less there. Contains-cases v (w ∷ ws) u there)
    (λ same there. inr there)
    (λ more there. ⊎_elim (λ first. inr (subst (λ x. Contains (w ∷ ws) x) (sym first) (Contains-first w ws)))
    (λ later. ⊎_elim (λ is. inl is) (λ old. inr (Contains-rest w ws u old)) (with_there v u ws later)) (Contains-cases w (with_variable v ws) u there)) held

with_rest : (v u : Variable) (ws : List Variable) → Contains ws u → Contains (with_variable v ws) u
with_rest v u [] there = absurd (Contains-none u there)
with_rest v u (w ∷ ws) there = with_cases (λ list. Contains list u) v w ws
    (λ less. Contains-rest v (w ∷ ws) u there)
    (λ same. there)
    (λ more. ⊎_elim (λ first. subst (λ x. Contains (w ∷ with_variable v ws) x) (sym first) (Contains-first w (with_variable v ws)))
    (λ later. Contains-rest w (with_variable v ws) u (with_rest v u ws later)) (Contains-cases w ws u there))

with_first : (v : Variable) (ws : List Variable) → IsNamed (with_variable v ws) v.name
with_first v [] = Contains-first v.name []
with_first v (w ∷ ws) = with_cases (λ list. IsNamed list v.name) v w ws
    (λ less. named (v ∷ w ∷ ws) v (Contains-first v (w ∷ ws)))
    (λ same. subst (IsNamed (w ∷ ws)) (sym same) (named (w ∷ ws) w (Contains-first w ws)))
    (λ more. Contains-rest w.name (map (λ (x : Variable). x.name) (with_variable v ws)) v.name (with_first v ws))

with_named : (v : Variable) (ws : List Variable) (n : ℕ) → IsNamed ws n → IsNamed (with_variable v ws) n
with_named v ws n there =
    let found = Contains-from_mapped (λ (w : Variable). w.name) ws n there in
    subst (IsNamed (with_variable v ws)) found.2 (named (with_variable v ws) found.0 (with_rest v found.0 ws found.1))

with_rise : (v : Variable) (ws : List Variable) → Rise ws → Rise (with_variable v ws)
with_rise v [] rise = ((λ w there. absurd (Contains-none w there)), tt)
with_rise v (w ∷ ws) rise = with_cases Rise v w ws
    (λ less. ((λ u there. ⊎_elim (λ first. subst (λ x. v.name < x.name) (sym first) less) (λ later. let above = rise.0 u later in omega arith) (Contains-cases w ws u there)), rise))
    (λ same. rise)
    (λ more. ((λ u there. ⊎_elim (λ new. subst (λ x. w.name < x.name) (sym new) more) (λ old. rise.0 u old) (with_there v u ws there)), with_rise v ws rise.1))

-- the variables of both lists
pub joined_there : (vs ws : List Variable) (u : Variable) → Contains (joined vs ws) u → Contains vs u ⊎ Contains ws u
joined_there [] ws u there = inr there
joined_there (v ∷ vs) ws u there = ⊎_elim (λ first. inl (subst (Contains (v ∷ vs)) (sym first) (Contains-first v vs)))
    (λ later. ⊎_elim (λ left. inl (Contains-rest v vs u left)) (λ right. inr right) (joined_there vs ws u later)) (with_there v u (joined vs ws) there)

pub joined_right : (vs ws : List Variable) (n : ℕ) → IsNamed ws n → IsNamed (joined vs ws) n
joined_right [] ws n there = there
joined_right (v ∷ vs) ws n there = with_named v (joined vs ws) n (joined_right vs ws n there)

pub joined_left : (vs ws : List Variable) (n : ℕ) → IsNamed vs n → IsNamed (joined vs ws) n
joined_left [] ws n there = absurd (Contains-none n there)
joined_left (v ∷ vs) ws n there = ⊎_elim (λ first. subst (IsNamed (with_variable v (joined vs ws))) (sym first) (with_first v (joined vs ws)))
    (λ later. with_named v (joined vs ws) n (joined_left vs ws n later)) (Contains-cases v.name (map (λ (w : Variable). w.name) vs) n there)

pub joined_rise : (vs ws : List Variable) → Rise ws → Rise (joined vs ws)
joined_rise [] ws rise = rise
joined_rise (v ∷ vs) ws rise = with_rise v (joined vs ws) (joined_rise vs ws rise)

-- the variables without one
module _ (x : ℕ) where
  module _ (P : List Variable → Type 0) (v : Variable) (vs : List Variable) where
    by_kept : (b : Bool) → nat_eq v.name x ≡ b → (v.name ≡ x → P (without x vs)) → (nat_eq v.name x ≡ false → P (v ∷ without x vs)) → P (if not b then v ∷ without x vs else without x vs)
    by_kept true is same other = same (eqb-true v.name x is)
    by_kept false is same other = other is

    without_cases : (v.name ≡ x → P (without x vs)) → ((v.name ≡ x → ⊥) → P (v ∷ without x vs)) → P (without x (v ∷ vs))
    without_cases same other = by_kept (nat_eq v.name x) refl same (λ is. other (λ equal. true≢false (sym (eq-eqb v.name x equal) ∙ is)))

  pub without_there : (vs : List Variable) (u : Variable) → Contains (without x vs) u → Contains vs u × (u.name ≡ x → ⊥)
  without_there [] u there = absurd (Contains-none u there)
  without_there (v ∷ vs) u held = without_cases (λ list. Contains list u → Contains (v ∷ vs) u × (u.name ≡ x → ⊥)) v vs
      (λ same there. let later = without_there vs u there in (Contains-rest v vs u later.0, later.1))
      (λ other there. ⊎_elim (λ first. (subst (Contains (v ∷ vs)) (sym first) (Contains-first v vs), subst (λ w. w.name ≡ x → ⊥) (sym first) other))
      (λ there_later. let later = without_there vs u there_later in (Contains-rest v vs u later.0, later.1)) (Contains-cases v (without x vs) u there)) held

  pub without_named : (vs : List Variable) (n : ℕ) → IsNamed vs n → (n ≡ x → ⊥) → IsNamed (without x vs) n
  without_named [] n there differs = absurd (Contains-none n there)
  without_named (v ∷ vs) n there differs = without_cases (λ list. IsNamed list n) v vs
      (λ same. ⊎_elim (λ first. absurd (differs (first ∙ same))) (λ later. without_named vs n later differs) (Contains-cases v.name (map (λ (w : Variable). w.name) vs) n there))
      (λ other. ⊎_elim (λ first. subst (IsNamed (v ∷ without x vs)) (sym first) (named (v ∷ without x vs) v (Contains-first v (without x vs))))
      (λ later. Contains-rest v.name (map (λ (w : Variable). w.name) (without x vs)) n (without_named vs n later differs)) (Contains-cases v.name (map (λ (w : Variable). w.name) vs) n there))

  pub without_rise : (vs : List Variable) → Rise vs → Rise (without x vs)
  without_rise [] rise = tt
  without_rise (v ∷ vs) rise = without_cases Rise v vs (λ same. without_rise vs rise.1) (λ other. ((λ u there. rise.0 u (without_there vs u there).0), without_rise vs rise.1))
