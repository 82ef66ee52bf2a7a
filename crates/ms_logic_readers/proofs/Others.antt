-- The variables of a list without those of one number, and that number's variable behind them.
use Rattle.std.proofs.Common.{◌≡◌, ℕ, ◌<◌, ◌==◌, not, true, false, cond, ◌⊎◌, inl, inr, ⊎_elim, List, [], ◌∷◌, ◌++◌, refl, sym, ◌∙◌, ap, subst, arith}
use Rattle.std.proofs.lemmas.Bool.{eq-eqb, eqb-true, false≢true}
use Rattle.ms_logic.specs.Assignment.{Variable}
use Rattle.ms_logic.specs.Lists.{AreRising, IsAmong, IsBelowFirst, without}
use Rattle.ms_logic_readers.proofs.Bits.{IsNew}
use Rattle.ms_logic_readers.specs.Scoped.{AreDistinct}

pub among-without : (x : ℕ) (vs : List Variable) (v : Variable) → IsAmong (without x vs) v → IsAmong vs v × (v.name ≡ x → ⊥)
among-without x [] v among = absurd among
among-without x (w ∷ vs) v among =
    (elim (w.name == x) as (λ t. (w.name == x) ≡ t → IsAmong (cond (not t) (w ∷ without x vs) (without x vs)) v → IsAmong (w ∷ vs) v × (v.name ≡ x → ⊥)) [
      | true ↦ λ is among'. let found = among-without x vs v among' in (inr found.0, found.1)
      | false ↦ λ is among'. ⊎_elim (λ same. (inl same, λ named. false≢true (sym is ∙ eq-eqb w.name x (ap (λ (u : Variable). u.name) same ∙ named)))) (λ later. let found = among-without x vs v later in (inr found.0, found.1)) among'
    ]) refl among

pub without-among : (x : ℕ) (vs : List Variable) (v : Variable) → IsAmong vs v → (v.name ≡ x → ⊥) → IsAmong (without x vs) v
without-among x [] v among apart = absurd among
without-among x (w ∷ vs) v among apart =
    elim (w.name == x) as (λ t. (w.name == x) ≡ t → IsAmong (cond (not t) (w ∷ without x vs) (without x vs)) v) [
      | true ↦ λ is. ⊎_elim (λ same. absurd (apart (sym (ap (λ (u : Variable). u.name) same) ∙ eqb-true w.name x is))) (λ later. without-among x vs v later apart) among
      | false ↦ λ is. ⊎_elim (λ same. inl same) (λ later. inr (without-among x vs v later apart)) among
    ] refl

pub distinct-without : (x : ℕ) (vs : List Variable) → AreDistinct vs → AreDistinct (without x vs)
distinct-without x [] distinct = tt
distinct-without x (w ∷ vs) distinct =
    elim (w.name == x) as (λ t. AreDistinct (cond (not t) (w ∷ without x vs) (without x vs))) [
      | true ↦ distinct-without x vs distinct.1
      | false ↦ (λ v among. distinct.0 v (among-without x vs v among).0, distinct-without x vs distinct.1)
    ]

pub among-append : (vs ws : List Variable) (v : Variable) → IsAmong (vs ++ ws) v → IsAmong vs v ⊎ IsAmong ws v
among-append [] ws v among = inr among
among-append (w ∷ vs) ws v among = ⊎_elim (λ same. inl (inl same)) (λ later. ⊎_elim (λ one. inl (inr one)) (λ other. inr other) (among-append vs ws v later)) among

pub among-left : (vs ws : List Variable) (v : Variable) → IsAmong vs v → IsAmong (vs ++ ws) v
among-left [] ws v among = absurd among
among-left (w ∷ vs) ws v among = ⊎_elim (λ same. inl same) (λ later. inr (among-left vs ws v later)) among

pub among-right : (vs ws : List Variable) (v : Variable) → IsAmong ws v → IsAmong (vs ++ ws) v
among-right [] ws v among = among
among-right (w ∷ vs) ws v among = inr (among-right vs ws v among)

pub distinct-with : (vs : List Variable) (own : Variable) → AreDistinct vs → IsNew own.name vs → AreDistinct (vs ++ own ∷ [])
distinct-with [] own distinct new = (λ v none same. none, tt)
distinct-with (w ∷ vs) own distinct new = (
  λ v among same. ⊎_elim (λ one. distinct.0 v one same) (λ other. ⊎_elim (λ is. new w (inl refl) (sym same ∙ ap (λ (u : Variable). u.name) (sym is))) (λ never. never) other) (among-append vs (own ∷ []) v among),
  distinct-with vs own distinct.1 (λ v among. new v (inr among)),
)

-- variables whose numbers rise have different ones
above_first : (x : ℕ) (vs : List Variable) → IsBelowFirst x vs → AreRising vs → (v : Variable) → IsAmong vs v → x < v.name
above_first x [] below rising v among = absurd among
above_first x (w ∷ vs) below rising v (inl same) = subst (λ (u : Variable). x < u.name) same below
above_first x (w ∷ vs) below rising v (inr there) = let later = above_first w.name vs rising.0 rising.1 v there in omega (arith, below, later)

pub rising_distinct : (vs : List Variable) → AreRising vs → AreDistinct vs
rising_distinct [] rising = tt
rising_distinct (v ∷ vs) rising = (λ w among same. (let above = above_first v.name vs rising.0 rising.1 w among in omega (arith, above, same)), rising_distinct vs rising.1)
