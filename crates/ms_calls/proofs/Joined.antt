-- Variables of two lists that are joined by rising numbers are those that are merged.
use Rattle.std.proofs.Common.{◌≡◌, ◌<◌, ◌==◌, ℕ, nat_lt, ◌⊎◌, inl, inr, ⊎_elim, Bool, true, false, if◌then◌else◌, List, [], ◌∷◌, refl, sym, ap, subst, arith}
use Rattle.std.proofs.lemmas.Bool.{eqb-true}
use Rattle.std.proofs.lemmas.Bool.Decides.{nat_tests}
use Rattle.ms_dfa_explore.specs.Tracks.{merged}
use Rattle.ms_dfa_explore.proofs.AmongLemmas.{merged-either}
use Rattle.ms_dfa_explore.proofs.TracksLemmas.{above-first, among-above, merged-left, merged-right, merged-rising}
use Rattle.ms_logic.specs.Assignment.{Variable}
use Rattle.ms_logic.specs.Lists.{AreRising, IsAmong, IsBelowFirst}
use Rattle.ms_logic_measures.specs.Steps.{joined, with_variable}
use Rattle.ms_product.specs.Combined.{HaveEqualOrders}

-- a variable that is put in stays, and so do the others
with-old : (v u : Variable) (ws : List Variable) → IsAmong ws u → IsAmong (with_variable v ws) u
with-old v u [] there = absurd there
with-old v u (w ∷ ws) there = by_tests (nat_lt v.name w.name) (v.name == w.name) (λ later. with-old v u ws later)
  where
    by_tests : (a b : Bool) → (IsAmong ws u → IsAmong (with_variable v ws) u)
        → IsAmong (if a then v ∷ (w ∷ ws) else (if b then w ∷ ws else w ∷ with_variable v ws)) u
    by_tests true b more = inr there
    by_tests false true more = there
    by_tests false false more = ⊎_elim (λ same. inl same) (λ later. inr (more later)) there

-- where those of one number are one variable
with-new : (v : Variable) (ws : List Variable) → ((w : Variable) → IsAmong ws w → w.name ≡ v.name → w ≡ v) → IsAmong (with_variable v ws) v
with-new v [] same = inl refl
with-new v (w ∷ ws) same = by_tests (nat_lt v.name w.name) (v.name == w.name) refl (with-new v ws (λ u there. same u (inr there)))
  where
    by_tests : (a b : Bool) → v.name == w.name ≡ b → IsAmong (with_variable v ws) v
        → IsAmong (if a then v ∷ (w ∷ ws) else (if b then w ∷ ws else w ∷ with_variable v ws)) v
    by_tests true b is more = inl refl
    by_tests false true is more = inl (same w (inl refl) (sym (eqb-true v.name w.name is)))
    by_tests false false is more = inr more

with-either : (v u : Variable) (ws : List Variable) → IsAmong (with_variable v ws) u → (v ≡ u) ⊎ IsAmong ws u
with-either v u [] there = there
with-either v u (w ∷ ws) there = by_tests (nat_lt v.name w.name) (v.name == w.name) there (λ later. with-either v u ws later)
  where
    by_tests : (a b : Bool) → IsAmong (if a then v ∷ (w ∷ ws) else (if b then w ∷ ws else w ∷ with_variable v ws)) u
        → (IsAmong (with_variable v ws) u → (v ≡ u) ⊎ IsAmong ws u)
        → (v ≡ u) ⊎ IsAmong (w ∷ ws) u
    by_tests true b held more = held
    by_tests false true held more = inr held
    by_tests false false held more = ⊎_elim (λ same. inr (inl same)) (λ later. ⊎_elim (λ own. inl own) (λ rest. inr (inr rest)) (more later)) held

with-first : (name : ℕ) (v : Variable) (ws : List Variable) → name < v.name → IsBelowFirst name ws → IsBelowFirst name (with_variable v ws)
with-first name v [] less below = less
with-first name v (w ∷ ws) less below = by_tests (nat_lt v.name w.name) (v.name == w.name)
  where
    by_tests : (a b : Bool) → IsBelowFirst name (if a then v ∷ (w ∷ ws) else (if b then w ∷ ws else w ∷ with_variable v ws))
    by_tests true b = less
    by_tests false true = below
    by_tests false false = below

with-rising : (v : Variable) (ws : List Variable) → AreRising ws → AreRising (with_variable v ws)
with-rising v [] rising = (tt, tt)
with-rising v (w ∷ ws) rising = by_tests (nat_lt v.name w.name) (v.name == w.name) refl refl (with-rising v ws rising.1)
  where
    by_tests : (a b : Bool) → nat_lt v.name w.name ≡ a → v.name == w.name ≡ b → AreRising (with_variable v ws)
        → AreRising (if a then v ∷ (w ∷ ws) else (if b then w ∷ ws else w ∷ with_variable v ws))
    by_tests true b is also more = (grind (arith, nat_tests, is), rising)
    by_tests false true is also more = rising
    by_tests false false is also more = (with-first w.name v ws (grind (arith, nat_tests, is, also)) rising.0, more)

joined-rising : (vs ws : List Variable) → AreRising ws → AreRising (joined vs ws)
joined-rising [] ws rising = rising
joined-rising (v ∷ vs) ws rising = with-rising v (joined vs ws) (joined-rising vs ws rising)

joined-either : (vs ws : List Variable) (u : Variable) → IsAmong (joined vs ws) u → IsAmong vs u ⊎ IsAmong ws u
joined-either [] ws u there = inr there
joined-either (v ∷ vs) ws u there =
    ⊎_elim (λ own. inl (inl own)) (λ later. ⊎_elim (λ left. inl (inr left)) (λ right. inr right) (joined-either vs ws u later)) (with-either v u (joined vs ws) there)

joined-right : (vs ws : List Variable) (u : Variable) → IsAmong ws u → IsAmong (joined vs ws) u
joined-right [] ws u there = there
joined-right (v ∷ vs) ws u there = with-old v u (joined vs ws) (joined-right vs ws u there)

joined-left : (vs ws : List Variable) → AreRising vs → HaveEqualOrders vs ws → (u : Variable) → IsAmong vs u → IsAmong (joined vs ws) u
joined-left [] ws rising equal u there = absurd there
joined-left (v ∷ vs) ws rising equal u there = ⊎_elim
    (λ first. subst (IsAmong (with_variable v (joined vs ws))) first (with-new v (joined vs ws) (λ w held same. ⊎_elim
    (λ left. let above = among-above v vs w (above-first v vs rising) left in absurd (omega (arith, above, same)))
    (λ right. sym (equal v w (inl refl) right (sym same)))
    (joined-either vs ws w held))))
    (λ later. with-old v u (joined vs ws) (joined-left vs ws rising.1 (λ one other is_one is_other same. equal one other (inr is_one) is_other same) u later))
    there

-- rising lists of the same variables are one list
one_rising : (xs ys : List Variable) → AreRising xs → AreRising ys → ((v : Variable) → IsAmong xs v → IsAmong ys v)
    → ((v : Variable) → IsAmong ys v → IsAmong xs v) → xs ≡ ys
one_rising [] [] rising_x rising_y to from = refl
one_rising [] (y ∷ ys) rising_x rising_y to from = absurd (from y (inl refl))
one_rising (x ∷ xs) [] rising_x rising_y to from = absurd (to x (inl refl))
one_rising (x ∷ xs) (y ∷ ys) rising_x rising_y to from =
    let above_x : (v : Variable) → IsAmong xs v → x.name < v.name = λ v there. among-above x xs v (above-first x xs rising_x) there in
    let above_y : (v : Variable) → IsAmong ys v → y.name < v.name = λ v there. among-above y ys v (above-first y ys rising_y) there in
    let same : x ≡ y = ⊎_elim (λ is. sym is)
    (λ later. ⊎_elim (λ is. is) (λ also. let one = above_y x later in let other = above_x y also in absurd (omega (arith, one, other))) (from y (inl refl)))
    (to x (inl refl)) in
    let names : x.name ≡ y.name = ap (λ (v : Variable). v.name) same in
    let rest = one_rising xs ys rising_x.1 rising_y.1
    (λ v there. ⊎_elim
    (λ is. let above = above_x v there in let equal : y.name ≡ v.name = ap (λ (w : Variable). w.name) is in absurd (omega (arith, above, equal, names)))
    (λ later. later) (to v (inr there)))
    (λ v there. ⊎_elim
    (λ is. let above = above_y v there in let equal : x.name ≡ v.name = ap (λ (w : Variable). w.name) is in absurd (omega (arith, above, equal, names)))
    (λ later. later) (from v (inr there))) in
    λ i. same i ∷ rest i

pub joined_merged : (left right : List Variable) → AreRising left → AreRising right → HaveEqualOrders left right → joined left right ≡ merged left right
joined_merged left right rising_l rising_r equal =
    one_rising (joined left right) (merged left right) (joined-rising left right rising_r) (merged-rising left right rising_l rising_r)
    (λ v there. ⊎_elim (λ in_left. merged-left left right v in_left) (λ in_right. merged-right left right v (λ u is_left same. equal u v is_left in_right same) in_right)
    (joined-either left right v there))
    (λ v there. ⊎_elim (λ in_left. joined-left left right rising_l equal v in_left) (λ in_right. joined-right left right v in_right) (merged-either left right v there))
