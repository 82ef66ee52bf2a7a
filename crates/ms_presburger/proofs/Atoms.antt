-- Sums and orders of sets agree with those of their numbers.
use Rattle.std.proofs.Common.{◌≡◌, ℕ, ◌+◌, ◌<◌, ◌≤◌, true, false, ◌⊎◌, ◌↔◌, inl, inr, ⊎_elim, List, None, sym, ◌∙◌, arith}
use Rattle.std.proofs.lemmas.Bool.{cases_lt}
use Rattle.ms_logic.specs.declared.assignment.Value.TheVariants.{Number, Set}
use Rattle.ms_logic.specs.declared.mode.Rel.TheVariants.{Less}
use Rattle.ms_logic.specs.Assignment.{Env, assign}
use Rattle.ms_logic.specs.FiniteSet.{is_member, IsMember, IsRising}
use Rattle.ms_logic.specs.Letters.{bound_of_set}
use Rattle.ms_logic.specs.Tree.{Form, number_variable, numeral, plus, comparison, membership, set_variable, no_forms, more_forms}
use Rattle.ms_logic.specs.Tree as sets
use Rattle.ms_logic.specs.Truth.{Meanings}
use Rattle.ms_logic.proofs.Consistent.{IsConsistent}
use Rattle.ms_logic.proofs.Members.{no_member_from_bound}
use Rattle.ms_presburger.specs.Digits.{number_of}
use Rattle.ms_translation.specs.Parts.{two, three, is_in}
use Rattle.ms_presburger.specs.Sets.{every_place, digit_adds, carry_follows, adds, same_behind, is_less}
use Rattle.ms_presburger.proofs.Addition.{Digits, Follows, AreCarries, adds-with, carries-of, quiet}
use Rattle.ms_presburger.proofs.Quantifiers.{agrees-some-place, agrees-every-place, agrees-some-set}
use Rattle.ms_translation.proofs.Agreeing.{Agrees, along, agrees-two, agrees-three, agrees-equivalence, agrees-implication, agrees-disjunction, some-more, some-none}
use Rattle.ms_presburger.proofs.Binary.{digits_of}
use Rattle.ms_presburger.proofs.Order.{last-of, less-with, not-true}
use Rattle.ms_presburger.proofs.Places.{set-here, set-there, place-here, place-there, value-variable, value-next, value-zero, agrees-in, agrees-not-in, agrees-before}
use Rattle.ms_presburger.proofs.Search.{each-or, equal-or}

decided : (m : Meanings) (f : Form) (e : Env) (P : Type 0) → Agrees m f e P → P ⊎ ¬ P
decided m f e P agrees = ⊎_elim (λ yes. inl yes.0) (λ no. inr no.0) agrees

module _ (m : Meanings) where
  agrees-any : (f g h : Form) (e : Env) (P Q R : Type 0) → Agrees m f e P → Agrees m g e Q → Agrees m h e R → Agrees m (sets.disjunction (three f g h)) e (P ⊎ (Q ⊎ R))
  agrees-any f g h e P Q R one other third =
      along m (sets.disjunction (three f g h)) e (P ⊎ (Q ⊎ (R ⊎ ⊥))) (P ⊎ (Q ⊎ R)) (
        (λ some. ⊎_elim (λ p. inl p) (λ later. ⊎_elim (λ q. inr (inl q)) (λ last. ⊎_elim (λ r. inr (inr r)) (λ never. absurd never) last) later) some),
        (λ some. ⊎_elim (λ p. inl p) (λ later. ⊎_elim (λ q. inr (inl q)) (λ r. inr (inr (inl r))) later) some),
      )
      (agrees-disjunction m (three f g h) e (P ⊎ (Q ⊎ (R ⊎ ⊥))) (some-more m f (two g h) e P (Q ⊎ (R ⊎ ⊥)) one (some-more m g (more_forms h no_forms) e Q (R ⊎ ⊥) other (some-more m h no_forms e R ⊥ third (some-none m e)))))

  -- at a place j, which p stands for
  module _ (e : Env) (natural : e.universe ≡ None) (p j : ℕ) (here : e.number p ≡ j) where
    at-place : (s : ℕ) (members : List ℕ) → e.set s ≡ members → Agrees m (is_in p s) e (IsMember j members)
    at-place s members is = agrees-in m (number_variable p) e j s members (value-variable e natural p j here) is

    module _ (y u v c : ℕ) (ys us vs cs : List ℕ) (is-y : e.set y ≡ ys) (is-u : e.set u ≡ us) (is-v : e.set v ≡ vs) (is-c : e.set c ≡ cs) where
      agrees-digit : Agrees m (digit_adds p y u v c) e (Digits (digits_of ys j) (digits_of us j) (digits_of vs j) (digits_of cs j))
      agrees-digit =
          agrees-equivalence m (is_in p y) (sets.equivalence (is_in p u) (sets.equivalence (is_in p v) (is_in p c))) e (IsMember j ys) (IsMember j us ↔ (IsMember j vs ↔ IsMember j cs)) (at-place y ys is-y)
          (agrees-equivalence m (is_in p u) (sets.equivalence (is_in p v) (is_in p c)) e (IsMember j us) (IsMember j vs ↔ IsMember j cs) (at-place u us is-u)
          (agrees-equivalence m (is_in p v) (is_in p c) e (IsMember j vs) (IsMember j cs) (at-place v vs is-v) (at-place c cs is-c)))

      agrees-carry : Agrees m (carry_follows p u v c) e (Follows (digits_of cs (j + 1)) (digits_of us j) (digits_of vs j) (digits_of cs j))
      agrees-carry =
          let U = IsMember j us in
          let V = IsMember j vs in
          let C = IsMember j cs in
          agrees-equivalence m (membership true (plus (number_variable p) 1) (set_variable c))
          (sets.disjunction (three (sets.conjunction (two (is_in p u) (is_in p v))) (sets.conjunction (two (is_in p u) (is_in p c))) (sets.conjunction (two (is_in p v) (is_in p c))))) e
          (IsMember (j + 1) cs) ((U × V) ⊎ ((U × C) ⊎ (V × C)))
          (agrees-in m (plus (number_variable p) 1) e (j + 1) c cs (value-next e natural p j here) is-c)
          (agrees-any (sets.conjunction (two (is_in p u) (is_in p v))) (sets.conjunction (two (is_in p u) (is_in p c))) (sets.conjunction (two (is_in p v) (is_in p c))) e (U × V) (U × C) (V × C)
          (agrees-two m (is_in p u) (is_in p v) e U V (at-place u us is-u) (at-place v vs is-v)) (agrees-two m (is_in p u) (is_in p c) e U C (at-place u us is-u) (at-place c cs is-c))
          (agrees-two m (is_in p v) (is_in p c) e V C (at-place v vs is-v) (at-place c cs is-c)))

      agrees-both : Agrees m (sets.conjunction (two (digit_adds p y u v c) (carry_follows p u v c))) e
          (Digits (digits_of ys j) (digits_of us j) (digits_of vs j) (digits_of cs j) × Follows (digits_of cs (j + 1)) (digits_of us j) (digits_of vs j) (digits_of cs j))
      agrees-both =
          agrees-two m (digit_adds p y u v c) (carry_follows p u v c) e (Digits (digits_of ys j) (digits_of us j) (digits_of vs j) (digits_of cs j))
          (Follows (digits_of cs (j + 1)) (digits_of us j) (digits_of vs j) (digits_of cs j)) agrees-digit agrees-carry

-- addition

module _ (ys us vs : List ℕ) where
  abbrev At : List ℕ → ℕ → Type 0
  At cs j = Digits (digits_of ys j) (digits_of us j) (digits_of vs j) (digits_of cs j) × Follows (digits_of cs (j + 1)) (digits_of us j) (digits_of vs j) (digits_of cs j)

  abbrev WithCarries : List ℕ → Type 0
  WithCarries cs = (¬ IsMember 0 cs) × ((j : ℕ) → At cs j)

  beyond-all : (cs : List ℕ) (j : ℕ) → bound_of_set ys + bound_of_set us + bound_of_set vs + bound_of_set cs ≤ j → At cs j
  beyond-all cs j above =
      quiet (digits_of ys j) (digits_of us j) (digits_of vs j) (digits_of cs j) (digits_of cs (j + 1)) (no_member_from_bound ys j (omega (arith, above))) (no_member_from_bound us j (omega (arith, above)))
      (no_member_from_bound vs j (omega (arith, above))) (no_member_from_bound cs j (omega (arith, above))) (no_member_from_bound cs (j + 1) (omega (arith, above)))

  carries-from : (cs : List ℕ) → WithCarries cs → AreCarries (digits_of ys) (digits_of us) (digits_of vs) (digits_of cs)
  carries-from cs held = record { none_at_first = not-true (is_member 0 cs) held.0; digits = λ p. (held.1 p).0; follow = λ p. (held.1 p).1 }

  carries-to : (cs : List ℕ) → AreCarries (digits_of ys) (digits_of us) (digits_of vs) (digits_of cs) → WithCarries cs
  carries-to cs carries = ((λ member. let never = carries.none_at_first in absurd cc), (λ j. (carries.digits j, carries.follow j)))

module _ (m : Meanings) (consistent : IsConsistent m) (e : Env) (natural : e.universe ≡ None) where
  module _ (y u v x : ℕ) (ys us vs : List ℕ) (is-y : e.set y ≡ ys) (is-u : e.set u ≡ us) (is-v : e.set v ≡ vs) (y-below : y < x) (u-below : u < x) (v-below : v < x) where
    -- with these carries
    agrees-carries : (cs : List ℕ) → Agrees m (sets.conjunction (two (membership false (numeral 0) (set_variable x)) (every_place (x + 3) (sets.conjunction (two (digit_adds (x + 3) y u v x) (carry_follows (x + 3) u v x))))))
        (assign x (Set cs) e) (WithCarries ys us vs cs)
    agrees-carries cs =
        let there : Env = assign x (Set cs) e in
        let body : Form = sets.conjunction (two (digit_adds (x + 3) y u v x) (carry_follows (x + 3) u v x)) in
        let kept-y : there.set y ≡ ys = set-there x y cs e y-below ∙ is-y in
        let kept-u : there.set u ≡ us = set-there x u cs e u-below ∙ is-u in
        let kept-v : there.set v ≡ vs = set-there x v cs e v-below ∙ is-v in
        let is-c : there.set x ≡ cs = set-here x cs e in
        let each = λ (j : ℕ). agrees-both m (assign (x + 3) (Number j) there) natural (x + 3) j (place-here (x + 3) j there) y u v x ys us vs cs kept-y kept-u kept-v is-c in
        agrees-two m (membership false (numeral 0) (set_variable x)) (every_place (x + 3) body) there (¬ IsMember 0 cs) ((j : ℕ) → At ys us vs cs j)
        (agrees-not-in m (numeral 0) there 0 x cs (value-zero there natural) is-c)
        (agrees-every-place m consistent there natural (x + 3) body (At ys us vs cs) each
        (each-or (At ys us vs cs) (λ j. decided m body (assign (x + 3) (Number j) there) (At ys us vs cs j) (each j)) (bound_of_set ys + bound_of_set us + bound_of_set vs + bound_of_set cs) (beyond-all ys us vs cs)))

    pub agrees-adds : IsRising ys → IsRising us → IsRising vs → Agrees m (adds y u v x) e (number_of ys ≡ number_of us + number_of vs)
    agrees-adds rising-y rising-u rising-v =
        let Sum : Type 0 = number_of ys ≡ number_of us + number_of vs in
        let Carried : Type 0 = (cs : List ℕ) × IsRising cs × WithCarries ys us vs cs in
        let from : Carried → Sum = λ carried. adds-with ys us vs carried.0 rising-y rising-u rising-v (carries-from ys us vs carried.0 carried.2) in
        let to : Sum → Carried = λ same. let found = carries-of ys us vs rising-y rising-u rising-v same in (found.0, found.1, carries-to ys us vs found.0 found.2) in
        along m (adds y u v x) e Carried Sum (from, to)
        (agrees-some-set m consistent e natural x (sets.conjunction (two (membership false (numeral 0) (set_variable x)) (every_place (x + 3) (sets.conjunction (two (digit_adds (x + 3) y u v x) (carry_follows (x + 3) u v x))))))
        (WithCarries ys us vs) (λ cs rises. agrees-carries cs)
        (⊎_elim (λ same. inl (to same)) (λ differs. inr (λ cs rises held. differs (from (cs, rises, held)))) (equal-or (number_of ys) (number_of us + number_of vs))))

  -- order

  module _ (u v x : ℕ) (us vs : List ℕ) (is-u : e.set u ≡ us) (is-v : e.set v ≡ vs) where
    abbrev Behind : ℕ → ℕ → Type 0
    Behind j i = j < i → (IsMember i us ↔ IsMember i vs)

    abbrev LastAt : ℕ → Type 0
    LastAt j = IsMember j vs × (¬ IsMember j us) × ((i : ℕ) → Behind j i)

    behind-all : (j i : ℕ) → bound_of_set us + bound_of_set vs ≤ i → Behind j i
    behind-all j i above later =
        let one = no_member_from_bound us i (omega (arith, above)) in
        let other = no_member_from_bound vs i (omega (arith, above)) in
        ((λ member. absurd (let never : true ≡ false = sym member ∙ one in cc)), (λ member. absurd (let never : true ≡ false = sym member ∙ other in cc)))

    agrees-behind : (j : ℕ) → Agrees m (same_behind (x + 1) (x + 3) u v) (assign (x + 1) (Number j) e) ((i : ℕ) → Behind j i)
    agrees-behind j =
        let there : Env = assign (x + 1) (Number j) e in
        let body : Form = sets.implication (comparison Less (number_variable (x + 1)) (number_variable (x + 3))) (sets.equivalence (is_in (x + 3) u) (is_in (x + 3) v)) in
        let each : (i : ℕ) → Agrees m body (assign (x + 3) (Number i) there) (Behind j i) = λ i.
        let beyond : Env = assign (x + 3) (Number i) there in
        let at-q = place-here (x + 3) i there in
        let at-p : beyond.number (x + 1) ≡ j = place-there (x + 3) (x + 1) i there (omega arith) ∙ place-here (x + 1) j e in
        agrees-implication m (comparison Less (number_variable (x + 1)) (number_variable (x + 3))) (sets.equivalence (is_in (x + 3) u) (is_in (x + 3) v)) beyond (j < i) (IsMember i us ↔ IsMember i vs)
        (agrees-before m (number_variable (x + 1)) (number_variable (x + 3)) beyond j i (value-variable beyond natural (x + 1) j at-p) (value-variable beyond natural (x + 3) i at-q))
        (agrees-equivalence m (is_in (x + 3) u) (is_in (x + 3) v) beyond (IsMember i us) (IsMember i vs) (at-place m beyond natural (x + 3) i at-q u us is-u) (at-place m beyond natural (x + 3) i at-q v vs is-v)) in
        agrees-every-place m consistent there natural (x + 3) body (Behind j) each
        (each-or (Behind j) (λ i. decided m body (assign (x + 3) (Number i) there) (Behind j i) (each i)) (bound_of_set us + bound_of_set vs) (behind-all j))

    agrees-last : (j : ℕ) → Agrees m (sets.conjunction (three (is_in (x + 1) v) (membership false (number_variable (x + 1)) (set_variable u)) (same_behind (x + 1) (x + 3) u v))) (assign (x + 1) (Number j) e) (LastAt j)
    agrees-last j =
        let there : Env = assign (x + 1) (Number j) e in
        let at-p = place-here (x + 1) j e in
        agrees-three m (is_in (x + 1) v) (membership false (number_variable (x + 1)) (set_variable u)) (same_behind (x + 1) (x + 3) u v) there (IsMember j vs) (¬ IsMember j us) ((i : ℕ) → Behind j i)
        (at-place m there natural (x + 1) j at-p v vs is-v) (agrees-not-in m (number_variable (x + 1)) there j u us (value-variable there natural (x + 1) j at-p) is-u) (agrees-behind j)

    pub agrees-less : IsRising us → IsRising vs → Agrees m (is_less u v x) e (number_of us < number_of vs)
    agrees-less rising-u rising-v =
        let Lower : Type 0 = number_of us < number_of vs in
        let Found : Type 0 = (j : ℕ) × LastAt j in
        let from : Found → Lower = λ found. less-with us vs rising-u rising-v found.0 (record { there = found.1.0; lacking = found.1.1; behind = found.1.2 }) in
        let to : Lower → Found = λ less. let last = last-of us vs rising-u rising-v less in (last.0, (last.1.there, last.1.lacking, last.1.behind)) in
        along m (is_less u v x) e Found Lower (from, to)
        (agrees-some-place m consistent e natural (x + 1) (sets.conjunction (three (is_in (x + 1) v) (membership false (number_variable (x + 1)) (set_variable u)) (same_behind (x + 1) (x + 3) u v))) LastAt agrees-last
        (⊎_elim (λ less. inl (to less)) (λ above. inr (λ j held. let less = from (j, held) in omega (arith, above, less))) (cases_lt (number_of us) (number_of vs))))
