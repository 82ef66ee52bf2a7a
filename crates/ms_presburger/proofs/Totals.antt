-- That a set is the sum of some summands agrees with what it says of numbers.
use Rattle.std.proofs.Common.{◌≡◌, ◌≢◌, ℕ, ◌+◌, ◌*◌, ◌^◌, ◌<◌, ◌≤◌, zero, suc, ◌⊎◌, ◌↔◌, inl, inr, ⊎_elim, List, [], ◌∷◌, ◌++◌, length, take, drop, filter, Some, None, refl, sym, ◌∙◌, ap, subst, arith}
use Rattle.std.proofs.lemmas.Bool.{cases_lt}
use Rattle.ms_logic.specs.declared.assignment.Value.TheVariants.{Set}
use Rattle.ms_logic.specs.declared.mode.Rel.{Rel}
use Rattle.ms_logic.specs.declared.mode.Rel.TheVariants.{Equal, Differs, Less, AtMost, Greater, AtLeast, Member, NotMember, Sub}
use Rattle.ms_logic.specs.Assignment.{Universe, Env, assign, is_within}
use Rattle.ms_logic.specs.FiniteSet.{IsRising, one_bits, moved_up}
use Rattle.ms_logic.specs.Lists.{Each}
use Rattle.ms_logic.specs.Terms.{part_within, set_value}
use Rattle.ms_logic.specs.Tree.{Form, SetTerm, set_variable, set_comparison, emptiness}
use Rattle.ms_logic.specs.Truth.{Meanings, NumbersRelate, SetsRelate}
use Rattle.ms_logic.proofs.Consistent.{IsConsistent}
use Rattle.ms_logic.proofs.SetLaws.{one_bits_law, moved_up_law, part_within_law}
use Rattle.ms_presburger.specs.declared.summand.Summand.{Summand}
use Rattle.ms_presburger.specs.declared.summand.Summand.TheVariants.{Constant, Shifted}
use Rattle.ms_presburger.specs.Digits.{number_of}
use Rattle.ms_presburger.specs.Sets.{term_of_summand, half, sum_is, some_set, adds, is_less, related, compared}
use Rattle.ms_presburger.proofs.Quantifiers.{agrees-where}
use Rattle.ms_translation.proofs.Agreeing.{Agrees, along, agrees-falsity, agrees-negation}
use Rattle.ms_presburger.proofs.Atoms.{agrees-adds, agrees-less}
use Rattle.ms_presburger.proofs.Binary.{number_of-unique, number_of-one_bits, number_of-moved_up, number_of-positive}
use Rattle.ms_presburger.proofs.Places.{set-here, set-there, both-hold, both-held}
use Rattle.ms_presburger.proofs.Search.{equal-or}

-- the variable of a summand is below x, and it stands for a set
abbrev pub StandsBelow : Env → ℕ → Summand → Type 0
StandsBelow e x (Constant n) = Unit {0}
StandsBelow e x (Shifted y j) = (y < x) × IsRising (e.set y)

abbrev pub number_of_summand : Env → Summand → ℕ
number_of_summand e (Constant n) = n
number_of_summand e (Shifted y j) = 2 ^ j * number_of (e.set y)

abbrev pub total : Env → List Summand → ℕ
total e [] = 0
total e (t ∷ more) = number_of_summand e t + total e more

keep-all : (s : List ℕ) → filter (is_within None) s ≡ s
keep-all [] = refl
keep-all (i ∷ more) = ap (λ (l : List ℕ). i ∷ l) (keep-all more)

part-natural : (u : Universe) (s : List ℕ) → u ≡ None → part_within u s ≡ s
part-natural u s natural = ap (λ (v : Universe). part_within v s) natural ∙ keep-all s

-- a summand has a value, which counts as much as it says
term-value : (e : Env) (x : ℕ) (t : Summand) → e.universe ≡ None → StandsBelow e x t →
    (s : List ℕ) × (set_value (term_of_summand t) e ≡ Some s) × IsRising s × (number_of s ≡ number_of_summand e t)
term-value e x (Constant n) natural stands =
    (part_within e.universe (one_bits n), refl, (part_within_law e.universe (one_bits n) (one_bits_law n).rising).rising, ap number_of (part-natural e.universe (one_bits n) natural) ∙ number_of-one_bits n)
term-value e x (Shifted y j) natural stands =
    let moved = moved_up j (e.set y) in
    (part_within e.universe moved, refl, (part_within_law e.universe moved (moved_up_law j (e.set y) stands.1).rising).rising, ap number_of (part-natural e.universe moved natural) ∙ number_of-moved_up j (e.set y))

-- nothing changes where a set is bound at x or behind
stands-kept : (e : Env) (x y z : ℕ) (s : List ℕ) → x ≤ y → x ≤ z → (t : Summand) → StandsBelow e x t → StandsBelow (assign y (Set s) e) z t
stands-kept e x y z s behind within (Constant n) stands = tt
stands-kept e x y z s behind within (Shifted w j) stands =
    (omega (arith, stands.0), subst IsRising (sym (set-there y w s e (omega (arith, stands.0)))) stands.1)

counts-kept : (e : Env) (x y : ℕ) (s : List ℕ) → x ≤ y → (t : Summand) → StandsBelow e x t → number_of_summand (assign y (Set s) e) t ≡ number_of_summand e t
counts-kept e x y s behind (Constant n) stands = refl
counts-kept e x y s behind (Shifted w j) stands = ap (λ (l : List ℕ). 2 ^ j * number_of l) (set-there y w s e (omega (arith, stands.0)))

pub all-kept : (e : Env) (x y z : ℕ) (s : List ℕ) → x ≤ y → x ≤ z → (terms : List Summand) → Each (StandsBelow e x) terms → Each (StandsBelow (assign y (Set s) e) z) terms
all-kept e x y z s behind within [] stands = tt
all-kept e x y z s behind within (t ∷ more) stands = (stands-kept e x y z s behind within t stands.0, all-kept e x y z s behind within more stands.1)

pub total-kept : (e : Env) (x y : ℕ) (s : List ℕ) → x ≤ y → (terms : List Summand) → Each (StandsBelow e x) terms → total (assign y (Set s) e) terms ≡ total e terms
total-kept e x y s behind [] stands = refl
total-kept e x y s behind (t ∷ more) stands = omega (arith, counts-kept e x y s behind t stands.0, total-kept e x y s behind more stands.1)

-- two lists one behind the other, and the front and the rest of a list
pub each-both : (P : Summand → Type 0) (left right : List Summand) → Each P left → Each P right → Each P (left ++ right)
each-both P [] right one other = other
each-both P (t ∷ more) right one other = (one.0, each-both P more right one.1 other)

pub each-take : (P : Summand → Type 0) (n : ℕ) (terms : List Summand) → Each P terms → Each P (take n terms)
each-take P zero terms each = tt
each-take P (suc n) [] each = tt
each-take P (suc n) (t ∷ more) each = (each.0, each-take P n more each.1)

pub each-drop : (P : Summand → Type 0) (n : ℕ) (terms : List Summand) → Each P terms → Each P (drop n terms)
each-drop P zero terms each = each
each-drop P (suc n) [] each = tt
each-drop P (suc n) (t ∷ more) each = each-drop P n more each.1

total-halves : (e : Env) (n : ℕ) (terms : List Summand) → total e (take n terms) + total e (drop n terms) ≡ total e terms
total-halves e zero terms = omega arith
total-halves e (suc n) [] = refl
total-halves e (suc n) (t ∷ more) = omega (arith, total-halves e n more)

length-take-le : (n : ℕ) (terms : List Summand) → length (take n terms) ≤ n
length-take-le zero terms = omega arith
length-take-le (suc n) [] = omega arith
length-take-le (suc n) (t ∷ more) = omega (arith, length-take-le n more)

length-drop-is : (n : ℕ) (terms : List Summand) → length (drop n terms) + n ≤ length terms ⊎ (length (drop n terms) ≡ 0)
length-drop-is zero terms = inl (omega arith)
length-drop-is (suc n) [] = inr refl
length-drop-is (suc n) (t ∷ more) = ⊎_elim (λ fits. inl (omega (arith, fits))) (λ none. inr none) (length-drop-is n more)

pub take-fits : (limit : ℕ) (t s : Summand) (more : List Summand) → length (t ∷ s ∷ more) ≤ suc (suc limit) → length (take (half (t ∷ s ∷ more)) (t ∷ s ∷ more)) ≤ suc limit
take-fits limit t s more fits = omega (arith, fits, length-take-le (half (t ∷ s ∷ more)) (t ∷ s ∷ more))

pub drop-fits : (limit : ℕ) (t s : Summand) (more : List Summand) → length (t ∷ s ∷ more) ≤ suc (suc limit) → length (drop (half (t ∷ s ∷ more)) (t ∷ s ∷ more)) ≤ suc limit
drop-fits limit t s more fits =
    ⊎_elim (λ shorter. omega (arith, shorter, fits)) (λ none. omega (arith, none)) (length-drop-is (half (t ∷ s ∷ more)) (t ∷ s ∷ more))

pub at-most : (a b : ℕ) → (¬ (b < a)) ↔ (a ≤ b)
at-most a b = ((λ fails. ⊎_elim (λ below. absurd (fails below)) (λ above. above) (cases_lt b a)), (λ above below. omega (arith, above, below)))

module _ (m : Meanings) where
  -- equal numbers in place of equal numbers
  rated : (f : Form) (e : Env) (a b c d : ℕ) → a ≡ c → b ≡ d → Agrees m f e (a ≡ b) → Agrees m f e (c ≡ d)
  rated f e a b c d left right agrees =
      let P : ℕ → Type 0 = λ n. Agrees m f e (n ≡ b) in
      let Q : ℕ → Type 0 = λ n. Agrees m f e (c ≡ n) in subst Q right (subst P left agrees)

  -- a set is another exactly where their numbers are equal
  agrees-same : (e : Env) (y : ℕ) (t : SetTerm) (left right : List ℕ) → e.set y ≡ left → set_value t e ≡ Some right → IsRising left → IsRising right →
      Agrees m (set_comparison Equal (set_variable y) t) e (number_of left ≡ number_of right)
  agrees-same e y t left right is value rising rising' =
      let one : Some (e.set y) ≡ Some left = ap (λ (l : List ℕ). Some l) is in
      ⊎_elim (λ same. inl (same, both-hold (SetsRelate Equal) (Some (e.set y)) (set_value t e) left right one value (number_of-unique left right rising rising' same)))
      (λ differs. inr (differs, λ held. differs (ap number_of (both-held (SetsRelate Equal) (Some (e.set y)) (set_value t e) left right one value held)))) (equal-or (number_of left) (number_of right))

  agrees-differ : (e : Env) (y : ℕ) (t : SetTerm) (left right : List ℕ) → e.set y ≡ left → set_value t e ≡ Some right → IsRising left → IsRising right →
      Agrees m (set_comparison Differs (set_variable y) t) e (number_of left ≢ number_of right)
  agrees-differ e y t left right is value rising rising' =
      let one : Some (e.set y) ≡ Some left = ap (λ (l : List ℕ). Some l) is in
      ⊎_elim (λ same. inr ((λ differs. differs same), λ held. both-held (SetsRelate Differs) (Some (e.set y)) (set_value t e) left right one value held (number_of-unique left right rising rising' same)))
      (λ differs. inl (differs, both-hold (SetsRelate Differs) (Some (e.set y)) (set_value t e) left right one value (λ same. differs (ap number_of same)))) (equal-or (number_of left) (number_of right))

  agrees-none : (e : Env) (y : ℕ) (members : List ℕ) → e.set y ≡ members → Agrees m (emptiness (set_variable y)) e (number_of members ≡ 0)
  agrees-none e y [] is = inl (refl, is)
  agrees-none e y (i ∷ more) is =
      let positive = number_of-positive i more in inr ((λ none. omega (arith, positive, none)), λ held. let never : [] ≡ i ∷ more = sym held ∙ is in cc)

  module _ (consistent : IsConsistent m) where
    one-term : (t : Summand) (y x : ℕ) (e : Env) → e.universe ≡ None → IsRising (e.set y) → StandsBelow e x t → Agrees m (set_comparison Equal (set_variable y) (term_of_summand t)) e (number_of (e.set y) ≡ total e (t ∷ []))
    one-term t y x e natural rising stands =
        let value = term-value e x t natural stands in
        rated (set_comparison Equal (set_variable y) (term_of_summand t)) e (number_of (e.set y)) (number_of value.0) (number_of (e.set y)) (total e (t ∷ [])) refl (omega (arith, value.3))
        (agrees-same e y (term_of_summand t) (e.set y) value.0 refl value.1 rising value.2)

    pub agrees-sum : (limit : ℕ) (terms : List Summand) (y x : ℕ) (e : Env) → e.universe ≡ None → length terms ≤ suc limit → y < x → IsRising (e.set y) → Each (StandsBelow e x) terms →
        Agrees m (sum_is limit terms y x) e (number_of (e.set y) ≡ total e terms)
    agrees-sum zero [] y x e natural fits below rising stands = agrees-none e y (e.set y) refl
    agrees-sum (suc limit) [] y x e natural fits below rising stands = agrees-none e y (e.set y) refl
    agrees-sum zero (t ∷ []) y x e natural fits below rising stands = one-term t y x e natural rising stands.0
    agrees-sum (suc limit) (t ∷ []) y x e natural fits below rising stands = one-term t y x e natural rising stands.0
    agrees-sum zero (t ∷ (s ∷ more)) y x e natural fits below rising stands = absurd (omega (arith, fits))
    agrees-sum (suc limit) (t ∷ (s ∷ more)) y x e natural fits below rising stands =
        let terms : List Summand = t ∷ (s ∷ more) in
        let n = half terms in
        let front = take n terms in
        let rest = drop n terms in
        let stands-front = each-take (StandsBelow e x) n terms stands in
        let stands-rest = each-drop (StandsBelow e x) n terms stands in
        agrees-where m consistent e natural x (total e front) (sum_is limit front x (x + 2)) (some_set (x + 2) (sum_is limit rest (x + 2) (x + 4)) (adds y x (x + 2) (x + 4))) (number_of (e.set y) ≡ total e terms)
        (λ us rises. let there : Env = assign x (Set us) e in
        rated (sum_is limit front x (x + 2)) there (number_of (there.set x)) (total there front) (number_of us) (total e front) (ap number_of (set-here x us e)) (total-kept e x x us (omega arith) front stands-front)
        (agrees-sum limit front x (x + 2) there natural (take-fits limit t s more fits) (omega arith) (subst IsRising (sym (set-here x us e)) rises) (all-kept e x x (x + 2) us (omega arith) (omega arith) front stands-front)))
        (λ us rises counts. let there : Env = assign x (Set us) e in
        agrees-where m consistent there natural (x + 2) (total e rest) (sum_is limit rest (x + 2) (x + 4)) (adds y x (x + 2) (x + 4)) (number_of (e.set y) ≡ total e terms)
        (λ vs rises'. let beyond : Env = assign (x + 2) (Set vs) there in
        rated (sum_is limit rest (x + 2) (x + 4)) beyond (number_of (beyond.set (x + 2))) (total beyond rest) (number_of vs) (total e rest) (ap number_of (set-here (x + 2) vs there))
        (total-kept there (x + 2) (x + 2) vs (omega arith) rest (all-kept e x x (x + 2) us (omega arith) (omega arith) rest stands-rest) ∙ total-kept e x x us (omega arith) rest stands-rest)
        (agrees-sum limit rest (x + 2) (x + 4) beyond natural (drop-fits limit t s more fits) (omega arith) (subst IsRising (sym (set-here (x + 2) vs there)) rises')
        (all-kept there (x + 2) (x + 2) (x + 4) vs (omega arith) (omega arith) rest (all-kept e x x (x + 2) us (omega arith) (omega arith) rest stands-rest))))
        (λ vs rises' counts'. let beyond : Env = assign (x + 2) (Set vs) there in
        rated (adds y x (x + 2) (x + 4)) beyond (number_of (e.set y)) (number_of us + number_of vs) (number_of (e.set y)) (total e terms) refl (omega (arith, counts, counts', total-halves e n terms))
        (agrees-adds m consistent beyond natural y x (x + 2) (x + 4) (e.set y) us vs (set-there (x + 2) y vs there (omega (arith, below)) ∙ set-there x y us e below)
        (set-there (x + 2) x vs there (omega arith) ∙ set-here x us e) (set-here (x + 2) vs there) (omega (arith, below)) (omega arith) (omega arith) rising rises rises')))

    agrees-related : (r : Rel) (e : Env) → e.universe ≡ None → (u v x : ℕ) (us vs : List ℕ) → e.set u ≡ us → e.set v ≡ vs → IsRising us → IsRising vs → Agrees m (related r u v x) e (NumbersRelate r (number_of us) (number_of vs))
    agrees-related Equal e natural u v x us vs is-u is-v rises rises' = agrees-same e u (set_variable v) us vs is-u (ap (λ (l : List ℕ). Some l) is-v) rises rises'
    agrees-related Differs e natural u v x us vs is-u is-v rises rises' = agrees-differ e u (set_variable v) us vs is-u (ap (λ (l : List ℕ). Some l) is-v) rises rises'
    agrees-related Less e natural u v x us vs is-u is-v rises rises' = agrees-less m consistent e natural u v x us vs is-u is-v rises rises'
    agrees-related AtMost e natural u v x us vs is-u is-v rises rises' =
        along m (related AtMost u v x) e (¬ (number_of vs < number_of us)) (number_of us ≤ number_of vs) (at-most (number_of us) (number_of vs))
        (agrees-negation m (is_less v u x) e (number_of vs < number_of us) (agrees-less m consistent e natural v u x vs us is-v is-u rises' rises))
    agrees-related Greater e natural u v x us vs is-u is-v rises rises' = agrees-less m consistent e natural v u x vs us is-v is-u rises' rises
    agrees-related AtLeast e natural u v x us vs is-u is-v rises rises' =
        along m (related AtLeast u v x) e (¬ (number_of us < number_of vs)) (number_of vs ≤ number_of us) (at-most (number_of vs) (number_of us))
        (agrees-negation m (is_less u v x) e (number_of us < number_of vs) (agrees-less m consistent e natural u v x us vs is-u is-v rises rises'))
    agrees-related Member e natural u v x us vs is-u is-v rises rises' = agrees-falsity m e
    agrees-related NotMember e natural u v x us vs is-u is-v rises rises' = agrees-falsity m e
    agrees-related Sub e natural u v x us vs is-u is-v rises rises' = agrees-falsity m e

    pub agrees-compared : (r : Rel) (left right : List Summand) (x : ℕ) (e : Env) → e.universe ≡ None → Each (StandsBelow e x) left → Each (StandsBelow e x) right →
        Agrees m (compared r left right x) e (NumbersRelate r (total e left) (total e right))
    agrees-compared r left right x e natural stands stands' =
        agrees-where m consistent e natural x (total e left) (sum_is (length left) left x (x + 2)) (some_set (x + 2) (sum_is (length right) right (x + 2) (x + 4)) (related r x (x + 2) (x + 4)))
        (NumbersRelate r (total e left) (total e right))
        (λ us rises. let there : Env = assign x (Set us) e in
        rated (sum_is (length left) left x (x + 2)) there (number_of (there.set x)) (total there left) (number_of us) (total e left) (ap number_of (set-here x us e)) (total-kept e x x us (omega arith) left stands)
        (agrees-sum (length left) left x (x + 2) there natural (omega arith) (omega arith) (subst IsRising (sym (set-here x us e)) rises) (all-kept e x x (x + 2) us (omega arith) (omega arith) left stands)))
        (λ us rises counts. let there : Env = assign x (Set us) e in
        agrees-where m consistent there natural (x + 2) (total e right) (sum_is (length right) right (x + 2) (x + 4)) (related r x (x + 2) (x + 4)) (NumbersRelate r (total e left) (total e right))
        (λ vs rises'. let beyond : Env = assign (x + 2) (Set vs) there in
        rated (sum_is (length right) right (x + 2) (x + 4)) beyond (number_of (beyond.set (x + 2))) (total beyond right) (number_of vs) (total e right) (ap number_of (set-here (x + 2) vs there))
        (total-kept there (x + 2) (x + 2) vs (omega arith) right (all-kept e x x (x + 2) us (omega arith) (omega arith) right stands') ∙ total-kept e x x us (omega arith) right stands')
        (agrees-sum (length right) right (x + 2) (x + 4) beyond natural (omega arith) (omega arith) (subst IsRising (sym (set-here (x + 2) vs there)) rises')
        (all-kept there (x + 2) (x + 2) (x + 4) vs (omega arith) (omega arith) right (all-kept e x x (x + 2) us (omega arith) (omega arith) right stands'))))
        (λ vs rises' counts'. let beyond : Env = assign (x + 2) (Set vs) there in
        let P : ℕ → Type 0 = λ n. Agrees m (related r x (x + 2) (x + 4)) beyond (NumbersRelate r n (number_of vs)) in
        let Q : ℕ → Type 0 = λ n. Agrees m (related r x (x + 2) (x + 4)) beyond (NumbersRelate r (total e left) n) in
        subst Q counts' (subst P counts (agrees-related r beyond natural x (x + 2) (x + 4) us vs (set-there (x + 2) x vs there (omega arith) ∙ set-here x us e) (set-here (x + 2) vs there) rises rises'))))
