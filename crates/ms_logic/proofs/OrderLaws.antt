-- The laws of the order of assignments.
use Rattle.std.proofs.Common.{◌≡◌, ℕ, ◌<◌, ◌≤◌, ◌==◌, Bool, ◌↔◌, inl, inr, ⊎_elim, List, [], ◌∷◌, ◌++◌, length, Some, None, refl, sym, ◌∙◌, ap, subst, arith}
use Rattle.std.proofs.lemmas.Bool.{false≢true, cases_lt}
use Rattle.std.proofs.lemmas.Bool.Decides.{nat_tests}
use Rattle.std.proofs.lemmas.List.{length-append}
use Rattle.std.proofs.Math.Nat.{eq-or-lt_of_le}
use Rattle.std.specs.List.{flat_map}
use Rattle.ms_logic.specs.declared.mode.Mode.{Mode}
use Rattle.ms_logic.specs.declared.mode.Mode.TheVariants.{Ws1s, M2lStr}
use Rattle.ms_logic.specs.declared.mode.Order.{Order}
use Rattle.ms_logic.specs.declared.mode.Order.TheVariants.{Zero, One, Two}
use Rattle.ms_logic.specs.declared.assignment.Value.TheVariants.{Truth, Number, Set}
use Rattle.ms_logic.specs.Assignment.{Universe, Env, Variable, AllWithin, IsWithin, value_at, IsAssignment, GivesEach, IsValueOf, IsUniverseOf}
use Rattle.ms_logic.specs.FiniteSet.{is_member, IsMember, IsRising, numbers_below}
use Rattle.ms_logic.specs.First.{length_by, length_of, bits_of, IsLower}
use Rattle.ms_logic.specs.OrderLaws.{IsValueBelow, ValuesAreBelow, GiveSameValues, BoundIsLeast, BeforeIsIrreflexive, BeforeIsTransitive, BeforeIsTotal}
use Rattle.ms_logic.specs.Letters.{with_truth_value, truth_values_of, with_bit, letter_at, bound_of_set, bound_at, bound_of}
use Rattle.ms_logic.proofs.BitOrder.{lower_irreflexive, lower_transitive, lower_total, append_parts, length-flat_map_same, flat_map_parts}
use Rattle.ms_logic.proofs.SetLaws.{sets_are_their_members}

-- the bound

below_bound_of_set : (n : ℕ) (members : List ℕ) → AllWithin (Some n) members ↔ (bound_of_set members ≤ n)
below_bound_of_set n [] = (λ h. omega arith, λ h. tt)
below_bound_of_set n (first ∷ more) =
    let others = below_bound_of_set n more in
    (λ h. omega (arith, h.0, others.0 h.1), λ h. (omega arith, others.1 (omega arith)))

value_below_bound : (n : ℕ) (o : Order) (x : ℕ) (e : Env) → IsValueBelow n o x e ↔ (bound_at o x e ≤ n)
value_below_bound n Zero x e = (λ h. omega arith, λ h. tt)
value_below_bound n One x e = (λ h. omega arith, λ h. omega arith)
value_below_bound n Two x e = below_bound_of_set n (e.set x)

pub bound_is_least : BoundIsLeast
bound_is_least n [] e = (λ h. omega arith, λ h. tt)
bound_is_least n (v ∷ vs) e =
    let first = value_below_bound n v.order v.name e in
    let others = bound_is_least n vs e in
    (λ h. omega (arith, first.0 h.0, others.0 h.1), λ h. (first.1 (omega arith), others.1 (omega arith)))

-- an order

pub before_is_irreflexive : BeforeIsIrreflexive
before_is_irreflexive variables e before =
    ⊎_elim (λ shorter. absurd (omega (arith, shorter))) (λ same. lower_irreflexive (bits_of variables e) same.1) before

pub before_is_transitive : BeforeIsTransitive
before_is_transitive variables e f g one two =
    ⊎_elim (λ shorter. inl (⊎_elim (λ again. omega (arith, shorter, again)) (λ same. omega (arith, shorter, same.0)) two))
    (λ same. ⊎_elim (λ shorter. inl (omega (arith, shorter, same.0))) (λ again. inr (same.0 ∙ again.0, lower_transitive (bits_of variables e) (bits_of variables f) (bits_of variables g) same.1 again.1)) two) one

-- totality: assignments of one length with the same bits give the same values

length-with_bit : (o : Order) (x p q : ℕ) (e f : Env) (a b : List Bool) → length a ≡ length b → length (with_bit o x p e a) ≡ length (with_bit o x q f b)
length-with_bit Zero x p q e f a b same = same
length-with_bit One x p q e f a b same = omega arith
length-with_bit Two x p q e f a b same = omega arith

pub length-letter_at : (vs : List Variable) (e f : Env) (p q : ℕ) → length (letter_at vs e p) ≡ length (letter_at vs f q)
length-letter_at [] e f p q = refl
length-letter_at (v ∷ vs) e f p q = length-with_bit v.order v.name p q e f _ _ (length-letter_at vs e f p q)

length-with_truth_value : (o : Order) (x : ℕ) (e f : Env) (a b : List Bool) → length a ≡ length b → length (with_truth_value o x e a) ≡ length (with_truth_value o x f b)
length-with_truth_value Zero x e f a b same = omega arith
length-with_truth_value One x e f a b same = same
length-with_truth_value Two x e f a b same = same

pub length-truth_values_of : (vs : List Variable) (e f : Env) → length (truth_values_of vs e) ≡ length (truth_values_of vs f)
length-truth_values_of [] e f = refl
length-truth_values_of (v ∷ vs) e f = length-with_truth_value v.order v.name e f _ _ (length-truth_values_of vs e f)

-- the bits up to a length
abbrev bits_below : ℕ → List Variable → Env → List Bool
bits_below n vs e = truth_values_of vs e ++ flat_map (letter_at vs e) (numbers_below n)

length-bits_below : (n : ℕ) (vs : List Variable) (e f : Env) → length (bits_below n vs e) ≡ length (bits_below n vs f)
length-bits_below n vs e f =
    omega (arith, length-append (truth_values_of vs e) (flat_map (letter_at vs e) (numbers_below n)), length-append (truth_values_of vs f) (flat_map (letter_at vs f) (numbers_below n)), length-truth_values_of vs e f, length-flat_map_same (letter_at vs e) (letter_at vs f) (λ p. length-letter_at vs e f p p) (numbers_below n))

-- numbers with the same bits below n, both below n, are equal
same_number : (n a b : ℕ) → ((p : ℕ) → p < n → (a == p) ≡ (b == p)) → a < n → a ≡ b
same_number n a b same below = let at_a = same a below in grind (arith, nat_tests)

-- members are below a number that is above all
member-lt : (n k : ℕ) (members : List ℕ) → AllWithin (Some n) members → IsMember k members → k < n
member-lt n k [] within member = absurd (false≢true member)
member-lt n k (first ∷ more) within member = let others = member-lt n k more within.1 in grind (arith, nat_tests, others)

same_set : (n : ℕ) (a b : List ℕ) → ((p : ℕ) → p < n → is_member p a ≡ is_member p b) → AllWithin (Some n) a → AllWithin (Some n) b → IsRising a → IsRising b → a ≡ b
same_set n a b same within_a within_b rises_a rises_b =
    sets_are_their_members a b rises_a rises_b (λ k.
    (λ member. sym (same k (member-lt n k a within_a member)) ∙ member, λ member. same k (member-lt n k b within_b member) ∙ member))

-- what equal truth values and letters say of the first variable and of the others
record SameFirst (o : Order) (x n : ℕ) (e f : Env) (a b : List Bool) (g h : ℕ → List Bool) : Type 0 where
  first : value_at o x e ≡ value_at o x f
  truth : a ≡ b
  letters : (p : ℕ) → p < n → g p ≡ h p

same_first : (o : Order) (x n : ℕ) (e f : Env) (a b : List Bool) (g h : ℕ → List Bool) → with_truth_value o x e a ≡ with_truth_value o x f b →
    ((p : ℕ) → p < n → with_bit o x p e (g p) ≡ with_bit o x p f (h p)) → IsValueBelow n o x e → IsValueBelow n o x f →
    IsValueOf o e.universe (value_at o x e) → IsValueOf o f.universe (value_at o x f) → SameFirst o x n e f a b g h
same_first Zero x n e f a b g h truth letters below_e below_f is_e is_f =
    record { first = (let bits : e.truth x ≡ f.truth x = cc in ap Truth bits); truth = cc; letters = letters }
same_first One x n e f a b g h truth letters below_e below_f is_e is_f = record {
  first = ap Number (same_number n (e.number x) (f.number x) (λ p below. let equal = letters p below in cc) below_e);
  truth = truth;
  letters = λ p below. let equal = letters p below in cc;
}
same_first Two x n e f a b g h truth letters below_e below_f is_e is_f = record {
  first = ap Set (same_set n (e.set x) (f.set x) (λ p below. let equal = letters p below in cc) below_e below_f is_e.0 is_f.0);
  truth = truth;
  letters = λ p below. let equal = letters p below in cc;
}

pub same_values : (vs : List Variable) (n : ℕ) (e f : Env) → truth_values_of vs e ≡ truth_values_of vs f →
    ((p : ℕ) → p < n → letter_at vs e p ≡ letter_at vs f p) → ValuesAreBelow n vs e → ValuesAreBelow n vs f →
    GivesEach vs e → GivesEach vs f → GiveSameValues vs e f
same_values [] n e f truth letters below_e below_f gives_e gives_f = tt
same_values (v ∷ vs) n e f truth letters below_e below_f gives_e gives_f =
    let here = same_first v.order v.name n e f (truth_values_of vs e) (truth_values_of vs f) (letter_at vs e) (letter_at vs f) truth letters below_e.0 below_f.0 gives_e.0 gives_f.0 in
    (here.first, same_values vs n e f here.truth here.letters below_e.1 below_f.1 gives_e.1 gives_f.1)

-- the values of an assignment are below its length

value_below_size : (size : ℕ) (o : Order) (x : ℕ) (e : Env) → e.universe ≡ Some size → IsValueOf o e.universe (value_at o x e) → IsValueBelow size o x e
value_below_size size Zero x e is_string is_value = tt
value_below_size size One x e is_string is_value = let P : Universe → Type 0 = λ u. IsWithin u (e.number x) in subst P is_string is_value
value_below_size size Two x e is_string is_value = let P : Universe → Type 0 = λ u. AllWithin u (e.set x) in subst P is_string is_value.1

values_below_size : (size : ℕ) (vs : List Variable) (e : Env) → e.universe ≡ Some size → GivesEach vs e → ValuesAreBelow size vs e
values_below_size size [] e is_string gives = tt
values_below_size size (v ∷ vs) e is_string gives =
    (value_below_size size v.order v.name e is_string gives.0, values_below_size size vs e is_string gives.1)

values_below_length_by : (universe : Universe) (vs : List Variable) (e : Env) → e.universe ≡ universe → GivesEach vs e → ValuesAreBelow (length_by universe (bound_of vs e)) vs e
values_below_length_by None vs e is_universe gives = (bound_is_least (bound_of vs e) vs e).1 (omega arith)
values_below_length_by (Some size) vs e is_universe gives = values_below_size size vs e is_universe gives

pub values_below_length : (vs : List Variable) (e : Env) → GivesEach vs e → ValuesAreBelow (length_of vs e) vs e
values_below_length vs e gives = values_below_length_by e.universe vs e refl gives

-- universes of one mode and one length are equal
same_universe : (mode : Mode) (u w : Universe) (b c : ℕ) → IsUniverseOf mode u → IsUniverseOf mode w → length_by u b ≡ length_by w c → u ≡ w
same_universe Ws1s u w b c is_u is_w same = is_u ∙ sym is_w
same_universe M2lStr None w b c is_u is_w same = absurd (false≢true is_u)
same_universe M2lStr (Some n) None b c is_u is_w same = absurd (false≢true is_w)
same_universe M2lStr (Some n) (Some m) b c is_u is_w same = ap Some same

same_from_bits : (mode : Mode) (vs : List Variable) (e f : Env) → IsAssignment mode vs e → IsAssignment mode vs f → length_of vs f ≡ length_of vs e →
    bits_below (length_of vs e) vs e ≡ bits_below (length_of vs e) vs f → (e.universe ≡ f.universe) × GiveSameValues vs e f
same_from_bits mode vs e f is_e is_f same equal =
    let n = length_of vs e in
    let parts = append_parts (truth_values_of vs e) (truth_values_of vs f) _ _ (length-truth_values_of vs e f) equal in
    let letters : (p : ℕ) → p < n → letter_at vs e p ≡ letter_at vs f p = λ p below. flat_map_parts (letter_at vs e) (letter_at vs f) (λ q. length-letter_at vs e f q q) 0 n parts.1 p (omega arith) (omega arith) in
    let P : ℕ → Type 0 = λ k. ValuesAreBelow k vs f in
    let below_f = subst P same (values_below_length vs f is_f.values) in
    (same_universe mode e.universe f.universe (bound_of vs e) (bound_of vs f) is_e.universe is_f.universe (sym same), same_values vs n e f parts.0 letters (values_below_length vs e is_e.values) below_f is_e.values is_f.values)

pub before_is_total : BeforeIsTotal
before_is_total mode vs e f is_e is_f =
    ⊎_elim (λ shorter. inl (inl shorter)) (λ at_most. ⊎_elim (λ same.
    let there : bits_of vs f ≡ bits_below (length_of vs e) vs f = ap (λ k. bits_below k vs f) same in
    let compared = lower_total (bits_of vs e) (bits_below (length_of vs e) vs f) (length-bits_below (length_of vs e) vs e f) in
    let Q : List Bool → Type 0 = λ bits. IsLower (bits_of vs e) bits in
    let R : List Bool → Type 0 = λ bits. IsLower bits (bits_of vs e) in
    ⊎_elim (λ lower. inl (inr (sym same, subst Q (sym there) lower))) (λ other. inr (⊎_elim (λ higher. inl (inr (same, subst R (sym there) higher))) (λ equal. inr (same_from_bits mode vs e f is_e is_f same equal)) other)) compared) (λ longer. inr (inl (inl longer))) (eq-or-lt_of_le at_most)) (cases_lt (length_of vs e) (length_of vs f))
