-- The extents of one more predicate.
use Rattle.std.proofs.Common.{◌≡◌, ℕ, ◌+◌, ◌<◌, ◌≤◌, cond, List, [], ◌∷◌, ◌++◌, length, map, take, get_or, slice_get, Some, inl, inr, refl, sym, ap, subst, ◌∙◌, arith}
use Rattle.std.proofs.lemmas.Bool.{eq-eqb, ne_eqb, cases_eq}
use Rattle.std.proofs.lemmas.List.{take_more, map-append, length-append, length-map, length-take-le}
use Rattle.ms_logic.specs.declared.checked.Predicate as code
use Rattle.ms_logic_core.specs.Size.{Extent, Extents, extents_of, extents_of_restrictions, extent_under, extents_with, extents_with_all, no_extents}
use Rattle.ms_logic.specs.Tree.{Predicate}
use Rattle.ms_logic.specs.View.{predicate_of}
use Rattle.ms_lower.specs.declared.called.Called.{Called}
use Rattle.ms_lower.specs.Counted.{counted, deepest}
use Rattle.ms_lower.specs.inner.Extents.{HasEntries, called_by}
use Rattle.ms_lower.proofs.Parts.{slice_get-front}
use Rattle.ms_lower.proofs.Positive.{form_positive}

get-last : {A : Type 0} (xs : List A) (x : A) → slice_get (xs ++ x ∷ []) (length xs) ≡ Some x
get-last [] x = refl
get-last (y ∷ ys) x = get-last ys x

-- the count at a number that is a predicate's
called_new : (x : Extents) (n p : ℕ) (predicate : Predicate) → p ≡ n →
    (extents_with x n predicate).called p ≡ extents_of_restrictions x predicate.parameters ++ extent_under x predicate.body ∷ []
called_new x n p predicate same = ap (λ b. cond b (extents_of_restrictions x predicate.parameters ++ extent_under x predicate.body ∷ []) (x.called p)) (eq-eqb p n same)

called_old : (x : Extents) (n p : ℕ) (predicate : Predicate) → (p ≡ n → ⊥) → (extents_with x n predicate).called p ≡ x.called p
called_old x n p predicate other = ap (λ b. cond b (extents_of_restrictions x predicate.parameters ++ extent_under x predicate.body ∷ []) (x.called p)) (ne_eqb p n other)

pub default_new : (x : Extents) (n p : ℕ) (predicate : Predicate) → p ≡ n → (extents_with x n predicate).default p ≡ extent_under x predicate.body
default_new x n p predicate same = ap (λ b. cond b (extent_under x predicate.body) (x.default p)) (eq-eqb p n same)

pub default_old : (x : Extents) (n p : ℕ) (predicate : Predicate) → (p ≡ n → ⊥) → (extents_with x n predicate).default p ≡ x.default p
default_old x n p predicate other = ap (λ b. cond b (extent_under x predicate.body) (x.default p)) (ne_eqb p n other)

made : List Extent → Extent → Called
made parts body = record { called = counted deepest parts; default = counted deepest (body ∷ []) }

-- one more predicate with its entry
pub entries-more : (x : Extents) (n : ℕ) (entries : List Called) (predicate : Predicate) (e : Called) →
    HasEntries x entries → length entries ≡ n → e ≡ called_by x predicate → HasEntries (extents_with x n predicate) (entries ++ e ∷ [])
unfolding made
entries-more x n entries predicate e known count is =
    let long : length (entries ++ e ∷ []) ≡ n + 1 = length-append entries (e ∷ []) ∙ omega (arith, count) in
    record {
      within = λ p below.
          elim (cases_eq p n) [
            | inl same ↦
                ap (slice_get (entries ++ e ∷ [])) (same ∙ sym count) ∙ (get-last entries e ∙ ap (λ c. Some c) (is ∙ (ap (λ parts. made parts (extent_under x predicate.body)) (sym (called_new x n p predicate same)) ∙ ap (made ((extents_with x n predicate).called p)) (sym (default_new x n p predicate same)))))
            | inr other ↦
                slice_get-front entries (e ∷ []) p (omega (arith, count, long)) ∙ (known.within p (omega (arith, count, long)) ∙ ap (λ c. Some c) (ap (λ parts. made parts (x.default p)) (sym (called_old x n p predicate other)) ∙ ap (made ((extents_with x n predicate).called p)) (sym (default_old x n p predicate other))))
          ];
      called_beyond = λ p beyond. called_old x n p predicate (λ same. omega (arith, long, same)) ∙ known.called_beyond p (omega (arith, count, long));
      default_beyond = λ p beyond. default_old x n p predicate (λ same. omega (arith, long, same)) ∙ known.default_beyond p (omega (arith, count, long));
      positive = λ p.
          elim (cases_eq p n) [
            | inl same ↦ subst (λ d. 1 ≤ d.depth) (sym (default_new x n p predicate same)) (form_positive x known.positive predicate.body)
            | inr other ↦ subst (λ d. 1 ≤ d.depth) (sym (default_old x n p predicate other)) (known.positive p)
          ];
    }

extents_with_all-append : (x : Extents) (count : ℕ) (ps : List Predicate) (p : Predicate) →
    extents_with_all x count (ps ++ p ∷ []) ≡ extents_with (extents_with_all x count ps) (count + length ps) p
extents_with_all-append x count [] p = ap (λ n. extents_with x n p) (omega arith)
extents_with_all-append x count (q ∷ ps) p =
    extents_with_all-append (extents_with x count q) (count + 1) ps p
    ∙ ap (λ n. extents_with (extents_with_all (extents_with x count q) (count + 1) ps) n p) (omega arith)

-- one predicate more of a list
pub extents-more : (ps : List code.Predicate) (i : ℕ) (p : code.Predicate) → i < length ps → p ≡ get_or ps i p →
    extents_of (map predicate_of (take (i + 1) ps)) ≡ extents_with (extents_of (map predicate_of (take i ps))) i (predicate_of p)
extents-more ps i p below is =
    let taken : take (i + 1) ps ≡ take i ps ++ p ∷ [] = take_more ps i p below ∙ ap (λ y. take i ps ++ y ∷ []) (sym is) in
    ap (λ l. extents_of (map predicate_of l)) taken
    ∙ (ap extents_of (map-append predicate_of (take i ps) (p ∷ []))
    ∙ (extents_with_all-append no_extents 0 (map predicate_of (take i ps)) (predicate_of p)
    ∙ ap (λ n. extents_with (extents_of (map predicate_of (take i ps))) n (predicate_of p)) (let m : length (map predicate_of (take i ps)) ≡ i = length-map (take i ps) predicate_of ∙ length-take-le i ps (omega arith) in omega arith)))

pub entries-none : HasEntries no_extents []
entries-none = record {
  within = λ p below. absurd (omega arith);
  called_beyond = λ p beyond. refl;
  default_beyond = λ p beyond. refl;
  positive = λ p. omega arith;
}
