-- The leaves of a diagram, noted by first sight.
use Rattle.std.proofs.Common.{◌≡◌, ℕ, zero, suc, ◌<◌, ◌≤◌, nat_eq, true, false, ◌||◌, if◌then◌else◌, List, [], ◌∷◌, ◌++◌, length, slice_get, fold, Some, refl, sym, ap, subst, ◌∙◌, ⊎_elim, arith}
use Rattle.std.proofs.lemmas.Bool.{cases_Bool, eq-eqb, eqb-true}
use Rattle.std.proofs.lemmas.Option.{slice_get_within}
use Rattle.std.specs.List.{list_any}
use Rattle.indexmap.specs.IndexSet.{insert_key}
use Rattle.ms_arena.specs.declared.node.Ref.{Ref}
use Rattle.ms_arena.specs.declared.node.Ref.TheVariants.{Leaf, Inner}
use Rattle.ms_arena.specs.declared.node.Node.{Node}
use Rattle.ms_arena.specs.Diagram.{IsBefore, IsOrdered}
use Rattle.ms_arena.proofs.Lists.{slice_get-held}
use Rattle.ms_arena.proofs.Paths.{IsBefore-later}
use Rattle.ms_arena.specs.Leaves.{leaves_behind, leaves_within}
use Rattle.ms_diagram.specs.Leaves.{noted, KnowsAll, KnowsPlaces}

module _ (nodes : List Node) (ordered : IsOrdered nodes) where
  -- more steps than the place find no more leaves
  leaves_settled : (count steps : ℕ) (root : Ref) → IsBefore count root → count ≤ length nodes → count ≤ steps → leaves_within nodes steps root ≡ leaves_within nodes count root
  leaves_settled zero zero (Leaf value) before within enough = refl
  leaves_settled zero (suc steps) (Leaf value) before within enough = refl
  leaves_settled (suc count) zero (Leaf value) before within enough = refl
  leaves_settled (suc count) (suc steps) (Leaf value) before within enough = refl
  leaves_settled zero steps (Inner place) before within enough = absurd (omega arith)
  leaves_settled (suc count) zero (Inner place) before within enough = absurd (omega arith)
  leaves_settled (suc count) (suc steps) (Inner place) before within enough =
      let held = slice_get-held nodes place (omega arith) in
      let low = leaves_settled count steps held.0.low (IsBefore-later place count held.0.low (omega arith) (ordered.earlier_low place held.0 held.1)) (omega arith) (omega arith) in
      let high = leaves_settled count steps held.0.high (IsBefore-later place count held.0.high (omega arith) (ordered.earlier_high place held.0 held.1)) (omega arith) (omega arith) in
      ap (leaves_behind (leaves_within nodes steps)) held.1 ∙ (λ i. low i ++ high i) ∙ ap (leaves_behind (leaves_within nodes count)) (sym held.1)

  -- the leaves of a node are those of its low end and then those of its high end
  pub leaves_within-node : (place : ℕ) (node : Node) → slice_get nodes place ≡ Some node
      → leaves_within nodes (length nodes) (Inner place) ≡ leaves_within nodes (length nodes) node.low ++ leaves_within nodes (length nodes) node.high
  leaves_within-node place node held =
      let within : place < length nodes = slice_get_within nodes place node held in
      let before_low = ordered.earlier_low place node held in
      let before_high = ordered.earlier_high place node held in
      let low = leaves_settled place (length nodes) node.low before_low (omega arith) (omega arith) in
      let high = leaves_settled place (length nodes) node.high before_high (omega arith) (omega arith) in
      leaves_settled (suc place) (length nodes) (Inner place) (omega arith) within within
      ∙ ap (leaves_behind (leaves_within nodes place)) held ∙ (λ i. sym low i ++ sym high i)

-- the leaf of a leaf
pub leaves_within-leaf : (nodes : List Node) (steps value : ℕ) → leaves_within nodes steps (Leaf value) ≡ value ∷ []
leaves_within-leaf nodes zero value = refl
leaves_within-leaf nodes (suc steps) value = refl

-- notes in turn are one note of all
pub noted-append : (seen xs ys : List ℕ) → fold noted seen (xs ++ ys) ≡ fold noted (fold noted seen xs) ys
noted-append seen [] ys = refl
noted-append seen (x ∷ xs) ys = noted-append (noted seen x) xs ys

-- what is there is not noted again
pub noted-known : (seen xs : List ℕ) → KnowsAll seen xs → fold noted seen xs ≡ seen
noted-known seen [] known = refl
noted-known seen (x ∷ xs) known =
    ap (λ list. fold noted list xs) (ap (λ test. if test then seen else seen ++ x ∷ []) known.0) ∙ noted-known seen xs known.1

-- an item that is there stays
any_more : (item other : ℕ) (seen : List ℕ) → list_any (nat_eq item) seen ≡ true → list_any (nat_eq item) (seen ++ other ∷ []) ≡ true
any_more item other [] there = absurd (let never : ⊥ = cc in never)
any_more item other (x ∷ seen) there = ⊎_elim
    (λ here. ap (λ test. test || list_any (nat_eq item) (seen ++ other ∷ [])) here)
    (λ not_here. ap (λ test. test || list_any (nat_eq item) (seen ++ other ∷ [])) not_here
    ∙ any_more item other seen (sym (ap (λ test. test || list_any (nat_eq item) seen) not_here) ∙ there))
    (cases_Bool (nat_eq item x))

any_noted : (item other : ℕ) (seen : List ℕ) → list_any (nat_eq item) seen ≡ true → list_any (nat_eq item) (noted seen other) ≡ true
any_noted item other seen there = ⊎_elim
    (λ known. subst (λ test. list_any (nat_eq item) (if test then seen else seen ++ other ∷ []) ≡ true) (sym known) there)
    (λ unknown. subst (λ test. list_any (nat_eq item) (if test then seen else seen ++ other ∷ []) ≡ true) (sym unknown) (any_more item other seen there))
    (cases_Bool (list_any (nat_eq other) seen))

any_kept : (item : ℕ) (seen xs : List ℕ) → list_any (nat_eq item) seen ≡ true → list_any (nat_eq item) (fold noted seen xs) ≡ true
any_kept item seen [] there = there
any_kept item seen (x ∷ xs) there = any_kept item (noted seen x) xs (any_noted item x seen there)

-- a noted item is there
any_last : (item : ℕ) (seen : List ℕ) → list_any (nat_eq item) (seen ++ item ∷ []) ≡ true
any_last item [] = ap (λ test. test || false) (eq-eqb item item refl)
any_last item (x ∷ seen) = ⊎_elim
    (λ here. ap (λ test. test || list_any (nat_eq item) (seen ++ item ∷ [])) here)
    (λ not_here. ap (λ test. test || list_any (nat_eq item) (seen ++ item ∷ [])) not_here ∙ any_last item seen) (cases_Bool (nat_eq item x))

any_own : (item : ℕ) (seen : List ℕ) → list_any (nat_eq item) (noted seen item) ≡ true
any_own item seen = ⊎_elim
    (λ known. subst (λ test. list_any (nat_eq item) (if test then seen else seen ++ item ∷ []) ≡ true) (sym known) known)
    (λ unknown. subst (λ test. list_any (nat_eq item) (if test then seen else seen ++ item ∷ []) ≡ true) (sym unknown) (any_last item seen))
    (cases_Bool (list_any (nat_eq item) seen))

-- all that was noted is known, and stays known
pub KnowsAll-kept : (seen more xs : List ℕ) → KnowsAll seen xs → KnowsAll (fold noted seen more) xs
KnowsAll-kept seen more [] known = tt
KnowsAll-kept seen more (x ∷ xs) known = (any_kept x seen more known.0, KnowsAll-kept seen more xs known.1)

pub KnowsAll-noted : (seen xs : List ℕ) → KnowsAll (fold noted seen xs) xs
KnowsAll-noted seen [] = tt
KnowsAll-noted seen (x ∷ xs) = (any_kept x (noted seen x) xs (any_own x seen), KnowsAll-noted (noted seen x) xs)

pub KnowsAll-append : (seen xs ys : List ℕ) → KnowsAll seen xs → KnowsAll seen ys → KnowsAll seen (xs ++ ys)
KnowsAll-append seen [] ys first second = second
KnowsAll-append seen (x ∷ xs) ys first second = (first.0, KnowsAll-append seen xs ys first.1 second)

-- so do the leaves behind places
pub KnowsPlaces-kept : (nodes : List Node) (seen more places : List ℕ) → KnowsPlaces nodes seen places → KnowsPlaces nodes (fold noted seen more) places
KnowsPlaces-kept nodes seen more [] known = tt
KnowsPlaces-kept nodes seen more (place ∷ places) known =
    (KnowsAll-kept seen more (leaves_within nodes (length nodes) (Inner place)) known.0, KnowsPlaces-kept nodes seen more places known.1)

KnowsPlaces-push : (nodes : List Node) (seen places : List ℕ) (place : ℕ) → KnowsPlaces nodes seen places → KnowsAll seen (leaves_within nodes (length nodes) (Inner place))
    → KnowsPlaces nodes seen (places ++ place ∷ [])
KnowsPlaces-push nodes seen [] place known own = (own, tt)
KnowsPlaces-push nodes seen (first ∷ places) place known own = (known.0, KnowsPlaces-push nodes seen places place known.1 own)

-- a place may be added when its leaves are known
pub KnowsPlaces-insert : (nodes : List Node) (seen places new : List ℕ) (place : ℕ) → KnowsPlaces nodes seen places → KnowsAll seen (leaves_within nodes (length nodes) (Inner place))
    → new ≡ insert_key nat_eq places place → KnowsPlaces nodes seen new
KnowsPlaces-insert nodes seen places new place known own is = ⊎_elim
    (λ there. subst (λ list. KnowsPlaces nodes seen list) (sym (is ∙ ap (λ test. if test then places else places ++ place ∷ []) there)) known)
    (λ absent. subst (λ list. KnowsPlaces nodes seen list) (sym (is ∙ ap (λ test. if test then places else places ++ place ∷ []) absent)) (KnowsPlaces-push nodes seen places place known own))
    (cases_Bool (list_any (nat_eq place) places))

-- the leaves behind a place that is there are known
pub KnowsPlaces-there : (nodes : List Node) (seen places : List ℕ) (place : ℕ) → KnowsPlaces nodes seen places → list_any (nat_eq place) places ≡ true
    → KnowsAll seen (leaves_within nodes (length nodes) (Inner place))
KnowsPlaces-there nodes seen [] place known there = absurd (let never : ⊥ = cc in never)
KnowsPlaces-there nodes seen (first ∷ places) place known there = ⊎_elim
    (λ here. subst (λ p. KnowsAll seen (leaves_within nodes (length nodes) (Inner p))) (sym (eqb-true place first here)) known.0)
    (λ not_here. KnowsPlaces-there nodes seen places place known.1 (sym (ap (λ test. test || list_any (nat_eq place) places) not_here) ∙ there))
    (cases_Bool (nat_eq place first))
