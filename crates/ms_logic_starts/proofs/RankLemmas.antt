-- Bits given to the variables that have one, in the order of a list, stand at the places of these variables.
use Rattle.std.proofs.Common.{◌≡◌, ℕ, zero, suc, ◌+◌, ◌<◌, ◌≤◌, ◌==◌, Bool, true, false, IsTrue, if◌then◌else◌, List, [], ◌∷◌, length, slice_get, slice_index_or, Option, Some, unwrap_or, refl, sym, ap, subst, ◌∙◌, arith}
use Rattle.std.proofs.lemmas.Bool.{eq-eqb, ne_eqb}
use Rattle.std.proofs.lemmas.Option.{none-some, same_Some, slice_get_within}
use Rattle.ms_arena.specs.Diagram.{Bits}
use Rattle.ms_logic.specs.declared.mode.Order.{Order}
use Rattle.ms_logic.specs.Assignment.{Variable}
use Rattle.ms_logic_words.specs.Content.{count_of, padded, bits_at, head_bit, tail_bits}
use Rattle.ms_logic_measures.specs.Starts.{first_bit, given_bit, bits_for}
use Rattle.ms_logic_starts.specs.ContentStarts.{HaveDistinctNumbers}
use Rattle.ms_logic_starts.specs.inner.Ranks.{rank, bits_before, IsLevel}

-- the variables behind the first are distinct too
distinct_behind : (w : Variable) (vs : List Variable) → HaveDistinctNumbers (w ∷ vs) → HaveDistinctNumbers vs
distinct_behind w vs own one two v u first second same = let equal = own (suc one) (suc two) v u first second same in omega (arith, equal)

not_both : (test : Bool) → test ≡ true → test ≡ false → ⊥
not_both true is is_not = let never : ⊥ = cc in never
not_both false is is_not = let never : ⊥ = cc in never

module _ (has_bit : Order → Bool) where
  -- one more variable in front has a rank behind it, or none
  rank_with : (w : Variable) (vs : List Variable) (place : ℕ) → has_bit w.order ≡ true → rank has_bit (suc place) (w ∷ vs) ≡ suc (rank has_bit place vs)
  rank_with w vs place is = ap (λ test. if test then suc (rank has_bit place vs) else rank has_bit place vs) is

  rank_without : (w : Variable) (vs : List Variable) (place : ℕ) → has_bit w.order ≡ false → rank has_bit (suc place) (w ∷ vs) ≡ rank has_bit place vs
  rank_without w vs place is = ap (λ test. if test then suc (rank has_bit place vs) else rank has_bit place vs) is

  rank_step : (test : Bool) (less more : ℕ) → less ≤ more → (if test then suc less else less) ≤ (if test then suc more else more)
  rank_step true less more below = omega (arith, below)
  rank_step false less more below = below

  pub rank_grows : (low high : ℕ) (vs : List Variable) → low ≤ high → rank has_bit low vs ≤ rank has_bit high vs
  rank_grows zero high vs below = omega arith
  rank_grows (suc low) zero vs below = absurd (omega (arith, below))
  rank_grows (suc low) (suc high) [] below = omega arith
  rank_grows (suc low) (suc high) (w ∷ vs) below =
      rank_step (has_bit w.order) (rank has_bit low vs) (rank has_bit high vs) (rank_grows low high vs (omega (arith, below)))

  -- the rank of a variable with a bit is less than that of what stands behind it
  pub rank_less : (place level : ℕ) (vs : List Variable) (v : Variable) → place < level → slice_get vs place ≡ Some v → IsTrue (has_bit v.order)
      → rank has_bit place vs < rank has_bit level vs
  rank_less place zero vs v below there holds = absurd (omega (arith, below))
  rank_less place (suc level) [] v below there holds = absurd (none-some v there)
  rank_less zero (suc level) (w ∷ vs) v below there holds =
      let own : has_bit w.order ≡ true = subst (λ (u : Variable). IsTrue (has_bit u.order)) (sym (same_Some w v there)) holds in
      let next = rank_with w vs level own in
      omega (arith, next)
  rank_less (suc place) (suc level) (w ∷ vs) v below there holds =
      step (has_bit w.order) (rank has_bit place vs) (rank has_bit level vs) (rank_less place level vs v (omega (arith, below)) there holds)
    where
      step : (test : Bool) (less more : ℕ) → less < more → (if test then suc less else less) < (if test then suc more else more)
      step true less more under = omega (arith, under)
      step false less more under = under

  -- past the end stand all variables with a bit
  pub rank_of_all : (vs : List Variable) → rank has_bit (length vs) vs ≡ count_of has_bit vs
  rank_of_all [] = refl
  rank_of_all (w ∷ vs) = step (has_bit w.order) (rank has_bit (length vs) vs) (count_of has_bit vs) (rank_of_all vs)
    where
      step : (test : Bool) (n m : ℕ) → n ≡ m → (if test then suc n else n) ≡ (if test then m + 1 else m)
      step true n m same = omega (arith, same)
      step false n m same = same

  pub rank_below_all : (place : ℕ) (vs : List Variable) (v : Variable) → slice_get vs place ≡ Some v → IsTrue (has_bit v.order) → rank has_bit place vs < count_of has_bit vs
  rank_below_all place vs v there holds =
      let less = rank_less place (length vs) vs v (slice_get_within vs place v there) there holds in
      let all = rank_of_all vs in
      omega (arith, less, all)

  -- so many bits stand before a place
  pub length-bits_before : (place : ℕ) (vs : List Variable) (bits : Bits) → length (bits_before has_bit place vs bits) ≡ rank has_bit place vs
  length-bits_before zero vs bits = refl
  length-bits_before (suc place) [] bits = refl
  length-bits_before (suc place) (w ∷ vs) bits =
      step (has_bit w.order) (bits_before has_bit place vs (λ other. bits (suc other))) (rank has_bit place vs) (length-bits_before place vs (λ other. bits (suc other)))
    where
      step : (test : Bool) (list : List Bool) (n : ℕ) → length list ≡ n → length (if test then bits 0 ∷ list else list) ≡ (if test then suc n else n)
      step true list n same = omega (arith, same)
      step false list n same = same

  -- each of them by the rank of its variable
  pub bit_before : (level : ℕ) (vs : List Variable) (bits : Bits) (place : ℕ) (v : Variable) → place < level → slice_get vs place ≡ Some v → IsTrue (has_bit v.order)
      → slice_get (bits_before has_bit level vs bits) (rank has_bit place vs) ≡ Some (bits place)
  bit_before zero vs bits place v below there holds = absurd (omega (arith, below))
  bit_before (suc level) [] bits place v below there holds = absurd (none-some v there)
  bit_before (suc level) (w ∷ vs) bits zero v below there holds =
      first (has_bit w.order) (bits_before has_bit level vs (λ other. bits (suc other)))
      (subst (λ (u : Variable). IsTrue (has_bit u.order)) (sym (same_Some w v there)) holds)
    where
      first : (test : Bool) (list : List Bool) → test ≡ true → slice_get (if test then bits 0 ∷ list else list) 0 ≡ Some (bits 0)
      first true list is = refl
      first false list is = absurd (not_both false is refl)
  bit_before (suc level) (w ∷ vs) bits (suc place) v below there holds =
      step (has_bit w.order) (bits_before has_bit level vs (λ other. bits (suc other))) (rank has_bit place vs)
      ∙ bit_before level vs (λ other. bits (suc other)) place v (omega (arith, below)) there holds
    where
      step : (test : Bool) (list : List Bool) (n : ℕ) → slice_get (if test then bits 0 ∷ list else list) (if test then suc n else n) ≡ slice_get list n
      step true list n = refl
      step false list n = refl

  -- a variable is given the bit of its rank
  pub given_at : (vs : List Variable) (bits : List Bool) (place : ℕ) (v : Variable) → HaveDistinctNumbers vs → slice_get vs place ≡ Some v → IsTrue (has_bit v.order)
      → given_bit has_bit vs bits v.name ≡ slice_get bits (rank has_bit place vs)
  given_at [] bits place v own there holds = absurd (none-some v there)
  given_at (w ∷ vs) bits zero v own there holds =
      let same : w ≡ v = same_Some w v there in
      subst (λ (u : Variable). given_bit has_bit (w ∷ vs) bits u.name ≡ slice_get bits 0) same
      (first (has_bit w.order) (w.name == w.name) bits (given_bit has_bit vs (tail_bits bits) w.name) (given_bit has_bit vs bits w.name)
      (subst (λ (u : Variable). IsTrue (has_bit u.order)) (sym same) holds) (eq-eqb w.name w.name refl))
    where
      first : (test named : Bool) (list : List Bool) (more less : Option Bool) → test ≡ true → named ≡ true
          → (if test then (if named then first_bit list else more) else less) ≡ slice_get list 0
      first true true [] more less is_test is_named = refl
      first true true (bit ∷ list) more less is_test is_named = refl
      first true false list more less is_test is_named = absurd (not_both false is_named refl)
      first false named list more less is_test is_named = absurd (not_both false is_test refl)
  given_at (w ∷ vs) bits (suc place) v own there holds =
      later (has_bit w.order) (w.name == v.name) (rank has_bit place vs)
      (ne_eqb w.name v.name (λ same. let equal = own 0 (suc place) w v refl there same in omega (arith, equal)))
      (λ list. given_bit has_bit vs list v.name) (λ list. given_at vs list place v (distinct_behind w vs own) there holds) bits
    where
      later : (test named : Bool) (n : ℕ) → named ≡ false → (given : List Bool → Option Bool) → ((list : List Bool) → given list ≡ slice_get list n) → (list : List Bool)
          → (if test then (if named then first_bit list else given (tail_bits list)) else given list) ≡ slice_get list (if test then suc n else n)
      later true true n is_not given is list = absurd (not_both true refl is_not)
      later true false n is_not given is [] = is []
      later true false n is_not given is (bit ∷ list) = is list
      later false named n is_not given is list = is list

  -- padded over the places, bits stand by the ranks of their variables
  pub padded_at : (vs : List Variable) (bits : List Bool) (place : ℕ) (v : Variable) → slice_get vs place ≡ Some v → IsTrue (has_bit v.order)
      → bits_at (padded has_bit vs bits) place ≡ slice_index_or bits (rank has_bit place vs) false
  padded_at [] bits place v there holds = absurd (none-some v there)
  padded_at (w ∷ vs) bits zero v there holds =
      first (has_bit w.order) bits (subst (λ (u : Variable). IsTrue (has_bit u.order)) (sym (same_Some w v there)) holds)
    where
      first : (test : Bool) (list : List Bool) → test ≡ true
          → slice_index_or (if test then head_bit list ∷ padded has_bit vs (tail_bits list) else false ∷ padded has_bit vs list) 0 false ≡ slice_index_or list 0 false
      first true [] is = refl
      first true (bit ∷ list) is = refl
      first false list is = absurd (not_both false is refl)
  padded_at (w ∷ vs) bits (suc place) v there holds =
      later (has_bit w.order) (rank has_bit place vs) (λ list. padded_at vs list place v there holds) bits
    where
      later : (test : Bool) (n : ℕ) → ((list : List Bool) → bits_at (padded has_bit vs list) place ≡ slice_index_or list n false) → (list : List Bool)
          → slice_index_or (if test then head_bit list ∷ padded has_bit vs (tail_bits list) else false ∷ padded has_bit vs list) (suc place) false
          ≡ slice_index_or list (if test then suc n else n) false
      later true n is [] = is []
      later true n is (bit ∷ list) = is list
      later false n is list = is list

  -- behind so many variables with a bit there is a level
  IsLevel-more : (w : Variable) (vs : List Variable) (count behind level : ℕ)
      → ((place : ℕ) → ((rank has_bit place vs < behind → rank has_bit (suc place) (w ∷ vs) < count) × (behind ≤ rank has_bit place vs → count ≤ rank has_bit (suc place) (w ∷ vs))))
      → (IsTrue (has_bit w.order) → 0 < count) → IsLevel has_bit behind vs level → IsLevel has_bit count (w ∷ vs) (suc level)
  IsLevel-more w vs count behind level step first is zero v there holds =
      (λ below. first (subst (λ (u : Variable). IsTrue (has_bit u.order)) (sym (same_Some w v there)) holds), λ above. absurd (omega (arith, above)))
  IsLevel-more w vs count behind level step first is (suc place) v there holds =
      let here = is place v there holds in
      (λ below. (step place).0 (here.0 (omega (arith, below))), λ above. (step place).1 (here.1 (omega (arith, above))))

  pub level_behind : (count : ℕ) (vs : List Variable) → (level : ℕ) × IsLevel has_bit count vs level
  level_behind zero vs = (0, λ place v there holds. (λ below. absurd (omega (arith, below)), λ above. omega arith))
  level_behind (suc count) [] = (0, λ place v there holds. absurd (none-some v there))
  level_behind (suc count) (w ∷ vs) = by_test (has_bit w.order) refl (level_behind count vs) (level_behind (suc count) vs)
    where
      by_test : (test : Bool) → has_bit w.order ≡ test → ((level : ℕ) × IsLevel has_bit count vs level) → ((level : ℕ) × IsLevel has_bit (suc count) vs level)
          → (level : ℕ) × IsLevel has_bit (suc count) (w ∷ vs) level
      by_test true is less more = (
        suc less.0,
        IsLevel-more w vs (suc count) count less.0
            (λ place. (let next = rank_with w vs place is in (λ below. omega (arith, below, next), λ past. omega (arith, past, next)))) (λ with_bit. omega arith) less.1,
      )
      by_test false is less more = (
        suc more.0,
        IsLevel-more w vs (suc count) (suc count) more.0
            (λ place. (let next = rank_without w vs place is in (λ below. omega (arith, below, next), λ past. omega (arith, past, next)))) (λ with_bit. omega arith) more.1,
      )

  -- the bits for variables that are given bits one after the other are these bits
  pub own_bits : (all : List Variable) (bits : List Bool) (some : List Variable) (list : List Bool)
      → ((place : ℕ) (v : Variable) → slice_get some place ≡ Some v → IsTrue (has_bit v.order) → given_bit has_bit all bits v.name ≡ slice_get list (rank has_bit place some))
      → length list ≡ count_of has_bit some → bits_for has_bit all bits some ≡ list
  own_bits all bits [] [] given long = refl
  own_bits all bits [] (bit ∷ list) given long = absurd (omega (arith, long))
  own_bits all bits (w ∷ some) list given long = by_test (has_bit w.order) refl list (own_bits all bits some) given long
    where
      by_test : (test : Bool) → has_bit w.order ≡ test → (list : List Bool)
          → ((rest : List Bool)
          → ((place : ℕ) (v : Variable) → slice_get some place ≡ Some v → IsTrue (has_bit v.order) → given_bit has_bit all bits v.name ≡ slice_get rest (rank has_bit place some))
          → length rest ≡ count_of has_bit some → bits_for has_bit all bits some ≡ rest)
          → ((place : ℕ) (v : Variable) → slice_get (w ∷ some) place ≡ Some v → IsTrue (has_bit v.order) → given_bit has_bit all bits v.name ≡ slice_get list (rank has_bit place (w ∷ some)))
          → length list ≡ (if test then count_of has_bit some + 1 else count_of has_bit some)
          → (if test then unwrap_or (given_bit has_bit all bits w.name) false ∷ bits_for has_bit all bits some else bits_for has_bit all bits some) ≡ list
      by_test true is [] own given long = absurd (omega (arith, long))
      by_test true is (bit ∷ list) own given long =
          ap (λ found. unwrap_or found false ∷ bits_for has_bit all bits some) (given 0 w refl is)
          ∙ ap (λ (rest : List Bool). bit ∷ rest)
          (own list (λ place v there holds. given (suc place) v there holds ∙ ap (slice_get (bit ∷ list)) (rank_with w some place is)) (omega (arith, long)))
      by_test false is list own given long =
          own list (λ place v there holds. given (suc place) v there holds ∙ ap (slice_get list) (rank_without w some place is)) long

  pub bits_for_own : (vs : List Variable) (bits : List Bool) → HaveDistinctNumbers vs → length bits ≡ count_of has_bit vs → bits_for has_bit vs bits vs ≡ bits
  bits_for_own vs bits own long = own_bits vs bits vs bits (λ place v there holds. given_at vs bits place v own there holds) long
