-- First bits of some variables, given to others that are read at their places.
use Rattle.std.proofs.Common.{◌≡◌, ℕ, zero, suc, ◌+◌, ◌<◌, ◌≤◌, ⊎_elim, Bool, true, false, IsTrue, if◌then◌else◌, List, [], ◌∷◌, length, slice_get, slice_index, Option, Some, None, refl, sym, ap, subst, ◌∙◌, arith}
use Rattle.std.proofs.lemmas.Bool.{cases_lt, false≢true}
use Rattle.std.proofs.lemmas.Option.{none-some, same_Some, slice_get_past, slice_get_within}
use Rattle.ms_arena.proofs.Lists.{slice_get-held}
use Rattle.ms_logic.specs.Assignment.{Variable}
use Rattle.ms_logic.specs.Lists.{AreRising}
use Rattle.ms_logic.specs.declared.mode.Order.{Order}
use Rattle.ms_logic_starts.specs.ContentStarts.{HaveDistinctNumbers}
use Rattle.ms_logic_starts.specs.inner.Ranks.{rank}
use Rattle.ms_logic_starts.proofs.RankLemmas.{rank_below_all, rank_grows}
use Rattle.ms_logic_words.specs.Content.{count_of}

-- each of some variables is read at a place of the others, the places do not fall, and each place is read
pub record AreReadAt (narrow wide : List Variable) (places : List ℕ) : Type 0 where
  pub own : HaveDistinctNumbers narrow
  pub rising : AreRising wide
  pub stands : (place : ℕ) (v : Variable) → slice_get narrow place ≡ Some v → (w : Variable) × (slice_get wide (slice_index places place) ≡ Some w) × (w.order ≡ v.order)
  pub rises : (one two : ℕ) → one < two → two < length narrow → slice_index places one ≤ slice_index places two
  pub all : (place : ℕ) (w : Variable) → slice_get wide place ≡ Some w → (at : ℕ) × (v : Variable) × (slice_get narrow at ≡ Some v) × (slice_index places at ≡ place)

-- a bit that was found, with more behind it, and nothing where there is none
abbrev pub with_found : Option Bool → List Bool → List Bool
with_found None more = []
with_found (Some bit) more = bit ∷ more

-- what is not there is past the end
not_there : (bits : List Bool) (n : ℕ) → slice_get bits n ≡ None → length bits ≤ n
not_there bits n none = ⊎_elim
    (λ less. let held = slice_get-held bits n less in absurd (none-some held.0 (sym none ∙ held.1)))
    (λ past. past)
    (cases_lt n (length bits))

module _ (has_bit : Order → Bool) where
  -- first bits, given to variables that are read at these ranks, as far as they reach
  abbrev pub expanded : List Variable → (ℕ → ℕ) → List Bool → List Bool
  expanded [] at bits = []
  expanded (v ∷ vs) at bits =
      if has_bit v.order
      then with_found (slice_get bits (at 0)) (expanded vs (λ place. at (suc place)) bits)
      else expanded vs (λ place. at (suc place)) bits

  -- where the ranks do not fall, each variable has the bit at its rank
  pub expanded_at : (vs : List Variable) (at : ℕ → ℕ) (bits : List Bool) → ((one two : ℕ) → one < two → two < length vs → at one ≤ at two)
      → (place : ℕ) (v : Variable) → slice_get vs place ≡ Some v → IsTrue (has_bit v.order)
      → slice_get (expanded vs at bits) (rank has_bit place vs) ≡ slice_get bits (at place)
  expanded_at [] at bits rises place v held holds = absurd (none-some v held)
  expanded_at (w ∷ vs) at bits rises zero v held holds =
      first (has_bit w.order) (slice_get bits (at 0)) (expanded vs (λ place. at (suc place)) bits) (expanded vs (λ place. at (suc place)) bits)
      (subst (λ (u : Variable). IsTrue (has_bit u.order)) (sym (same_Some w v held)) holds)
    where
      first : (test : Bool) (found : Option Bool) (more less : List Bool) → test ≡ true → slice_get (if test then with_found found more else less) 0 ≡ found
      first true None more less is = refl
      first true (Some bit) more less is = refl
      first false found more less is = absurd (false≢true is)
  expanded_at (w ∷ vs) at bits rises (suc place) v held holds =
      later (has_bit w.order) (slice_get bits (at 0)) refl (expanded vs (λ other. at (suc other)) bits) (rank has_bit place vs)
      (expanded_at vs (λ other. at (suc other)) bits (λ one two less below. rises (suc one) (suc two) (omega (arith, less)) (omega (arith, below))) place v held holds)
    where
      later : (test : Bool) (found : Option Bool) → slice_get bits (at 0) ≡ found → (more : List Bool) (n : ℕ) → slice_get more n ≡ slice_get bits (at (suc place))
          → slice_get (if test then with_found found more else more) (if test then suc n else n) ≡ slice_get bits (at (suc place))
      later false found is more n same = same
      later true (Some bit) is more n same = same
      later true None is more n same =
          let past = not_there bits (at 0) is in
          let up = rises 0 (suc place) (omega arith) (slice_get_within (w ∷ vs) (suc place) v held) in
          sym (slice_get_past bits (at (suc place)) (omega (arith, past, up)))

  -- a variable with a bit, before which so many others have one
  pub record IsRanked (vs : List Variable) (count : ℕ) : Type 0 where
    pub place : ℕ
    pub variable : Variable
    pub there : slice_get vs place ≡ Some variable
    pub holds : IsTrue (has_bit variable.order)
    pub is_rank : rank has_bit place vs ≡ count

  ranked : (vs : List Variable) (count : ℕ) → count < count_of has_bit vs → IsRanked vs count
  ranked [] count less = absurd (omega (arith, less))
  ranked (w ∷ vs) count less = by_test (has_bit w.order) refl count less (ranked vs)
    where
      by_test : (test : Bool) → has_bit w.order ≡ test → (n : ℕ) → n < (if test then count_of has_bit vs + 1 else count_of has_bit vs)
          → ((k : ℕ) → k < count_of has_bit vs → IsRanked vs k) → IsRanked (w ∷ vs) n
      by_test true is zero below more = record { place = 0; variable = w; there = refl; holds = is; is_rank = refl }
      by_test true is (suc n) below more =
          let found = more n (omega (arith, below)) in
          record {
            place = suc found.place;
            variable = found.variable;
            there = found.there;
            holds = found.holds;
            is_rank = ap (λ test. if test then suc (rank has_bit found.place vs) else rank has_bit found.place vs) is ∙ ap suc found.is_rank;
          }
      by_test false is n below more =
          let found = more n below in
          record {
            place = suc found.place;
            variable = found.variable;
            there = found.there;
            holds = found.holds;
            is_rank = ap (λ test. if test then suc (rank has_bit found.place vs) else rank has_bit found.place vs) is ∙ found.is_rank;
          }

  module _ (narrow wide : List Variable) (places : List ℕ) (are : AreReadAt narrow wide places) where
    -- first bits of the wide variables, as first bits of the narrow ones
    abbrev pub spread : List Bool → List Bool
    spread bits = expanded narrow (λ place. rank has_bit (slice_index places place) wide) bits

    pub spread_at : (bits : List Bool) (place : ℕ) (v : Variable) → slice_get narrow place ≡ Some v → IsTrue (has_bit v.order)
        → slice_get (spread bits) (rank has_bit place narrow) ≡ slice_get bits (rank has_bit (slice_index places place) wide)
    spread_at bits place v held holds =
        expanded_at narrow (λ other. rank has_bit (slice_index places other) wide) bits
        (λ one two less below. rank_grows has_bit (slice_index places one) (slice_index places two) wide (are.rises one two less below)) place v held holds

    -- fewer than all are spread to fewer than all
    pub spread_fewer : (bits : List Bool) → length bits < count_of has_bit wide → length (spread bits) < count_of has_bit narrow
    spread_fewer bits less =
        let found = ranked wide (length bits) less in
        let here = are.all found.place found.variable found.there in
        let w = are.stands here.0 here.1 here.2 in
        let same : found.variable ≡ w.0 = same_Some found.variable w.0 (sym found.there ∙ ap (slice_get wide) (sym here.3) ∙ w.1) in
        let holds : IsTrue (has_bit here.1.order) = subst (λ o. IsTrue (has_bit o)) (ap (λ (u : Variable). u.order) same ∙ w.2) found.holds in
        let at : rank has_bit (slice_index places here.0) wide ≡ length bits = ap (λ p. rank has_bit p wide) here.3 ∙ found.is_rank in
        let none : slice_get (spread bits) (rank has_bit here.0 narrow) ≡ None =
        spread_at bits here.0 here.1 here.2 holds ∙ ap (slice_get bits) at ∙ slice_get_past bits (length bits) (omega arith) in
        let few = not_there (spread bits) (rank has_bit here.0 narrow) none in
        let below = rank_below_all has_bit here.0 narrow here.1 here.2 holds in
        omega (arith, few, below)
