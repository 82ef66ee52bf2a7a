-- What bits are given to the variables of a content by their numbers, where the bits are those of other variables and of a bound one behind
-- them.
use Rattle.std.proofs.Common.{◌≡◌, ◌≢◌, ℕ, zero, suc, ◌<◌, ◌≤◌, ◌⊎◌, inl, inr, ⊎_elim, Bool, true, false, IsTrue, if◌then◌else◌, List, [], ◌∷◌, ◌++◌, length, slice_get, slice_index, Some, unwrap_or, refl, sym, ap, subst, ◌∙◌, arith}
use Rattle.std.specs.Option.{option_and_then}
use Rattle.std.proofs.lemmas.Bool.{cases_eq, cases_lt}
use Rattle.std.proofs.lemmas.List.{length-append}
use Rattle.std.proofs.lemmas.Option.{none-some, same_Some, slice_get_past, slice_get_within}
use Rattle.ms_arena.specs.Bits.{below_from, with_bit}
use Rattle.ms_arena.specs.Diagram.{Bits}
use Rattle.ms_arena.proofs.BitsLemmas.{below_from-first, below_from-later, with_bit-other, with_bit-same}
use Rattle.ms_arena.proofs.Lists.{slice_get-append_some, slice_get-push, slice_get-pushed}
use Rattle.ms_diagram.specs.Bring.{read_through}
use Rattle.ms_logic.specs.declared.mode.Order.{Order}
use Rattle.ms_logic.specs.Assignment.{Variable}
use Rattle.ms_logic_measures.specs.Starts.{bits_for, given_bit, with_free_bits}
use Rattle.ms_logic_starts.specs.ContentStarts.{HaveDistinctNumbers}
use Rattle.ms_logic_starts.specs.inner.Ranks.{bits_before, rank}
use Rattle.ms_logic_starts.proofs.RankLemmas.{bit_before, given_at, length-bits_before, rank_grows}
use Rattle.ms_logic_words.specs.Content.{bits_at, head_bit, padded, tail_bits}
use Rattle.ms_project_parts.specs.inner.Matched.{AreOthers}

module _ (has_bit : Order → Bool) where
  -- bits before a place depend only on the bits there
  pub bits_before-same : (place : ℕ) (vs : List Variable) (one two : Bits) → ((at : ℕ) → at < place → one at ≡ two at) → bits_before has_bit place vs one ≡ bits_before has_bit place vs two
  bits_before-same zero vs one two same = refl
  bits_before-same (suc place) [] one two same = refl
  bits_before-same (suc place) (v ∷ vs) one two same =
      ap (λ (list : List Bool). if has_bit v.order then one 0 ∷ list else list)
      (bits_before-same place vs (λ other. one (suc other)) (λ other. two (suc other)) (λ at less. same (suc at) (omega (arith, less))))
      ∙ ap (λ bit. if has_bit v.order then bit ∷ bits_before has_bit place vs (λ other. two (suc other)) else bits_before has_bit place vs (λ other. two (suc other))) (same 0 (omega arith))

  -- the bit of an order, if it has one
  abbrev pub bit_of : Order → Bool → List Bool
  bit_of order bit = if has_bit order then bit ∷ [] else []

  -- one more variable behind all has its bit behind theirs
  pub bits_before-more : (vs : List Variable) (x : Variable) (bits : Bits) → bits_before has_bit (suc (length vs)) (vs ++ x ∷ []) bits ≡ bits_before has_bit (length vs) vs bits ++ bit_of x.order (bits (length vs))
  bits_before-more [] x bits = refl
  bits_before-more (v ∷ vs) x bits = by_test (has_bit v.order) _ _ _ (bits_before-more vs x (λ other. bits (suc other)))
    where
      by_test : (test : Bool) (whole front back : List Bool) → whole ≡ front ++ back → (if test then bits 0 ∷ whole else whole) ≡ (if test then bits 0 ∷ front else front) ++ back
      by_test true whole front back same = ap (λ (list : List Bool). bits 0 ∷ list) same
      by_test false whole front back same = same

  -- the rank of a place does not change with what stands behind
  pub rank-more : (place : ℕ) (vs : List Variable) (x : Variable) → place ≤ length vs → rank has_bit place (vs ++ x ∷ []) ≡ rank has_bit place vs
  rank-more zero vs x within = refl
  rank-more (suc place) [] x within = absurd (omega (arith, within))
  rank-more (suc place) (v ∷ vs) x within = ap (λ n. if has_bit v.order then suc n else n) (rank-more place vs x (omega (arith, within)))

  -- padded over the places, the bits for variables are those that they are given
  pub padded_for : (all : List Variable) (bits : List Bool) (some : List Variable) (place : ℕ) (v : Variable) → slice_get some place ≡ Some v → IsTrue (has_bit v.order)
      → bits_at (padded has_bit some (bits_for has_bit all bits some)) place ≡ unwrap_or (given_bit has_bit all bits v.name) false
  padded_for all bits [] place v held holds = absurd (none-some v held)
  padded_for all bits (w ∷ some) zero v held holds =
      by_test (has_bit w.order) (subst (λ (u : Variable). IsTrue (has_bit u.order)) (sym (same_Some w v held)) holds) (unwrap_or (given_bit has_bit all bits w.name) false) (bits_for has_bit all bits some)
      ∙ ap (λ (u : Variable). unwrap_or (given_bit has_bit all bits u.name) false) (same_Some w v held)
    where
      by_test : (test : Bool) → IsTrue test → (own : Bool) (list : List Bool)
          → bits_at (if test then head_bit (if test then own ∷ list else list) ∷ padded has_bit some (tail_bits (if test then own ∷ list else list)) else false ∷ padded has_bit some (if test then own ∷ list else list)) 0 ≡ own
      by_test true is own list = refl
      by_test false is own list = let never : ⊥ = cc in absurd never
  padded_for all bits (w ∷ some) (suc place) v held holds =
      by_test (has_bit w.order) (unwrap_or (given_bit has_bit all bits w.name) false) (bits_for has_bit all bits some) (padded_for all bits some place v held holds)
    where
      by_test : (test own : Bool) (list : List Bool) → bits_at (padded has_bit some list) place ≡ unwrap_or (given_bit has_bit all bits v.name) false
          → bits_at (if test then head_bit (if test then own ∷ list else list) ∷ padded has_bit some (tail_bits (if test then own ∷ list else list)) else false ∷ padded has_bit some (if test then own ∷ list else list)) (suc place)
          ≡ unwrap_or (given_bit has_bit all bits v.name) false
      by_test true own list is = is
      by_test false own list is = is

-- the others, and the bound variable as the last
abbrev pub ordered_with : List Variable → Variable → List Variable
ordered_with others x = others ++ x ∷ []

module _ (ws others : List Variable) (x : Variable) (bound : ℕ) (back : List ℕ) (are : AreOthers ws others x bound back) where
  abbrev ordered : List Variable
  ordered = ordered_with others x

  -- where a variable of the order stands among all
  at_in_all : (at : ℕ) (v : Variable) → slice_get ordered at ≡ Some v
      → ((slice_get others at ≡ Some v) × (slice_get ws (slice_index are.into at) ≡ Some v)) ⊎ ((at ≡ length others) × (x ≡ v))
  at_in_all at v held = ⊎_elim (λ before. inl (before, are.out.leads at v before)) (λ last. inr last) (slice_get-pushed others x at v held)

  same_inside : (one two : ℕ) (v w : Variable) → slice_get others one ≡ Some v → slice_get others two ≡ Some w → v.name ≡ w.name → one ≡ two
  same_inside one two v w first second same =
      let equal = are.own (slice_index are.into one) (slice_index are.into two) v w (are.out.leads one v first) (are.out.leads two w second) same in
      sym (are.out.round one v first) ∙ ap (slice_index back) equal ∙ are.out.round two w second

  not_bound : (at : ℕ) (v : Variable) → slice_get others at ≡ Some v → v.name ≢ x.name
  not_bound at v held same = are.out.apart at v held (are.own (slice_index are.into at) bound v x (are.out.leads at v held) are.there same)

  -- the order has distinct numbers
  pub own_ordered : HaveDistinctNumbers ordered
  own_ordered one two v w first second same = ⊎_elim
      (λ inside. ⊎_elim
      (λ also. same_inside one two v w inside also same)
      (λ last. absurd (not_bound one v inside (same ∙ ap (λ (u : Variable). u.name) (sym last.1))))
      (slice_get-pushed others x two w second))
      (λ last. ⊎_elim
      (λ inside. absurd (not_bound two w inside (sym same ∙ ap (λ (u : Variable). u.name) (sym last.1))))
      (λ also. last.0 ∙ sym also.0)
      (slice_get-pushed others x two w second))
      (slice_get-pushed others x one v first)

  long_ordered : length ordered ≡ suc (length others)
  long_ordered = let same = length-append others (x ∷ []) in omega (arith, same)

  module _ (has_bit : Order → Bool) (level : ℕ) (first : Bits) where
    abbrev pub values : List Bool
    values = bits_before has_bit level ordered first

    module _ (at : ℕ) (w : Variable) (held : slice_get ordered at ≡ Some w) (holds : IsTrue (has_bit w.order)) where
      given_is : given_bit has_bit ordered values w.name ≡ slice_get values (rank has_bit at ordered)
      given_is = given_at has_bit ordered values at w own_ordered held holds

      pub given_below : at < level → given_bit has_bit ordered values w.name ≡ Some (first at)
      given_below below = given_is ∙ bit_before has_bit level ordered first at w below held holds

      pub given_above : level ≤ at → (free : Bool) → unwrap_or (given_bit has_bit ordered values w.name) free ≡ free
      given_above above free =
          let past = rank_grows has_bit level at ordered above in
          let long = length-bits_before has_bit level ordered first in
          ap (λ found. unwrap_or found free) (given_is ∙ slice_get_past values (rank has_bit at ordered) (omega (arith, past, long)))

      -- so these are the first bits, and free ones behind
      pub given_from : (free : Bits) → unwrap_or (given_bit has_bit ordered values w.name) (free at) ≡ below_from level first free at
      given_from free = ⊎_elim
          (λ below. ap (λ found. unwrap_or found (free at)) (given_below below) ∙ sym (below_from-first level first free at below))
          (λ above. given_above above (free at) ∙ sym (below_from-later level first free at above))
          (cases_lt at level)

  -- a variable of the content stands in the order
  stands : (at : ℕ) (w : Variable) → slice_get ws at ≡ Some w → at ≢ bound → slice_get ordered (slice_index back at) ≡ Some w
  stands at w held other = slice_get-append_some others (x ∷ []) (slice_index back at) w (are.out.stays at w held other).0

  stands_inside : (at : ℕ) (w : Variable) → slice_get ws at ≡ Some w → at ≢ bound → slice_index back at < length others
  stands_inside at w held other = slice_get_within others (slice_index back at) w (are.out.stays at w held other).0

  bound_last : (w : Variable) → slice_get ws bound ≡ Some w → slice_get ordered (length others) ≡ Some w
  bound_last w held = slice_get-push others x ∙ ap Some (same_Some x w (sym are.there ∙ held))

  module _ (has_bit : Order → Bool) where
    -- some bits of all variables are first bits of the others up to a level, and free bits behind it
    abbrev pub IsPut : ℕ → Bits → Bits → Bits → Type 0
    IsPut level first free whole =
        (at : ℕ) (w : Variable) → slice_get ws at ≡ Some w → at ≢ bound → whole at ≡ below_from level first (λ other. free at) (slice_index back at)

    -- first bits of the others, and free ones behind them
    pub partly : (level : ℕ) (first free whole : Bits) (bit : Bool) → level ≤ length others → IsPut level first free whole
        → (at : ℕ) (w : Variable) → slice_get ws at ≡ Some w → IsTrue (has_bit w.order)
        → with_free_bits has_bit ordered (values has_bit level first) ws (with_bit free bound bit) at ≡ with_bit whole bound bit at
    partly level first free whole bit few put at w held holds =
        ap (λ found. unwrap_or (option_and_then (λ (v : Variable). given_bit has_bit ordered (values has_bit level first) v.name) found) (with_bit free bound bit at)) held
        ∙ ⊎_elim
        (λ is_bound.
        given_above has_bit level first (length others) w (bound_last w (sym (ap (slice_get ws) is_bound) ∙ held)) holds few (with_bit free bound bit at)
        ∙ ap (with_bit free bound bit) is_bound ∙ with_bit-same free bound bit ∙ sym (with_bit-same whole bound bit) ∙ ap (with_bit whole bound bit) (sym is_bound))
        (λ other.
        given_from has_bit level first (slice_index back at) w (stands at w held other) holds (λ any. with_bit free bound bit at)
        ∙ ap (λ own. below_from level first (λ any. own) (slice_index back at)) (with_bit-other free bound bit at other)
        ∙ sym (put at w held other)
        ∙ sym (with_bit-other whole bound bit at other))
        (cases_eq at bound)

    -- bits of all the others, and that of the bound variable behind them
    abbrev pub all_values : Bits → List Bool
    all_values whole = bits_before has_bit (length others) others (read_through are.into whole)

    abbrev with_last : Bits → Bool → Bits
    with_last whole bit = below_from (length others) (read_through are.into whole) (λ any. bit)

    all_are : (whole : Bits) (bit : Bool) → values has_bit (suc (length others)) (with_last whole bit) ≡ all_values whole ++ bit_of has_bit x.order bit
    all_are whole bit =
        bits_before-more has_bit others x (with_last whole bit)
        ∙ ap (λ (list : List Bool). list ++ bit_of has_bit x.order (with_last whole bit (length others)))
        (bits_before-same has_bit (length others) others (with_last whole bit) (read_through are.into whole) (λ at less. below_from-first (length others) (read_through are.into whole) (λ any. bit) at less))
        ∙ ap (λ own. all_values whole ++ bit_of has_bit x.order own) (below_from-later (length others) (read_through are.into whole) (λ any. bit) (length others) (omega arith))

    pub wholly : (whole : Bits) (bit : Bool) (at : ℕ) (w : Variable) → slice_get ws at ≡ Some w → IsTrue (has_bit w.order)
        → unwrap_or (given_bit has_bit ordered (all_values whole ++ bit_of has_bit x.order bit) w.name) false ≡ with_bit whole bound bit at
    wholly whole bit at w held holds =
        ap (λ (list : List Bool). unwrap_or (given_bit has_bit ordered list w.name) false) (sym (all_are whole bit))
        ∙ ⊎_elim
        (λ is_bound.
        ap (λ found. unwrap_or found false) (given_below has_bit (suc (length others)) (with_last whole bit) (length others) w (bound_last w (sym (ap (slice_get ws) is_bound) ∙ held)) holds (omega arith))
        ∙ below_from-later (length others) (read_through are.into whole) (λ any. bit) (length others) (omega arith)
        ∙ sym (with_bit-same whole bound bit) ∙ ap (with_bit whole bound bit) (sym is_bound))
        (λ other.
        let inside = stands_inside at w held other in
        ap (λ found. unwrap_or found false) (given_below has_bit (suc (length others)) (with_last whole bit) (slice_index back at) w (stands at w held other) holds (omega (arith, inside)))
        ∙ below_from-first (length others) (read_through are.into whole) (λ any. bit) (slice_index back at) inside
        ∙ ap whole (are.out.stays at w held other).1
        ∙ sym (with_bit-other whole bound bit at other))
        (cases_eq at bound)
