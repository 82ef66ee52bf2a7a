-- Where the variables without a bound one stand among all, whatever their numbers are.
use Rattle.std.proofs.Common.{◌≡◌, ◌≢◌, ℕ, suc, ◌+◌, ◌==◌, ⊎_elim, Bool, true, false, not, if◌then◌else◌, List, [], ◌∷◌, length, slice_get, slice_index, Some, refl, sym, ap, subst, ◌∙◌, arith}
use Rattle.std.proofs.lemmas.Bool.{cases_eq, eq-eqb, ne_eqb}
use Rattle.std.proofs.lemmas.Option.{same_Some, slice_get_within}
use Rattle.ms_arena.proofs.Lists.{slice_get-held}
use Rattle.ms_logic.specs.Assignment.{Variable}
use Rattle.ms_logic.specs.Lists.{AreRising, IsAmong, without}
use Rattle.ms_dfa_explore.specs.Tracks.{place_of, places_among}
use Rattle.ms_logic_starts.specs.ContentStarts.{HaveDistinctNumbers}
use Rattle.ms_logic_starts.proofs.RisingLemmas.{rising_distinct}
use Rattle.ms_product.specs.Widened.{IsRisingMap}
use Rattle.ms_product.proofs.WidenedLemmas.{IsRisingMap-among}
use Rattle.ms_project.specs.Paired.{places_left}
use Rattle.ms_project.specs.Subsets.{IsLeftOut}
use Rattle.ms_project_parts.specs.inner.Matched.{AreOthers}
use Rattle.ms_project.proofs.LeaveLemmas.{IsLeftOut-rest, counted_at, own_there, without-among, without-rising}

module _ (name x : ℕ) where
  -- at each place of both lists stand two variables of these numbers, or two of others
  abbrev HaveMarks : List Variable → List Variable → Type 0
  HaveMarks vs ws = (place : ℕ) (v w : Variable) → slice_get vs place ≡ Some v → slice_get ws place ≡ Some w → (v.name == name) ≡ (w.name == x)

  marks_behind : (v w : Variable) (vs ws : List Variable) → HaveMarks (v ∷ vs) (w ∷ ws) → HaveMarks vs ws
  marks_behind v w vs ws have place u t first second = have (suc place) u t first second

  same_places : (place : ℕ) (vs ws : List Variable) → length vs ≡ length ws → HaveMarks vs ws → places_left name place vs ≡ places_left x place ws
  same_places place [] [] long have = refl
  same_places place [] (w ∷ ws) long have = absurd (omega (arith, long))
  same_places place (v ∷ vs) [] long have = absurd (omega (arith, long))
  same_places place (v ∷ vs) (w ∷ ws) long have =
      ap (λ (list : List ℕ). place ∷ list)
      (ap (λ test. places_left name (if test then place else place + 1) vs) (have 0 v w refl refl)
      ∙ same_places (if w.name == x then place else place + 1) vs ws (omega (arith, long)) (marks_behind v w vs ws have))

  as_many_left : (vs ws : List Variable) → length vs ≡ length ws → HaveMarks vs ws → length (without name vs) ≡ length (without x ws)
  as_many_left [] [] long have = refl
  as_many_left [] (w ∷ ws) long have = absurd (omega (arith, long))
  as_many_left (v ∷ vs) [] long have = absurd (omega (arith, long))
  as_many_left (v ∷ vs) (w ∷ ws) long have =
      ap (λ test. length (if not test then v ∷ without name vs else without name vs)) (have 0 v w refl refl)
      ∙ by_test (w.name == x) (as_many_left vs ws (omega (arith, long)) (marks_behind v w vs ws have))
    where
      by_test : (test : Bool) → length (without name vs) ≡ length (without x ws)
          → length (if not test then v ∷ without name vs else without name vs) ≡ length (if not test then w ∷ without x ws else without x ws)
      by_test true same = same
      by_test false same = ap suc same

-- rising variables, one of them bound, and others with numbers of their own at the same places
module _ (vs ws : List Variable) (long : length ws ≡ length vs) (rising : AreRising vs) (bound x : Variable) (among : IsAmong vs bound)
    (own : HaveDistinctNumbers ws) (there : slice_get ws (place_of bound.name vs) ≡ Some x) where
  abbrev pub place : ℕ
  place = place_of bound.name vs

  abbrev rest : List Variable
  rest = without bound.name vs

  abbrev pub others : List Variable
  others = without x.name ws

  abbrev pub into : List ℕ
  into = places_among rest vs

  abbrev pub back : List ℕ
  back = places_left bound.name 0 vs

  bound_there : slice_get vs place ≡ Some bound
  bound_there = own_there vs rising bound among

  marks : HaveMarks bound.name x.name vs ws
  marks at v w first second = ⊎_elim
      (λ same.
      let is_bound : v ≡ bound = same_Some v bound (sym first ∙ ap (slice_get vs) same ∙ bound_there) in
      let is_x : w ≡ x = same_Some w x (sym second ∙ ap (slice_get ws) same ∙ there) in
      eq-eqb v.name bound.name (ap (λ (u : Variable). u.name) is_bound) ∙ sym (eq-eqb w.name x.name (ap (λ (u : Variable). u.name) is_x)))
      (λ other.
      ne_eqb v.name bound.name (λ same. other (rising_distinct vs rising at place v bound first bound_there same))
      ∙ sym (ne_eqb w.name x.name (λ same. other (own at place w x second there same))))
      (cases_eq at place)

  as_many : length rest ≡ length others
  as_many = as_many_left bound.name x.name vs ws (sym long) marks

  out_of_vs : IsLeftOut vs rest place into back
  out_of_vs = IsLeftOut-rest vs rising bound among

  stays : (at : ℕ) (w : Variable) → slice_get ws at ≡ Some w → at ≢ place → slice_get others (slice_index back at) ≡ Some w
  stays at w held other =
      let is = counted_at x.name 0 ws at w held (λ same. other (own at place w x held there same)) in
      let same : slice_index back at ≡ is.own = ap (λ list. slice_index list at) (same_places bound.name x.name 0 vs ws (sym long) marks) ∙ is.counted ∙ omega arith in
      ap (slice_get others) same ∙ is.there

  -- what stands at a place of the others
  at_rest : (at : ℕ) (v : Variable) → slice_get others at ≡ Some v → (u : Variable) × (slice_get rest at ≡ Some u)
  at_rest at v held = let within = slice_get_within others at v held in let many = as_many in slice_get-held rest at (omega (arith, within, many))

  leads : (at : ℕ) (v : Variable) → slice_get others at ≡ Some v → slice_get ws (slice_index into at) ≡ Some v
  leads at v held =
      let u = at_rest at v held in
      let lands = out_of_vs.leads at u.0 u.1 in
      let within = slice_get_within vs (slice_index into at) u.0 lands in
      let w = slice_get-held ws (slice_index into at) (omega (arith, within, long)) in
      let back_at = stays (slice_index into at) w.0 w.1 (out_of_vs.apart at u.0 u.1) in
      w.1 ∙ ap Some (same_Some w.0 v (sym back_at ∙ ap (slice_get others) (out_of_vs.round at u.0 u.1) ∙ held))

  -- the others are the variables without the one at the place
  left_out : IsLeftOut ws others place into back
  left_out = record {
    leads = leads;
    apart = λ at v held. (let u = at_rest at v held in out_of_vs.apart at u.0 u.1);
    round = λ at v held. (let u = at_rest at v held in out_of_vs.round at u.0 u.1);
    stays = λ at w held other.
        let within = slice_get_within ws at w held in
        let v = slice_get-held vs at (omega (arith, within, long)) in
        (stays at w held other, (out_of_vs.stays at v.0 v.1 other).1);
  }

  -- and stand in rising order
  into_rises : IsRisingMap (length others) into
  into_rises = subst (λ n. IsRisingMap n into) as_many (IsRisingMap-among rest vs (without-rising bound.name vs rising) rising (without-among bound.name vs))

  pub are_others : AreOthers ws others x place back
  are_others = record { own = own; there = there; into = into; out = left_out; rises = into_rises }
