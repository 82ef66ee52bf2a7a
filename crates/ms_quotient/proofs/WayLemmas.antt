-- The union of marks along a way is just what stands from there on.
use Rattle.std.proofs.Common.{◌≡◌, ◌↔◌, ℕ, zero, suc, ◌<◌, ◌⊎◌, inl, inr, ⊎_elim, Bool, true, false, ◌||◌, IsTrue, All, List, [], ◌∷◌, ◌++◌, length, get_or, set, drop, refl, sym, ap, subst, ◌∙◌, arith, get_or-set_same, get_or-set_other, length-set}
use Rattle.std.proofs.lemmas.Bool.{cases_eq, or_cases, or_left, or_right, false≢true}
use Rattle.std.proofs.lemmas.List.{drop_more}
use Rattle.ms_quotient.specs.declared.marks.Marks.{Marks}
use Rattle.ms_quotient.specs.Closure.{no_marks, marks_at, place_after, StandsOnWay, AreMarksFrom}
use Rattle.ms_quotient.specs.Way.{union, IsOn, LeadsTo, IsSeen, IsSeenAlong, union_along, written_along, IsClosedWhereSeen}

-- one place more at the end of a way
pub LeadsTo-more : (next : List ℕ) (start end : ℕ) (way : List ℕ) → LeadsTo next start way end → LeadsTo next start (way ++ end ∷ []) (get_or next end 0)
LeadsTo-more next start end [] leads = (leads, refl)
LeadsTo-more next start end (first ∷ way) leads = (leads.0, LeadsTo-more next (get_or next first 0) end way leads.1)

pub IsOn-left : (place : ℕ) (one two : List ℕ) → IsOn place one → IsOn place (one ++ two)
IsOn-left place [] two on = absurd on
IsOn-left place (first ∷ one) two on = ⊎_elim (λ same. inl same) (λ later. inr (IsOn-left place one two later)) on

pub IsOn-last : (place : ℕ) (way : List ℕ) → IsOn place (way ++ place ∷ [])
IsOn-last place [] = inl refl
IsOn-last place (first ∷ way) = inr (IsOn-last place way)

-- one more place is seen
set-seen : (seen : List Bool) (end place : ℕ) → IsSeen seen place → end < length seen → IsSeen (set seen end true) place
set-seen seen end place was less =
    ⊎_elim (λ same. subst (IsSeen (set seen end true)) (sym same) (get_or-set_same seen end true false less))
    (λ other. get_or-set_other seen end place true false other ∙ was) (cases_eq place end)

pub IsSeenAlong-more : (early late : List Bool) (way : List ℕ) (end : ℕ) → IsSeenAlong early late way → end < length late → IsSeenAlong early (set late end true) (way ++ end ∷ [])
IsSeenAlong-more early late way end along less = record {
  kept = λ place was. set-seen late end place (along.kept place was) less;
  more = λ place seen.
      ⊎_elim (λ same. inr (subst (λ p. IsOn p (way ++ end ∷ [])) (sym same) (IsOn-last end way)))
      (λ other. ⊎_elim (λ was. inl was) (λ on. inr (IsOn-left place way (end ∷ []) on))
      (along.more place (sym (get_or-set_other late end place true false other) ∙ seen)))
      (cases_eq place end);
}

-- and the start of the way is one that is seen, also where it is the new one
pub start_seen : (seen : List Bool) (start end next : ℕ) → end < length seen → IsSeen seen start ⊎ (start ≡ end) → IsSeen (set seen end true) start ⊎ (start ≡ next)
start_seen seen start end next less here =
    inl (⊎_elim (λ was. set-seen seen end start was less) (λ same. subst (IsSeen (set seen end true)) (sym same) (get_or-set_same seen end true false less)) here)

-- what is on a way stands at some place of it
pub IsOn-place : (place : ℕ) (way : List ℕ) → IsOn place way → (k : ℕ) × (k < length way) × (get_or way k 0 ≡ place)
IsOn-place place [] on = absurd on
IsOn-place place (first ∷ way) on = ⊎_elim (λ same. (0, omega arith, sym same)) (λ later. let at = IsOn-place place way later in (suc at.0, omega (arith, at.1), at.2)) on

-- the rest of a way is a way
LeadsTo-drop : (next : List ℕ) (start end k : ℕ) (way : List ℕ) → LeadsTo next start way end → k < length way → LeadsTo next (get_or way k 0) (drop k way) end
LeadsTo-drop next start end k [] leads less = absurd (omega (arith, less))
LeadsTo-drop next start end zero (first ∷ way) leads less = (refl, leads.1)
LeadsTo-drop next start end (suc k) (first ∷ way) leads less = LeadsTo-drop next (get_or next first 0) end k way leads.1 (omega (arith, less))

-- each place on a way is reached from its start
LeadsTo-reaches : (next : List ℕ) (start end place : ℕ) (way : List ℕ) → LeadsTo next start way end → IsOn place way → (steps : ℕ) × (place_after next steps start ≡ place)
LeadsTo-reaches next start end place [] leads on = absurd on
LeadsTo-reaches next start end place (first ∷ way) leads on =
    ⊎_elim (λ same. (0, leads.0 ∙ sym same))
    (λ later. let more = LeadsTo-reaches next (get_or next first 0) end place way leads.1 later in (suc more.0, ap (λ p. place_after next more.0 (get_or next p 0)) leads.0 ∙ more.1)) on

-- from each place on a way the next one is on it, or its end
LeadsTo-next : (next : List ℕ) (start end place : ℕ) (way : List ℕ) → LeadsTo next start way end → IsOn place way → IsOn (get_or next place 0) way ⊎ (get_or next place 0 ≡ end)
LeadsTo-next next start end place [] leads on = absurd on
LeadsTo-next next start end place (first ∷ []) leads on = ⊎_elim (λ same. inr (ap (λ p. get_or next p 0) same ∙ leads.1)) (λ none. absurd none) on
LeadsTo-next next start end place (first ∷ second ∷ way) leads on =
    ⊎_elim (λ same. inl (inr (inl (ap (λ p. get_or next p 0) same ∙ leads.1.0))))
    (λ later. ⊎_elim (λ on_way. inl (inr on_way)) (λ at_end. inr at_end) (LeadsTo-next next (get_or next first 0) end place (second ∷ way) leads.1 later)) on

-- from a ring nothing leads away
stays_on_ring : (next : List ℕ) (end : ℕ) (ring : List ℕ) → LeadsTo next end ring end → IsOn end ring → (steps place : ℕ) → IsOn place ring → IsOn (place_after next steps place) ring
stays_on_ring next end ring leads ended zero place on = on
stays_on_ring next end ring leads ended (suc steps) place on =
    stays_on_ring next end ring leads ended steps (get_or next place 0)
    (⊎_elim (λ on_ring. on_ring) (λ at_end. subst (λ p. IsOn p ring) (sym at_end) ended) (LeadsTo-next next end end place ring leads on))

module _ (mark : Marks → Bool) (next : List ℕ) (marks : List Marks) where
  -- a union has the mark just where one of the two has it
  abbrev pub IsSplit : Type 0
  IsSplit = (one two : Marks) → mark (union one two) ≡ (mark one || mark two)

  abbrev HasJust : ℕ → Marks → Type 0
  HasJust place met = IsTrue (mark met) ↔ StandsOnWay mark next marks place

  -- one place before
  HasJust-before : IsSplit → (place : ℕ) (met : Marks) → HasJust (get_or next place 0) met → HasJust place (union (marks_at marks place) met)
  HasJust-before splits place met just = (
    λ has. ⊎_elim (λ here. (0, here)) (λ behind. let stands = just.0 behind in (suc stands.0, stands.1))
        (or_cases (mark (marks_at marks place)) (mark met) (sym (splits (marks_at marks place) met) ∙ has)),
    λ stands. splits (marks_at marks place) met ∙ either stands.0 stands.1,
  ) where
    either : (steps : ℕ) → IsTrue (mark (marks_at marks (place_after next steps place))) → (mark (marks_at marks place) || mark met) ≡ true
    either zero here = or_left (mark (marks_at marks place)) (mark met) here
    either (suc steps) behind = or_right (mark (marks_at marks place)) (mark met) (just.1 (steps, behind))

  -- a mark of a union along a way stands on it
  pub union_along-stands : IsSplit → IsTrue (mark no_marks) ↔ ⊥ → (way : List ℕ) → IsTrue (mark (union_along marks way no_marks)) → (place : ℕ) × IsOn place way × IsTrue (mark (marks_at marks place))
  union_along-stands splits none [] has = absurd (none.0 has)
  union_along-stands splits none (first ∷ way) has =
      ⊎_elim (λ here. (first, inl refl, here)) (λ behind. let at = union_along-stands splits none way behind in (at.0, inr at.1, at.2))
      (or_cases (mark (marks_at marks first)) (mark (union_along marks way no_marks)) (sym (splits (marks_at marks first) (union_along marks way no_marks)) ∙ has))

  -- what stands on a way is in the union along it
  pub union_along-has : IsSplit → (place : ℕ) (way : List ℕ) → IsOn place way → IsTrue (mark (marks_at marks place)) → IsTrue (mark (union_along marks way no_marks))
  union_along-has splits place [] on has = absurd on
  union_along-has splits place (first ∷ way) on has =
      splits (marks_at marks first) (union_along marks way no_marks)
      ∙ ⊎_elim (λ same. or_left (mark (marks_at marks first)) (mark (union_along marks way no_marks)) (subst (λ p. IsTrue (mark (marks_at marks p))) same has))
      (λ later. or_right (mark (marks_at marks first)) (mark (union_along marks way no_marks)) (union_along-has splits place way later has)) on

  -- the union round a ring
  HasJust-ring : IsSplit → IsTrue (mark no_marks) ↔ ⊥ → (end : ℕ) (ring : List ℕ) → LeadsTo next end ring end → IsOn end ring → HasJust end (union_along marks ring no_marks)
  HasJust-ring splits none end ring leads ended = (
    λ has.
        let at = union_along-stands splits none ring has in
        let reached = LeadsTo-reaches next end end at.0 ring leads at.1 in
        (reached.0, subst (λ p. IsTrue (mark (marks_at marks p))) (sym reached.1) at.2),
    λ stands. union_along-has splits (place_after next stands.0 end) ring (stays_on_ring next end ring leads ended stands.0 end ended) stands.1,
  )

module _ (next : List ℕ) (marks : List Marks) where
  AreMarksFrom-before : (place : ℕ) (met : Marks) → AreMarksFrom next marks (get_or next place 0) met → AreMarksFrom next marks place (union (marks_at marks place) met)
  AreMarksFrom-before place met from = record {
    yes = HasJust-before (λ m. m.yes) next marks (λ one two. refl) place met from.yes;
    no = HasJust-before (λ m. m.no) next marks (λ one two. refl) place met from.no;
    undefined = HasJust-before (λ m. m.undefined) next marks (λ one two. refl) place met from.undefined;
    encoding = HasJust-before (λ m. m.encoding) next marks (λ one two. refl) place met from.encoding;
  }

  -- the union along a ring is what stands from there on
  AreMarksFrom-ring : (end : ℕ) (ring : List ℕ) → LeadsTo next end ring end → IsOn end ring → AreMarksFrom next marks end (union_along marks ring no_marks)
  AreMarksFrom-ring end ring leads ended = record {
    yes = HasJust-ring (λ m. m.yes) next marks (λ one two. refl) (λ has. false≢true has, λ none. absurd none) end ring leads ended;
    no = HasJust-ring (λ m. m.no) next marks (λ one two. refl) (λ has. false≢true has, λ none. absurd none) end ring leads ended;
    undefined = HasJust-ring (λ m. m.undefined) next marks (λ one two. refl) (λ has. false≢true has, λ none. absurd none) end ring leads ended;
    encoding = HasJust-ring (λ m. m.encoding) next marks (λ one two. refl) (λ has. false≢true has, λ none. absurd none) end ring leads ended;
  }

  -- and that along a way with what stands from its end on
  AreMarksFrom-along : (start end : ℕ) (way : List ℕ) (last : Marks) → LeadsTo next start way end → AreMarksFrom next marks end last → AreMarksFrom next marks start (union_along marks way last)
  AreMarksFrom-along start end [] last leads from = subst (λ p. AreMarksFrom next marks p last) (sym leads) from
  AreMarksFrom-along start end (first ∷ way) last leads from =
      subst (λ p. AreMarksFrom next marks p (union_along marks (first ∷ way) last)) (sym leads.0)
      (AreMarksFrom-before first (union_along marks way last) (AreMarksFrom-along (get_or next first 0) end way last leads.1 from))

  -- a way that leads to one of its own places ends in a ring
  pub AreMarksFrom-end : (start end k : ℕ) (way : List ℕ) → LeadsTo next start way end → k < length way → get_or way k 0 ≡ end → AreMarksFrom next marks end (union_along marks (drop k way) no_marks)
  AreMarksFrom-end start end k way leads less at =
      AreMarksFrom-ring end (drop k way) (subst (λ p. LeadsTo next p (drop k way) end) at (LeadsTo-drop next start end k way leads less))
      (subst (IsOn end) (sym (drop_more way k 0 less)) (inl (sym at)))

  length-written_along : (closed : List Marks) (way : List ℕ) (last : Marks) → length (written_along marks closed way last) ≡ length closed
  length-written_along closed [] last = refl
  length-written_along closed (first ∷ way) last = length-set (written_along marks closed way last) first (union_along marks (first ∷ way) last) ∙ length-written_along closed way last

  -- what is written along a way closes its places, and leaves the others
  written_along-closes : (closed : List Marks) (start end place : ℕ) (way : List ℕ) (last : Marks) → LeadsTo next start way end → All (λ p. p < length closed) way → AreMarksFrom next marks end last
      → IsOn place way ⊎ AreMarksFrom next marks place (marks_at closed place) → AreMarksFrom next marks place (marks_at (written_along marks closed way last) place)
  written_along-closes closed start end place [] last leads within from was = ⊎_elim (λ none. absurd none) (λ is. is) was
  written_along-closes closed start end place (first ∷ way) last leads within from was =
      ⊎_elim
      (λ same. subst (λ met. AreMarksFrom next marks place met) (sym (ap (λ p. marks_at (set (written_along marks closed way last) first (union_along marks (first ∷ way) last)) p) same
      ∙ get_or-set_same (written_along marks closed way last) first (union_along marks (first ∷ way) last) no_marks (subst (λ n. first < n) (sym (length-written_along closed way last)) (within 0 0 (omega arith)))))
      (subst (λ p. AreMarksFrom next marks p (union_along marks (first ∷ way) last)) (sym same) (AreMarksFrom-along first end (first ∷ way) last (refl, leads.1) from)))
      (λ other. subst (λ met. AreMarksFrom next marks place met) (sym (get_or-set_other (written_along marks closed way last) first place (union_along marks (first ∷ way) last) no_marks other))
      (written_along-closes closed (get_or next first 0) end place way last leads.1 (λ k d less. within (suc k) d (omega (arith, less))) from
      (⊎_elim (λ on. ⊎_elim (λ same. absurd (other same)) (λ later. inl later) on) (λ is. inr is) was)))
      (cases_eq place first)

  -- so what has been seen along it is closed
  pub closed_along : (closed : List Marks) (early late : List Bool) (start end : ℕ) (way : List ℕ) (last : Marks) → length closed ≡ length next → LeadsTo next start way end → All (λ p. p < length next) way
      → AreMarksFrom next marks end last → IsSeenAlong early late way → IsClosedWhereSeen next marks early closed → IsClosedWhereSeen next marks late (written_along marks closed way last)
  closed_along closed early late start end way last long leads within from along was place less seen =
      written_along-closes closed start end place way last leads (subst (λ n. All (λ p. p < n) way) (sym long) within) from
      (⊎_elim (λ before. inr (was place less before)) (λ on. inl on) (along.more place seen))
