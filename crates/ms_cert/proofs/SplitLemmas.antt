-- A class with some of its states split off.
use Rattle.std.proofs.Common.{◌≡◌, ◌≢◌, ◌⊎◌, ℕ, ◌+◌, ◌<◌, Bool, true, false, not, List, [], ◌∷◌, filter, length, length-append, length-set, slice_get, slice_index_or, slice_set, Some, refl, sym, ap, subst, ◌∙◌, arith, inl, inr, ⊎_elim}
use Rattle.std.proofs.lemmas.Bool.{cases_eq}
use Rattle.std.proofs.lemmas.Option.{same_Some, slice_get-get_or, slice_get_within}
use Rattle.ms_arena.proofs.Lists.{slice_get-append_left, slice_get-push, slice_get-pushed, slice_get-set_other, slice_get-set_same}
use Rattle.ms_dfa.specs.declared.plain.FileSign.{FileSign}
use Rattle.ms_logic_words.specs.Content.{AreLetters, Content}
use Rattle.ms_cert.specs.declared.splitter.Splitter.{Splitter}
use Rattle.ms_cert.specs.inner.Partition.{Classes, IsIn, IsPartition, StemsFrom, is_split_off, with_split}
use Rattle.ms_cert.specs.inner.Refinement.{TellsSomeApart}
use Rattle.ms_cert.proofs.MemberLemmas.{assigned-in, assigned-out, in-filter, in-or_not, kept, length-assigned}
use Rattle.ms_cert.proofs.StemLemmas.{stems-low, stems-old, stems-parent}

true-or-false : (b : Bool) → (b ≡ true) ⊎ (b ≡ false)
true-or-false true = inl refl
true-or-false false = inr refl

module _ (content : Content FileSign) (old : Classes) (is : IsPartition content old) (class : ℕ) (splitter : Splitter) (within : class < length old.members) where
  abbrev pub count : ℕ
  count = length old.parents

  abbrev pub test : ℕ → Bool
  test = is_split_off content splitter

  abbrev pub states : List ℕ
  states = slice_index_or old.members class []

  abbrev pub moved : List ℕ
  moved = filter test states

  abbrev pub left : List ℕ
  left = filter (λ state. not (test state)) states

  abbrev pub new : Classes
  new = with_split content old class splitter

  class-below : class < count
  class-below = let same = is.members_count in omega (arith, within, same)

  pub there : slice_get old.members class ≡ Some states
  there = slice_get-get_or old.members class [] within

  -- a state has a class
  below : (state own : ℕ) → slice_get old.classes state ≡ Some own → own < count
  below state own held =
      let in_list = is.listed state own held in
      let same = is.members_count in
      let less = slice_get_within old.members own in_list.0 in_list.1 in
      omega (arith, less, same)

  -- what moves was in the class, and passes
  moved-was : (state : ℕ) → IsIn moved state → (slice_get old.classes state ≡ Some class) × (test state ≡ true)
  moved-was state in_moved =
      let both = in-filter test states state in_moved.0 in_moved.1 in
      (is.own class state states there both.0, both.1)

  -- what stays in the class does not
  left-fails : (state : ℕ) → slice_get old.classes state ≡ Some class → (IsIn moved state → ⊥) → test state ≡ false
  left-fails state held never = ⊎_elim
      (λ passes.
      let in_list = is.listed state class held in
      let same = same_Some in_list.0 states (sym in_list.1 ∙ there) in
      let in_states = subst (λ (s : List ℕ). IsIn s state) same in_list.2 in
      absurd (never (kept test states state in_states.0 in_states.1 passes)))
      (λ fails. fails)
      (true-or-false (test state))

  in-left : (state : ℕ) → IsIn states state → test state ≡ false → IsIn left state
  in-left state in_states fails = kept (λ s. not (test s)) states state in_states.0 in_states.1 (ap not fails)

  -- a state is in the class that was split off, or where it was
  new-class : (state own : ℕ) → slice_get new.classes state ≡ Some own → ((own ≡ count) × IsIn moved state) ⊎ ((IsIn moved state → ⊥) × (slice_get old.classes state ≡ Some own))
  new-class state own held = ⊎_elim
      (λ in_moved.
      let less = slice_get_within old.classes state class (moved-was state in_moved).0 in
      inl (sym (same_Some count own (sym (assigned-in old.classes moved count state in_moved.0 in_moved.1 less) ∙ held)), in_moved))
      (λ never. inr (never, sym (assigned-out old.classes moved count state never) ∙ held))
      (in-or_not moved state)

  -- states of one class were in one class
  pub split-refines : (one other own : ℕ) → slice_get new.classes one ≡ Some own → slice_get new.classes other ≡ Some own → (was : ℕ) × (slice_get old.classes one ≡ Some was) × (slice_get old.classes other ≡ Some was)
  split-refines one other own held_one held_other = ⊎_elim
      (λ moves. ⊎_elim
      (λ also. (class, (moved-was one moves.1).0, (moved-was other also.1).0))
      (λ stays. let less = below other own stays.1 in let place = moves.0 in absurd (omega (arith, less, place)))
      (new-class other own held_other))
      (λ stays. ⊎_elim
      (λ moves. let less = below one own stays.1 in let place = moves.0 in absurd (omega (arith, less, place)))
      (λ also. (own, stays.1, also.1))
      (new-class other own held_other))
      (new-class one own held_one)

  count-members : length (slice_set old.members class left) ≡ count
  count-members = length-set old.members class left ∙ is.members_count

  -- the lists of the classes
  pub new-last : slice_get new.members count ≡ Some moved
  new-last = subst (λ (k : ℕ). slice_get new.members k ≡ Some moved) count-members (slice_get-push (slice_set old.members class left) moved)

  pub new-own : slice_get new.members class ≡ Some left
  new-own =
      let less : class < length (slice_set old.members class left) = omega (arith, within, length-set old.members class left) in
      slice_get-append_left (slice_set old.members class left) (moved ∷ []) class less ∙ slice_get-set_same old.members class left within

  pub new-other : (other : ℕ) → other < length old.members → other ≢ class → slice_get new.members other ≡ slice_get old.members other
  new-other other less differ =
      let long : other < length (slice_set old.members class left) = omega (arith, less, length-set old.members class left) in
      slice_get-append_left (slice_set old.members class left) (moved ∷ []) other long ∙ slice_get-set_other old.members class other left differ

  new-listed : (state own : ℕ) → slice_get new.classes state ≡ Some own → (list : List ℕ) × (slice_get new.members own ≡ Some list) × IsIn list state
  new-listed state own held = ⊎_elim
      (λ last. (moved, ap (slice_get new.members) last.0 ∙ new-last, last.1))
      (λ stays.
      let in_list = is.listed state own stays.1 in
      ⊎_elim
      (λ same.
      let here = subst (λ (k : ℕ). slice_get old.classes state ≡ Some k) same stays.1 in
      let list = is.listed state class here in
      let in_states = subst (λ (s : List ℕ). IsIn s state) (same_Some list.0 states (sym list.1 ∙ there)) list.2 in
      (left, ap (slice_get new.members) same ∙ new-own, in-left state in_states (left-fails state here stays.0)))
      (λ differ. (in_list.0, new-other own (slice_get_within old.members own in_list.0 in_list.1) differ ∙ in_list.1, in_list.2))
      (cases_eq own class))
      (new-class state own held)

  never-fails : (state : ℕ) → not (test state) ≡ true → IsIn moved state → ⊥
  never-fails state fails in_moved =
      let passes = (moved-was state in_moved).1 in
      let clash : false ≡ true = ap not (sym passes) ∙ fails in
      cc

  new-own_class : (at state : ℕ) (list : List ℕ) → slice_get new.members at ≡ Some list → IsIn list state → slice_get new.classes state ≡ Some at
  new-own_class at state list held in_list = ⊎_elim
      (λ early. ⊎_elim
      (λ same.
      let is_left : left ≡ list = same_Some left list (sym (slice_get-set_same old.members class left within) ∙ ap (slice_get (slice_set old.members class left)) (sym same) ∙ early) in
      let in_left = subst (λ (s : List ℕ). IsIn s state) (sym is_left) in_list in
      let both = in-filter (λ s. not (test s)) states state in_left.0 in_left.1 in
      assigned-out old.classes moved count state (never-fails state both.1)
      ∙ is.own class state states there both.0 ∙ ap Some (sym same))
      (λ differ.
      let was = is.own at state list (sym (slice_get-set_other old.members class at left differ) ∙ early) in_list in
      assigned-out old.classes moved count state (λ in_moved. differ (same_Some at class (sym was ∙ (moved-was state in_moved).0)))
      ∙ was)
      (cases_eq at class))
      (λ last.
      let in_moved = subst (λ (s : List ℕ). IsIn s state) (sym last.1) in_list in
      let less = slice_get_within old.classes state class (moved-was state in_moved).0 in
      assigned-in old.classes moved count state in_moved.0 in_moved.1 less ∙ ap Some (sym (last.0 ∙ count-members)))
      (slice_get-pushed (slice_set old.members class left) moved at list held)

  in-some : (list : List ℕ) (state : ℕ) → IsIn list state → 0 < length list
  in-some list state in_list = let less = slice_get_within list in_list.0 state in_list.1 in omega (arith, less)

  -- each side has a state
  sides-some : TellsSomeApart content states splitter → (0 < length moved) × (0 < length left)
  sides-some apart = by (test apart.one) (test apart.other) refl refl
    where
      passing : (state : ℕ) → IsIn states state → test state ≡ true → 0 < length moved
      passing state in_states passes = in-some moved state (kept test states state in_states.0 in_states.1 passes)

      failing : (state : ℕ) → IsIn states state → test state ≡ false → 0 < length left
      failing state in_states fails = in-some left state (in-left state in_states fails)

      by : (passes also : Bool) → test apart.one ≡ passes → test apart.other ≡ also → (0 < length moved) × (0 < length left)
      by true true is_one is_other = absurd (apart.apart (is_one ∙ sym is_other))
      by true false is_one is_other = (passing apart.one apart.one_in is_one, failing apart.other apart.other_in is_other)
      by false true is_one is_other = (passing apart.other apart.other_in is_other, failing apart.one apart.one_in is_one)
      by false false is_one is_other = absurd (apart.apart (is_one ∙ sym is_other))

  new-some : TellsSomeApart content states splitter → (at : ℕ) (list : List ℕ) → slice_get new.members at ≡ Some list → 0 < length list
  new-some apart at list held = ⊎_elim
      (λ early. ⊎_elim
      (λ same.
      let is_left : left ≡ list = same_Some left list (sym (slice_get-set_same old.members class left within) ∙ ap (slice_get (slice_set old.members class left)) (sym same) ∙ early) in
      subst (λ (s : List ℕ). 0 < length s) is_left (sides-some apart).1)
      (λ differ. is.some at list (sym (slice_get-set_other old.members class at left differ) ∙ early))
      (cases_eq at class))
      (λ last. subst (λ (s : List ℕ). 0 < length s) last.1 (sides-some apart).0)
      (slice_get-pushed (slice_set old.members class left) moved at list held)

  new-earlier : (at parent : ℕ) → slice_get new.parents at ≡ Some parent → 0 < at → parent < at
  new-earlier at parent held some = ⊎_elim
      (λ early. is.earlier at parent early some)
      (λ last. let place = last.0 in let own = last.1 in let less = class-below in omega (arith, place, own, less))
      (slice_get-pushed old.parents class at parent held)

  module _ (over : AreLetters content.variables splitter.letters) where
    new-over : (at : ℕ) (found : Splitter) → slice_get new.splitters at ≡ Some found → AreLetters content.variables found.letters
    new-over at found held = ⊎_elim
        (λ early. is.over at found early)
        (λ last. subst (λ (s : Splitter). AreLetters content.variables s.letters) last.1 over)
        (slice_get-pushed old.splitters splitter at found held)

    abbrev Told : ℕ → ℕ → ℕ → ℕ → Splitter → Type 0
    Told split parent state stem found = (stem ≡ split → is_split_off content found state ≡ true) × (stem ≡ parent → is_split_off content found state ≡ false)

    -- the class that is split off
    told-last : (split parent state own stem : ℕ) (found : Splitter) → split ≡ count → class ≡ parent → splitter ≡ found → slice_get new.classes state ≡ Some own → StemsFrom new.parents split own stem
        → Told split parent state stem found
    told-last split parent state own stem found is_last is_class is_splitter held stems = ⊎_elim
        (λ moves.
        let place = moves.0 in
        let same : own ≡ stem = stems-low new.parents split own stem (omega (arith, place, is_last)) stems in
        let less = class-below in (
          λ _. ap (λ (s : Splitter). is_split_off content s state) (sym is_splitter) ∙ (moved-was state moves.1).1,
          λ at_parent. absurd (omega (arith, place, same, at_parent, is_class, less)),
        ))
        (λ stays.
        let less = below state own stays.1 in
        let same : own ≡ stem = stems-low new.parents split own stem (omega (arith, less, is_last)) stems in (
          λ at_split. absurd (omega (arith, same, at_split, is_last, less)),
          λ at_parent.
              let here : own ≡ class = same ∙ at_parent ∙ sym is_class in
              ap (λ (s : Splitter). is_split_off content s state) (sym is_splitter)
              ∙ left-fails state (subst (λ (k : ℕ). slice_get old.classes state ≡ Some k) here stays.1) stays.0,
        ))
        (new-class state own held)

    -- and those before
    told-early : (split parent state own stem : ℕ) (found : Splitter) → 0 < split → slice_get old.parents split ≡ Some parent → slice_get old.splitters split ≡ Some found → slice_get new.classes state ≡ Some own
        → StemsFrom new.parents split own stem → Told split parent state stem found
    told-early split parent state own stem found some held_parent held_splitter held stems =
        let early = slice_get_within old.parents split parent held_parent in
        ⊎_elim
        (λ moves.
        let place = moves.0 in
        let above : split < own = omega (arith, early, place) in
        let from : slice_get new.parents own ≡ Some class = ap (slice_get new.parents) place ∙ slice_get-push old.parents class in
        is.told split parent state class stem found some held_parent held_splitter (moved-was state moves.1).0
        (stems-old old.parents class split class stem is.earlier class-below (stems-parent new.parents split own class stem above from stems)))
        (λ stays.
        is.told split parent state own stem found some held_parent held_splitter stays.1
        (stems-old old.parents class split own stem is.earlier (below state own stays.1) stems))
        (new-class state own held)

    new-told : (split parent state own stem : ℕ) (found : Splitter) → 0 < split → slice_get new.parents split ≡ Some parent → slice_get new.splitters split ≡ Some found → slice_get new.classes state ≡ Some own
        → StemsFrom new.parents split own stem → Told split parent state stem found
    new-told split parent state own stem found some held_parent held_splitter held stems =
        let long = is.splitters_count in
        ⊎_elim
        (λ early.
        let less = slice_get_within old.parents split parent early in
        ⊎_elim
        (λ also. told-early split parent state own stem found some early also held stems)
        (λ last. let place = last.0 in absurd (omega (arith, less, place, long)))
        (slice_get-pushed old.splitters splitter split found held_splitter))
        (λ last.
        let place = last.0 in
        ⊎_elim
        (λ also. let less = slice_get_within old.splitters split found also in absurd (omega (arith, less, place, long)))
        (λ own_last. told-last split parent state own stem found place last.1 own_last.1 held stems)
        (slice_get-pushed old.splitters splitter split found held_splitter))
        (slice_get-pushed old.parents class split parent held_parent)

    -- it stays a partition
    pub split-partition : TellsSomeApart content states splitter → IsPartition content new
    split-partition apart = record {
      some = new-some apart;
      states_count = length-assigned old.classes moved count ∙ is.states_count;
      members_count = let long = count-members in omega (arith, long, length-append (slice_set old.members class left) (moved ∷ []), length-append old.parents (class ∷ []));
      splitters_count = let long = is.splitters_count in omega (arith, long, length-append old.splitters (splitter ∷ []), length-append old.parents (class ∷ []));
      earlier = new-earlier;
      listed = new-listed;
      own = λ at state list held in_list. new-own_class at state list held in_list;
      over = new-over;
      told = new-told;
    }

  pub split-longer : length new.members ≡ length old.members + 1
  split-longer = length-append (slice_set old.members class left) (moved ∷ []) ∙ ap (λ (n : ℕ). n + 1) (length-set old.members class left)
