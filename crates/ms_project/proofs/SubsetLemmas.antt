-- One collection of a subset construction: what is found stays, and what is collected leads where it should.
use Rattle.std.proofs.Common.{◌≡◌, ℕ, ◌<◌, ◌≤◌, ⊎_elim, Bool, All, List, [], ◌∷◌, Contains, length, get_or, slice_get, Option, Some, None, Result, refl, sym, ap, subst, ◌∙◌, arith}
use Rattle.std.specs.Prelude.{map as map_list}
use Rattle.std.proofs.lemmas.Bool.{cases_lt}
use Rattle.std.proofs.lemmas.List.{length-append, length-map, get_or_default, get_or-map}
use Rattle.std.proofs.lemmas.Option.{same_Some, slice_get_within, get_or_from_slice_get}
use Rattle.ms_list.specs.declared.fault.StepFault.{StepFault}
use Rattle.ms_arena.specs.declared.node.Ref.{Ref}
use Rattle.ms_arena.specs.declared.node.Node.{Node}
use Rattle.ms_arena.specs.Diagram.{Bits, leaf_of}
use Rattle.ms_arena.specs.Reach.{IsTested}
use Rattle.ms_arena.specs.Target.{Extends}
use Rattle.ms_arena.proofs.Appending.{slice_get-extends}
use Rattle.ms_arena.proofs.Lists.{slice_get-held}
use Rattle.ms_arena.proofs.Needs.{Implies}
use Rattle.ms_diagram.specs.Bring.{read_through}
use Rattle.ms_diagram.specs.Collect.{SetNumber, LacksSet, HasLeafSet, IsLeafThere}
use Rattle.ms_diagram.specs.Growth.{Builds}
use Rattle.ms_diagram.specs.Numbering.{AddsOnly}
use Rattle.ms_diagram.specs.Projecting.{Projecting, IsReadIn, KeepsOrder, opened}
use Rattle.ms_diagram.specs.Store.{Contents}
use Rattle.ms_diagram.specs.inner.Collecting.{IsRisingSet-same}
use Rattle.ms_diagram.proofs.Building.{Builds-implies}
use Rattle.ms_diagram.proofs.ListLemmas.{Contains-cases, Contains-first, Contains-rest, Contains-none}
use Rattle.ms_dfa.specs.declared.state.State.{State}
use Rattle.ms_dfa.specs.Automaton.{states_of}
use Rattle.ms_dfa.proofs.States.{state_in}
use Rattle.ms_logic.specs.declared.mode.Order.{Order}
use Rattle.ms_logic_words.specs.declared.sign.Sign.{Sign}
use Rattle.ms_logic_words.specs.Content.{Content, StateOf, IsFollowed, is_truth_value, is_in_letters}
use Rattle.ms_dfa_explore.specs.Explored.{AreMore, Origin, IsFound, target_of}
use Rattle.ms_dfa_explore.proofs.RunLemmas.{length-states_of}
use Rattle.ms_project.specs.Subsets.{next_of, next_in, next_ref, start_sets, sets_behind}
use Rattle.ms_quotient.specs.Closure.{LeadsWithin}
use Rattle.ms_project.specs.Signed.{TestBelow, zero_step}
use Rattle.ms_project.specs.Subsetting.{Subsetting, paired, projecting, sets_at_start, sets_at, subset_findings, MembersAreStates, IsReachedNumber, from_start, from_set, AreReachedNumbers, IsReadyForSets, IsLaterSubsetting}

-- over the places of the rest a set stands where it stands over all places
behind_at : (content : Content Sign) (back : List ℕ) (bound : ℕ) (sets : List (List ℕ)) (found : Option (List ℕ)) (bits : Bits) (number : ℕ)
    → sets_behind content back bound sets found bits number → sets_at content bound sets found (read_through back bits) number
behind_at content back bound sets None bits number right = right
behind_at content back bound sets (Some from) bits number right = right

at_behind : (content : Content Sign) (back : List ℕ) (bound : ℕ) (sets : List (List ℕ)) (found : Option (List ℕ)) (bits : Bits) (number : ℕ)
    → sets_at content bound sets found (read_through back bits) number → sets_behind content back bound sets found bits number
at_behind content back bound sets None bits number right = right
at_behind content back bound sets (Some from) bits number right = right

-- a set that leads somewhere has a number
sets_at-found : (content : Content Sign) (bound : ℕ) (sets : List (List ℕ)) (from : ℕ) (bits : Bits) (number : ℕ) → sets_at content bound sets (slice_get sets from) bits number → from < length sets
sets_at-found content bound sets from bits number right =
    elim (slice_get sets from) as (λ at. slice_get sets from ≡ at → sets_at content bound sets at bits number → from < length sets) [
      | None ↦ λ is none. absurd none
      | Some set ↦ λ is found. slice_get_within sets from set is
    ] refl right

-- the places of the rest rise, and the diagrams of states can be read in them
module _ (inside : Subsetting) (ready : IsReadyForSets inside) where
  pub order_kept : KeepsOrder (projecting inside)
  order_kept one two less within first second = let long = ready.long in ready.rising one two less (omega (arith, within, long)) first second

  pub all_read : (has_value : Order → Bool) (roots : List Ref) → ((root : Ref) → Contains roots root → IsFollowed (paired inside) has_value root) → All (IsReadIn (projecting inside)) roots
  all_read has_value roots followed k d within =
      let is = followed (get_or roots k d) (k, within, get_or_default roots k (get_or roots k d) d within) in (
        is.valid,
        λ var tested.
            let at = is.tests var tested in
            let below = slice_get_within inside.body.variables var at.0 at.1 in
            let long = ready.long in
            omega (arith, below, long),
      )

-- a collection of roots
module _ (inside : Subsetting) (ready : IsReadyForSets inside) (has_value : Order → Bool) (roots : List Ref)
    (followed : (root : Ref) → Contains roots root → IsFollowed (paired inside) has_value root) (sets : List (List ℕ)) (extends : Extends inside.sets sets)
    (added : AddsOnly (HasLeafSet (projecting inside) roots) inside.sets sets) where
  -- the construction afterwards
  abbrev pub late : Subsetting
  late = record inside { sets = sets }

  members_late : MembersAreStates inside.states sets
  members_late number set held member there = ⊎_elim
      (λ before.
      let was = slice_get-held inside.sets number before in
      let same : was.0 ≡ set = same_Some was.0 set (sym (slice_get-extends inside.sets sets extends number was.0 was.1) ∙ held) in
      ready.members number was.0 was.1 member (subst (λ (s : List ℕ). Contains s member) (sym same) there))
      (λ behind.
      let has = added number set behind held in
      let leaf = has.1.only member there in
      let below = (followed leaf.0 leaf.2).states (opened (projecting inside) has.0 leaf.1) in
      let counted = length-states_of inside.states in
      let is = leaf.3 in
      omega (arith, below, counted, is))
      (cases_lt number (length inside.sets))

  more_sets : length inside.sets ≤ length sets
  more_sets = let same = ap length extends.1 in omega (arith, same, length-append inside.sets extends.0)

  -- a set that has a number keeps it
  starts_later : (bits : Bits) (number : ℕ) → sets_at_start (paired inside) inside.bound inside.sets bits number → sets_at_start (paired inside) inside.bound sets bits number
  starts_later bits number right = (right.0, slice_get-extends inside.sets sets extends number right.0 right.1, right.2)

  steps_later : (state : ℕ) → state < length inside.sets → (bits : Bits) (number : ℕ) → sets_at (paired inside) inside.bound inside.sets (slice_get inside.sets state) bits number
      → sets_at (paired inside) inside.bound sets (slice_get sets state) bits number
  steps_later state found bits number right =
      let held = slice_get-held inside.sets state found in
      let was = subst (λ at. sets_at (paired inside) inside.bound inside.sets at bits number) held.1 right in
      subst (λ at. sets_at (paired inside) inside.bound sets at bits number) (sym (slice_get-extends inside.sets sets extends state held.0 held.1))
      (was.0, slice_get-extends inside.sets sets extends number was.0 was.1, was.2)

  more_found : AreMore (subset_findings inside) (subset_findings late)
  more_found = record {
    count = more_sets;
    starts = λ bits number right. starts_later (read_through inside.back bits) number right;
    steps = λ state found bits number right. at_behind (paired inside) inside.back inside.bound sets (slice_get sets state) bits number
        (steps_later state found (read_through inside.back bits) number (behind_at (paired inside) inside.back inside.bound inside.sets (slice_get inside.sets state) bits number right));
    signs = λ state found. refl;
    most_nodes = refl;
  }

  -- what words reach they reach afterwards, and the sets behind an origin that they reach
  still_reached : (number : ℕ) → IsReachedNumber inside number → IsReachedNumber late number
  still_reached _ (from_start bits number right) = from_start bits number (starts_later bits number right)
  still_reached _ (from_set before bits number was right) =
      from_set before bits number (still_reached before was) (steps_later before (sets_at-found (paired inside) inside.bound inside.sets before bits number right) bits number right)

  reached_behind : (origin : Origin) → IsFound (subset_findings inside) origin → AreReachedNumbers inside → (bits : Bits) (number : ℕ)
      → target_of (subset_findings late) origin bits number → IsReachedNumber late number
  reached_behind None found reached bits number right = from_start (read_through inside.back bits) number right
  reached_behind (Some state) found reached bits number right =
      from_set state (read_through inside.back bits) number (still_reached state (reached state found))
      (behind_at (paired inside) inside.back inside.bound sets (slice_get sets state) bits number right)

  -- the origin from which the roots lead
  module _ (origin : Origin) (found_before : IsFound (subset_findings inside) origin) (implies : Implies (SetNumber (projecting inside) sets roots) (target_of (subset_findings late) origin)) where
    all_reached : AreReachedNumbers inside → AreReachedNumbers late
    all_reached reached number within = ⊎_elim
        (λ before. still_reached number (reached number before))
        (λ behind.
        let held = slice_get-held sets number within in
        let has = added number held.0 behind held.1 in
        reached_behind origin found_before reached has.0 number (implies has.0 number (held.0, held.1, has.1)))
        (cases_lt number (length inside.sets))

    pub later : IsLaterSubsetting inside late
    later = record {
      same = refl;
      sets = extends;
      more = more_found;
      ready = λ was. record { closed = ready.closed; members = members_late; long = ready.long; rising = ready.rising };
      reached = all_reached;
    }

    -- what was collected leads where it should
    pub leads : (old new : Contents) (result : Result Ref StepFault) → Builds old new (SetNumber (projecting inside) sets roots) (LacksSet (projecting inside) sets roots) result
        → Builds old new (target_of (subset_findings late) origin) (length sets ≡ 4294967295) result
    leads old new result built =
        Builds-implies old new (SetNumber (projecting inside) sets roots) (target_of (subset_findings late) origin) (LacksSet (projecting inside) sets roots) (length sets ≡ 4294967295)
        implies (λ lacks. lacks.0) result built

-- an image of a list has the images of its items
Contains-map : {A B : Type 0} (f : A → B) (xs : List A) (item : A) → Contains xs item → Contains (map_list f xs) (f item)
Contains-map f [] item there = absurd (Contains-none item there)
Contains-map f (x ∷ xs) item there = ⊎_elim
    (λ same. subst (λ y. Contains (map_list f (x ∷ xs)) (f y)) (sym same) (Contains-first (f x) (map_list f xs)))
    (λ later. Contains-rest (f x) (map_list f xs) (f item) (Contains-map f xs item later))
    (Contains-cases x xs item there)

Contains-image : {A B : Type 0} (f : A → B) (xs : List A) (image : B) → Contains (map_list f xs) image → (item : A) × Contains xs item × (f item ≡ image)
Contains-image f [] image there = absurd (Contains-none image there)
Contains-image f (x ∷ xs) image there = ⊎_elim
    (λ same. (x, Contains-first x xs, sym same))
    (λ later. let found = Contains-image f xs image later in (found.0, Contains-rest x xs found.0 found.1, found.2))
    (Contains-cases (f x) (map_list f xs) image there)

-- the start alone leads to the sets at the start
one_root : (root : Ref) (other : Ref) → Contains (root ∷ []) other → other ≡ root
one_root root other there = ⊎_elim (λ same. same) (λ none. absurd (Contains-none other none)) (Contains-cases root [] other there)

pub followed_start : (inside : Subsetting) → IsReadyForSets inside → (root : Ref) → Contains (inside.start ∷ []) root → IsFollowed (paired inside) is_truth_value root
followed_start inside ready root there = subst (IsFollowed (paired inside) is_truth_value) (sym (one_root inside.start root there)) ready.closed.start

pub implies_start : (content : Content Sign) (back : List ℕ) (bound : ℕ) (sets : List (List ℕ))
    → Implies (SetNumber (record { nodes = content.nodes; map = back; track = bound }) sets (content.start ∷ [])) (start_sets content back bound sets)
implies_start content back bound sets bits number right =
    let view : Projecting = record { nodes = content.nodes; map = back; track = bound } in (
      right.0,
      right.1,
      IsRisingSet-same right.0 (IsLeafThere view (content.start ∷ []) bits) _
          (λ state there. (there.1, ap (λ root. leaf_of content.nodes root (opened view bits there.1)) (sym (one_root content.start there.0 there.2)) ∙ there.3))
          (λ state there. (content.start, there.0, Contains-first content.start [], there.1))
          right.2,
    )

-- and the references of the members of a set to the sets behind it
pub followed_next : (inside : Subsetting) → IsReadyForSets inside → (set : List ℕ) → ((member : ℕ) → Contains set member → member < length inside.states)
    → (root : Ref) → Contains (map_list (next_in (states_of inside.states)) set) root → IsFollowed (paired inside) is_in_letters root
followed_next inside ready set members root there =
    let from = Contains-image (next_in (states_of inside.states)) set root there in
    let counted = length-states_of inside.states in
    let below = members from.0 from.1 in
    let held = slice_get-held (states_of inside.states) from.0 (omega (arith, below, counted)) in
    subst (IsFollowed (paired inside) is_in_letters) (ap next_ref (sym held.1) ∙ from.2)
    (subst (λ (s : StateOf Sign). IsFollowed (paired inside) is_in_letters s.next) (get_or_from_slice_get (states_of inside.states) from.0 held.0 held.0 held.1)
    (ready.closed.next from.0 held.0 (omega (arith, below, counted))))

pub implies_next : (content : Content Sign) (back : List ℕ) (bound : ℕ) (sets : List (List ℕ)) (set : List ℕ) (found : Option (List ℕ)) → found ≡ Some set
    → Implies (SetNumber (record { nodes = content.nodes; map = back; track = bound }) sets (map_list (next_in content.states) set)) (sets_behind content back bound sets found)
implies_next content back bound sets set found is bits number right =
    let view : Projecting = record { nodes = content.nodes; map = back; track = bound } in
    subst (λ at. sets_behind content back bound sets at bits number) (sym is) (
      right.0,
      right.1,
      IsRisingSet-same right.0 (IsLeafThere view (map_list (next_in content.states) set) bits) _
          (λ state there.
          let from = Contains-image (next_in content.states) set there.0 there.2 in
          (from.0, there.1, from.1, ap (λ root. leaf_of content.nodes root (opened view bits there.1)) from.2 ∙ there.3))
          (λ state there. (next_of content there.0, there.1, Contains-map (next_in content.states) set there.0 there.2, there.3))
          right.2,
    )

-- the reference of a state of a list
pub next_in-is : (states : List State) (member : ℕ) (none : State) → member < length states → (get_or states member none).next ≡ next_in (states_of states) member
next_in-is states member none within =
    let held = slice_get-held states member within in
    ap (λ (s : State). s.next) (get_or_from_slice_get states member held.0 none held.1) ∙ ap next_ref (sym (state_in states member held.0 held.1))

pub item_within : (states : List State) (set : List ℕ) (place : ℕ) → ((member : ℕ) → Contains set member → member < length states) → place < length set → get_or set place 0 < length states
item_within states set place members less = members (get_or set place 0) (place, less, get_or_default set place (get_or set place 0) 0 less)

-- what the diagram of a state of a list tests
pub tested_at : (nodes : List Node) (count : ℕ) (states : List State) (place : ℕ) (none : State) → TestBelow nodes count states → place < length states
    → (var : ℕ) → IsTested nodes (get_or states place none).next var → var < count
tested_at nodes count states place none below within var tested =
    let held = slice_get-held states place within in
    (below place held.0 held.1).1 var (subst (λ (s : State). IsTested nodes s.next var) (get_or_from_slice_get states place held.0 none held.1) tested)

-- steps at zeros lead from states to states
pub zero_steps-within : (nodes : List Node) (count : ℕ) (states : List State) (list : List ℕ) → All (λ state. zero_step nodes count state < length states) states → list ≡ map_list (zero_step nodes count) states → LeadsWithin list
zero_steps-within nodes count states list all same = subst LeadsWithin (sym same) (λ place less.
    let long = length-map states (zero_step nodes count) in
    let within : place < length states = omega (arith, less, long) in
    let held = slice_get-held states place within in
    let at = get_or-map (zero_step nodes count) states place held.0 0 within in
    let below = all place held.0 within in
    omega (arith, at, below, long))
