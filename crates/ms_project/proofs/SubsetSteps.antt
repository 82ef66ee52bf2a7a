-- The steps of a subset construction: from the start, and from a set.
use Rattle.std.proofs.Common.{◌≡◌, ℕ, ◌<◌, All, List, [], ◌∷◌, Contains, length, slice_get, Some, None, Result, Err, sym, ap, subst}
use Rattle.std.specs.Prelude.{map as map_list}
use Rattle.std.proofs.lemmas.Option.{slice_get_within}
use Rattle.ms_list.specs.declared.fault.StepFault.{StepFault}
use Rattle.ms_list.specs.declared.fault.StepFault.TheVariants.{Memory}
use Rattle.ms_arena.specs.declared.node.Ref.{Ref}
use Rattle.ms_arena.specs.declared.node.Node.{Node}
use Rattle.ms_arena.specs.Target.{Extends}
use Rattle.ms_arena.proofs.Appending.{slice_get-extends}
use Rattle.ms_arena.proofs.Needs.{Implies}
use Rattle.ms_diagram.specs.Collect.{SetNumber, LacksSet, HasLeafSet}
use Rattle.ms_diagram.specs.Growth.{Builds}
use Rattle.ms_diagram.specs.Numbering.{AddsOnly}
use Rattle.ms_diagram.specs.Projecting.{Projecting, IsReadIn, KeepsOrder}
use Rattle.ms_diagram.specs.Store.{Contents, IsStore}
use Rattle.ms_diagram.specs.Table.{AreCollected}
use Rattle.ms_diagram.proofs.Building.{Builds-memory}
use Rattle.ms_dfa.specs.Automaton.{states_of}
use Rattle.ms_logic_words.specs.Content.{IsFollowed, is_truth_value, is_in_letters}
use Rattle.ms_project.specs.Subsets.{next_in, start_sets, sets_behind}
use Rattle.ms_project.specs.Subsetting.{Subsetting, AreNoted, IsReadyForSets, IsLaterSubsetting, paired, projecting}
use Rattle.ms_project.proofs.SubsetLemmas.{all_read, later, leads, order_kept, followed_start, implies_start, followed_next, implies_next}

module _ (inside seen : Subsetting) (same : inside ≡ seen) (seen_ready : IsReadyForSets seen) (map : List ℕ) (map_is : map ≡ inside.back) where
  ready : IsReadyForSets inside
  ready = subst IsReadyForSets (sym same) seen_ready

  -- the diagrams as they are read
  abbrev pub view : Projecting
  view = record { nodes = inside.inner.nodes; map = map; track = inside.bound }

  view_is : view ≡ projecting inside
  view_is = ap (λ (m : List ℕ). record { nodes = inside.inner.nodes; map = m; track = inside.bound }) map_is

  pub view_order : KeepsOrder view
  view_order = subst KeepsOrder (sym view_is) (order_kept inside ready)

  pub view_noted : (nodes : List Node) (lists : List (List Ref × Ref)) → AreNoted seen nodes lists → AreCollected view inside.sets nodes lists
  view_noted nodes lists were =
      subst (λ v. AreCollected v inside.sets nodes lists) (sym view_is) (subst (λ (v : Subsetting). AreNoted v nodes lists) (sym same) were)

  pub noted_later : (sets : List (List ℕ)) (nodes : List Node) (lists : List (List Ref × Ref)) → AreCollected view sets nodes lists → AreNoted (record inside { sets = sets }) nodes lists
  noted_later sets nodes lists are = subst (λ v. AreCollected v sets nodes lists) view_is are

  -- what is collected over the view is collected over the places of the rest
  built_by : (sets : List (List ℕ)) (roots : List Ref) (old new : Contents) (result : Result Ref StepFault) → Builds old new (SetNumber view sets roots) (LacksSet view sets roots) result
      → Builds old new (SetNumber (projecting inside) sets roots) (LacksSet (projecting inside) sets roots) result
  built_by sets roots old new result built = subst (λ v. Builds old new (SetNumber v sets roots) (LacksSet v sets roots) result) view_is built

  added_by : (sets : List (List ℕ)) (roots : List Ref) → AddsOnly (HasLeafSet view roots) inside.sets sets → AddsOnly (HasLeafSet (projecting inside) roots) inside.sets sets
  added_by sets roots added = subst (λ v. AddsOnly (HasLeafSet v roots) inside.sets sets) view_is added

  pub start_read : All (IsReadIn view) (inside.start ∷ [])
  start_read = subst (λ v. All (IsReadIn v) (inside.start ∷ [])) (sym view_is) (all_read inside ready is_truth_value (inside.start ∷ []) (followed_start inside ready))

  module _ (sets : List (List ℕ)) (extends : Extends inside.sets sets) (added : AddsOnly (HasLeafSet view (inside.start ∷ [])) inside.sets sets) where
    abbrev after_start : Subsetting
    after_start = record inside { sets = sets }

    from_start_implied : Implies (SetNumber (projecting inside) sets (inside.start ∷ [])) (start_sets (paired after_start) inside.back inside.bound sets)
    from_start_implied = implies_start (paired after_start) inside.back inside.bound sets

    pub start_later : IsLaterSubsetting seen after_start
    start_later = subst (λ v. IsLaterSubsetting v after_start) same
        (later inside ready is_truth_value (inside.start ∷ []) (followed_start inside ready) sets extends (added_by sets (inside.start ∷ []) added) None tt from_start_implied)

    pub start_builds : (old new : Contents) (result : Result Ref StepFault) → Builds old new (SetNumber view sets (inside.start ∷ [])) (LacksSet view sets (inside.start ∷ [])) result
        → Builds old new (start_sets (paired after_start) inside.back inside.bound sets) (length sets ≡ 4294967295) result
    start_builds old new result built =
        leads inside ready is_truth_value (inside.start ∷ []) (followed_start inside ready) sets extends (added_by sets (inside.start ∷ []) added) None tt from_start_implied
        old new result (built_by sets (inside.start ∷ []) old new result built)

  module _ (state : ℕ) (set : List ℕ) (held : slice_get inside.sets state ≡ Some set) where
    pub next_members : (member : ℕ) → Contains set member → member < length inside.states
    next_members = ready.members state set held

    -- nothing is known of memory
    pub memory_builds : (old : Contents) → IsStore old.nodes old.limit
        → Builds old old (sets_behind (paired seen) seen.back seen.bound seen.sets (slice_get seen.sets state)) (length seen.sets ≡ 4294967295) (Err Memory)
    memory_builds old is_store =
        Builds-memory old (sets_behind (paired seen) seen.back seen.bound seen.sets (slice_get seen.sets state)) (length seen.sets ≡ 4294967295) is_store

    module _ (roots : List Ref) (roots_are : roots ≡ map_list (next_in (states_of inside.states)) set) where
      own_followed : (root : Ref) → Contains roots root → IsFollowed (paired inside) is_in_letters root
      own_followed root there = followed_next inside ready set next_members root (subst (λ rs. Contains rs root) roots_are there)

      pub next_read : All (IsReadIn view) roots
      next_read = subst (λ v. All (IsReadIn v) roots) (sym view_is) (all_read inside ready is_in_letters roots own_followed)

      module _ (sets : List (List ℕ)) (extends : Extends inside.sets sets) (added : AddsOnly (HasLeafSet view roots) inside.sets sets) where
        abbrev after_next : Subsetting
        after_next = record inside { sets = sets }

        next_implied : Implies (SetNumber (projecting inside) sets roots) (sets_behind (paired after_next) inside.back inside.bound sets (slice_get sets state))
        next_implied = subst (λ (rs : List Ref). Implies (SetNumber (projecting inside) sets rs) (sets_behind (paired after_next) inside.back inside.bound sets (slice_get sets state))) (sym roots_are)
            (implies_next (paired after_next) inside.back inside.bound sets set (slice_get sets state) (slice_get-extends inside.sets sets extends state set held))

        pub next_later : IsLaterSubsetting seen after_next
        next_later = subst (λ v. IsLaterSubsetting v after_next) same
            (later inside ready is_in_letters roots own_followed sets extends (added_by sets roots added) (Some state) (slice_get_within inside.sets state set held) next_implied)

        pub next_builds : (old new : Contents) (result : Result Ref StepFault) → Builds old new (SetNumber view sets roots) (LacksSet view sets roots) result
            → Builds old new (sets_behind (paired after_next) inside.back inside.bound sets (slice_get sets state)) (length sets ≡ 4294967295) result
        next_builds old new result built =
            leads inside ready is_in_letters roots own_followed sets extends (added_by sets roots added) (Some state) (slice_get_within inside.sets state set held) next_implied
            old new result (built_by sets roots old new result built)
