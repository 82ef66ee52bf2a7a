-- What a search for sets has found, and why it is refused for want of nodes.
use Rattle.std.proofs.Common.{◌≡◌, ℕ, ◌+◌, ◌≤◌, ⊎_elim, List, [], length, Ok, Err, sym, ap, subst, ◌∙◌, arith}
use Rattle.ms_list.specs.declared.fault.StepFault.{StepFault}
use Rattle.ms_list.specs.declared.fault.StepFault.TheVariants.{Nodes, Memory}
use Rattle.ms_arena.specs.declared.node.Ref.{Ref}
use Rattle.ms_diagram.specs.Collect.{IsSetNumbering}
use Rattle.ms_diagram.specs.Store.{Contents, IsStore}
use Rattle.ms_dfa.specs.declared.state.State.{State}
use Rattle.ms_dfa_explore.specs.Explored.{Explores, Follows, GrowsForSome, Leads, OnRefused}
use Rattle.ms_project.specs.Subsetting.{Subsetting, subset_findings, AreSetsBehind, AreSetsFound, IsReadyForSets, IsLaterSubsetting, SetsAreAtLeast, with_sets}

module _ (A : Type 0) (begun_with inside seen : Subsetting) (same : inside ≡ seen) (later : IsLaterSubsetting begun_with seen) (ready : IsReadyForSets begun_with) (none_yet : begun_with.sets ≡ [])
    (limit : ℕ) (small : limit ≤ 4000000000) (zero store : Contents) (empty : zero.nodes ≡ []) (limit_is : zero.limit ≡ limit)
    (numbering : IsSetNumbering inside.sets) (states : List State) where
  pub behind : GrowsForSome zero store (subset_findings seen) → AreSetsBehind begun_with seen store.nodes
  behind grows =
      let none = ap length empty in
      record {
        later = later;
        numbering = subst (λ (v : Subsetting). IsSetNumbering v.sets) same numbering;
        members = (later.ready ready).members;
        reached = later.reached (λ number within. let none_there = ap length none_yet in absurd (omega (arith, within, none_there)));
        ordered = grows.store.ordered;
        reduced = grows.store.reduced;
        needed = λ place node held. grows.needed place node (omega (arith, none)) held;
      }

  -- all sets and nodes of a search that ended
  pub found_sets : GrowsForSome zero store (subset_findings seen) → length states ≡ length seen.sets → SetsAreAtLeast (length store.nodes + length states) begun_with
  found_sets grows all = record { found = seen; outer = store.nodes; behind = behind grows; many = omega (arith, all) }

  -- and what it found
  pub sets_found : (sets : List (List ℕ)) → sets ≡ seen.sets → IsStore begun_with.inner.nodes begun_with.inner.limit → (start : Ref) → Explores zero store (subset_findings seen) states (Ok start)
      → AreSetsFound (with_sets begun_with sets) store start states
  sets_found sets is inner start explores =
      let found : with_sets begun_with sets ≡ seen = ap (with_sets begun_with) is ∙ sym later.same in
      record {
        numbering = subst IsSetNumbering (ap (λ (v : Subsetting). v.sets) same ∙ sym is) numbering;
        inner = inner;
        store = explores.grows.store;
        starts = subst (λ (v : Subsetting). Leads store.nodes (subset_findings v).starts start) (sym found) explores.start;
        all = explores.all ∙ ap length (sym is);
        follows = subst (λ (v : Subsetting). Follows store.nodes (subset_findings v) states) (sym found) explores.follows;
      }

  pub refused_sets : (fault : StepFault) → Explores zero store (subset_findings seen) states (Err fault)
      → OnRefused {A = A} (Err fault) (λ refused. (refused ≡ limit) × SetsAreAtLeast refused begun_with)
  refused_sets Memory explores = tt
  refused_sets (Nodes refused) explores =
      let same_limit : refused ≡ limit = explores.nodes.0 ∙ limit_is in
      let outer_limit : store.limit ≡ refused = explores.grows.limit ∙ sym explores.nodes.0 in (
        same_limit,
        record {
          found = seen;
          outer = store.nodes;
          behind = behind explores.grows;
          many = ⊎_elim
              (λ full. let at : length store.nodes ≡ store.limit = full.2.0 in omega (arith, at, outer_limit))
              (λ other. ⊎_elim
              (λ many. omega (arith, many, outer_limit))
              (λ all. omega (arith, all, small, same_limit))
              other)
              explores.nodes.1;
        },
      )
