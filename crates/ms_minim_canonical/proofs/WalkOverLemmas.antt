-- What a walk sees of the start and the states, one state after the other.
use Rattle.std.proofs.Common.{◌≡◌, ℕ, zero, suc, ◌+◌, ◌<◌, ◌≤◌, true, false, List, [], ◌∷◌, ◌++◌, length, take, fold, slice_get, Some, sym, ap, subst, ◌∙◌, append-nil, append_assoc, arith}
use Rattle.std.specs.List.{flat_map}
use Rattle.std.proofs.Math.Seq.{take-suc}
use Rattle.std.proofs.lemmas.List.{take-append-le, take_all}
use Rattle.std.proofs.lemmas.List.Concat.{flat_map-append}
use Rattle.std.proofs.lemmas.List.Sums.{fold-append}
use Rattle.std.proofs.lemmas.Option.{get_or_from_slice_get, slice_get_within}
use Rattle.ms_arena.specs.declared.node.Node.{Node}
use Rattle.ms_arena.specs.declared.node.Ref.{Ref}
use Rattle.ms_arena.specs.declared.node.Ref.TheVariants.{Leaf, Inner}
use Rattle.ms_arena.specs.Bits.{with_bit}
use Rattle.ms_arena.specs.Diagram.{Bits, leaf_of, IsBefore, IsOrdered}
use Rattle.ms_arena.specs.Leaves.{leaves_within}
use Rattle.ms_arena.specs.Target.{Extends}
use Rattle.ms_arena.proofs.Appending.{slice_get-extends}
use Rattle.ms_arena.proofs.Canonicity.{leaf_of-end_for}
use Rattle.ms_arena.proofs.Ends.{end_valid}
use Rattle.ms_arena.proofs.Lists.{slice_get-held}
use Rattle.ms_arena.proofs.Paths.{IsBefore-later, leaf_of-leaf}
use Rattle.ms_diagram.specs.Leaves.{noted}
use Rattle.ms_diagram.proofs.LeavesLemmas.{leaves_within-leaf}
use Rattle.ms_dfa.specs.declared.state.State.{State}
use Rattle.ms_minim_canonical.specs.inner.Renumbering.{KnowsWalks, LeadsBelow, from_state, leaves_from, nodes_from, walk_over}
use Rattle.ms_minim_canonical.proofs.NotedLemmas.{AllOf, all-append, all-first, all-none, all-noted, extends-noted}

-- what holds wherever the bits lead holds of all leaves
module _ (nodes : List Node) (ordered : IsOrdered nodes) (P : ℕ → Type 0) where
  pub leaves_all : (count : ℕ) (root : Ref) → IsBefore count root → count ≤ length nodes → ((bits : Bits) → P (leaf_of nodes root bits)) → AllOf P (leaves_within nodes count root)
  leaves_all count (Leaf value) before within all =
      subst (AllOf P) (sym (leaves_within-leaf nodes count value))
      (all-first P value [] (let none : Bits = λ var. false in subst P (leaf_of-leaf nodes none value) (all none)) (all-none P))
  leaves_all zero (Inner place) before within all = absurd (omega arith)
  leaves_all (suc count) (Inner place) before within all =
      let held = slice_get-held nodes place (omega arith) in
      let low = leaves_all count held.0.low (IsBefore-later place count held.0.low (omega arith) (ordered.earlier_low place held.0 held.1)) (omega arith)
      (λ bits. subst P (leaf_of-end_for nodes ordered place held.0 false bits held.1 (end_valid nodes ordered place held.0 held.1 false)) (all (with_bit bits held.0.var false))) in
      let high = leaves_all count held.0.high (IsBefore-later place count held.0.high (omega arith) (ordered.earlier_high place held.0 held.1)) (omega arith)
      (λ bits. subst P (leaf_of-end_for nodes ordered place held.0 true bits held.1 (end_valid nodes ordered place held.0 held.1 true)) (all (with_bit bits held.0.var true))) in
      rw (held.1) (all-append P (leaves_within nodes count held.0.low) (leaves_within nodes count held.0.high) low high)

pub leaves_below : (nodes : List Node) → IsOrdered nodes → (count : ℕ) (root : Ref) → LeadsBelow nodes count root → AllOf (λ n. n < count) (leaves_from nodes root)
leaves_below nodes ordered count root leads = leaves_all nodes ordered (λ n. n < count) (length nodes) root leads.valid (omega arith) leads.below

-- a walk over one state more
pub walk_over-more : (walk : Ref → List ℕ) (start : Ref) (states : List State) (order : List ℕ) (n : ℕ) (state : State) → slice_get states n ≡ Some state
    → walk_over walk start states (order ++ n ∷ []) ≡ walk_over walk start states order ++ walk state.next
walk_over-more walk start states order n state held =
    let f : ℕ → List ℕ = λ m. from_state walk (slice_get states m) in
    ap (λ list. walk start ++ list) (flat_map-append f order (n ∷ []))
    ∙ ap (λ list. walk start ++ (flat_map f order ++ list)) (append-nil (f n) ∙ ap (from_state walk) held)
    ∙ sym (append_assoc (walk start) (flat_map f order) (walk state.next))

-- the first so many that were seen have been walked over
pub record AreSights (nodes : List Node) (start : Ref) (states : List State) (seen places : List ℕ) (done : ℕ) : Type 0 where
  pub within : done ≤ length seen
  pub seen_is : seen ≡ fold noted [] (walk_over (leaves_from nodes) start states (take done seen))
  pub places_is : places ≡ fold noted [] (walk_over (nodes_from nodes) start states (take done seen))
  pub known : KnowsWalks nodes seen places
  pub below : AllOf (λ n. n < length states) seen

module _ (nodes : List Node) (ordered : IsOrdered nodes) (start : Ref) (states : List State) where
  pub AreSights-none : LeadsBelow nodes (length states) start → (none_seen none_there seen places : List ℕ) → none_seen ≡ [] → none_there ≡ []
      → seen ≡ fold noted none_seen (leaves_from nodes start) → places ≡ fold noted none_there (nodes_from nodes start) → KnowsWalks nodes seen places
      → AreSights nodes start states seen places 0
  AreSights-none leads none_seen none_there seen places no_seen no_there seen_is places_is known =
      let seen_are : seen ≡ fold noted [] (leaves_from nodes start) = seen_is ∙ ap (λ list. fold noted list (leaves_from nodes start)) no_seen in
      record {
        within = omega arith;
        seen_is = seen_are ∙ ap (fold noted []) (sym (append-nil (leaves_from nodes start)));
        places_is = places_is ∙ ap (λ list. fold noted list (nodes_from nodes start)) no_there ∙ ap (fold noted []) (sym (append-nil (nodes_from nodes start)));
        known = known;
        below = subst (AllOf (λ n. n < length states)) (sym seen_are)
            (all-noted (λ n. n < length states) [] (leaves_from nodes start) (all-none (λ n. n < length states)) (leaves_below nodes ordered (length states) start leads));
      }

  module _ (seen places : List ℕ) (done : ℕ) (sights : AreSights nodes start states seen places done) (n : ℕ) (held : slice_get seen done ≡ Some n) (state : State)
      (held_state : slice_get states n ≡ Some state) (new_seen : List ℕ) (new_is : new_seen ≡ fold noted seen (leaves_from nodes state.next)) where
    -- the order so far, and one state more
    take_one : take (done + 1) new_seen ≡ take done seen ++ n ∷ []
    take_one =
        let extends : Extends seen new_seen = subst (Extends seen) (sym new_is) (extends-noted seen (leaves_from nodes state.next)) in
        let less = slice_get_within seen done n held in
        let there = slice_get-extends seen new_seen extends done n held in
        let long = slice_get_within new_seen done n there in
        ap (λ count. take count new_seen) (let same : done + 1 ≡ suc done = omega arith in same) ∙ take-suc new_seen done 0 long
        ∙ ap (λ m. take done new_seen ++ m ∷ []) (get_or_from_slice_get new_seen done n 0 there)
        ∙ ap (λ list. take done list ++ n ∷ []) extends.1
        ∙ ap (λ list. list ++ n ∷ []) (take-append-le done seen extends.0 (omega (arith, less)))

    further : (walk : Ref → List ℕ) (was now : List ℕ) → was ≡ fold noted [] (walk_over walk start states (take done seen)) → now ≡ fold noted was (walk state.next)
        → now ≡ fold noted [] (walk_over walk start states (take (done + 1) new_seen))
    further walk was now was_is now_is =
        now_is ∙ ap (λ list. fold noted list (walk state.next)) was_is
        ∙ sym (fold-append noted [] (walk_over walk start states (take done seen)) (walk state.next))
        ∙ ap (fold noted []) (sym (walk_over-more walk start states (take done seen) n state held_state))
        ∙ ap (λ order. fold noted [] (walk_over walk start states order)) (sym take_one)

    pub AreSights-more : (new_places : List ℕ) → new_places ≡ fold noted places (nodes_from nodes state.next) → KnowsWalks nodes new_seen new_places
        → LeadsBelow nodes (length states) state.next → AreSights nodes start states new_seen new_places (done + 1)
    AreSights-more new_places places_is known leads = record {
      within =
          let extends : Extends seen new_seen = subst (Extends seen) (sym new_is) (extends-noted seen (leaves_from nodes state.next)) in
          let there = slice_get-extends seen new_seen extends done n held in
          let long = slice_get_within new_seen done n there in
          omega (arith, long);
      seen_is = further (leaves_from nodes) seen new_seen sights.seen_is new_is;
      places_is = further (nodes_from nodes) places new_places sights.places_is places_is;
      known = known;
      below = subst (AllOf (λ m. m < length states)) (sym new_is)
          (all-noted (λ m. m < length states) seen (leaves_from nodes state.next) sights.below (leaves_below nodes ordered (length states) state.next leads));
    }

  -- in the end all have
  pub all_walked : (seen places : List ℕ) (done : ℕ) → AreSights nodes start states seen places done → length seen ≤ done
      → (seen ≡ fold noted [] (walk_over (leaves_from nodes) start states seen)) × (places ≡ fold noted [] (walk_over (nodes_from nodes) start states seen))
  all_walked seen places done sights past =
      let all = take_all done seen past in (
        sights.seen_is ∙ ap (λ order. fold noted [] (walk_over (leaves_from nodes) start states order)) all,
        sights.places_is ∙ ap (λ order. fold noted [] (walk_over (nodes_from nodes) start states order)) all,
      )
