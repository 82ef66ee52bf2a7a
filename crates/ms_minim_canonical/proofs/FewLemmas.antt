-- Orders by first sight are no longer than the lists whose places they name.
use Rattle.std.proofs.Common.{◌≡◌, ℕ, ◌<◌, ◌≤◌, List, [], eqb, length, get_or, slice_get, Some, sym, ap, subst, ◌∙◌, arith}
use Rattle.std.specs.List.{IsDistinct}
use Rattle.std.proofs.lemmas.Bool.{ne_eqb}
use Rattle.std.proofs.lemmas.Map.Keys.{IsDistinct-from_apart}
use Rattle.std.proofs.lemmas.Map.Steps.{length-le_from_distinct_below}
use Rattle.std.proofs.lemmas.Option.{slice_get-get_or, slice_get_within}
use Rattle.ms_arena.specs.declared.node.Node.{Node}
use Rattle.ms_arena.specs.declared.node.Ref.{Ref}
use Rattle.ms_arena.proofs.Lists.{slice_get-held}
use Rattle.ms_diagram.specs.Numbering.{HasNoRepeats}
use Rattle.ms_dfa.specs.declared.plain.FileState.{FileState}
use Rattle.ms_dfa.specs.declared.plain.FileVersion.{FileVersion}
use Rattle.ms_dfa.specs.declared.state.State.{State}
use Rattle.ms_minim_canonical.specs.inner.Renumbering.{ArePaired, IsNodeOf, IsRenumbered, IsStateOf, leaves_from, nodes_from, walk_over}
use Rattle.ms_minim_canonical.proofs.NotedLemmas.{any_place, no_repeats-none, no_repeats-noted}
use Rattle.ms_minim_canonical.proofs.Paired.{paired-at, paired-length}

distinct : (numbers : List ℕ) → HasNoRepeats numbers → IsDistinct eqb numbers
distinct numbers once =
    IsDistinct-from_apart eqb numbers (λ i j d below within.
    ne_eqb (get_or numbers i d) (get_or numbers j d) (λ same.
    let at : i ≡ j = once i j (get_or numbers i d) (slice_get-get_or numbers i d (omega arith)) (slice_get-get_or numbers j d within ∙ ap Some (sym same)) in
    absurd (omega arith)))

-- numbers that differ and stay below a bound are no more than that
few_below : (numbers : List ℕ) (bound : ℕ) → HasNoRepeats numbers → ((at number : ℕ) → slice_get numbers at ≡ Some number → number < bound) → length numbers ≤ bound
few_below numbers bound once below =
    length-le_from_distinct_below numbers bound (distinct numbers once) (λ number among. let place = any_place number numbers among in below place.0 number place.1)

-- places of a list, each with what was made of its item
few_paired : {X Y : Type 0} (R : ℕ → Y → Type 0) (items : List X) (order : List ℕ) (made : List Y) → HasNoRepeats order → ArePaired R order made
    → ((number : ℕ) (y : Y) → R number y → (x : X) × (slice_get items number ≡ Some x)) → length made ≤ length items
few_paired R items order made once paired at =
    let same = paired-length R order made paired in
    let few = few_below order (length items) once (λ place number held.
    let other = slice_get-held made place (let within = slice_get_within order place number held in omega arith) in
    let found = at number other.0 (paired-at R order made paired place number other.0 held other.1) in
    slice_get_within items number found.0 found.1) in
    omega arith

-- what is renumbered has no more states and no more nodes than before
pub few : (version : FileVersion) (nodes : List Node) (start : Ref) (states : List State) (made_start : Ref) (made_states : List FileState) (made_nodes : List Node)
    → IsRenumbered version nodes start states made_start made_states made_nodes → (length made_states ≤ length states) × (length made_nodes ≤ length nodes)
few version nodes start states made_start made_states made_nodes made = (
  few_paired (IsStateOf version states made.order made.places) states made.order made_states (subst HasNoRepeats (sym made.order_is) (no_repeats-noted [] (walk_over (leaves_from nodes) start states made.order) no_repeats-none)) made.states_are (λ number y is. (is.0, is.1)),
  few_paired (IsNodeOf nodes made.order made.places) nodes made.places made_nodes (subst HasNoRepeats (sym made.places_is) (no_repeats-noted [] (walk_over (nodes_from nodes) start states made.order) no_repeats-none)) made.nodes_are (λ number y is. (is.0, is.1)),
)
