-- The states of a machine are explored in the order in which they are found, each with the diagram that leads on from it.
use Rattle.std.proofs.Common.{◌≡◌, ℕ, ◌+◌, zero, suc, ◌<◌, ◌≤◌, ⊎_elim, List, [], ◌∷◌, length, slice_get, Some, refl, sym, ap, subst, ◌∙◌, arith}
use Rattle.std.specs.List.{flat_map}
use Rattle.std.proofs.lemmas.Bool.{cases_lt}
use Rattle.std.proofs.lemmas.Option.{same_Some, none-some}
use Rattle.ms_arena.specs.declared.node.Node.{Node}
use Rattle.ms_arena.specs.Reach.{Reaches}
use Rattle.ms_arena.specs.Target.{Extends}
use Rattle.ms_arena.proofs.Appending.{Extends-further, Extends-same, slice_get-extends}
use Rattle.ms_arena.proofs.Lists.{slice_get-held}
use Rattle.ms_logic.specs.Assignment.{Variable}
use Rattle.ms_logic_words.specs.Content.{StateOf, is_in_letters}
use Rattle.ms_logic_machines.specs.Machine.{Machine}
use Rattle.ms_logic_machines.proofs.Diagrams.{IsDiagram, diagram-extends}
use Rattle.ms_logic_machines.proofs.MadeNodes.{make}
use Rattle.ms_logic_machines.proofs.Runs.{IsReachedBy, few_below, reached_below, reached_next}
use Rattle.ms_logic_machines.proofs.Sights.{Sees, sees-append}
use Rattle.ms_logic_machines.proofs.Stores.{IsStore}
use Rattle.ms_logic_machines.proofs.Walks.{leaves_from, places_from, leaves-extends, length-extends, places-extends, reaches-extends}

module _ {Sign : Type 0} (variables : List Variable) (machine : Machine Sign) where
  -- the state has the sign of the one that was found at the place, and its diagram leads where letters lead from it
  pub record IsStateAt (found : List ℕ) (nodes : List Node) (place : ℕ) (state : StateOf Sign) : Type 0 where
    pub own : ℕ
    pub held : slice_get found place ≡ Some own
    pub sign : state.sign ≡ machine.sign own
    pub is : IsDiagram variables is_in_letters found nodes variables 0 (machine.next own) state.next

  -- what is found behind these states and nodes, with the states from the place on
  pub record Explored (found : List ℕ) (nodes : List Node) (place : ℕ) : Type 0 where
    pub after : List ℕ
    pub nodes_after : List Node
    pub states : List (StateOf Sign)
    pub store : IsStore (length variables) (IsReachedBy variables machine) after nodes_after
    pub grows : Extends found after
    pub extends : Extends nodes nodes_after
    pub many : place + length states ≡ length after
    pub led : (i : ℕ) (state : StateOf Sign) → slice_get states i ≡ Some state → IsStateAt after nodes_after (i + place) state
    pub leaves : Sees (length found) (flat_map (λ (state : StateOf Sign). leaves_from nodes_after state.next) states) (length after)
    pub places : Sees (length nodes) (flat_map (λ (state : StateOf Sign). places_from nodes_after state.next) states) (length nodes_after)
    pub reached :
        (goal : ℕ) → length nodes ≤ goal → goal < length nodes_after
        → (i : ℕ) × (state : StateOf Sign) × (slice_get states i ≡ Some state) × Reaches nodes_after state.next goal

  -- all that were found have their diagrams
  explored_all : (found : List ℕ) (nodes : List Node) → IsStore (length variables) (IsReachedBy variables machine) found nodes
      → Explored found nodes (length found)
  explored_all found nodes store = record {
    after = found;
    nodes_after = nodes;
    states = [];
    store = store;
    grows = Extends-same found;
    extends = Extends-same nodes;
    many = omega arith;
    led = λ i state held. absurd (none-some state held);
    leaves = refl;
    places = refl;
    reached = λ goal less within. absurd (omega (arith, less, within));
  }

  -- one more state with its diagram
  explored_one : (found : List ℕ) (nodes : List Node) (place : ℕ) (own : ℕ) → slice_get found place ≡ Some own
      → IsStore (length variables) (IsReachedBy variables machine) found nodes
      → ((later : List ℕ) (nodes_later : List Node) → Extends found later → IsStore (length variables) (IsReachedBy variables machine) later nodes_later
      → Explored later nodes_later (suc place))
      → Explored found nodes place
  explored_one found nodes place own held store rest =
      let made = make variables is_in_letters (IsReachedBy variables machine) variables 0 (machine.next own) found nodes
      (λ i v there. ap (slice_get variables) (omega arith) ∙ there) store
      (λ letter long. reached_next machine variables own letter long (store.good place own held)) in
      let more = rest made.after made.nodes_after made.grows made.store in
      let state : StateOf Sign = record { sign = machine.sign own; next = made.root } in
      let is = diagram-extends variables is_in_letters made.after more.after made.nodes_after more.nodes_after variables 0 (machine.next own) made.root
      made.store.ordered more.grows more.extends made.is in
      let there = slice_get-extends found more.after (Extends-further found made.after more.after made.grows more.grows) place own held in
      record {
        after = more.after;
        nodes_after = more.nodes_after;
        states = state ∷ more.states;
        store = more.store;
        grows = Extends-further found made.after more.after made.grows more.grows;
        extends = Extends-further nodes made.nodes_after more.nodes_after made.extends more.extends;
        many = let many = more.many in omega (arith, many);
        led = led_at more state (record { own = own; held = ap (slice_get more.after) (omega arith) ∙ there; sign = refl; is = is });
        leaves = sees-append (length found) (length made.after) (length more.after) (leaves_from more.nodes_after made.root)
            (flat_map (λ (state : StateOf Sign). leaves_from more.nodes_after state.next) more.states)
            (subst (λ list. Sees (length found) list (length made.after))
            (sym (leaves-extends made.nodes_after more.nodes_after made.store.ordered more.extends made.root made.is.valid))
            made.leaves) more.leaves;
        places = sees-append (length nodes) (length made.nodes_after) (length more.nodes_after) (places_from more.nodes_after made.root)
            (flat_map (λ (state : StateOf Sign). places_from more.nodes_after state.next) more.states)
            (subst (λ list. Sees (length nodes) list (length made.nodes_after))
            (sym (places-extends made.nodes_after more.nodes_after made.store.ordered more.extends made.root made.is.valid)) made.places) more.places;
        reached = λ goal less within. ⊎_elim
            (λ early. (0, state, refl, reaches-extends made.nodes_after more.nodes_after more.extends (made.reached goal less early)))
            (λ later. let there = more.reached goal later within in (suc there.0, there.1, there.2, there.3))
            (cases_lt goal (length made.nodes_after));
      }
    where
      led_at : {later : List ℕ} {nodes_later : List Node} (more : Explored later nodes_later (suc place)) (first : StateOf Sign)
          → IsStateAt more.after more.nodes_after (0 + place) first
          → (i : ℕ) (state : StateOf Sign) → slice_get (first ∷ more.states) i ≡ Some state → IsStateAt more.after more.nodes_after (i + place) state
      led_at more first own_is zero state there = subst (IsStateAt more.after more.nodes_after (0 + place)) (same_Some first state there) own_is
      led_at more first own_is (suc i) state there = subst (λ n. IsStateAt more.after more.nodes_after n state) (omega arith) (more.led i state there)

  -- there are at most as many states as the machine has
  pub explore : (fuel : ℕ) (found : List ℕ) (nodes : List Node) (place : ℕ) → place ≤ length found → machine.count ≤ place + fuel
      → IsStore (length variables) (IsReachedBy variables machine) found nodes → Explored found nodes place
  explore zero found nodes place within enough store =
      let few = few_below found machine.count store.distinct (λ at state held. reached_below machine variables state (store.good at state held)) in
      let is : length found ≡ place = omega (arith, few, within, enough) in
      subst (Explored found nodes) is (explored_all found nodes store)
  explore (suc fuel) found nodes place within enough store = ⊎_elim
      (λ less.
      let there = slice_get-held found place less in
      explored_one found nodes place there.0 there.1 store (λ later nodes_later grows store_later.
      explore fuel later nodes_later (suc place) (let long = length-extends found later grows in omega (arith, long, less))
      (omega (arith, enough)) store_later))
      (λ all.
      let is : length found ≡ place = omega (arith, all, within) in
      subst (Explored found nodes) is (explored_all found nodes store))
      (cases_lt place (length found))
