-- The rules of contents, from what is found of each node.
use Rattle.std.proofs.Common.{◌≡◌, ℕ, ◌+◌, ◌<◌, ◌≤◌, ◌↔◌, ◌&&◌, Bool, true, false, List, [], ◌∷◌, length, map, slice_get, Option, Some, None, ◌++◌, IsTrue, refl, sym, ap, subst, ◌∙◌, arith, ⊎_elim, length-append}
use Rattle.std.specs.Option.{option_map}
use Rattle.std.proofs.lemmas.Bool.{cases_lt, false≢true}
use Rattle.std.proofs.lemmas.List.{length-map}
use Rattle.std.proofs.lemmas.Option.{none-some, same_Some, slice_get-map, slice_get_within}
use Rattle.ms_arena.specs.declared.node.Node.{Node}
use Rattle.ms_arena.specs.declared.node.Ref.{Ref}
use Rattle.ms_arena.specs.declared.node.Ref.TheVariants.{Leaf, Inner}
use Rattle.ms_arena.specs.Diagram.{IsBefore, IsValid}
use Rattle.ms_arena.specs.Reach.{TestsOnly}
use Rattle.ms_arena.proofs.Lists.{slice_get-pushed}
use Rattle.ms_arena.proofs.ReachLemmas.{IsTested-end, IsTested-own}
use Rattle.ms_logic.specs.declared.mode.Order.{Order}
use Rattle.ms_logic.specs.Assignment.{Variable}
use Rattle.ms_logic_words.specs.Content.{Content, HasValueAt, IsContent, NamesPart, StateOf, variables_by_place}
use Rattle.ms_dfa.proofs.FunctionLemmas.{TestsOnly-held}
use Rattle.ms_dfa.proofs.OrdersLemmas.{orders-by_place, orders_of}
use Rattle.ms_dfa.specs.Files.{content_of_file}
use Rattle.ms_dfa.specs.declared.plain.FileSign.{FileSign}
use Rattle.ms_dfa.specs.declared.plain.FileState.{FileState}
use Rattle.ms_dfa.specs.declared.plain.FileVar.{FileVar}
use Rattle.ms_dfa.specs.declared.plain.Plain.{Plain}
use Rattle.ms_dfafile.specs.declared.tested.Tests.{Tests}
use Rattle.ms_dfafile.specs.inner.Rules.{ArePlaced, AreTestsOf, FindsNodeTests, FindsTests, IsNext, IsPlacedNode, IsStart, KnowsTests, NamesAmong}

both_true : (a b : Bool) → (a && b) ≡ true → (a ≡ true) × (b ≡ true)
both_true true b is = (refl, is)
both_true false b is = absurd cc

and_true : (a b : Bool) → a ≡ true → b ≡ true → (a && b) ≡ true
and_true a b one two = rw (one, two) refl

-- a variable of a file by its place
pub mapped : {A B : Type 0} (f : A → B) (o : Option A) (y : B) → option_map f o ≡ Some y → (x : A) × (o ≡ Some x) × (f x ≡ y)
mapped f None y is = absurd (none-some y is)
mapped f (Some x) y is = (x, refl, same_Some (f x) y is)

module _ (variables : List FileVar) (has_value : Order → Bool) where
  abbrev placed : List Variable
  placed = variables_by_place (map (λ v. v.order) variables)

  order_at : (place : ℕ) (v : FileVar) → slice_get variables place ≡ Some v → slice_get (orders_of placed) place ≡ Some v.order
  order_at place v held = ap (λ (orders : List Order). slice_get orders place) (orders-by_place (map (λ v. v.order) variables)) ∙ slice_get-map (λ v. v.order) variables place ∙ ap (option_map (λ v. v.order)) held

  pub value-from : (place : ℕ) (v : FileVar) → slice_get variables place ≡ Some v → IsTrue (has_value v.order) → HasValueAt placed has_value place
  value-from place v held has =
      let found = mapped (λ (w : Variable). w.order) (slice_get placed place) v.order (sym (slice_get-map (λ (w : Variable). w.order) placed place) ∙ order_at place v held) in
      (found.0, found.1, subst (λ order. IsTrue (has_value order)) (sym found.2) has)

  pub value-to : (place : ℕ) (v : FileVar) → slice_get variables place ≡ Some v → HasValueAt placed has_value place → IsTrue (has_value v.order)
  value-to place v held has =
      let same : Some has.0.order ≡ Some v.order = sym (slice_get-map (λ (w : Variable). w.order) placed place ∙ ap (option_map (λ (w : Variable). w.order)) has.1) ∙ order_at place v held in
      subst (λ order. IsTrue (has_value order)) (same_Some has.0.order v.order same) has.2

pub length-placed : (variables : List FileVar) → length (variables_by_place (map (λ v. v.order) variables)) ≡ length variables
length-placed variables =
    let orders = map (λ (v : FileVar). v.order) variables in
    sym (length-map (variables_by_place orders) (λ (w : Variable). w.order)) ∙ ap length (orders-by_place orders) ∙ length-map variables (λ v. v.order)

-- what a node tests, from its variable and what its ends test
module _ (nodes : List Node) (P : ℕ → Type 0) (place : ℕ) (node : Node) (held : slice_get nodes place ≡ Some node) where
  pub tests-from : P node.var → TestsOnly nodes P node.low → TestsOnly nodes P node.high → TestsOnly nodes P (Inner place)
  tests-from own low high = TestsOnly-held nodes P node (Inner place) held own low high

  pub tests-own : TestsOnly nodes P (Inner place) → P node.var
  tests-own only = only node.var (IsTested-own nodes place node held)

  pub tests-low : TestsOnly nodes P (Inner place) → TestsOnly nodes P node.low
  tests-low only var tested = only var (IsTested-end nodes place node false var held tested)

  pub tests-high : TestsOnly nodes P (Inner place) → TestsOnly nodes P node.high
  tests-high only var tested = only var (IsTested-end nodes place node true var held tested)

-- a reference names a part where it names one of all nodes
pub named-part : {Sign : Type 0} (content : Content Sign) (count : ℕ) (reference : Ref) → count ≡ length content.nodes → NamesAmong content count reference → NamesPart content reference
named-part content count (Leaf state) all named = named
named-part content count (Inner place) all named = omega (arith, all)

pub valid-named : {Sign : Type 0} (content : Content Sign) (count : ℕ) (reference : Ref) → count ≤ length content.nodes → NamesAmong content count reference → IsValid content.nodes reference
valid-named content count (Leaf state) within named = tt
valid-named content count (Inner place) within named = omega arith

pub earlier-named : {Sign : Type 0} (content : Content Sign) (count : ℕ) (reference : Ref) → NamesAmong content count reference → IsBefore count reference
earlier-named content count (Leaf state) named = tt
earlier-named content count (Inner place) named = named

named-earlier : {Sign : Type 0} (content : Content Sign) (count : ℕ) (reference : Ref) → NamesPart content reference → IsBefore count reference → NamesAmong content count reference
named-earlier content count (Leaf state) named before = named
named-earlier content count (Inner place) named before = before

part-earlier : {Sign : Type 0} (content : Content Sign) (count : ℕ) (reference : Ref) → count ≤ length content.nodes → NamesAmong content count reference → NamesPart content reference
part-earlier content count (Leaf state) within named = named
part-earlier content count (Inner place) within named = omega arith

-- what is found of a node's variable and of its ends tells what the node tests
pub node-tests : (nodes : List Node) (variables : List FileVar) (has_value : Order → Bool) (place : ℕ) (node : Node) (v : FileVar) (own low high first result : Bool)
    → slice_get nodes place ≡ Some node → slice_get variables node.var ≡ Some v
    → own ≡ has_value v.order
    → IsTrue low ↔ TestsOnly nodes (HasValueAt (placed variables has_value) has_value) node.low
    → IsTrue high ↔ TestsOnly nodes (HasValueAt (placed variables has_value) has_value) node.high
    → first ≡ (own && low) → result ≡ (first && high)
    → IsTrue result ↔ TestsOnly nodes (HasValueAt (placed variables has_value) has_value) (Inner place)
node-tests nodes variables has_value place node v own low high first result held_node held own_is low_is high_is first_is result_is =
    let P = HasValueAt (placed variables has_value) has_value in (
      λ yes.
          let parts = both_true first high (sym result_is ∙ yes) in
          let front = both_true own low (sym first_is ∙ parts.0) in
          tests-from nodes P place node held_node (value-from variables has_value node.var v held (sym own_is ∙ front.0)) (low_is.0 front.1) (high_is.0 parts.1),
      λ only.
          let own_yes = own_is ∙ value-to variables has_value node.var v held (tests-own nodes P place node held_node only) in
          result_is ∙ and_true first high (first_is ∙ and_true own low own_yes (low_is.1 (tests-low nodes P place node held_node only))) (high_is.1 (tests-high nodes P place node held_node only)),
    )

-- where each node may stand where it does, and the start and the states are right, the rules are met, and the other way round
module _ {Sign : Type 0} (content : Content Sign) where
  abbrev pub AllNext : Type 0
  AllNext = (i : ℕ) (state : StateOf Sign) → slice_get content.states i ≡ Some state → IsNext content state.next

  pub content-from : 0 < length content.states → ArePlaced content (length content.nodes) → IsStart content content.start → AllNext → IsContent content
  content-from some nodes start next =
      let at = λ (place : ℕ) (node : Node) (held : slice_get content.nodes place ≡ Some node). nodes place node (slice_get_within content.nodes place node held) held in
      let before = λ (place : ℕ) (node : Node) (held : slice_get content.nodes place ≡ Some node). slice_get_within content.nodes place node held in
      record {
        some_state = some;
        ordered = record {
          earlier_low = λ place node held. earlier-named content place node.low (at place node held).low;
          earlier_high = λ place node held. earlier-named content place node.high (at place node held).high;
          rising_low = λ place node held. (at place node held).rising_low;
          rising_high = λ place node held. (at place node held).rising_high;
        };
        start_named = start.0;
        next_named = λ i state held. (next i state held).0;
        low_named = λ place node held. let within = before place node held in part-earlier content place node.low (omega arith) (at place node held).low;
        high_named = λ place node held. let within = before place node held in part-earlier content place node.high (omega arith) (at place node held).high;
        variables = λ place node held. (at place node held).variable;
        start_tests = start.1;
        next_tests = λ i state held. (next i state held).1;
      }

  pub nodes-of : IsContent content → ArePlaced content (length content.nodes)
  nodes-of rules place node within held = record {
    variable = rules.variables place node held;
    low = named-earlier content place node.low (rules.low_named place node held) (rules.ordered.earlier_low place node held);
    high = named-earlier content place node.high (rules.high_named place node held) (rules.ordered.earlier_high place node held);
    rising_low = rules.ordered.rising_low place node held;
    rising_high = rules.ordered.rising_high place node held;
  }

  pub next-of : IsContent content → AllNext
  next-of rules i state held = (rules.next_named i state held, rules.next_tests i state held)

-- one node more may stand where it does
pub placed-more : {Sign : Type 0} (content : Content Sign) (count : ℕ) (node : Node) → slice_get content.nodes count ≡ Some node → ArePlaced content count → IsPlacedNode content count node → ArePlaced content (count + 1)
placed-more content count node held so_far here place other within there =
    ⊎_elim (λ earlier. so_far place other earlier there)
    (λ late.
    let at : place ≡ count = omega arith in
    let same : node ≡ other = same_Some node other (sym held ∙ ap (slice_get content.nodes) (sym at) ∙ there) in
    subst (λ (k : ℕ). IsPlacedNode content k other) (sym at) (subst (λ (n : Node). IsPlacedNode content count n) same here))
    (cases_lt place count)

-- what one node more tests is known
pub knows-more : {Sign : Type 0} (content : Content Sign) (known : List Tests) (tests : Tests) → KnowsTests content known → AreTestsOf content (Inner (length known)) tests → KnowsTests content (known ++ tests ∷ [])
knows-more content known tests so_far here place other held =
    ⊎_elim (λ before. so_far place other before)
    (λ (at, same). subst (λ (k : ℕ). AreTestsOf content (Inner k) other) (sym at) (subst (AreTestsOf content (Inner (length known))) same here))
    (slice_get-pushed known tests place other held)

-- what is known once so many nodes were looked at
pub record HasTested {Sign : Type 0} (content : Content Sign) (known : List Tests) (count : ℕ) : Type 0 where
  pub long : length known ≡ count
  pub placed : ArePlaced content count
  pub tests : KnowsTests content known

pub HasTested-more : {Sign : Type 0} (content : Content Sign) (known : List Tests) (count : ℕ) (node : Node) (tests : Tests) → HasTested content known count → slice_get content.nodes count ≡ Some node
    → FindsNodeTests content (length known) node (Some tests) → HasTested content (known ++ tests ∷ []) (count + 1)
HasTested-more content known count node tests so_far held found = record {
  long = length-append known (tests ∷ []) ∙ ap (λ n. n + 1) so_far.long;
  placed = placed-more content count node held so_far.placed (subst (λ k. IsPlacedNode content k node) so_far.long found.0);
  tests = knows-more content known tests so_far.tests found.1;
}

-- the start and the states by what their references test
pub start-told : {Sign : Type 0} (content : Content Sign) (count : ℕ) (reference : Ref) (tests : Tests) → count ≡ length content.nodes → FindsTests content count reference (Some tests) → IsTrue tests.truth_values ↔ IsStart content reference
start-told content count reference tests all found =
    (λ yes. (named-part content count reference all found.0, found.1.truth_values.0 yes), λ start. found.1.truth_values.1 start.1)

-- the states of a file and those of its content
abbrev state_of : FileState → StateOf FileSign
state_of state = record { sign = state.sign; next = state.next }

pub next-of_file : (plain : Plain) → ((i : ℕ) (state : FileState) → slice_get plain.states i ≡ Some state → IsNext (content_of_file plain) state.next) → AllNext (content_of_file plain)
next-of_file plain next i state held =
    let found = mapped state_of (slice_get plain.states i) state (sym (slice_get-map state_of plain.states i) ∙ held) in
    subst (λ (s : StateOf FileSign). IsNext (content_of_file plain) s.next) found.2 (next i found.0 found.1)

pub next-in_file : (plain : Plain) → AllNext (content_of_file plain) → (i : ℕ) (state : FileState) → slice_get plain.states i ≡ Some state → IsNext (content_of_file plain) state.next
next-in_file plain next i state held = next i (state_of state) (slice_get-map state_of plain.states i ∙ ap (option_map state_of) held)

pub length-states : (plain : Plain) → length (content_of_file plain).states ≡ length plain.states
length-states plain = length-map plain.states state_of

pub nonempty : {X : Type 0} (xs : List X) (empty : Bool) → empty ≡ false → (xs ≡ [] → empty ≡ true) → 0 < length xs
nonempty [] empty is told = absurd (false≢true (sym is ∙ told refl))
nonempty (x ∷ xs) empty is told = omega arith
