-- From where the nodes and the states of the worked examples are reached.
use Rattle.std.proofs.Common.{◌≡◌, ℕ, zero, suc, ◌<◌, Bool, true, false, if◌then◌else◌, List, [], ◌∷◌, length, slice_get, slice_index, Some, refl, sym, ap, subst, ◌∙◌, lit<, arith}
use Rattle.std.proofs.lemmas.Option.{same_Some, none-some}
use Rattle.ms_arena.specs.declared.node.Ref.{Ref}
use Rattle.ms_arena.specs.declared.node.Ref.TheVariants.{Leaf, Inner}
use Rattle.ms_arena.specs.declared.node.Node.{Node}
use Rattle.ms_arena.specs.Diagram.{Bits, leaf_number, leaf_of}
use Rattle.ms_arena.proofs.Paths.{leaf_of-leaf}
use Rattle.ms_logic_words.specs.declared.sign.Sign.{Sign}
use Rattle.ms_logic_words.specs.Content.{Content}
use Rattle.ms_minim.specs.declared.origins.Origins.{Origins}
use Rattle.ms_minim.specs.inner.Examples.{AreNoted, one_node, three_states, two_nodes, with_unreached}
use Rattle.ms_minim.specs.inner.Origin.{AreClosed, AreOrigins, ComesFrom, HasPlace, IsSeen, next_of, nowhere, origin_at, root_at}

-- the bits lead to one of the leaves of a node
pub one_node-leaf : (var low high : ℕ) (bits : Bits) → leaf_of (one_node var low high) (Inner 0) bits ≡ (if bits var then high else low)
unfolding leaf_of
one_node-leaf var low high bits = by (bits var)
  where
    by : (bit : Bool) → leaf_number (if bit then Leaf high else Leaf low) ≡ (if bit then high else low)
    by true = refl
    by false = refl

-- the diagram of an origin comes from it
pub comes_from_root : (content : Content Sign) (origin : ℕ) → ComesFrom content origin (root_at content origin)
comes_from_root content origin bits = (bits, refl)

pub letter_leads : ComesFrom three_states 1 (Leaf 1)
letter_leads bits = (λ var. true, one_node-leaf 0 0 1 (λ var. true) ∙ sym (leaf_of-leaf three_states.nodes bits 1))

-- the start leads to its state alone
pub start_leads : (state : ℕ) → ComesFrom three_states 0 (Leaf state) → state ≡ 0
start_leads state comes =
    let none : Bits = λ var. false in
    let first = comes none in
    sym (leaf_of-leaf three_states.nodes none state) ∙ sym first.1 ∙ leaf_of-leaf three_states.nodes first.0 0

-- letters lead from there to the first two states alone
pub letters_lead : (state : ℕ) → ComesFrom three_states 1 (Leaf state) → state < 2
letters_lead state comes =
    let none : Bits = λ var. false in
    let first = comes none in
    subst (λ n. n < 2) (sym (one_node-leaf 0 0 1 first.0) ∙ first.1 ∙ leaf_of-leaf three_states.nodes none state) (below (first.0 0))
  where
    below : (bit : Bool) → (if bit then 1 else 0) < 2
    below true = lit< tt
    below false = lit< tt

pub start_leads_to_no_node : ¬ ComesFrom three_states 0 (Inner 0)
start_leads_to_no_node comes =
    let all : Bits = λ var. true in
    let first = comes all in
    let never : 0 ≡ 1 = sym (leaf_of-leaf three_states.nodes first.0 0) ∙ first.1 ∙ one_node-leaf 0 0 1 all in
    omega (arith, never)

-- the lower of the two nodes is an end of the upper
pub upper_alone : ¬ AreClosed two_nodes (nowhere ∷ 1 ∷ [])
upper_alone closed = let never = closed 1 (record { var = 0; low = Inner 0; high = Leaf 2 }) refl (lit< tt) in omega (arith, never.0)

module _ (content : Content Sign) (origins : Origins) (nodes states : List ℕ) (noted : AreNoted origins nodes states) where
  seen_state : (state : ℕ) → slice_index states state < nowhere → IsSeen origins (Leaf state)
  seen_state state seen = subst (λ list. slice_index list state < nowhere) (sym noted.1) seen

  sound_state : (state : ℕ) → ComesFrom content (slice_index states state) (Leaf state) → ComesFrom content (origin_at origins (Leaf state)) (Leaf state)
  sound_state state comes = subst (λ list. ComesFrom content (slice_index list state) (Leaf state)) (sym noted.1) comes

-- the origins of the three states, whichever that of the second is
module _ (second : ℕ) (small : second < nowhere) (comes : ComesFrom three_states second (Leaf 1)) (origins : Origins) (noted : AreNoted origins (1 ∷ []) (0 ∷ second ∷ 2 ∷ [])) where
  abbrev three_seen : (state : ℕ) → slice_index (0 ∷ second ∷ 2 ∷ []) state < nowhere → IsSeen origins (Leaf state)
  three_seen = seen_state three_states origins (1 ∷ []) (0 ∷ second ∷ 2 ∷ []) noted

  three_sound : (reference : Ref) → HasPlace origins reference → IsSeen origins reference → ComesFrom three_states (origin_at origins reference) reference
  three_sound (Leaf zero) place seen = sound_state three_states origins (1 ∷ []) (0 ∷ second ∷ 2 ∷ []) noted 0 (comes_from_root three_states 0)
  three_sound (Leaf (suc zero)) place seen = sound_state three_states origins (1 ∷ []) (0 ∷ second ∷ 2 ∷ []) noted 1 comes
  three_sound (Leaf (suc (suc zero))) place seen = sound_state three_states origins (1 ∷ []) (0 ∷ second ∷ 2 ∷ []) noted 2 (comes_from_root three_states 2)
  three_sound (Leaf (suc (suc (suc state)))) place seen = absurd (let long = ap length noted.1 in omega (arith, place, long))
  three_sound (Inner zero) place seen = subst (λ list. ComesFrom three_states (slice_index list 0) (Inner 0)) (sym noted.0) (comes_from_root three_states 1)
  three_sound (Inner (suc other)) place seen = absurd (let long = ap length noted.0 in omega (arith, place, long))

  three_next : (state : ℕ) → state < 3 → IsSeen origins (next_of (slice_get three_states.states state))
  three_next zero within = subst (λ list. slice_index list 0 < nowhere) (sym noted.0) (lit< tt)
  three_next (suc zero) within = three_seen 2 (lit< tt)
  three_next (suc (suc zero)) within = three_seen 1 small
  three_next (suc (suc (suc state))) within = absurd (omega (arith, within))

  three_closed : (place : ℕ) (node : Node) → slice_get three_states.nodes place ≡ Some node → IsSeen origins node.low × IsSeen origins node.high
  three_closed zero node held =
      subst (λ (n : Node). IsSeen origins n.low × IsSeen origins n.high) (same_Some (record { var = 0; low = Leaf 0; high = Leaf 1 }) node held)
      (three_seen 0 (lit< tt), three_seen 1 small)
  three_closed (suc place) node held = absurd (none-some node held)

  pub three_origins : AreOrigins three_states origins
  three_origins = record {
    nodes = ap length noted.0;
    states_long = ap length noted.1;
    sound = three_sound;
    start = three_seen 0 (lit< tt);
    next = three_next;
    closed = λ place node past held seen. three_closed place node held;
  }

module _ (origins : Origins) (noted : AreNoted origins [] (0 ∷ 2 ∷ [])) where
  abbrev itself_seen : (state : ℕ) → slice_index (0 ∷ 2 ∷ []) state < nowhere → IsSeen origins (Leaf state)
  itself_seen = seen_state with_unreached origins [] (0 ∷ 2 ∷ []) noted

  itself_sound : (reference : Ref) → HasPlace origins reference → IsSeen origins reference → ComesFrom with_unreached (origin_at origins reference) reference
  itself_sound (Leaf zero) place seen = sound_state with_unreached origins [] (0 ∷ 2 ∷ []) noted 0 (comes_from_root with_unreached 0)
  itself_sound (Leaf (suc zero)) place seen = sound_state with_unreached origins [] (0 ∷ 2 ∷ []) noted 1 (comes_from_root with_unreached 2)
  itself_sound (Leaf (suc (suc state))) place seen = absurd (let long = ap length noted.1 in omega (arith, place, long))
  itself_sound (Inner other) place seen = absurd (let long = ap length noted.0 in omega (arith, place, long))

  itself_next : (state : ℕ) → state < 2 → IsSeen origins (next_of (slice_get with_unreached.states state))
  itself_next zero within = itself_seen 0 (lit< tt)
  itself_next (suc zero) within = itself_seen 1 (lit< tt)
  itself_next (suc (suc state)) within = absurd (omega (arith, within))

  -- a state that no word leads to is reached from itself
  pub itself_origin : AreOrigins with_unreached origins
  itself_origin = record {
    nodes = ap length noted.0;
    states_long = ap length noted.1;
    sound = itself_sound;
    start = itself_seen 0 (lit< tt);
    next = itself_next;
    closed = λ place node past held seen. absurd (none-some node held);
  }

-- and not from the other state
pub wrong_origin : (origins : Origins) → AreNoted origins [] (0 ∷ 1 ∷ []) → ¬ AreOrigins with_unreached origins
wrong_origin origins noted are =
    let none : Bits = λ var. false in
    let place : 1 < length origins.states.items = subst (λ list. 1 < length list) (sym noted.1) (lit< tt) in
    let seen : IsSeen origins (Leaf 1) = subst (λ list. slice_index list 1 < nowhere) (sym noted.1) (lit< tt) in
    let first = subst (λ list. ComesFrom with_unreached (slice_index list 1) (Leaf 1)) noted.1 (are.sound (Leaf 1) place seen) none in
    let never : 0 ≡ 1 = sym (leaf_of-leaf [] first.0 0) ∙ first.1 ∙ leaf_of-leaf [] none 1 in
    omega (arith, never)
