-- Images of the nodes of the worked examples.
use Rattle.std.proofs.Common.{◌≡◌, ◌≢◌, ℕ, zero, suc, ◌<◌, Bool, true, false, if◌then◌else◌, List, [], ◌∷◌, slice_get, slice_index, Some, refl, sym, ap, subst, ◌∙◌, lit<, arith}
use Rattle.std.proofs.lemmas.Option.{same_Some, none-some}
use Rattle.ms_arena.specs.declared.node.Ref.{Ref}
use Rattle.ms_arena.specs.declared.node.Ref.TheVariants.{Leaf, Inner}
use Rattle.ms_arena.specs.declared.node.Node.{Node}
use Rattle.ms_arena.specs.Diagram.{Bits, leaf_of, IsBefore, TestsAbove}
use Rattle.ms_arena.proofs.Paths.{leaf_of-leaf}
use Rattle.ms_diagram.specs.Store.{IsStore}
use Rattle.ms_minim.specs.inner.Examples.{one_image, one_node, three_states}
use Rattle.ms_minim.specs.inner.Image.{AreImages, HaveImages, IsImage}
use Rattle.ms_minim.proofs.ExampleOrigins.{one_node-leaf}

-- a node with the classes at its ends
pub node_image : (low high : ℕ) (classes : List ℕ) → IsImage (one_node 0 (slice_index classes low) (slice_index classes high)) (one_node 0 low high) classes (Inner 0) (Inner 0)
node_image low high classes = record {
  valid = lit< tt;
  leaves = λ bits.
      one_node-leaf 0 (slice_index classes low) (slice_index classes high) bits ∙ by (bits 0) ∙ ap (slice_index classes) (sym (one_node-leaf 0 low high bits));
  above = λ var tests. absurd (let less = tests (record { var = 0; low = Leaf low; high = Leaf high }) refl in omega (arith, less));
}
  where
    by : (bit : Bool) → (if bit then slice_index classes high else slice_index classes low) ≡ slice_index classes (if bit then high else low)
    by true = refl
    by false = refl

-- a leaf where both ends have one class
pub leaf_image : IsImage [] three_states.nodes (3 ∷ 3 ∷ 0 ∷ []) (Inner 0) (Leaf 3)
leaf_image = record {
  valid = tt;
  leaves = λ bits. leaf_of-leaf [] bits 3 ∙ by (bits 0) ∙ ap (slice_index (3 ∷ 3 ∷ 0 ∷ [])) (sym (one_node-leaf 0 0 1 bits));
  above = λ var tests. tt;
}
  where
    by : (bit : Bool) → 3 ≡ slice_index (3 ∷ 3 ∷ 0 ∷ []) (if bit then 1 else 0)
    by true = refl
    by false = refl

-- and none where they have two
pub no_leaf_image : (value : ℕ) → ¬ IsImage [] three_states.nodes (0 ∷ 1 ∷ 1 ∷ []) (Inner 0) (Leaf value)
no_leaf_image value is =
    let low : value ≡ 0 = leaf_at (λ var. false) ∙ ap (slice_index (0 ∷ 1 ∷ 1 ∷ [])) (one_node-leaf 0 0 1 (λ var. false)) in
    let high : value ≡ 1 = leaf_at (λ var. true) ∙ ap (slice_index (0 ∷ 1 ∷ 1 ∷ [])) (one_node-leaf 0 0 1 (λ var. true)) in
    omega (arith, low, high)
  where
    leaf_at : (bits : Bits) → value ≡ slice_index (0 ∷ 1 ∷ 1 ∷ []) (leaf_of three_states.nodes (Inner 0) bits)
    leaf_at bits = sym (leaf_of-leaf [] bits value) ∙ is.leaves bits

-- a node that tests an earlier variable
pub earlier_variable : ¬ IsImage (one_node 0 2 2) (one_node 1 0 1) (2 ∷ 2 ∷ []) (Inner 0) (Inner 0)
earlier_variable is =
    let never = is.above 0
    (λ node held. subst (λ (n : Node). 0 < n.var) (same_Some (record { var = 1; low = Leaf 0; high = Leaf 1 }) node held) (lit< tt))
    (record { var = 0; low = Leaf 2; high = Leaf 2 }) refl in
    omega (arith, never)

-- stores of no node and of one
empty_store : IsStore [] 1
empty_store = record {
  ordered = record {
    earlier_low = λ place node held. absurd (none-some node held);
    earlier_high = λ place node held. absurd (none-some node held);
    rising_low = λ place node held. absurd (none-some node held);
    rising_high = λ place node held. absurd (none-some node held);
  };
  reduced = record {
    ends_differ = λ place node held. absurd (none-some node held);
    distinct = λ one two node first second. absurd (none-some node first);
  };
  within = omega arith;
  small = omega arith;
}

at_node : (P : ℕ → Node → Type 0) → P 0 (record { var = 0; low = Leaf 0; high = Leaf 1 }) → (place : ℕ) (node : Node) → slice_get (one_node 0 0 1) place ≡ Some node → P place node
at_node P first zero node held = subst (P 0) (same_Some (record { var = 0; low = Leaf 0; high = Leaf 1 }) node held) first
at_node P first (suc place) node held = absurd (none-some node held)

node_store : IsStore (one_node 0 0 1) 1
node_store = record {
  ordered = record {
    earlier_low = at_node (λ place node. IsBefore place node.low) tt;
    earlier_high = at_node (λ place node. IsBefore place node.high) tt;
    rising_low = at_node (λ place node. TestsAbove (one_node 0 0 1) node.var node.low) tt;
    rising_high = at_node (λ place node. TestsAbove (one_node 0 0 1) node.var node.high) tt;
  };
  reduced = record {
    ends_differ = at_node (λ place node. node.low ≢ node.high) (λ same. cc);
    distinct = λ one two node first second. sym (at_node (λ place found. 0 ≡ place) refl one node first) ∙ at_node (λ place found. 0 ≡ place) refl two node second;
  };
  within = omega arith;
  small = omega arith;
}

-- the one image of a list
one_image_each : (new old : List Node) (classes origins : List ℕ) (image : Ref) → IsImage new old classes (Inner 0) image → HaveImages new old classes origins (image ∷ [])
one_image_each new old classes origins image is zero other on held = subst (IsImage new old classes (Inner 0)) (same_Some image other held) is
one_image_each new old classes origins image is (suc place) other on held = absurd (none-some other held)

pub node_images : AreImages three_states.nodes (0 ∷ 1 ∷ 1 ∷ []) (1 ∷ []) (one_image (one_node 0 0 1) (Inner 0))
node_images = record {
  store = node_store;
  long = refl;
  each = one_image_each (one_node 0 0 1) three_states.nodes (0 ∷ 1 ∷ 1 ∷ []) (1 ∷ []) (Inner 0) (node_image 0 1 (0 ∷ 1 ∷ 1 ∷ []));
}

pub leaf_images : AreImages three_states.nodes (3 ∷ 3 ∷ 0 ∷ []) (1 ∷ []) (one_image [] (Leaf 3))
leaf_images = record {
  store = empty_store;
  long = refl;
  each = one_image_each [] three_states.nodes (3 ∷ 3 ∷ 0 ∷ []) (1 ∷ []) (Leaf 3) leaf_image;
}
