-- Lists of roots: their items, their halves and their least level.
use Rattle.std.proofs.Common.{◌≡◌, ℕ, ◌<◌, ◌≤◌, Bool, true, false, List, [], ◌∷◌, ◌++◌, length, map, drop, Contains, sym, ap, subst, ◌∙◌, ⊎_elim, append-nil, arith}
use Rattle.std.proofs.lemmas.Bool.{cases_lt}
use Rattle.std.proofs.lemmas.List.{at_drop_all}
use Rattle.std.proofs.lemmas.List.Elements.{Contains-append_left, Contains-append_right, Contains-append_cases}
use Rattle.std.proofs.lemmas.List.Kept.{Contains-dedup, Contains-from_dedup}
use Rattle.std.proofs.lemmas.List.Sorted.{Contains-permutation, IsPermutation-sym}
use Rattle.std.specs.Cmp.{IsEquivalence}
use Rattle.std.specs.List.{dedup}
use Rattle.std.specs.List.Sorted.{IsPermutation}
use Rattle.ms_arena.specs.declared.node.Ref.{Ref}
use Rattle.ms_arena.specs.declared.node.Ref.TheVariants.{Leaf, Inner}
use Rattle.ms_arena.specs.declared.node.Node.{Node}
use Rattle.ms_arena.specs.Halves.{half_of, level_of}
use Rattle.ms_diagram.specs.Collect.{HaveSameItems, AreHalves, AreBothHalves, least_level, leaf_values}
use Rattle.ms_diagram.proofs.ListLemmas.{Contains-cases, Contains-first, Contains-rest, Contains-none}

-- sorted and without repeats, a list has the same items
pub HaveSameItems-sorted : {X : Type 0} {eq : X → X → Bool} → IsEquivalence eq → ((x y : X) → eq x y ≡ true → x ≡ y) → (one sorted two : List X)
    → IsPermutation one sorted → two ≡ dedup eq sorted → HaveSameItems one two
HaveSameItems-sorted {X} {eq} laws same one sorted two moved is = record {
  there = λ item in_one. subst (λ list. Contains list item) (sym is) (Contains-dedup laws same sorted item (Contains-permutation one sorted item moved in_one));
  back = λ item in_two. Contains-permutation sorted one item (IsPermutation-sym one sorted moved) (Contains-from_dedup eq sorted item (subst (λ list. Contains list item) is in_two));
}

-- an item of a list that is mapped
pub Contains-mapped : {X Y : Type 0} (f : X → Y) (xs : List X) (x : X) → Contains xs x → Contains (map f xs) (f x)
Contains-mapped f [] x there = absurd (Contains-none x there)
Contains-mapped f (y ∷ ys) x there = ⊎_elim
    (λ same. subst (λ item. Contains (f y ∷ map f ys) (f item)) (sym same) (Contains-first (f y) (map f ys)))
    (λ later. Contains-rest (f y) (map f ys) (f x) (Contains-mapped f ys x later)) (Contains-cases y ys x there)

pub Contains-from_mapped : {X Y : Type 0} (f : X → Y) (xs : List X) (y : Y) → Contains (map f xs) y → (x : X) × Contains xs x × (f x ≡ y)
Contains-from_mapped f [] y there = absurd (Contains-none y there)
Contains-from_mapped f (x ∷ xs) y there = ⊎_elim
    (λ same. (x, Contains-first x xs, sym same))
    (λ later. let rest = Contains-from_mapped f xs y later in (rest.0, Contains-rest x xs rest.0 rest.1, rest.2)) (Contains-cases (f x) (map f xs) y there)

module _ (nodes : List Node) (var : ℕ) (roots : List Ref) where
  -- the halves in one list, sorted
  pub AreHalves-sorted : (bit : Bool) (list halves : List Ref) → list ≡ map (half_of nodes var bit) roots → HaveSameItems list halves → AreHalves nodes var bit roots halves
  AreHalves-sorted bit list halves is same = record {
    all = λ root there. same.there (half_of nodes var bit root)
        (subst (λ l. Contains l (half_of nodes var bit root)) (sym is) (Contains-mapped (half_of nodes var bit) roots root there));
    only = λ half there. Contains-from_mapped (half_of nodes var bit) roots half (subst (λ l. Contains l half) is (same.back half there));
  }

  -- the halves for both values, one list behind the other, sorted
  pub AreBothHalves-sorted : (low high halves : List Ref) → low ≡ map (half_of nodes var false) roots → high ≡ map (half_of nodes var true) roots
      → HaveSameItems (low ++ high) halves → AreBothHalves nodes var roots halves
  AreBothHalves-sorted low high halves low_is high_is same = record {
    all = λ root bit there. same.there (half_of nodes var bit root) (either root bit there);
    only = λ half there. ⊎_elim
        (λ left. let root = Contains-from_mapped (half_of nodes var false) roots half (subst (λ l. Contains l half) low_is left) in (root.0, false, root.1, root.2))
        (λ right. let root = Contains-from_mapped (half_of nodes var true) roots half (subst (λ l. Contains l half) high_is right) in (root.0, true, root.1, root.2))
        (Contains-append_cases low high half (same.back half there));
  }
    where
      either : (root : Ref) (bit : Bool) → Contains roots root → Contains (low ++ high) (half_of nodes var bit root)
      either root false there = Contains-append_left low high (half_of nodes var false root)
          (subst (λ l. Contains l (half_of nodes var false root)) (sym low_is) (Contains-mapped (half_of nodes var false) roots root there))
      either root true there = Contains-append_right low high (half_of nodes var true root)
          (subst (λ l. Contains l (half_of nodes var true root)) (sym high_is) (Contains-mapped (half_of nodes var true) roots root there))

-- what a loop has at its end, where it had done the front and the rest was left
pub all_done : {X Y : Type 0} (f : List X → List Y) (xs : List X) (done : List Y) (n : ℕ) → length xs ≤ n → f [] ≡ [] → done ++ f (drop n xs) ≡ f xs → done ≡ f xs
all_done f xs done n past none so_far =
    sym (append-nil done) ∙ ap (λ rest. done ++ rest) (sym (at_drop_all f xs n past ∙ none)) ∙ so_far

-- the level of a list is at most that of each item, that of one of them where it is a variable, and at most that of a leaf
pub least_level-most : (nodes : List Node) (roots : List Ref) → least_level nodes roots ≤ 4294967296
least_level-most nodes [] = omega arith
least_level-most nodes (root ∷ roots) = let rest = least_level-most nodes roots in omega arith

pub least_level-each : (nodes : List Node) (roots : List Ref) (root : Ref) → Contains roots root → least_level nodes roots ≤ level_of nodes root
least_level-each nodes [] root there = absurd (Contains-none root there)
least_level-each nodes (first ∷ roots) root there = ⊎_elim
    (λ same. let level = ap (level_of nodes) same in omega (arith, level))
    (λ later. let rest = least_level-each nodes roots root later in omega arith) (Contains-cases first roots root there)

pub least_level-own : (nodes : List Node) (roots : List Ref) → least_level nodes roots < 4294967296 → (root : Ref) × Contains roots root × (level_of nodes root ≡ least_level nodes roots)
least_level-own nodes [] small = absurd (omega (arith, small))
least_level-own nodes (root ∷ roots) small = ⊎_elim
    (λ less. (root, Contains-first root roots, omega (arith, less)))
    (λ more. let rest = least_level-own nodes roots (omega (arith, more, small)) in (rest.0, Contains-rest root roots rest.0 rest.1, omega (arith, more, rest.2)))
    (cases_lt (level_of nodes root) (least_level nodes roots))

pub least_level-above : (nodes : List Node) (var : ℕ) (roots : List Ref) → var < 4294967296 → ((root : Ref) → Contains roots root → var < level_of nodes root) → var < least_level nodes roots
least_level-above nodes var [] small above = small
least_level-above nodes var (root ∷ roots) small above =
    let first = above root (Contains-first root roots) in
    let rest = least_level-above nodes var roots small (λ other there. above other (Contains-rest root roots other there)) in
    omega arith

-- the leaves among the roots
pub Contains-leaf_values : (roots : List Ref) (value : ℕ) → Contains roots (Leaf value) → Contains (leaf_values roots) value
Contains-leaf_values [] value there = absurd (Contains-none (Leaf value) there)
Contains-leaf_values (Leaf first ∷ roots) value there = ⊎_elim
    (λ same. let equal : value ≡ first = cc in subst (λ v. Contains (first ∷ leaf_values roots) v) (sym equal) (Contains-first first (leaf_values roots)))
    (λ later. Contains-rest first (leaf_values roots) value (Contains-leaf_values roots value later)) (Contains-cases (Leaf first) roots (Leaf value) there)
Contains-leaf_values (Inner place ∷ roots) value there = ⊎_elim
    (λ same. let never : ⊥ = cc in absurd never)
    (λ later. Contains-leaf_values roots value later) (Contains-cases (Inner place) roots (Leaf value) there)

pub Contains-from_leaf_values : (roots : List Ref) (value : ℕ) → Contains (leaf_values roots) value → Contains roots (Leaf value)
Contains-from_leaf_values [] value there = absurd (Contains-none value there)
Contains-from_leaf_values (Leaf first ∷ roots) value there = ⊎_elim
    (λ same. subst (λ v. Contains (Leaf first ∷ roots) (Leaf v)) (sym same) (Contains-first (Leaf first) roots))
    (λ later. Contains-rest (Leaf first) roots (Leaf value) (Contains-from_leaf_values roots value later)) (Contains-cases first (leaf_values roots) value there)
Contains-from_leaf_values (Inner place ∷ roots) value there = Contains-rest (Inner place) roots (Leaf value) (Contains-from_leaf_values roots value there)
