-- Variables with a bound one at their end, and a quantifier above its parts.
use Rattle.std.proofs.Common.{◌≡◌, ℕ, ◌+◌, ◌<◌, ◌≤◌, List, [], ◌∷◌, ◌++◌, length, get_or, Contains, refl, sym, ◌∙◌, ap, subst, ⊎_elim, arith}
use Rattle.std.proofs.lemmas.Bool.{cases_lt}
use Rattle.std.proofs.lemmas.List.{length_push, get_or_append_left, get_or_push}
use Rattle.std.proofs.lemmas.List.Elements.{All-contains, All-contains_itself, Contains-append_left}
use Rattle.std.specs.List.Sorted.{IsStrictlyIncreasing}
use Rattle.ms_logic.specs.declared.mode.Order.{Order}
use Rattle.ms_diagram.specs.Collect.{HaveSameItems}
use Rattle.ms_dag.specs.declared.node.Child.{Child}
use Rattle.ms_dag.specs.declared.node.DagNode.{DagNode}
use Rattle.ms_dag.specs.declared.node.Entry.{Entry}
use Rattle.ms_dag.specs.inner.Binders.{EndsIn}
use Rattle.ms_dag.specs.Dag.{children_of, places_in_maps}
use Rattle.ms_dag.specs.inner.Maps.{AreTheSameIn}
use Rattle.ms_dag.specs.Places.{AreBelow, AreAmong}
use Rattle.ms_dag.specs.inner.Shared.{IsMade, IsAbove}
use Rattle.ms_dag.proofs.Members.{All-by}
use Rattle.ms_dag.proofs.RisingLemmas.{rising_at_least}

pub rising_push : (xs : List ℕ) (x : ℕ) → IsStrictlyIncreasing xs → AreBelow x xs → IsStrictlyIncreasing (xs ++ x ∷ [])
rising_push xs x rising below k within =
    let long = length_push xs x in
    let first : get_or (xs ++ x ∷ []) k 0 ≡ get_or xs k 0 = get_or_append_left xs (x ∷ []) 0 k (omega arith) in
    ⊎_elim (λ inner. let second : get_or (xs ++ x ∷ []) (k + 1) 0 ≡ get_or xs (k + 1) 0 = get_or_append_left xs (x ∷ []) 0 (k + 1) inner in
    let less : get_or xs k 0 < get_or xs (k + 1) 0 = rising k inner in omega arith)
    (λ last. let second : get_or (xs ++ x ∷ []) (k + 1) 0 ≡ x = get_or_push xs x 0 (k + 1) (omega arith) in
    let less : get_or xs k 0 < x = below k 0 (omega arith) in omega arith) (cases_lt (k + 1) (length xs))

pub EndsIn-same : (names own : List ℕ) (x : ℕ) → names ≡ own ++ x ∷ [] → IsStrictlyIncreasing names → EndsIn names x names
EndsIn-same names own x is rising = record {
  own = own;
  ends = is;
  rising = rising;
  there = All-contains_itself names;
  back = All-by (Contains names) own (λ y there. subst (λ list. Contains list y) (sym is) (Contains-append_left own (x ∷ []) y there));
}

pub EndsIn-push : (names : List ℕ) (x : ℕ) → IsStrictlyIncreasing names → AreBelow x names → EndsIn names x (names ++ x ∷ [])
EndsIn-push names x rising below = record {
  own = names;
  ends = refl;
  rising = rising_push names x rising below;
  there = All-by (Contains (names ++ x ∷ [])) names (λ y there. Contains-append_left names (x ∷ []) y there);
  back = All-contains_itself names;
}

module _ (names : List ℕ) (x : ℕ) (all : List ℕ) (ends : EndsIn names x all) where
  -- there are at most x names before x
  pub own_few : length ends.own ≤ x
  own_few =
      let own = ends.own in
      let long = length_push own x in
      let rising = subst (λ (list : List ℕ). IsStrictlyIncreasing list) ends.ends ends.rising in
      let last : get_or (own ++ x ∷ []) (length own) 0 ≡ x = get_or_push own x 0 (length own) refl in
      let least = rising_at_least (own ++ x ∷ []) (length own) rising (omega arith) in
      omega arith

  pub all_few : length all ≤ x + 1
  all_few = let few = own_few in let long = ap length ends.ends ∙ length_push ends.own x in omega arith

  module _ (parts : List Child) (union : HaveSameItems (places_in_maps parts) names) where
    pub bound_there : AreAmong all (places_in_maps parts)
    bound_there = All-by (Contains all) (places_in_maps parts) (λ y there. All-contains (Contains all) names y ends.there (union.there y there))

    pub bound_back : AreAmong (places_in_maps parts) ends.own
    bound_back = All-by (Contains (places_in_maps parts)) ends.own (λ y there. union.back y (All-contains (Contains names) ends.own y ends.back there))

    pub above_bound : (orders : List Order) (old new : List Entry) (node : DagNode) (child : Child) → AreTheSameIn all parts (children_of node) → IsMade orders old new node ends.own child →
        IsAbove orders old new (x ∷ []) parts node child
    above_bound orders old new node child same made =
        let own : ends.own ≡ child.map = sym made.map in
        let whole : all ≡ child.map ++ x ∷ [] = ends.ends ∙ ap (λ list. list ++ x ∷ []) own in
        record {
          rising = subst (λ (list : List ℕ). IsStrictlyIncreasing list) whole ends.rising;
          there = subst (λ list. AreAmong list (places_in_maps parts)) whole bound_there;
          back = subst (λ list. AreAmong (places_in_maps parts) list) own bound_back;
          children = subst (λ list. AreTheSameIn list parts (children_of node)) whole same;
          made = subst (λ list. IsMade orders old new node list child) own made;
        }
