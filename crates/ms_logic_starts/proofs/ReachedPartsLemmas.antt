-- Starts over the variables of a reduced content lead to as many references as parts of it are reached.
use Rattle.std.proofs.Common.{◌≡◌, ℕ, ◌+◌, ◌-◌, ◌<◌, inl, inr, ⊎_elim, List, length, slice_index_or, Any, AllPairs, refl, sym, ap, subst, ◌∙◌, arith}
use Rattle.std.proofs.lemmas.Bool.{cases_lt}
use Rattle.std.proofs.lemmas.List.{get_or_default}
use Rattle.std.proofs.lemmas.Option.{slice_get_within}
use Rattle.ms_arena.specs.declared.node.Ref.{Ref}
use Rattle.ms_arena.specs.declared.node.Ref.TheVariants.{Leaf, Inner}
use Rattle.ms_arena.specs.Diagram.{leaf_of, IsReduced}
use Rattle.ms_arena.proofs.Canonicity.{same_reference}
use Rattle.ms_logic_words.specs.Canonical.{IsCanonical}
use Rattle.ms_logic_words.specs.Content.{Content}
use Rattle.ms_logic_measures.specs.CallMeasures.{IsNumberOf, LeaveSame, HasReachedParts}
use Rattle.ms_logic_measures.specs.FullContent.{part_count}
use Rattle.ms_logic_measures.specs.Starts.{Start, IsStartOver}
use Rattle.ms_logic_starts.specs.ContentStarts.{HaveDistinctNumbers, IsReachedNode, IsReachedPart, StartLeaves, HasDistinctVariables}
use Rattle.ms_logic_starts.specs.inner.Row.{EachIsRight, StandsAt}
use Rattle.ms_logic_starts.proofs.ContentStartsLemmas.{start_leaves_part, part_is_left, part_valid}
use Rattle.ms_logic_starts.proofs.NeededApartLemmas.{one_place, one_reference}
use Rattle.ms_logic_starts.proofs.Tabulated.{tabulated}

-- two references are equal
abbrev pub AreEqual : Ref → Ref → Type 0
AreEqual one other = one ≡ other

module _ {Sign : Type 0} (content : Content Sign) (is : HasDistinctVariables content) where
  module _ (reduced : IsReduced content.nodes) (n : ℕ) (counted : IsNumberOf AreEqual (IsReachedPart content) n) where
    abbrev part_at : ℕ → Ref
    part_at i = slice_index_or counted.chosen i (Leaf 0)

    part_reached : (i : ℕ) → i < n → IsReachedPart content (part_at i)
    part_reached i below = counted.items i (Leaf 0) (let long = counted.count in omega (arith, long, below))

    -- a start that leaves the part at a place of the list
    abbrev IsStartAt : ℕ → Start → Type 0
    IsStartAt i start = IsStartOver content.variables start × StartLeaves content start (part_at i)

    row : (starts : List Start) × (length starts ≡ n) × EachIsRight n IsStartAt starts
    row = tabulated n IsStartAt (λ i below. let left = part_is_left content is (part_at i) (part_reached i below) in (left.0, (left.1, left.2)))

    row_different : AllPairs (λ one other. ¬ LeaveSame content content.variables one other) row.0
    row_different i j other before within alike =
        let long = row.1 in
        let many = counted.count in
        let late : j < n = omega (arith, long, within) in
        let early : i < n = omega (arith, late, before) in
        let first = (row.2 i other early).1 in
        let second = (row.2 j other late).1 in
        counted.different i j (Leaf 0) before (omega (arith, late, many))
        (same_reference content.nodes is.rules.ordered reduced (part_at i) (part_at j)
        (part_valid content is (part_at i) (part_reached i early)) (part_valid content is (part_at j) (part_reached j late))
        (λ bits. sym (first bits) ∙ (alike bits ∙ second bits)))

    row_complete : (start : Start) → IsStartOver content.variables start → Any (λ one. LeaveSame content content.variables start one) row.0
    row_complete start over =
        let left = start_leaves_part content is start over in
        let like = counted.complete left.0 left.1 in
        let place = like.0 in
        let long = row.1 in
        let many = counted.count in
        let within = like.2 in
        let below : place < n = omega (arith, within, many) in
        let there : place < length row.0 = omega (arith, below, long) in
        let one = slice_index_or row.0 place start in
        let same : left.0 ≡ part_at place = like.4 ∙ (sym like.3 ∙ get_or_default counted.chosen place like.1 (Leaf 0) within) in (
          place,
          one,
          there,
          get_or_default row.0 place one start there,
          λ rest. left.2 rest ∙ (ap (λ (r : Ref). leaf_of content.nodes r rest) same ∙ sym ((row.2 place start below).1 rest)),
        )

    pub reached_parts : HasReachedParts content n
    reached_parts = record {
      chosen = row.0;
      items = λ i other within. (let long = row.1 in (row.2 i other (omega (arith, long, within))).0);
      different = row_different;
      complete = row_complete;
      count = row.1;
    }

  -- where each state and each node is reached, these are all
  module _ (states : (state : ℕ) → state < length content.states → IsReachedPart content (Leaf state))
      (nodes : (place : ℕ) → place < length content.nodes → IsReachedPart content (Inner place)) where
    abbrev all : ℕ
    all = length content.nodes + length content.states

    abbrev IsPartAt : ℕ → Ref → Type 0
    IsPartAt i reference = StandsAt 0 (length content.nodes) i reference × IsReachedPart content reference

    some_part : (i : ℕ) → i < all → (reference : Ref) × IsPartAt i reference
    some_part i below = ⊎_elim
        (λ less. (Inner i, ((omega arith, less), nodes i less)))
        (λ past. (Leaf (i - length content.nodes), (omega (arith, past), states (i - length content.nodes) (omega (arith, past, below)))))
        (cases_lt i (length content.nodes))

    parts : (list : List Ref) × (length list ≡ all) × EachIsRight all IsPartAt list
    parts = tabulated all IsPartAt some_part

    place_in_row : (reference : Ref) → IsReachedPart content reference → (i : ℕ) × (i < all) × StandsAt 0 (length content.nodes) i reference
    place_in_row (Leaf state) reached = (length content.nodes + state, let within = reached.0 in omega (arith, within), refl)
    place_in_row (Inner place) reached =
        let within : place < length content.nodes = part_valid content is (Inner place) reached in
        (place, omega (arith, within), (omega arith, within))

    all_different : AllPairs (λ one other. ¬ AreEqual one other) parts.0
    all_different i j other before within same =
        let long = parts.1 in
        let late : j < all = omega (arith, long, within) in
        let early : i < all = omega (arith, late, before) in
        let equal = one_place 0 (length content.nodes) i j (slice_index_or parts.0 j other)
        (subst (StandsAt 0 (length content.nodes) i) same (parts.2 i other early).0) (parts.2 j other late).0 in
        omega (arith, equal, before)

    all_complete : (reference : Ref) → IsReachedPart content reference → Any (λ one. AreEqual reference one) parts.0
    all_complete reference reached =
        let at = place_in_row reference reached in
        let long = parts.1 in
        let below = at.1 in
        let there : at.0 < length parts.0 = omega (arith, below, long) in
        let one = slice_index_or parts.0 at.0 reference in (
          at.0,
          one,
          there,
          get_or_default parts.0 at.0 one reference there,
          one_reference 0 (length content.nodes) at.0 reference one at.2 (parts.2 at.0 reference below).0,
        )

    pub all_parts : IsNumberOf AreEqual (IsReachedPart content) (part_count content)
    all_parts = record {
      chosen = parts.0;
      items = λ i other within. (let long = parts.1 in (parts.2 i other (omega (arith, long, within))).1);
      different = all_different;
      complete = all_complete;
      count = (let long = parts.1 in omega (arith, long));
    }

-- of a canonical content each is reached
module _ {Sign : Type 0} (content : Content Sign) (canonical : IsCanonical content) (own : HaveDistinctNumbers content.variables) where
  node_reached : (place : ℕ) → place < length content.nodes → IsReachedNode content place
  node_reached place within = ⊎_elim
      (λ path. inl path)
      (λ found. inr (found.0, found.1, canonical.states_reached found.0 (slice_get_within content.states found.0 found.1 found.2), found.2, found.3))
      (canonical.nodes_reached place within)

  pub canonical_reached : HasReachedParts content (part_count content)
  canonical_reached =
      let is : HasDistinctVariables content = record { rules = canonical.rules; distinct = own } in
      reached_parts content is canonical.reduced (part_count content)
      (all_parts content is (λ state within. (within, canonical.states_reached state within)) node_reached)
