-- What a product needs has pairs of labels, and what differs has different ones.
use Rattle.std.proofs.Common.{◌≡◌, ℕ, ◌<◌, ◌≤◌, ◌*◌, List, length, slice_get, Option, Some, None, refl, sym, ap, subst, ◌∙◌, arith}
use Rattle.std.proofs.lemmas.Option.{slice_get_within}
use Rattle.ms_arena.specs.declared.node.Ref.TheVariants.{Inner}
use Rattle.ms_arena.specs.declared.node.Node.{Node}
use Rattle.ms_arena.specs.Bits.{below_from}
use Rattle.ms_arena.specs.Diagram.{Bits, leaf_of, IsOrdered}
use Rattle.ms_arena.specs.Target.{IsNeeded}
use Rattle.ms_arena.proofs.Canonicity.{same_reference}
use Rattle.ms_arena.proofs.Lists.{slice_get-held}
use Rattle.ms_arena.proofs.Paths.{leaf_of-node}
use Rattle.ms_arena.proofs.ReachLemmas.{leaf_of-tested}
use Rattle.ms_dfa_explore.specs.Explored.{IsFound, Origin, target_of}
use Rattle.ms_diagram.specs.Bring.{read_through}
use Rattle.ms_diagram.specs.Numbering.{IsNumbering}
use Rattle.ms_logic_measures.specs.FullContent.{part_count}
use Rattle.ms_logic_starts.specs.AtLeast.{IsLabelling}
use Rattle.ms_logic_starts.proofs.AtLeastLemmas.{at_most_labels}
use Rattle.ms_logic_words.specs.Content.{Content, StateOf}
use Rattle.ms_logic_words.specs.declared.sign.Sign.{Sign}
use Rattle.ms_product.specs.Pairing.{AreAtLeast, AreStates, HaveRisingMaps, Operands, behind_pair, first_pair, product_findings}
use Rattle.ms_product.specs.Widened.{IsRisingMap, behind_through}
use Rattle.ms_product.specs.declared.op.Op.{Op}
use Rattle.ms_build_parts.specs.Labels.{IsLabelledBelow, IsOrigin, behind, behind_state}
use Rattle.ms_build_parts.specs.Laws.{ProductsNeedFewLabels, ProductsNeedFewParts}
use Rattle.ms_build_parts.proofs.Labels.{below_bound, measured_contents, root_of}
use Rattle.ms_build_parts.proofs.Levels.{IsLevelOf, level_of, put_together}

inner_is : (i j : ℕ) → Inner i ≡ Inner j → i ≡ j
inner_is i j same = cc

-- a state leads through a map where it leads by the bits that are read
through_is : (content : Content Sign) (map : List ℕ) (found : Option (StateOf Sign)) (bits : Bits) → behind_through content map found bits ≡ behind_state content found (read_through map bits)
through_is content map None bits = refl
through_is content map (Some state) bits = refl

-- the functions that first bits leave of a content over more variables
module _ (content : Content Sign) (bound : ℕ) (is : IsLabelledBelow content bound) (map : List ℕ) (rising : IsRisingMap (length content.variables) map) where
  -- a function that first bits leave of an origin, by its label
  pub record IsLeft (leads : Bits → ℕ) (number : ℕ) : Type 0 where
    pub origin : Origin
    pub is_origin : IsOrigin content origin
    pub level : ℕ
    pub first : Bits
    pub labelled : number ≡ is.label origin is_origin level first
    pub function : (bits : Bits) → leads bits ≡ behind content origin (below_from level first (read_through map bits))

  left_behind : (origin : Origin) → IsOrigin content origin → (var : ℕ) (first : Bits) → (number : ℕ) × (number < bound) × IsLeft (λ bits. behind content origin (read_through map (below_from var first bits))) number
  left_behind origin is_origin var first =
      let level : (level : ℕ) × IsLevelOf map (length content.variables) rising var (length content.variables) level = level_of map (length content.variables) rising var (length content.variables) (omega arith) in
      let root = root_of content is.closed origin is_origin in
      let low = read_through map first in (
        is.label origin is_origin level.0 low,
        is.below origin is_origin level.0 low,
        record {
          origin = origin;
          is_origin = is_origin;
          level = level.0;
          first = low;
          labelled = refl;
          function = λ bits.
              root.leads (read_through map (below_from var first bits))
              ∙ leaf_of-tested content.nodes is.ordered root.root (read_through map (below_from var first bits)) (below_from level.0 low (read_through map bits)) root.followed.valid
              (λ place tested.
              let at = root.followed.tests place tested in
              put_together map (length content.variables) rising var level.0 level.1 first bits place (slice_get_within content.variables place at.0 at.1))
              ∙ sym (root.leads (below_from level.0 low (read_through map bits)));
        },
      )

  -- with one label they are one function
  one_left : (leads leads' : Bits → ℕ) (number : ℕ) → IsLeft leads number → IsLeft leads' number → (bits : Bits) → leads bits ≡ leads' bits
  one_left leads leads' number one other bits =
      one.function bits
      ∙ is.alike one.origin other.origin one.is_origin other.is_origin one.level other.level one.first other.first (sym one.labelled ∙ other.labelled) (read_through map bits)
      ∙ sym (other.function bits)

module _ (op : Op) (operands : Operands) (a b : ℕ) (rising : HaveRisingMaps operands) (one : IsLabelledBelow operands.left a) (other : IsLabelledBelow operands.right b) where
  abbrev IsLeftOfLeft : (Bits → ℕ) → ℕ → Type 0
  IsLeftOfLeft leads u = IsLeft operands.left a one operands.left_map rising.left leads u

  abbrev IsLeftOfRight : (Bits → ℕ) → ℕ → Type 0
  IsLeftOfRight leads v = IsLeft operands.right b other operands.right_map rising.right leads v

  -- a function to numbers of pairs, by the functions to both states
  pub record HasLabel (pairs : List (ℕ × ℕ)) (leads : Bits → ℕ) (u v : ℕ) : Type 0 where
    pub first : Bits → ℕ
    pub second : Bits → ℕ
    pub entries : (bits : Bits) → slice_get pairs (leads bits) ≡ Some (first bits, second bits)
    pub is_left : IsLeftOfLeft first u
    pub is_right : IsLeftOfRight second v

  abbrev Labelled : List (ℕ × ℕ) → (Bits → ℕ) → Type 0
  Labelled pairs leads = (u v : ℕ) × (u < a) × (v < b) × HasLabel pairs leads u v

  one_leads : (pairs : List (ℕ × ℕ)) → IsNumbering pairs → (leads leads' : Bits → ℕ) (u v : ℕ) → HasLabel pairs leads u v → HasLabel pairs leads' u v → (bits : Bits) → leads bits ≡ leads' bits
  one_leads pairs numbering leads leads' u v label also bits =
      let same_first = one_left operands.left a one operands.left_map rising.left label.first also.first u label.is_left also.is_left bits in
      let same_second = one_left operands.right b other operands.right_map rising.right label.second also.second v label.is_right also.is_right bits in
      numbering.no_repeats (leads bits) (leads' bits) (label.first bits, label.second bits) (label.entries bits)
      (also.entries bits ∙ ap Some (λ k. (sym same_first k, sym same_second k)))

  module _ (nodes : List Node) (pairs : List (ℕ × ℕ)) (ordered : IsOrdered nodes) (states : AreStates operands pairs) where
    abbrev NodeLeads : ℕ → Bits → ℕ
    NodeLeads i bits = leaf_of nodes (Inner i) bits

    -- what first bits leave of a pair of origins has a label
    labelled_by : (p q : Origin) → IsOrigin operands.left p → IsOrigin operands.right q → (i : ℕ) (var : ℕ) (first : Bits)
        → ((bits : Bits) → slice_get pairs (NodeLeads i bits)
        ≡ Some (behind operands.left p (read_through operands.left_map (below_from var first bits)), behind operands.right q (read_through operands.right_map (below_from var first bits))))
        → Labelled pairs (NodeLeads i)
    labelled_by p q is_p is_q i var first entries =
        let l = left_behind operands.left a one operands.left_map rising.left p is_p var first in
        let r = left_behind operands.right b other operands.right_map rising.right q is_q var first in (
          l.0,
          r.0,
          l.1,
          r.1,
          record {
            first = λ bits. behind operands.left p (read_through operands.left_map (below_from var first bits));
            second = λ bits. behind operands.right q (read_through operands.right_map (below_from var first bits));
            entries = entries;
            is_left = l.2;
            is_right = r.2;
          },
        )

    -- the pair of a number, and both of its states
    labelled_from : (number : ℕ) → number < length pairs → (i : ℕ) (node : Node) → slice_get nodes i ≡ Some node → IsNeeded nodes (behind_pair operands pairs (slice_get pairs number)) node → Labelled pairs (NodeLeads i)
    labelled_from number within i node held needed =
        let pair = slice_get-held pairs number within in
        let both = states number pair.0 pair.1 in
        let p = pair.0.0 in
        let q = pair.0.1 in
        let here = subst (λ found. IsNeeded nodes (behind_pair operands pairs found) node) pair.1 needed in
        labelled_by (Some p) (Some q) both.0 both.1 i node.var here.0
        (λ bits.
        let at = below_from node.var here.0 bits in
        let left_is = through_is operands.left operands.left_map (slice_get operands.left.states p) at in
        let right_is = through_is operands.right operands.right_map (slice_get operands.right.states q) at in
        ap (slice_get pairs) (leaf_of-node nodes ordered bits i node held) ∙ here.1 bits ∙ ap Some (λ k. (left_is k, right_is k)))

    labelled_start : (i : ℕ) (node : Node) → slice_get nodes i ≡ Some node → IsNeeded nodes (λ bits number. slice_get pairs number ≡ Some (first_pair operands bits)) node → Labelled pairs (NodeLeads i)
    labelled_start i node held needed = labelled_by None None tt tt i node.var needed.0 (λ bits. ap (slice_get pairs) (leaf_of-node nodes ordered bits i node held) ∙ needed.1 bits)

    labelled_node : (origin : Origin) → IsFound (product_findings op operands pairs) origin → (i : ℕ) (node : Node) → slice_get nodes i ≡ Some node
        → IsNeeded nodes (target_of (product_findings op operands pairs) origin) node → Labelled pairs (NodeLeads i)
    labelled_node None found i node held needed = labelled_start i node held needed
    labelled_node (Some number) found i node held needed = labelled_from number found i node held needed

  module _ (count : ℕ) (least : AreAtLeast count op operands) where
    abbrev nodes : List Node
    nodes = least.nodes

    abbrev pairs : List (ℕ × ℕ)
    pairs = least.pairs

    node_labels : IsLabelling (λ (i j : ℕ). i ≡ j) (λ i. i < length nodes) (λ i u v. HasLabel pairs (λ bits. leaf_of nodes (Inner i) bits) u v) a b
    node_labels = record {
      labelled = λ i within.
          let held = slice_get-held nodes i within in
          let needed = least.needed i held.0 held.1 in
          labelled_node nodes pairs least.ordered least.states needed.0 needed.1 i held.0 held.1 needed.2;
      alike = λ i j is_i is_j u v first second.
          inner_is i j (same_reference nodes least.ordered least.reduced (Inner i) (Inner j) is_i is_j
          (one_leads pairs least.numbering (λ bits. leaf_of nodes (Inner i) bits) (λ bits. leaf_of nodes (Inner j) bits) u v first second));
    }

    pair_labels : IsLabelling (λ (i j : ℕ). i ≡ j) (λ i. i < length pairs) (λ i u v. slice_get pairs i ≡ Some (u, v)) a b
    pair_labels = record {
      labelled = λ i within.
          let pair = slice_get-held pairs i within in
          let both = least.states i pair.0 pair.1 in
          let below_left : pair.0.0 < length operands.left.states = both.0 in
          let below_right : pair.0.1 < length operands.right.states = both.1 in
          let few = one.states in
          let also = other.states in
          (pair.0.0, pair.0.1, omega (arith, below_left, few), omega (arith, below_right, also), pair.1);
      alike = λ i j is_i is_j u v first second. least.numbering.no_repeats i j (u, v) first second;
    }

    pub few : count ≤ 2 * (a * b)
    few =
        let some_nodes = at_most_labels (λ (i j : ℕ). i ≡ j) (λ i. i < length nodes) (λ i u v. HasLabel pairs (λ bits. leaf_of nodes (Inner i) bits) u v) a b (length nodes) node_labels (below_bound (length nodes)) in
        let some_pairs = at_most_labels (λ (i j : ℕ). i ≡ j) (λ i. i < length pairs) (λ i u v. slice_get pairs i ≡ Some (u, v)) a b (length pairs) pair_labels (below_bound (length pairs)) in
        let many = least.many in
        omega (arith, some_nodes, some_pairs, many)

pub products_need_few_labels : ProductsNeedFewLabels
products_need_few_labels op operands a b rising one other count least = few op operands a b rising one other count least

pub products_need_few_parts : ProductsNeedFewParts
products_need_few_parts op operands left right rising one other count least =
    products_need_few_labels op operands (part_count left) (part_count right) rising (measured_contents operands.left left one) (measured_contents operands.right right other) count least
