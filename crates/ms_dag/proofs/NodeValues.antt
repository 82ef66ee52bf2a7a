-- A node has the value of the core formula that it unfolds to.
use Rattle.std.proofs.Common.{◌≡◌, ℕ, zero, suc, ◌+◌, ◌<◌, ◌≤◌, List, [], ◌∷◌, ◌++◌, length, map, slice_get, slice_index, Bool, true, All, Option, Some, None, refl, sym, ◌∙◌, ap, subst, arith}
use Rattle.std.specs.List.{zip}
use Rattle.std.proofs.lemmas.List.Elements.{All-head, All-tail}
use Rattle.ms_logic.specs.declared.mode.Order.{Order}
use Rattle.ms_logic.specs.declared.mode.Order.TheVariants.{Zero, One, Two}
use Rattle.ms_logic.specs.declared.mode.Quant.TheVariants.{Ex, All as Every}
use Rattle.ms_logic_core.specs.declared.core_formula.Basic.{Basic as Relation}
use Rattle.ms_logic_core.specs.declared.core_formula.Basic.TheVariants.{Truth, Number, Plus, Less, Member, Sub, Union, Inter, Diff, Up, Down, Min, Max, Bits}
use Rattle.ms_logic.specs.declared.assignment.Value.{Value}
use Rattle.ms_logic.specs.Assignment.{Env, Universe, Variable, assign, value_at, IsValueOf}
use Rattle.ms_logic_core.specs.CoreForm.{CoreForm, truth, falsity, basic, negation, conjunction, disjunction, implication, equivalence, restrict, imported, quantified, CoreForms, no_forms, more_forms, CoreRestriction, unrestricted, restricted, CoreYes, CoreNo, AllCoreYes, AllCoreNo, AllCoreDefined, SomeCoreYes, SomeCoreNo, IsCoreMet, Holds, answer_over}
use Rattle.ms_logic.specs.FiniteSet.{IsMember, IsSubset, union_of, intersection_of, difference_of, least, greatest, moved_up, moved_down, one_bits}
use Rattle.ms_logic.specs.Terms.{part_within}
use Rattle.ms_logic_core.specs.Spread.{variables_of_import}
use Rattle.ms_logic_core.specs.Operands.{variable, variables_of_basic, variables_at}
use Rattle.ms_logic.specs.Truth.{Import as Imported, InRange}
use Rattle.ms_logic.proofs.FreeVariables.{order_of_value_of}
use Rattle.ms_dag.specs.declared.node.Child.{Child}
use Rattle.ms_dag.specs.declared.node.DagNode.{DagNode}
use Rattle.ms_dag.specs.declared.node.Entry.{Entry}
use Rattle.ms_dag.specs.Laws.{HasOrder, HaveTheirOrders, EachHasItsOrders, RestrictionHasItsOrders, NodeHasValueOfFormula}
use Rattle.ms_dag.specs.Places.{picked, AreBelow}
use Rattle.ms_dag.specs.Unfolds.{node_at, renamed, names_of_basic, ReadAs, Unfolds, UnfoldEach, UnfoldsIn}
use Rattle.ms_dag.specs.Values.{read_through, ReadsAs, Of, EachIs, SomeIs, EachIsDefined, IsMetBy, YesAt, NoAt, YesBelow, NoBelow}
use Rattle.ms_dag.proofs.Readings.{ReadsAs-child, ReadsAs-bound}
use Rattle.ms_dag.proofs.SameVerdicts.{SameVerdict, same_swapped, same_itself, same_negation, same_restrict, same_fact, same_implication, same_equivalence, SameOfEach, none_same, more_same, same_conjunction, same_disjunction, same_some, same_every}

-- a fact of equal values
same_along : {A : Type 0} (P : A → Type 0) (a b : A) → a ≡ b → SameVerdict (P a) (¬ P a) (P b) (¬ P b)
same_along P a b same = same_fact (subst P same) (subst P (sym same))

module _ (orders : List Order) (names : List ℕ) (e c : Env) (reads : ReadsAs orders names e c) where
  truth_read : (a : ℕ) → a < length names → HasOrder orders (variable (slice_index names a) Zero) → e.truth a ≡ c.truth (slice_index names a)
  truth_read a below ordered = let same = reads.values a Zero below ordered in cc

  number_read : (x : ℕ) → x < length names → HasOrder orders (variable (slice_index names x) One) → e.number x ≡ c.number (slice_index names x)
  number_read x below ordered = let same = reads.values x One below ordered in cc

  set_read : (s : ℕ) → s < length names → HasOrder orders (variable (slice_index names s) Two) → e.set s ≡ c.set (slice_index names s)
  set_read s below ordered = let same = reads.values s Two below ordered in cc

  -- what a relation says of the values of its variables
  pub same_basic : (b : Relation) → AreBelow (length names) (names_of_basic b) → All (HasOrder orders) (variables_of_basic (renamed (slice_index names) b)) →
      SameVerdict (Holds b e) (¬ Holds b e) (Holds (renamed (slice_index names) b) c) (¬ Holds (renamed (slice_index names) b) c)
  same_basic (Truth a) within ordered =
      let part_0 = truth_read a (within 0 0 (omega arith)) (ordered 0 (variable 0 Zero) (omega arith)) in
      same_along (λ (p : Bool). p ≡ true) (e.truth a) (c.truth (slice_index names a)) part_0
  same_basic (Number x n) within ordered =
      let part_0 = number_read x (within 0 0 (omega arith)) (ordered 0 (variable 0 Zero) (omega arith)) in
      same_along (λ (p : ℕ). p ≡ n) (e.number x) (c.number (slice_index names x)) part_0
  same_basic (Plus x y n) within ordered =
      let part_0 = number_read x (within 0 0 (omega arith)) (ordered 0 (variable 0 Zero) (omega arith)) in
      let part_1 = number_read y (within 1 0 (omega arith)) (ordered 1 (variable 0 Zero) (omega arith)) in
      same_along (λ (p : ℕ × ℕ). p.0 ≡ p.1 + n) (e.number x, e.number y) (c.number (slice_index names x), c.number (slice_index names y)) cc
  same_basic (Less x y) within ordered =
      let part_0 = number_read x (within 0 0 (omega arith)) (ordered 0 (variable 0 Zero) (omega arith)) in
      let part_1 = number_read y (within 1 0 (omega arith)) (ordered 1 (variable 0 Zero) (omega arith)) in
      same_along (λ (p : ℕ × ℕ). p.0 < p.1) (e.number x, e.number y) (c.number (slice_index names x), c.number (slice_index names y)) cc
  same_basic (Member x s) within ordered =
      let part_0 = number_read x (within 0 0 (omega arith)) (ordered 0 (variable 0 Zero) (omega arith)) in
      let part_1 = set_read s (within 1 0 (omega arith)) (ordered 1 (variable 0 Zero) (omega arith)) in
      same_along (λ (p : ℕ × List ℕ). IsMember p.0 p.1) (e.number x, e.set s) (c.number (slice_index names x), c.set (slice_index names s)) cc
  same_basic (Sub s t) within ordered =
      let part_0 = set_read s (within 0 0 (omega arith)) (ordered 0 (variable 0 Zero) (omega arith)) in
      let part_1 = set_read t (within 1 0 (omega arith)) (ordered 1 (variable 0 Zero) (omega arith)) in
      same_along (λ (p : List ℕ × List ℕ). IsSubset p.0 p.1) (e.set s, e.set t) (c.set (slice_index names s), c.set (slice_index names t)) cc
  same_basic (Union s t u) within ordered =
      let part_0 = set_read s (within 0 0 (omega arith)) (ordered 0 (variable 0 Zero) (omega arith)) in
      let part_1 = set_read t (within 1 0 (omega arith)) (ordered 1 (variable 0 Zero) (omega arith)) in
      let part_2 = set_read u (within 2 0 (omega arith)) (ordered 2 (variable 0 Zero) (omega arith)) in
      same_along (λ (p : List ℕ × List ℕ × List ℕ). p.0 ≡ union_of p.1 p.2) (e.set s, e.set t, e.set u) (c.set (slice_index names s), c.set (slice_index names t), c.set (slice_index names u)) cc
  same_basic (Inter s t u) within ordered =
      let part_0 = set_read s (within 0 0 (omega arith)) (ordered 0 (variable 0 Zero) (omega arith)) in
      let part_1 = set_read t (within 1 0 (omega arith)) (ordered 1 (variable 0 Zero) (omega arith)) in
      let part_2 = set_read u (within 2 0 (omega arith)) (ordered 2 (variable 0 Zero) (omega arith)) in
      same_along (λ (p : List ℕ × List ℕ × List ℕ). p.0 ≡ intersection_of p.1 p.2) (e.set s, e.set t, e.set u) (c.set (slice_index names s), c.set (slice_index names t), c.set (slice_index names u)) cc
  same_basic (Diff s t u) within ordered =
      let part_0 = set_read s (within 0 0 (omega arith)) (ordered 0 (variable 0 Zero) (omega arith)) in
      let part_1 = set_read t (within 1 0 (omega arith)) (ordered 1 (variable 0 Zero) (omega arith)) in
      let part_2 = set_read u (within 2 0 (omega arith)) (ordered 2 (variable 0 Zero) (omega arith)) in
      same_along (λ (p : List ℕ × List ℕ × List ℕ). p.0 ≡ difference_of p.1 p.2) (e.set s, e.set t, e.set u) (c.set (slice_index names s), c.set (slice_index names t), c.set (slice_index names u)) cc
  same_basic (Up s t n) within ordered =
      let part_0 = set_read s (within 0 0 (omega arith)) (ordered 0 (variable 0 Zero) (omega arith)) in
      let part_1 = set_read t (within 1 0 (omega arith)) (ordered 1 (variable 0 Zero) (omega arith)) in
      let part_2 = reads.universe in
      same_along (λ (p : List ℕ × List ℕ × Universe). p.0 ≡ part_within p.2 (moved_up n p.1)) (e.set s, e.set t, e.universe) (c.set (slice_index names s), c.set (slice_index names t), c.universe) cc
  same_basic (Down s t n) within ordered =
      let part_0 = set_read s (within 0 0 (omega arith)) (ordered 0 (variable 0 Zero) (omega arith)) in
      let part_1 = set_read t (within 1 0 (omega arith)) (ordered 1 (variable 0 Zero) (omega arith)) in
      same_along (λ (p : List ℕ × List ℕ). p.0 ≡ moved_down n p.1) (e.set s, e.set t) (c.set (slice_index names s), c.set (slice_index names t)) cc
  same_basic (Min x s) within ordered =
      let part_0 = number_read x (within 0 0 (omega arith)) (ordered 0 (variable 0 Zero) (omega arith)) in
      let part_1 = set_read s (within 1 0 (omega arith)) (ordered 1 (variable 0 Zero) (omega arith)) in
      same_along (λ (p : ℕ × List ℕ). p.0 ≡ least p.1) (e.number x, e.set s) (c.number (slice_index names x), c.set (slice_index names s)) cc
  same_basic (Max x s) within ordered =
      let part_0 = number_read x (within 0 0 (omega arith)) (ordered 0 (variable 0 Zero) (omega arith)) in
      let part_1 = set_read s (within 1 0 (omega arith)) (ordered 1 (variable 0 Zero) (omega arith)) in
      same_along (λ (p : ℕ × List ℕ). p.0 ≡ greatest p.1) (e.number x, e.set s) (c.number (slice_index names x), c.set (slice_index names s)) cc
  same_basic (Bits s n) within ordered =
      let part_0 = set_read s (within 0 0 (omega arith)) (ordered 0 (variable 0 Zero) (omega arith)) in
      let part_1 = reads.universe in
      same_along (λ (p : List ℕ × Universe). p.0 ≡ part_within p.1 (one_bits n)) (e.set s, e.universe) (c.set (slice_index names s), c.universe) cc

  same_values : (own : List ℕ) (vs : List Variable) → AreBelow (length names) own → All (HasOrder orders) (variables_at (picked names own) vs) →
      map (λ p. value_at p.1.order p.0 e) (zip own vs) ≡ map (λ p. value_at p.1.order p.0 c) (zip (picked names own) vs)
  same_values [] vs within ordered = refl
  same_values (j ∷ own) [] within ordered = refl
  same_values (j ∷ own) (v ∷ vs) within ordered =
      let first = reads.values j v.order (All-head (λ k. k < length names) j own within) (All-head (HasOrder orders) _ _ ordered) in
      let others = same_values own vs (All-tail (λ k. k < length names) j own within) (All-tail (HasOrder orders) _ _ ordered) in cc

  pub same_answer : (found : Option Imported) (own : List ℕ) → AreBelow (length names) own → All (HasOrder orders) (variables_at (picked names own) (variables_of_import found)) →
      answer_over found own e ≡ answer_over found (picked names own) c
  same_answer None own within ordered = refl
  same_answer (Some found) own within ordered =
      let values = same_values own found.variables within ordered in
      let universe = reads.universe in cc

-- each follows from the other
record BothWays (P Q : Type 0) : Type 0 where
  to : P → Q
  from : Q → P

-- a value of one universe is one of an equal universe
moved_value : (o : Order) (v : Value) (e f : Env) → e.universe ≡ f.universe → IsValueOf o e.universe v → IsValueOf o f.universe v
moved_value o v e f same is_value = let P : Universe → Type 0 = λ u. IsValueOf o u v in subst P same is_value

-- a value of the bound variable's order, for that variable in both
bound_read : (orders : List Order) (names : List ℕ) (o : Order) (x : ℕ) (v : Value) (e c : Env) → ReadsAs orders names e c → AreBelow x names → HasOrder orders (variable x o) →
    IsValueOf o e.universe v → ReadsAs orders (names ++ x ∷ []) (assign (length names) v e) (assign x v c)
bound_read orders names o x v e c reads greater bound is_value =
    ReadsAs-bound orders names x v e c reads greater (bound ∙ sym (order_of_value_of o e.universe v is_value))

-- a node, at a bound on the numbers below which its children are
at_node : (imports : List Imported) (entries : List Entry) (n i : ℕ) (o : Option DagNode) (e : Env) (Y N : Type 0) → i < n → node_at entries i ≡ o →
    ((m : ℕ) → i ≤ m →
    SameVerdict (YesAt imports (λ j there. YesBelow imports entries m j there) (λ j there. NoBelow imports entries m j there) o e)
    (NoAt imports (λ j there. YesBelow imports entries m j there) (λ j there. NoBelow imports entries m j there) o e) Y N) →
    SameVerdict (YesBelow imports entries n i e) (NoBelow imports entries n i e) Y N
at_node imports entries zero i o e Y N below node same = absurd (omega (arith, below))
at_node imports entries (suc m) i o e Y N below node same =
    let P : Option DagNode → Type 0 =
    λ p. SameVerdict (YesAt imports (λ j there. YesBelow imports entries m j there) (λ j there. NoBelow imports entries m j there) p e)
    (NoAt imports (λ j there. YesBelow imports entries m j there) (λ j there. NoBelow imports entries m j there) p e) Y N in
    subst P (sym node) (same m (omega arith))

module _ (imports : List Imported) (entries : List Entry) (orders : List Order) where
  -- what is known of a formula
  abbrev IsSame : CoreForm → Type 0
  IsSame f =
      (names : List ℕ) (i n : ℕ) (e c : Env) → Unfolds entries f names i → i < n → ReadsAs orders names e c →
      SameVerdict (YesBelow imports entries n i e) (NoBelow imports entries n i e) (CoreYes imports f c) (CoreNo imports f c)

  child_same : (f : CoreForm) → IsSame f → (names : List ℕ) (i m : ℕ) (child : Child) (e c : Env) → ReadAs (λ given j. Unfolds entries f given j) names i child → i ≤ m →
      ReadsAs orders names e c →
      SameVerdict (Of (λ j there. YesBelow imports entries m j there) child e) (Of (λ j there. NoBelow imports entries m j there) child e) (CoreYes imports f c) (CoreNo imports f c)
  child_same f same names i m child e c read below reads =
      let smaller = read.0.smaller in
      same (picked names child.map) child.node m (read_through child.map e) c read.1 (omega arith) (ReadsAs-child orders names child.map e c reads read.0.within)

  mutual
    same_formula : (f : CoreForm) → HaveTheirOrders imports orders f → IsSame f
    same_formula truth ordered names i n e c unfolds below reads = at_node imports entries n i _ e _ _ below unfolds (λ m le. same_itself _ _)
    same_formula falsity ordered names i n e c unfolds below reads = at_node imports entries n i _ e _ _ below unfolds (λ m le. same_itself _ _)
    same_formula (basic b) ordered names i n e c unfolds below reads =
        let P : Relation → Type 0 = λ r. SameVerdict (YesBelow imports entries n i e) (NoBelow imports entries n i e) (Holds r c) (¬ Holds r c) in
        let Q : Relation → Type 0 = λ r. All (HasOrder orders) (variables_of_basic r) in
        subst P (sym unfolds.3)
        (at_node imports entries n i _ e _ _ below unfolds.1 (λ m le. same_basic orders names e c reads unfolds.0 unfolds.2 (subst Q unfolds.3 ordered)))
    same_formula (negation f) ordered names i n e c unfolds below reads =
        at_node imports entries n i _ e _ _ below unfolds.1
        (λ m le. same_negation (child_same f (λ ns j k. same_formula f ordered ns j k) names i m unfolds.0 e c unfolds.2 le reads))
    same_formula (conjunction fs) ordered names i n e c unfolds below reads =
        at_node imports entries n i _ e _ _ below unfolds.1
        (λ m le. let each = same_forms fs ordered names i m unfolds.0 e c unfolds.2 le reads in same_conjunction each.0 each.1)
    same_formula (disjunction fs) ordered names i n e c unfolds below reads =
        at_node imports entries n i _ e _ _ below unfolds.1
        (λ m le. let each = same_forms fs ordered names i m unfolds.0 e c unfolds.2 le reads in same_disjunction each.0 each.1)
    same_formula (implication f g) ordered names i n e c unfolds below reads =
        at_node imports entries n i _ e _ _ below unfolds.2
        (λ m le. same_implication (child_same f (λ ns j k. same_formula f ordered.0 ns j k) names i m unfolds.0 e c unfolds.3 le reads) (child_same g (λ ns j k. same_formula g ordered.1 ns j k) names i m unfolds.1 e c unfolds.4 le reads))
    same_formula (equivalence f g) ordered names i n e c unfolds below reads =
        at_node imports entries n i _ e _ _ below unfolds.2
        (λ m le. same_equivalence (child_same f (λ ns j k. same_formula f ordered.0 ns j k) names i m unfolds.0 e c unfolds.3 le reads) (child_same g (λ ns j k. same_formula g ordered.1 ns j k) names i m unfolds.1 e c unfolds.4 le reads))
    same_formula (restrict f) ordered names i n e c unfolds below reads =
        at_node imports entries n i _ e _ _ below unfolds.1
        (λ m le. same_restrict (child_same f (λ ns j k. same_formula f ordered ns j k) names i m unfolds.0 e c unfolds.2 le reads))
    same_formula (imported k xs) ordered names i n e c unfolds below reads =
        let Q : List ℕ → Type 0 = λ ys. All (HasOrder orders) (variables_at ys (variables_of_import (slice_get imports k))) in
        let same : answer_over (slice_get imports k) unfolds.0 e ≡ answer_over (slice_get imports k) xs c =
        same_answer orders names e c reads (slice_get imports k) unfolds.0 unfolds.2 (subst Q unfolds.3 ordered) ∙ ap (λ ys. answer_over (slice_get imports k) ys c) (sym unfolds.3) in
        at_node imports entries n i _ e _ _ below unfolds.1 (λ m le. record {
          yes_to = λ h. sym same ∙ h;
          yes_from = λ h. same ∙ h;
          no_to = λ h. sym same ∙ h;
          no_from = λ h. same ∙ h;
        })
    same_formula (quantified Ex o x d f) ordered names i n e c unfolds below reads =
        at_node imports entries n i _ e _ _ below unfolds.2
        (λ m le. same_some (λ v in_range. (same_range d ordered.1 names i m unfolds.0 o x v e c ordered.0 unfolds.3 unfolds.4 le reads).to in_range)
        (λ v in_range. (same_range d ordered.1 names i m unfolds.0 o x v e c ordered.0 unfolds.3 unfolds.4 le reads).from in_range)
        (λ v in_range. child_same f (λ ns j k. same_formula f ordered.2 ns j k) (names ++ x ∷ []) i m unfolds.1 (assign (length names) v e) (assign x v c) unfolds.5 le
        (bound_read orders names o x v e c reads unfolds.3 ordered.0 in_range.0)))
    same_formula (quantified Every o x d f) ordered names i n e c unfolds below reads =
        at_node imports entries n i _ e _ _ below unfolds.2
        (λ m le. same_every (λ v in_range. (same_range d ordered.1 names i m unfolds.0 o x v e c ordered.0 unfolds.3 unfolds.4 le reads).to in_range)
        (λ v in_range. (same_range d ordered.1 names i m unfolds.0 o x v e c ordered.0 unfolds.3 unfolds.4 le reads).from in_range)
        (λ v in_range. child_same f (λ ns j k. same_formula f ordered.2 ns j k) (names ++ x ∷ []) i m unfolds.1 (assign (length names) v e) (assign x v c) unfolds.5 le
        (bound_read orders names o x v e c reads unfolds.3 ordered.0 in_range.0)))

    same_forms : (fs : CoreForms) → EachHasItsOrders imports orders fs → (names : List ℕ) (i m : ℕ) (children : List Child) (e c : Env) → UnfoldEach entries fs names i children → i ≤ m →
        ReadsAs orders names e c →
        SameOfEach (EachIs (λ j there. YesBelow imports entries m j there) children e) (EachIs (λ j there. NoBelow imports entries m j there) children e)
        (EachIsDefined (λ j there. YesBelow imports entries m j there) (λ j there. NoBelow imports entries m j there) children e)
        (SomeIs (λ j there. YesBelow imports entries m j there) children e) (SomeIs (λ j there. NoBelow imports entries m j there) children e)
        (AllCoreYes imports fs c) (AllCoreNo imports fs c) (AllCoreDefined imports fs c) (SomeCoreYes imports fs c) (SomeCoreNo imports fs c)
        × SameOfEach (AllCoreYes imports fs c) (AllCoreNo imports fs c) (AllCoreDefined imports fs c) (SomeCoreYes imports fs c) (SomeCoreNo imports fs c)
        (EachIs (λ j there. YesBelow imports entries m j there) children e) (EachIs (λ j there. NoBelow imports entries m j there) children e)
        (EachIsDefined (λ j there. YesBelow imports entries m j there) (λ j there. NoBelow imports entries m j there) children e)
        (SomeIs (λ j there. YesBelow imports entries m j there) children e) (SomeIs (λ j there. NoBelow imports entries m j there) children e)
    same_forms no_forms ordered names i m [] e c unfolds le reads = (none_same, none_same)
    same_forms no_forms ordered names i m (child ∷ children) e c unfolds le reads = absurd unfolds
    same_forms (more_forms f fs) ordered names i m [] e c unfolds le reads = absurd unfolds
    same_forms (more_forms f fs) ordered names i m (child ∷ children) e c unfolds le reads =
        let first = child_same f (λ ns j k. same_formula f ordered.0 ns j k) names i m child e c unfolds.0 le reads in
        let others = same_forms fs ordered.1 names i m children e c unfolds.1 le reads in
        (more_same first others.0, more_same (same_swapped first) others.1)

    same_range : (d : CoreRestriction) → RestrictionHasItsOrders imports orders d → (names : List ℕ) (i m : ℕ) (domain : Option Child) (o : Order) (x : ℕ) (v : Value) (e c : Env) →
        HasOrder orders (variable x o) → AreBelow x names → UnfoldsIn entries d (names ++ x ∷ []) i domain → i ≤ m → ReadsAs orders names e c →
        BothWays (InRange o (length names) (λ there. IsMetBy (λ j here. YesBelow imports entries m j here) domain there) e v) (InRange o x (λ there. IsCoreMet imports d there) c v)
    same_range unrestricted ordered names i m None o x v e c bound greater unfolds le reads = record {
      to = λ in_range. (moved_value o v e c reads.universe in_range.0, tt);
      from = λ in_range. (moved_value o v c e (sym reads.universe) in_range.0, tt);
    }
    same_range unrestricted ordered names i m (Some child) o x v e c bound greater unfolds le reads = absurd unfolds
    same_range (restricted d) ordered names i m None o x v e c bound greater unfolds le reads = absurd unfolds
    same_range (restricted d) ordered names i m (Some child) o x v e c bound greater unfolds le reads = record {
      to = λ in_range.
          (moved_value o v e c reads.universe in_range.0, (child_same d (λ ns j k. same_formula d ordered ns j k) (names ++ x ∷ []) i m child (assign (length names) v e) (assign x v c) unfolds le (bound_read orders names o x v e c reads greater bound in_range.0)).yes_to in_range.1);
      from = λ in_range.
          let there = moved_value o v c e (sym reads.universe) in_range.0 in
          (there, (child_same d (λ ns j k. same_formula d ordered ns j k) (names ++ x ∷ []) i m child (assign (length names) v e) (assign x v c) unfolds le (bound_read orders names o x v e c reads greater bound there)).yes_from in_range.1);
    }

pub node_has_value_of_formula : NodeHasValueOfFormula
node_has_value_of_formula imports entries orders f names i e c ordered unfolds reads =
    let same = same_formula imports entries orders f ordered names i (suc i) e c unfolds (omega arith) reads in
    ((same.yes_to, same.yes_from), (same.no_to, same.no_from))
