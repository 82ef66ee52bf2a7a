-- The body of a quantifier, over more variables, lacks nodes only below a budget that counts the parts of two contents which fix its states.
use Rattle.std.proofs.Common.{◌≡◌, ℕ, ◌+◌, ◌*◌, ◌<◌, ◌≤◌, ⊎_elim, inl, inr, List, slice_get, ap, subst, sym, ◌∙◌, arith}
use Rattle.std.proofs.lemmas.Option.{same_Some}
use Rattle.std.proofs.Math.Nat.{mul-le-mul}
use Rattle.ms_build.specs.Short.{ChildLacks, IsWideShort}
use Rattle.ms_build.specs.declared.plan.Plan.{Plan}
use Rattle.ms_dag.specs.declared.node.Child.{Child}
use Rattle.ms_dfa_explore.specs.Tracks.{merged, place_of}
use Rattle.ms_dfa_explore.proofs.TracksLemmas.{merged-left, merged-right, merged-rising, place_of-among}
use Rattle.ms_logic.specs.Assignment.{Variable}
use Rattle.ms_logic.specs.Lists.{AreRising, IsAmong}
use Rattle.ms_logic_measures.specs.Budgets.{budget}
use Rattle.ms_logic_measures.specs.FullContent.{part_count}
use Rattle.ms_logic_words.specs.Content.{Content}
use Rattle.ms_logic_words.specs.declared.sign.Sign.{Sign}
use Rattle.ms_product.specs.Combined.{HaveEqualOrders}
use Rattle.ms_product.specs.Pairing.{AreAtLeast, HaveRisingMaps, operands_of}
use Rattle.ms_product.specs.declared.op.Op.{Op}
use Rattle.ms_product.proofs.WidenedLemmas.{IsRisingMap-among}
use Rattle.ms_rename.specs.Whole.{IsSmallWhole}
use Rattle.ms_wider_parts.specs.Fixed.{IsFixedBy}
use Rattle.ms_wider_parts.proofs.Pairs.{products_need_few}

-- two automata read their variables by rising maps among the variables of both
rising_maps : (one other : Content Sign) → AreRising one.variables → AreRising other.variables → HaveEqualOrders one.variables other.variables → HaveRisingMaps (operands_of one other)
rising_maps one other one_rises other_rises equal =
    let wide = merged one.variables other.variables in
    let rises : AreRising wide = merged-rising one.variables other.variables one_rises other_rises in
    record {
      left = IsRisingMap-among one.variables wide one_rises rises (λ v there. merged-left one.variables other.variables v there);
      right = IsRisingMap-among other.variables wide other_rises rises
          (λ v there. merged-right one.variables other.variables v (λ u is_left same. equal u v is_left there same) there);
    }

-- each budget that counts the parts of two contents is more than 64 times the number of their pairs
pairs_are_below : (a b few m r : ℕ) → r ≡ a + b → few ≤ 32 → 2 * ((a * b) * few) < budget m r
pairs_are_below a b few m r read small =
    let sum : ℕ = m + r + 2 in
    let first : a ≤ sum = omega (arith, read) in
    let second : b ≤ sum = omega (arith, read) in
    let pairs : a * b ≤ sum * sum = mul-le-mul first second in
    let triples : (a * b) * few ≤ (sum * sum) * 32 = mul-le-mul pairs small in
    let two : 2 ≤ sum = omega arith in
    let some : 2 * 2 ≤ sum * sum = mul-le-mul two two in
    omega (arith, triples, some)

-- each budget is more than 1,000
hundreds : (m r : ℕ) → 32 ≤ budget m r
hundreds m r =
    let square : (m + r + 2) * (m + r + 2) ≡ (m + r) * (m + r) + 4 * (m + r) + 4 = grind arith in
    omega (arith, square)

-- an automaton whose states two contents fix, as an operand of a small automaton that holds everywhere, lacks nodes only under a limit
-- below each budget that counts the parts of both contents
pub fixed_widenings_are_below : (limit : ℕ) (wide content encodings : Content Sign) (next : List Variable) → AreRising wide.variables → HaveEqualOrders wide.variables next
    → IsFixedBy wide content encodings → IsWideShort limit wide next → (m r : ℕ) → r ≡ part_count content + part_count encodings → limit < budget m r
fixed_widenings_are_below limit wide content encodings next rising equal fixed short m r read = ⊎_elim
    (λ small. let enough = hundreds m r in omega (arith, small, enough))
    (λ whole. by whole.0 whole.1 whole.2)
    short
  where
    by : (other : Content Sign) → IsSmallWhole next other → AreAtLeast limit Op.And (operands_of wide other) → limit < budget m r
    by other is_small least =
        let few = is_small.few in
        let same : HaveEqualOrders wide.variables other.variables = subst (HaveEqualOrders wide.variables) (sym is_small.whole.variables) equal in
        let needs = products_need_few Op.And (operands_of wide other) content encodings (rising_maps wide other rising is_small.automaton.rising same) fixed
        is_small.automaton.ordered is_small.automaton.closed limit least in
        let below = pairs_are_below (part_count content) (part_count encodings) (part_count other) m r read (omega (arith, few)) in
        omega (arith, needs, below)

-- two lists of variables among rising ones have no two variables of one number
equal_among : (wanted left right : List Variable) → AreRising wanted → ((v : Variable) → IsAmong left v → IsAmong wanted v) → ((v : Variable) → IsAmong right v → IsAmong wanted v) → HaveEqualOrders left right
equal_among wanted left right rising left_among right_among v w is also same =
    same_Some v w (sym (place_of-among wanted v rising (left_among v is)) ∙ ap (λ n. slice_get wanted (place_of n wanted)) same ∙ place_of-among wanted w rising (right_among w also))

-- a child that lacks nodes on the way to variables among which its own are
module _ (plan : Plan) (child : Child) (wanted : List Variable) (rising : AreRising wanted) (lacks : ChildLacks plan child wanted) (part_among : (v : Variable) → IsAmong lacks.part.variables v → IsAmong wanted v) where
  pub wide_among : (v : Variable) → IsAmong lacks.short.wide.variables v → IsAmong wanted v
  wide_among v there = ⊎_elim (λ inner. part_among v inner) (λ more. lacks.short.among v (inl more)) ((lacks.short.is_wide.variables v).0 there)

  -- it lacks them only under a limit below each such budget, where two contents fix the states of its automaton over some of these
  -- variables
  pub fixed_children_are_below : (content encodings : Content Sign) → IsFixedBy lacks.short.wide content encodings → (m r : ℕ) → r ≡ part_count content + part_count encodings → plan.limit < budget m r
  fixed_children_are_below content encodings fixed m r read =
      fixed_widenings_are_below plan.limit lacks.short.wide content encodings lacks.short.next lacks.short.automaton.rising
      (equal_among wanted lacks.short.wide.variables lacks.short.next rising wide_among (λ v there. lacks.short.among v (inr there))) fixed lacks.short.short m r read
