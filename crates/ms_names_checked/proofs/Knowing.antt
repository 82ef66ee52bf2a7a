-- What is known of a scope with more names, or where more is read.
use Rattle.std.proofs.Common.{◌≡◌, ℕ, ◌+◌, ◌<◌, ◌≤◌, ◌↔◌, inl, List, [], ◌∷◌, length, ap, subst, arith}
use Rattle.std.specs.Prelude.{flat_map}
use Rattle.ms_logic.specs.declared.mode.Order.{Order}
use Rattle.ms_logic.specs.declared.mode.Order.TheVariants.{Zero, One, Two}
use Rattle.ms_logic.specs.Assignment.{Variable}
use Rattle.ms_logic.specs.FreeVariables.{Reads, reads_with_predicate}
use Rattle.ms_logic.specs.Tree.{Predicate}
use Rattle.ms_names_rules.specs.declared.meaning.Meaning.TheVariants as meaning
use Rattle.ms_names_rules.specs.declared.meaning.Reading.TheVariants as reading
use Rattle.ms_names_rules.specs.Scope.{Bytes, Scope, bind, count_of_bounds, under_bounds, with_default}
use Rattle.ms_parse_grammar.specs.Tree.{Variables, no_variables, and_variable}
use Rattle.ms_names_rules.specs.Declarations.{with_readings}
use Rattle.ms_names_rules.specs.inner.Free.{Readings}
use Rattle.ms_logic.specs.Lists.{Each}
use Rattle.ms_names_rules.specs.Occurrence.{Occurrence}
use Rattle.ms_names_rules.specs.Reads.{readings_at}
use Rattle.ms_names_rules.proofs.Fitting.{IsBelow, below-more, each-weaker}
use Rattle.ms_names_checked.proofs.Leading.{LeadsTo, leads-earlier}
use Rattle.ms_names_checked.proofs.Predicates.{AgreeBelow, agree-next}
use Rattle.ms_names_checked.proofs.Scopes.{IsDefault, IsInScope, IsOld, IsPredicate, Knows, Names, both-ways, defaults-more, entries-more, knows-bind}

-- the same is known later, or of reads that agree with those
pub knows-later : (r t : Reads) (R : List Readings) (low high more : ℕ) (s : Scope) → high ≤ more → AgreeBelow (length R) r t → Knows r R low high s → Knows t R low more s
knows-later r t R low high more s le agree knows =
    let leads : (x p : ℕ) → p < length R → LeadsTo R x (reading.Predicate p) ↔ LeadsTo R x (reading.Predicate p) = λ x p less. both-ways (LeadsTo R x (reading.Predicate p)) in
    let within : (w : Variable) → IsInScope s.names w → IsInScope s.names w = λ w seen. seen in
    let apart : (w : Variable) → IsInScope s.names w → IsOld low high s.names w.name → IsInScope s.names w = λ w seen old. seen in
    record {
      readings = knows.readings;
      names = entries-more r t R R low high more s.names s.names le (omega arith) leads agree.called agree.default within apart s.names knows.names;
      numbers = defaults-more r t R R low high more s.names s.names le (omega arith) leads agree.called agree.default within apart One s.default_of_numbers knows.numbers;
      sets = defaults-more r t R R low high more s.names s.names le (omega arith) leads agree.called agree.default within apart Two s.default_of_sets knows.sets;
      falls = knows.falls;
    }

pub agree-same : (m : ℕ) (r : Reads) → AgreeBelow m r r
agree-same m r = record { called = λ p orders w less. (λ h. h, λ h. h); default = λ p x w less. (λ h. h, λ h. h); imported = λ i w. (λ h. h, λ h. h) }

-- with a constant
pub knows-constant : (r : Reads) (R : List Readings) (low high : ℕ) (s : Scope) (n : Bytes) (value : ℕ) → Knows r R low high s →
    Knows r R low high (bind n (meaning.Constant value) s)
knows-constant r R low high s n value knows =
    let wide : Names = (n, meaning.Constant value) ∷ s.names in
    let leads : (x p : ℕ) → p < length R → LeadsTo R x (reading.Predicate p) ↔ LeadsTo R x (reading.Predicate p) = λ x p less. both-ways (LeadsTo R x (reading.Predicate p)) in
    let same = agree-same (length R) r in
    let within : (w : Variable) → IsInScope s.names w → IsInScope wide w = λ w seen. seen in
    let apart : (w : Variable) → IsInScope wide w → IsOld low high s.names w.name → IsInScope s.names w = λ w seen old. seen in
    record {
      readings = knows.readings;
      names = (tt, entries-more r r R R low high high s.names wide (omega arith) (omega arith) leads same.called same.default within apart s.names knows.names);
      numbers = defaults-more r r R R low high high s.names wide (omega arith) (omega arith) leads same.called same.default within apart One s.default_of_numbers knows.numbers;
      sets = defaults-more r r R R low high high s.names wide (omega arith) (omega arith) leads same.called same.default within apart Two s.default_of_sets knows.sets;
      falls = knows.falls;
    }

-- with globals, whose numbers go on from x
pub knows-globals : (r : Reads) (R : List Readings) (low high : ℕ) (s : Scope) (x : ℕ) (vs : Variables) → x + count_of_bounds vs ≤ low → Each (IsBelow x) s.names → Knows r R low high s →
    Knows r R low high (under_bounds s x vs) × Each (IsBelow (x + count_of_bounds vs)) (under_bounds s x vs).names
knows-globals r R low high s x no_variables le below knows = (knows, each-weaker (IsBelow x) (IsBelow (x + 0)) s.names (below-more x (x + 0) (omega arith)) below)
knows-globals r R low high s x (and_variable vs at o n d) le below knows =
    let z = x + count_of_bounds vs in
    let there = under_bounds s x vs in
    let before = knows-globals r R low high s x vs (omega (arith, le)) below knows in
    let same : z + 1 ≡ x + count_of_bounds (and_variable vs at o n d) = omega arith in
    let more : Each (IsBelow (z + 1)) (bind n (meaning.Variable z o) there).names =
    (omega arith, each-weaker (IsBelow z) (IsBelow (z + 1)) there.names (below-more z (z + 1) (omega arith)) before.1) in (
      knows-bind r R low high there z o n before.0 before.1 (inl (omega (arith, le))),
      subst (λ y. Each (IsBelow y) (bind n (meaning.Variable z o) there).names) same more,
    )

-- with one more predicate, which is not named yet
pub knows-next : (r : Reads) (R : List Readings) (low high more : ℕ) (s : Scope) (os : List Occurrence) (p : Predicate) → high ≤ more → s.readings ≡ R → Knows r R low high s →
    Knows (reads_with_predicate r (length R) p) (flat_map readings_at os ∷ R) low more (with_readings os s)
knows-next r R low high more s os p le same knows =
    let S = flat_map readings_at os ∷ R in
    let t = reads_with_predicate r (length R) p in
    let agree = agree-next (length R) r p in
    let leads : (x q : ℕ) → q < length R → LeadsTo R x (reading.Predicate q) ↔ LeadsTo S x (reading.Predicate q) =
    λ x q less. (λ h. inl h, leads-earlier (flat_map readings_at os) R x q less) in
    let within : (w : Variable) → IsInScope s.names w → IsInScope s.names w = λ w seen. seen in
    let apart : (w : Variable) → IsInScope s.names w → IsOld low high s.names w.name → IsInScope s.names w = λ w seen old. seen in
    record {
      readings = ap (λ rest. flat_map readings_at os ∷ rest) same;
      names = entries-more r t R S low high more s.names s.names le (omega arith) leads agree.called agree.default within apart s.names knows.names;
      numbers = defaults-more r t R S low high more s.names s.names le (omega arith) leads agree.called agree.default within apart One s.default_of_numbers knows.numbers;
      sets = defaults-more r t R S low high more s.names s.names le (omega arith) leads agree.called agree.default within apart Two s.default_of_sets knows.sets;
      falls = knows.falls;
    }

-- and is named
pub knows-named : (r : Reads) (R : List Readings) (low high : ℕ) (s : Scope) (n : Bytes) (p : ℕ) (orders : List Order) → IsPredicate r R low high s.names p orders → Knows r R low high s →
    Knows r R low high (bind n (meaning.Predicate p orders) s)
knows-named r R low high s n p orders is knows =
    let wide : Names = (n, meaning.Predicate p orders) ∷ s.names in
    let leads : (x q : ℕ) → q < length R → LeadsTo R x (reading.Predicate q) ↔ LeadsTo R x (reading.Predicate q) = λ x q less. both-ways (LeadsTo R x (reading.Predicate q)) in
    let same = agree-same (length R) r in
    let within : (w : Variable) → IsInScope s.names w → IsInScope wide w = λ w seen. seen in
    let apart : (w : Variable) → IsInScope wide w → IsOld low high s.names w.name → IsInScope s.names w = λ w seen old. seen in
    let all = entries-more r r R R low high high s.names wide (omega arith) (omega arith) leads same.called same.default within apart in
    record {
      readings = knows.readings;
      names = ((all ((n, meaning.Predicate p orders) ∷ []) (is, tt)).0, all s.names knows.names);
      numbers = defaults-more r r R R low high high s.names wide (omega arith) (omega arith) leads same.called same.default within apart One s.default_of_numbers knows.numbers;
      sets = defaults-more r r R R low high high s.names wide (omega arith) (omega arith) leads same.called same.default within apart Two s.default_of_sets knows.sets;
      falls = knows.falls;
    }

-- or holds as a default
pub knows-default : (r : Reads) (R : List Readings) (low high : ℕ) (s : Scope) (o : Order) (p : ℕ) → IsDefault r R low high s.names o p → Knows r R low high s →
    Knows r R low high (with_default o p s)
knows-default r R low high s Zero p is knows = knows
knows-default r R low high s One p is knows = record { readings = knows.readings; names = knows.names; numbers = is; sets = knows.sets; falls = knows.falls }
knows-default r R low high s Two p is knows = record { readings = knows.readings; names = knows.names; numbers = knows.numbers; sets = is; falls = knows.falls }
