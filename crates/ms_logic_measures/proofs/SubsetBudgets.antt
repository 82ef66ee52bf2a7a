-- The budgets of all steps of the source var2 P, Q; P sub Q.
use Rattle.std.proofs.Common.{◌≡◌, ℕ, zero, suc, ◌+◌, ◌≤◌, inl, inr, [], ◌∷◌, Contains, sym, ◌∙◌, ap, ap₂, subst, arith}
use Rattle.ms_logic.specs.declared.mode.Mode.TheVariants.{Ws1s}
use Rattle.ms_logic_core.specs.declared.core_formula.Basic.TheVariants.{Sub}
use Rattle.ms_logic_words.specs.declared.sign.Sign.{Sign}
use Rattle.ms_logic_measures.specs.inner.BudgetExamples.{measured_subset}
use Rattle.ms_logic_words.specs.inner.ContentExamples.{full_subset_content, encodings_content}
use Rattle.ms_logic_measures.specs.Budgets.{IsWideningMeasure, IsMeasure, IsEnough, budget}
use Rattle.ms_logic_measures.specs.CallMeasures.{LeaveSameOfBoth, LeadToPairs, IsBasicMeasure}
use Rattle.ms_logic_words.specs.Content.{Content}
use Rattle.ms_logic_core.specs.CoreForm.{basic}
use Rattle.ms_logic.specs.inner.Examples.{set_P_and_Q}
use Rattle.ms_logic_measures.specs.FullContent.{part_count}
use Rattle.ms_logic_core.specs.Roots.{Root, main_root}
use Rattle.ms_logic_core.specs.inner.SpreadExamples.{subset_source}
use Rattle.ms_logic_measures.specs.Starts.{Start, IsStartOver}
use Rattle.ms_logic_measures.specs.Steps.{Step, relation, root, steps_of}
use Rattle.ms_logic_measures.proofs.SubsetStarts.{subset_pairs}
use Rattle.ms_logic_measures.proofs.OnlySubset.{only_subset, only_true}
use Rattle.ms_logic_measures.proofs.Pigeonhole.{one_count}

-- being led to one pair is symmetric and transitive
pairs_turned : {A B : Type 0} (left : Content A) (right : Content B) (one other : Start) → LeaveSameOfBoth left right set_P_and_Q one other → LeaveSameOfBoth left right set_P_and_Q other one
pairs_turned left right one other same = (λ rest. sym (same.0 rest), λ rest. sym (same.1 rest))

pairs_through : {A B : Type 0} (left : Content A) (right : Content B) (one two three : Start) →
    LeaveSameOfBoth left right set_P_and_Q one two → LeaveSameOfBoth left right set_P_and_Q two three → LeaveSameOfBoth left right set_P_and_Q one three
pairs_through left right one two three same same_too = (λ rest. same.0 rest ∙ same_too.0 rest, λ rest. same.1 rest ∙ same_too.1 rest)

-- the root: four pairs, and five states and nodes
root_within : (m r : ℕ) → IsWideningMeasure [] Ws1s (basic (Sub 0 1)) set_P_and_Q m r → budget m r ≤ 30976
root_within m r measure =
    let same = only_subset measure.content measure.of_formula in
    let same_true = only_true measure.encodings measure.of_true in
    let pairs : LeadToPairs full_subset_content encodings_content set_P_and_Q m =
    subst (λ c. LeadToPairs c encodings_content set_P_and_Q m) same (subst (λ c. LeadToPairs measure.content c set_P_and_Q m) same_true measure.made) in
    let four : m ≡ 4 =
    one_count (LeaveSameOfBoth full_subset_content encodings_content set_P_and_Q) (IsStartOver set_P_and_Q)
    (pairs_turned full_subset_content encodings_content) (pairs_through full_subset_content encodings_content) m 4 pairs subset_pairs in
    let five : r ≡ 5 = measure.read ∙ ap₂ (λ (a : Content Sign) (b : Content Sign). part_count a + part_count b) same same_true in
    subst (λ n. budget m n ≤ 30976) (sym five) (subst (λ n. budget n 5 ≤ 30976) (sym four) (omega arith))

-- the relation: its full content is that of P sub Q
relation_within : (m r : ℕ) → IsBasicMeasure Ws1s (Sub 0 1) m r → budget m r ≤ 30976
relation_within m r measure =
    let four : m ≡ 4 = measure.made.2 ∙ ap part_count (only_subset measure.made.0 measure.made.1) in
    subst (λ n. budget m n ≤ 30976) (sym measure.read) (subst (λ n. budget n 0 ≤ 30976) (sym four) (omega arith))

-- the steps of the root are the root and the relation
of_root : (step : Step) → Contains (root (main_root subset_source) ∷ relation (Sub 0 1) ∷ []) step → (m r : ℕ) → IsMeasure measured_subset step m r → budget m r ≤ 30976
of_root step (zero, below, same) m r measure = root_within m r (subst (λ s. IsMeasure measured_subset s m r) (sym same) measure)
of_root step (suc zero, below, same) m r measure = relation_within m r (subst (λ s. IsMeasure measured_subset s m r) (sym same) measure)
of_root step (suc (suc k), below, same) m r measure = absurd (omega (arith, below))

pub enough_for_subset : IsEnough measured_subset 30976
enough_for_subset step (inl (zero, whole, is, contains)) m r measure =
    of_root step (subst (λ (w : Root). Contains (root w ∷ steps_of w.formula) step) is contains) m r measure
enough_for_subset step (inl (suc i, whole, is, contains)) m r measure = absurd (let export = is.2 in let below = export.1 in omega (arith, below))
enough_for_subset step (inr (i, below, same)) m r measure = absurd (omega (arith, below))
