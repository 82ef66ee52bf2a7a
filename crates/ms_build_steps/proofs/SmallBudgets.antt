-- The budgets of the steps of var2 P, Q; P sub Q.
use Rattle.std.proofs.Common.{◌≡◌, ℕ, zero, suc, ◌+◌, ◌<◌, [], ◌∷◌, Contains, refl, sym, ap, ap₂, subst, ◌∙◌, arith}
use Rattle.ms_logic.specs.inner.Examples.{set_P_and_Q}
use Rattle.ms_logic.specs.declared.mode.Mode.TheVariants.{Ws1s}
use Rattle.ms_logic_core.specs.CoreForm.{basic}
use Rattle.ms_logic_core.specs.Roots.{main_root}
use Rattle.ms_logic_core.specs.declared.core_formula.Basic.TheVariants.{Sub}
use Rattle.ms_logic_core.specs.inner.SpreadExamples.{subset_source}
use Rattle.ms_logic_measures.specs.Budgets.{IsWideningMeasure, budget}
use Rattle.ms_logic_measures.specs.CallMeasures.{IsBasicMeasure, LeadToPairs, LeaveSameOfBoth}
use Rattle.ms_logic_measures.specs.FullContent.{part_count}
use Rattle.ms_logic_measures.specs.Starts.{IsStartOver, Start}
use Rattle.ms_logic_measures.specs.Steps.{relation, root}
use Rattle.ms_logic_measures.proofs.FullContents.{full_subset, full_true}
use Rattle.ms_logic_measures.proofs.OnlySubset.{only_subset, only_true}
use Rattle.ms_logic_measures.proofs.Pigeonhole.{one_count}
use Rattle.ms_logic_measures.proofs.SubsetStarts.{subset_pairs}
use Rattle.ms_logic_words.specs.Content.{Content}
use Rattle.ms_logic_words.specs.declared.sign.Sign.{Sign}
use Rattle.ms_logic_words.specs.inner.ContentExamples.{encodings_content, full_subset_content}
use Rattle.ms_build_steps.specs.Kinds.{IsBelowKind, IsMeasureOfKind, Kind, itself, widening}
use Rattle.ms_build_steps.proofs.StepKinds.{below_itself, itself_there}

-- the relation has four states and nodes
own_measure : IsBasicMeasure Ws1s (Sub 0 1) 4 0
own_measure = record { made = (full_subset_content, full_subset, refl); read = refl }

only_measure : (m r : ℕ) → IsBasicMeasure Ws1s (Sub 0 1) m r → 9215 < budget m r
only_measure m r measure =
    let four : m ≡ 4 = measure.made.2 ∙ ap part_count (only_subset measure.made.0 measure.made.1) in
    subst (λ n. 9215 < budget m n) (sym measure.read) (subst (λ n. 9215 < budget n 0) (sym four) (omega arith))

pub relation_below : IsBelowKind [] Ws1s (relation (Sub 0 1)) 9215
relation_below = below_itself [] Ws1s 9215 (relation (Sub 0 1)) itself_there (λ files m r measure. only_measure m r measure)

-- a member of a list of one kind is that kind
only_kind : (first kind : Kind) → Contains (first ∷ []) kind → first ≡ kind
only_kind first kind (zero, below, same) = same
only_kind first kind (suc k, below, same) = absurd (omega (arith, below))

pub relation_not_below : IsBelowKind [] Ws1s (relation (Sub 0 1)) 9216 → ⊥
relation_not_below is =
    let own = only_kind itself is.kind is.has in
    let here = is.below [] 4 0 (subst (λ kind. IsMeasureOfKind [] Ws1s [] (relation (Sub 0 1)) kind 4 0) own own_measure) in
    omega (arith, here)

-- being led to one pair is symmetric and transitive
pairs_turned : {A B : Type 0} (left : Content A) (right : Content B) (one other : Start) → LeaveSameOfBoth left right set_P_and_Q one other → LeaveSameOfBoth left right set_P_and_Q other one
pairs_turned left right one other same = (λ rest. sym (same.0 rest), λ rest. sym (same.1 rest))

pairs_through : {A B : Type 0} (left : Content A) (right : Content B) (one two three : Start) → LeaveSameOfBoth left right set_P_and_Q one two → LeaveSameOfBoth left right set_P_and_Q two three
    → LeaveSameOfBoth left right set_P_and_Q one three
pairs_through left right one two three same same_too = (λ rest. same.0 rest ∙ same_too.0 rest, λ rest. same.1 rest ∙ same_too.1 rest)

-- the widening of the root has four pairs, and five states and nodes are read
root_measure : IsWideningMeasure [] Ws1s (basic (Sub 0 1)) set_P_and_Q 4 5
root_measure = record { content = full_subset_content; encodings = encodings_content; of_formula = full_subset; of_true = full_true; made = subset_pairs; read = refl }

only_widening : (m r : ℕ) → IsWideningMeasure [] Ws1s (basic (Sub 0 1)) set_P_and_Q m r → 30975 < budget m r
only_widening m r measure =
    let same = only_subset measure.content measure.of_formula in
    let same_true = only_true measure.encodings measure.of_true in
    let pairs : LeadToPairs full_subset_content encodings_content set_P_and_Q m =
    subst (λ c. LeadToPairs c encodings_content set_P_and_Q m) same (subst (λ c. LeadToPairs measure.content c set_P_and_Q m) same_true measure.made) in
    let four : m ≡ 4 =
    one_count (LeaveSameOfBoth full_subset_content encodings_content set_P_and_Q) (IsStartOver set_P_and_Q)
    (pairs_turned full_subset_content encodings_content) (pairs_through full_subset_content encodings_content) m 4 pairs subset_pairs in
    let five : r ≡ 5 = measure.read ∙ ap₂ (λ (a : Content Sign) (b : Content Sign). part_count a + part_count b) same same_true in
    subst (λ n. 30975 < budget m n) (sym five) (subst (λ n. 30975 < budget n 5) (sym four) (omega arith))

pub root_below : IsBelowKind [] Ws1s (root (main_root subset_source)) 30975
root_below = record { kind = widening; has = (0, omega arith, refl); below = λ files m r measure. only_widening m r measure }

pub root_not_below : IsBelowKind [] Ws1s (root (main_root subset_source)) 30976 → ⊥
root_not_below is =
    let own = only_kind widening is.kind is.has in
    let here = is.below [] 4 5 (subst (λ kind. IsMeasureOfKind [] Ws1s [] (root (main_root subset_source)) kind 4 5) own root_measure) in
    omega (arith, here)
