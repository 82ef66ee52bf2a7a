-- Why a step is refused for want of nodes, where what refused it says so.
use Rattle.std.proofs.Common.{◌≡◌, ℕ, Result, Ok, Err, List, length, refl, sym, subst}
use Rattle.ms_dfa_explore.specs.Explored.{OnRefused}
use Rattle.ms_list.specs.declared.fault.StepFault.{StepFault}
use Rattle.ms_list.specs.declared.fault.StepFault.TheVariants.{Memory, Nodes}
use Rattle.ms_edge.specs.declared.refusal.Refusal.{Refusal}
use Rattle.ms_logic_words.specs.Content.{Content}
use Rattle.ms_logic_words.specs.declared.sign.Sign.{Sign}
use Rattle.ms_build.specs.declared.plan.Plan.{Plan}
use Rattle.ms_build.specs.Built.{refusal_of}
use Rattle.ms_build.specs.Short.{IsStepRefused, NodeLacks}

-- a result that is handed on
pub refused_more : {A : Type 0} (P Q : ℕ → Type 0) (result : Result A StepFault) → ((limit : ℕ) → P limit → Q limit) → OnRefused result P → OnRefused result Q
refused_more P Q (Ok made) more why = tt
refused_more P Q (Err Memory) more why = tt
refused_more P Q (Err (Nodes limit)) more why = more limit why

-- a fault that is handed on as that of another result
same_fault : (A B : Type 0) (P : ℕ → Type 0) (fault : StepFault) → OnRefused {A = A} (Err fault) P → OnRefused {A = B} (Err fault) P
same_fault A B P Memory why = tt
same_fault A B P (Nodes limit) why = why

pub fault_more : (A : Type 0) {B : Type 0} (P Q : ℕ → Type 0) (fault : StepFault) (result : Result B StepFault) → result ≡ Err fault → ((limit : ℕ) → P limit → Q limit) → OnRefused {A = A} (Err fault) P
    → OnRefused result Q
fault_more A {B} P Q fault result same more why = subst (λ r. OnRefused r Q) (sym same) (refused_more {A = B} P Q (Err fault) more (same_fault A B P fault why))

-- a step that lacks nodes, by the number of its node
pub step_refused : (A : Type 0) (plan : Plan) (step : ℕ) (built : List (Content Sign)) (fault : StepFault) → length built ≡ step → (refusal : Refusal) → refusal ≡ refusal_of step plan.limit fault
    → OnRefused {A = A} (Err fault) (λ refused. NodeLacks plan (length built)) → IsStepRefused plan refusal
step_refused A plan step built Memory all refusal is lacks = subst (IsStepRefused plan) (sym is) tt
step_refused A plan step built (Nodes limit) all refusal is lacks = subst (IsStepRefused plan) (sym is) (refl, subst (NodeLacks plan) all lacks)
