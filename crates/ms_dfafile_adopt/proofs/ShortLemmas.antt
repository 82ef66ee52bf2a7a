-- Refusals of the steps to the automaton of a file: each names the limit, and what lacks nodes.
use Rattle.std.proofs.Common.{◌≡◌, ◌⊎◌, inl, inr, ℕ, ◌<◌, ◌≤◌, ◌+◌, [], ◌∷◌, ⊎_elim, List, length, Result, Ok, Err, IfOk, ap, subst, ◌∙◌, arith, length-append}
use Rattle.ms_list.specs.declared.fault.StepFault.{StepFault}
use Rattle.ms_list.specs.declared.fault.StepFault.TheVariants.{Nodes, Memory}
use Rattle.ms_arena.specs.declared.node.Node.{Node}
use Rattle.ms_arena.specs.Target.{Appends}
use Rattle.ms_dfa_explore.specs.Explored.{OnRefused}
use Rattle.ms_logic_words.specs.Content.{Content}
use Rattle.ms_logic_words.specs.declared.sign.Sign.{Sign}
use Rattle.ms_logic.specs.Assignment.{Variable}
use Rattle.ms_dfa.specs.Automaton.{IsAutomaton}
use Rattle.ms_dfa.specs.declared.plain.Plain.{Plain}
use Rattle.ms_product.specs.Pairing.{AreAtLeast}
use Rattle.ms_product.specs.declared.op.Op.{Op}
use Rattle.ms_dfafile_adopt.specs.Readings.{own_variables}
use Rattle.ms_dfafile_adopt.specs.Short.{AreNumbers, IsFileOverSets, NumbersLack, StringsLack, side_by_side}
use Rattle.ms_logic_words.specs.Residual.{AreReached, HasFewestStates, HaveDifferentResiduals, IsLeast}

-- what is within the limit is not refused
pub not_refused : {A : Type 0} (P : ℕ → Type 0) (limit count : ℕ) (result : Result A StepFault) → count ≤ limit → OnRefused result (λ refused. (refused ≡ limit) × (limit < count)) → OnRefused result P
not_refused P limit count (Ok made) within refused = tt
not_refused P limit count (Err Memory) within refused = tt
not_refused P limit count (Err (Nodes named)) within refused = (let over = refused.1 in let never : ⊥ = omega (arith, within, over) in absurd never)

-- a refusal with a cause, for one with another
pub refused_for : (A B : Type 0) (limit : ℕ) (P Q : Type 0) (fault : StepFault) → (P → Q) → OnRefused {A = A} (Err fault) (λ refused. (refused ≡ limit) × P) → OnRefused {A = B} (Err fault) (λ refused. (refused ≡ limit) × Q)
refused_for A B limit P Q Memory more refused = tt
refused_for A B limit P Q (Nodes named) more refused = (refused.0, more refused.1)

-- with one node more there are at most as many as nodes were asked for
pub few_more : (old new : List Node) (node : Node) (count : ℕ) → Appends old new node → length old ≤ count → length new ≤ count + 1
few_more old new node count appends few = ⊎_elim
    (λ same. let long = ap length same in omega (arith, few, long))
    (λ more. let long = ap length more.2 ∙ length-append old (node ∷ []) in omega (arith, few, long))
    appends

-- what has been minimised is least
pub all_least : (result : Result (Content Sign) StepFault) → IfOk result HasFewestStates → IfOk result AreReached → IfOk result HaveDifferentResiduals → IfOk result IsLeast
all_least (Ok made) fewest reached differ = record { fewest = fewest; reached = reached; differ = differ }
all_least (Err fault) fewest reached differ = tt

-- a result that is handed on
pub refused_more : (A : Type 0) (P Q : ℕ → Type 0) (result : Result A StepFault) → ((limit : ℕ) → P limit → Q limit) → OnRefused result P → OnRefused result Q
refused_more A P Q (Ok made) more refused = tt
refused_more A P Q (Err Memory) more refused = tt
refused_more A P Q (Err (Nodes named)) more refused = more named refused

-- what the numbers or the product lack, over the variables of a file
abbrev pub NumbersOrProductLack : ℕ → Content Sign → List Variable → ℕ → Type 0
NumbersOrProductLack limit said vs count =
    NumbersLack limit vs ⊎ ((numbers : Content Sign) × IsAutomaton numbers × AreNumbers vs count numbers × AreAtLeast limit Op.And (side_by_side said numbers vs))

pub strings_lack : (limit : ℕ) (plain : Plain) (said : Content Sign) (vs : List Variable) (count : ℕ) → vs ≡ own_variables plain → count ≡ length vs → IsFileOverSets plain said
    → NumbersOrProductLack limit said vs count → StringsLack limit plain
strings_lack limit plain said vs count are long is (inl numbers) = inr (inl (subst (NumbersLack limit) are numbers))
strings_lack limit plain said vs count are long is (inr product) = inr (inr (record {
  said = said;
  is_said = is;
  numbers = product.0;
  automaton = product.1;
  are = subst (λ ws. AreNumbers ws (length ws) product.0) are (subst (λ n. AreNumbers vs n product.0) long product.2);
  short = subst (λ ws. AreAtLeast limit Op.And (side_by_side said product.0 ws)) are product.3;
}))
