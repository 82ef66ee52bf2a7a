-- What a product holds is needed: the nodes that it adds to an empty store, and its pairs.
use Rattle.std.proofs.Common.{◌≡◌, ℕ, ◌+◌, ◌≤◌, ◌⊎◌, ⊎_elim, List, [], length, Err, ap, ◌∙◌, arith}
use Rattle.ms_list.specs.declared.fault.StepFault.{StepFault}
use Rattle.ms_list.specs.declared.fault.StepFault.TheVariants.{Nodes, Memory}
use Rattle.ms_diagram.specs.Numbering.{IsNumbering}
use Rattle.ms_diagram.specs.Store.{Contents}
use Rattle.ms_dfa.specs.declared.state.State.{State}
use Rattle.ms_dfa_explore.specs.Explored.{AreTooMany, Explores, GrowsForSome, IsFullForSome, OnRefused}
use Rattle.ms_product.specs.declared.op.Op.{Op}
use Rattle.ms_product.specs.Pairing.{Operands, product_findings, AreReachedPairs, AreStates, IsPairedStore, AreAtLeast, ReachedAreAtLeast}

module _ (op : Op) (operands : Operands) (limit : ℕ) (pairs : List (ℕ × ℕ)) where
  -- a store that was empty holds what is needed
  pub IsPairedStore-grown : (zero held : Contents) → zero.nodes ≡ [] → zero.limit ≡ limit → GrowsForSome zero held (product_findings op operands pairs) → IsPairedStore held limit op operands pairs
  IsPairedStore-grown zero held empty limit_is grows = record {
    store = grows.store;
    limited = grows.limit ∙ limit_is;
    needed = λ place node there. let none = ap length empty in grows.needed place node (omega (arith, none)) there;
  }

  module _ (held : Contents) (is : IsPairedStore held limit op operands pairs) (numbering : IsNumbering pairs) (are : AreStates operands pairs) where
    -- so many are needed as there are nodes and pairs
    pub AreAtLeast-held : (count : ℕ) → count ≤ length held.nodes + length pairs → AreAtLeast count op operands
    AreAtLeast-held count most = record {
      nodes = held.nodes;
      pairs = pairs;
      ordered = is.store.ordered;
      reduced = is.store.reduced;
      needed = is.needed;
      numbering = numbering;
      states = are;
      many = most;
    }

    pub ReachedAreAtLeast-held : AreReachedPairs operands pairs → (count : ℕ) → count ≤ length held.nodes + length pairs → ReachedAreAtLeast count op operands
    unfolding AreAtLeast-held
    ReachedAreAtLeast-held reached count most = record { least = AreAtLeast-held count most; reached = reached }

    -- a product that is refused has so many as the limit
    limit_held : (cause : IsFullForSome held (product_findings op operands pairs) ⊎ AreTooMany held (product_findings op operands pairs) ⊎ (length pairs ≡ 4294967295)) → limit ≤ length held.nodes + length pairs
    limit_held cause =
        let after = is.limited in
        let small = is.store.small in
        ⊎_elim
        (λ full. let at_limit : length held.nodes ≡ held.limit = full.2.0 in omega (arith, at_limit, after))
        (λ other. ⊎_elim (λ many. omega (arith, many, after)) (λ lacks. omega (arith, lacks, small, after)) other)
        cause

    pub refused_at : (A : Type 0) (zero : Contents) → zero.limit ≡ limit → (states : List State) (fault : StepFault)
        → Explores zero held (product_findings op operands pairs) states (Err fault) → OnRefused {A = A} (Err fault) (λ refused. (refused ≡ limit) × AreAtLeast limit op operands)
    refused_at A zero limit_is states Memory explores = tt
    refused_at A zero limit_is states (Nodes refused) explores = (explores.nodes.0 ∙ limit_is, AreAtLeast-held limit (limit_held explores.nodes.1))

    -- and of these pairs
    pub reached_at : AreReachedPairs operands pairs → (A : Type 0) (zero : Contents) (states : List State) (fault : StepFault)
        → Explores zero held (product_findings op operands pairs) states (Err fault) → OnRefused {A = A} (Err fault) (λ refused. ReachedAreAtLeast limit op operands)
    reached_at reached A zero states Memory explores = tt
    reached_at reached A zero states (Nodes refused) explores = ReachedAreAtLeast-held reached limit (limit_held explores.nodes.1)
