-- Partitions stay partitions when they are split by marks, and are those by residuals where no class is new.
use Rattle.std.proofs.Common.{◌≡◌, ℕ, ◌-◌, ◌<◌, ◌≤◌, List, [], ◌∷◌, ◌++◌, length, length-append, slice_get, Some, ⊎_elim, false, Result, Ok, Err, IfOk, sym, ap, ◌∙◌, arith}
use Rattle.std.proofs.lemmas.Bool.{cases_lt}
use Rattle.std.proofs.lemmas.Option.{slice_get_within, same_Some, none-some}
use Rattle.ms_arena.proofs.Lists.{slice_get-held, slice_get-append_left, slice_get-push, slice_get-pushed}
use Rattle.ms_arena.specs.Diagram.{Bits}
use Rattle.ms_minim.specs.SignReading.{IsRead}
use Rattle.ms_logic_words.specs.declared.sign.Sign.{Sign}
use Rattle.ms_logic_words.specs.Content.{Content}
use Rattle.ms_list.specs.declared.fault.NoMemory.{NoMemory}
use Rattle.ms_minim.specs.declared.classes.Partition.{Partition}
use Rattle.ms_logic_words.specs.Residual.{HaveEqualResiduals}
use Rattle.ms_minim.specs.inner.Hash.{AreCoarseMarks}
use Rattle.ms_minim.specs.inner.Partition.{HaveOneClass, IsInhabited, LeadAlike, IsPartition, IsPassed, AreNerodeClasses, AreMarks, AreSignMarks, next_by}
use Rattle.ms_minim.specs.inner.Split.{IsSplit, AreZeros}
use Rattle.ms_minim.proofs.Pigeonhole.{counted}
use Rattle.ms_minim.proofs.ResidualLemmas.{next_by-within, residuals_next}

-- there are no more classes than states
pub few_classes : (classes members : List ℕ) → IsInhabited classes members → length members ≤ length classes
few_classes classes members inhabited =
    counted (length members) (length classes) (λ class state. slice_get members class ≡ Some state)
    (λ class less.
    let held = slice_get-held members class less in
    (held.0, slice_get_within classes held.0 class (inhabited.member class held.0 held.1), held.1))
    (λ one other state less_one less_other first second. same_Some one other (sym (inhabited.member one state first) ∙ inhabited.member other state second))

module _ (content : Content Sign) (automaton : IsRead content) (classes members : List ℕ) (partition : IsPartition content classes members) where
  -- states with equal residuals lead alike
  pub lead_alike : (one other : ℕ) → one < length content.states → other < length content.states → HaveEqualResiduals content one other → LeadAlike content classes one other
  lead_alike one other in_one in_other equal bits =
      partition.kept (next_by content one bits) (next_by content other bits)
      (next_by-within content automaton.ordered automaton.closed one in_one bits) (next_by-within content automaton.ordered automaton.closed other in_other bits)
      (residuals_next content automaton.ordered automaton.closed one other in_one in_other equal bits)

  in_classes : (state : ℕ) → state < length content.states → state < length classes
  in_classes state within = let same = partition.all in omega (arith, within, same)

  module _ (marks : List ℕ) (are : AreCoarseMarks content classes marks) (made made_members : List ℕ) (split : IsSplit classes members marks made made_members) where
    -- what is split by coarse marks stays one
    pub IsPartition-split : IsPartition content made made_members
    IsPartition-split = record {
      all = split.all ∙ partition.all;
      inhabited = split.inhabited;
      signs = λ one other in_one in_other same.
          partition.signs one other in_one in_other (split.apart one other (in_classes one in_one) (in_classes other in_other) same).0;
      kept = λ one other in_one in_other equal.
          split.together one other (in_classes one in_one) (in_classes other in_other) (partition.kept one other in_one in_other equal)
          (are.alike one other in_one in_other (lead_alike one other in_one in_other equal));
    }

  module _ (marks : List ℕ) (are : AreMarks content classes marks) (made made_members : List ℕ) (split : IsSplit classes members marks made made_members) where
    AreNerodeClasses-done : length made_members ≡ length members → AreNerodeClasses content classes members
    AreNerodeClasses-done count = record {
      partition = partition;
      stable = λ one other in_one in_other same.
          are.apart one other in_one in_other (split.done count one other (in_classes one in_one) (in_classes other in_other) same);
    }

    -- what a pass comes to
    pub IsPassed-split : IsPassed content classes members made made_members
    IsPassed-split = record { partition = IsPartition-split marks (record { all = are.all; alike = are.alike }) made made_members split; more = split.more; stable = AreNerodeClasses-done }

-- the first partition is by signs
pub IsPartition-signs : (content : Content Sign) (classes members marks made made_members : List ℕ) → length classes ≡ length content.states
    → ((one other : ℕ) → one < length content.states → other < length content.states → HaveOneClass classes one other)
    → AreSignMarks content marks → IsSplit classes members marks made made_members → IsPartition content made made_members
IsPartition-signs content classes members marks made made_members all one_class are split = record {
  all = split.all ∙ all;
  inhabited = split.inhabited;
  signs = λ one other in_one in_other same.
      are.apart one other in_one in_other (split.apart one other (omega (arith, in_one, all)) (omega (arith, in_other, all)) same).1;
  kept = λ one other in_one in_other equal.
      split.together one other (omega (arith, in_one, all)) (omega (arith, in_other, all)) (one_class one other in_one in_other)
      (are.alike one other in_one in_other (equal [] tt));
}

-- one item more that is 0
pub AreZeros-more : (list : List ℕ) → AreZeros list → AreZeros (list ++ 0 ∷ [])
AreZeros-more list were place less = ⊎_elim
    (λ before. slice_get-append_left list (0 ∷ []) place before ∙ were place before)
    (λ past.
    let longer = length-append list (0 ∷ []) in
    let last : place ≡ length list = omega (arith, less, past, longer) in
    ap (slice_get (list ++ 0 ∷ [])) last ∙ slice_get-push list 0)
    (cases_lt place (length list))

-- all states in one class, which is known by the first
pub IsInhabited-zeros : (classes : List ℕ) → AreZeros classes → 1 ≤ length classes → IsInhabited classes (0 ∷ [])
IsInhabited-zeros classes are some = record {
  within = λ state class held.
      let same : 0 ≡ class = same_Some 0 class (sym (are state (slice_get_within classes state class held)) ∙ held) in
      omega (arith, same);
  member = λ class state held. ⊎_elim
      (λ before. absurd (none-some state before))
      (λ last. ap (slice_get classes) (sym last.1) ∙ are 0 (omega (arith, some)) ∙ ap Some (sym last.0))
      (slice_get-pushed [] 0 class state held);
}

-- an automaton has a state
pub some_state : (content : Content Sign) → IsRead content → 1 ≤ length content.states
some_state content automaton =
    let none : Bits = λ var. false in
    let below = automaton.closed.start.states none in
    omega (arith, below)

-- fewer classes are left to come
pub fewer_left : (content : Content Sign) (classes members : List ℕ) (old finer : ℕ) → IsPartition content classes members → old ≤ finer → (finer ≡ old → ⊥) → finer ≤ length members
    → length content.states - length members < length content.states - old
fewer_left content classes members old finer partition more differs further =
    let few = few_classes classes members partition.inhabited in
    let all = partition.all in
    ⊎_elim (λ less. omega (arith, few, all, further, less))
    (λ equal. absurd (differs (omega (arith, more, equal))))
    (cases_lt old finer)

pub HaveOneClass-zeros : (classes : List ℕ) (states : ℕ) → AreZeros classes → length classes ≡ states → (one other : ℕ) → one < states → other < states → HaveOneClass classes one other
HaveOneClass-zeros classes states are all one other in_one in_other = are one (omega (arith, in_one, all)) ∙ sym (are other (omega (arith, in_other, all)))

-- the same of a split that may be refused
pub IsPartition-split_by : (content : Content Sign) (classes members marks : List ℕ) → length classes ≡ length content.states
    → ((one other : ℕ) → one < length content.states → other < length content.states → HaveOneClass classes one other)
    → AreSignMarks content marks → (result : Result Partition NoMemory) → IfOk result (λ made. IsSplit classes members marks made.classes made.members)
    → IfOk result (λ made. IsPartition content made.classes made.members)
IsPartition-split_by content classes members marks all one_class are (Ok made) split = IsPartition-signs content classes members marks made.classes made.members all one_class are split
IsPartition-split_by content classes members marks all one_class are (Err fault) split = tt
