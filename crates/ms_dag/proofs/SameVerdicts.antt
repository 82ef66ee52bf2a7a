-- Two readings of a formula with one verdict, and how they go through the connectives.
use Rattle.std.proofs.Common.{◌⊎◌, inl, inr, ⊎_elim}
use Rattle.ms_logic.specs.declared.assignment.Value.{Value}
use Rattle.ms_logic.specs.Truth.{SomeInRange, NoneInRange, IsEmptyRange}
use Rattle.ms_logic.proofs.FreeVariables.{some_moves, none_moves, some_or_empty_moves}

-- the one reading is Yes where the other is, and No where the other is
pub record SameVerdict (Y N Y' N' : Type 0) : Type 0 where
  pub yes_to : Y → Y'
  pub yes_from : Y' → Y
  pub no_to : N → N'
  pub no_from : N' → N

pub same_swapped : {Y N Y' N' : Type 0} → SameVerdict Y N Y' N' → SameVerdict Y' N' Y N
same_swapped s = record { yes_to = s.yes_from; yes_from = s.yes_to; no_to = s.no_from; no_from = s.no_to }

pub same_itself : (Y N : Type 0) → SameVerdict Y N Y N
same_itself Y N = record { yes_to = λ h. h; yes_from = λ h. h; no_to = λ h. h; no_from = λ h. h }

pub same_negation : {Y N Y' N' : Type 0} → SameVerdict Y N Y' N' → SameVerdict N Y N' Y'
same_negation s = record { yes_to = s.no_to; yes_from = s.no_from; no_to = s.yes_to; no_from = s.yes_from }

pub same_restrict : {Y N Y' N' : Type 0} → SameVerdict Y N Y' N' → SameVerdict Y ⊥ Y' ⊥
same_restrict s = record { yes_to = s.yes_to; yes_from = s.yes_from; no_to = λ h. h; no_from = λ h. h }

-- a fact and its negation
pub same_fact : {P Q : Type 0} → (P → Q) → (Q → P) → SameVerdict P (¬ P) Q (¬ Q)
same_fact to from = record { yes_to = to; yes_from = from; no_to = λ fails q. fails (from q); no_from = λ fails p. fails (to p) }

module _ {Y N Y' N' Z M Z' M' : Type 0} (s : SameVerdict Y N Y' N') (t : SameVerdict Z M Z' M') where
  either_to : Y ⊎ N → Y' ⊎ N'
  either_to h = ⊎_elim (λ y. inl (s.yes_to y)) (λ n. inr (s.no_to n)) h

  pub implies_to : (Y ⊎ N) × (Z ⊎ M) × (N ⊎ Z) → (Y' ⊎ N') × (Z' ⊎ M') × (N' ⊎ Z')
  implies_to h =
      (either_to h.0, ⊎_elim (λ z. inl (t.yes_to z)) (λ m. inr (t.no_to m)) h.1, ⊎_elim (λ n. inl (s.no_to n)) (λ z. inr (t.yes_to z)) h.2)

  pub pair_to : Y × M → Y' × M'
  pair_to h = (s.yes_to h.0, t.no_to h.1)

  pub same_to : (Y × Z) ⊎ (N × M) → (Y' × Z') ⊎ (N' × M')
  same_to h = ⊎_elim (λ b. inl (s.yes_to b.0, t.yes_to b.1)) (λ b. inr (s.no_to b.0, t.no_to b.1)) h

  pub differ_to : (Y × M) ⊎ (N × Z) → (Y' × M') ⊎ (N' × Z')
  differ_to h = ⊎_elim (λ b. inl (s.yes_to b.0, t.no_to b.1)) (λ b. inr (s.no_to b.0, t.yes_to b.1)) h

pub same_implication : {Y N Y' N' Z M Z' M' : Type 0} → SameVerdict Y N Y' N' → SameVerdict Z M Z' M' →
    SameVerdict ((Y ⊎ N) × (Z ⊎ M) × (N ⊎ Z)) (Y × M) ((Y' ⊎ N') × (Z' ⊎ M') × (N' ⊎ Z')) (Y' × M')
same_implication s t = record {
  yes_to = implies_to s t;
  yes_from = implies_to (same_swapped s) (same_swapped t);
  no_to = pair_to s t;
  no_from = pair_to (same_swapped s) (same_swapped t);
}

pub same_equivalence : {Y N Y' N' Z M Z' M' : Type 0} → SameVerdict Y N Y' N' → SameVerdict Z M Z' M' →
    SameVerdict ((Y × Z) ⊎ (N × M)) ((Y × M) ⊎ (N × Z)) ((Y' × Z') ⊎ (N' × M')) ((Y' × M') ⊎ (N' × Z'))
same_equivalence s t = record {
  yes_to = same_to s t;
  yes_from = same_to (same_swapped s) (same_swapped t);
  no_to = differ_to s t;
  no_from = differ_to (same_swapped s) (same_swapped t);
}

-- Yes and No of each of some operands, and of some of them; that each is Yes or No
pub record SameOfEach (AllY AllN Defined SomeY SomeN AllY' AllN' Defined' SomeY' SomeN' : Type 0) : Type 0 where
  pub each_yes_to : AllY → AllY'
  pub each_no_to : AllN → AllN'
  pub defined_to : Defined → Defined'
  pub some_yes_to : SomeY → SomeY'
  pub some_no_to : SomeN → SomeN'

pub none_same : SameOfEach (Unit {0}) (Unit {0}) (Unit {0}) ⊥ ⊥ (Unit {0}) (Unit {0}) (Unit {0}) ⊥ ⊥
none_same = record { each_yes_to = λ h. h; each_no_to = λ h. h; defined_to = λ h. h; some_yes_to = λ h. h; some_no_to = λ h. h }

pub more_same : {Y N Y' N' A B D S T A' B' D' S' T' : Type 0} → SameVerdict Y N Y' N' → SameOfEach A B D S T A' B' D' S' T' →
    SameOfEach (Y × A) (N × B) ((Y ⊎ N) × D) (Y ⊎ S) (N ⊎ T) (Y' × A') (N' × B') ((Y' ⊎ N') × D') (Y' ⊎ S') (N' ⊎ T')
more_same s more = record {
  each_yes_to = λ h. (s.yes_to h.0, more.each_yes_to h.1);
  each_no_to = λ h. (s.no_to h.0, more.each_no_to h.1);
  defined_to = λ h. (⊎_elim (λ y. inl (s.yes_to y)) (λ n. inr (s.no_to n)) h.0, more.defined_to h.1);
  some_yes_to = λ h. ⊎_elim (λ y. inl (s.yes_to y)) (λ later. inr (more.some_yes_to later)) h;
  some_no_to = λ h. ⊎_elim (λ n. inl (s.no_to n)) (λ later. inr (more.some_no_to later)) h;
}

pub same_conjunction : {A B D S T A' B' D' S' T' : Type 0} → SameOfEach A B D S T A' B' D' S' T' → SameOfEach A' B' D' S' T' A B D S T →
    SameVerdict A (D × T) A' (D' × T')
same_conjunction to from = record {
  yes_to = to.each_yes_to;
  yes_from = from.each_yes_to;
  no_to = λ h. (to.defined_to h.0, to.some_no_to h.1);
  no_from = λ h. (from.defined_to h.0, from.some_no_to h.1);
}

pub same_disjunction : {A B D S T A' B' D' S' T' : Type 0} → SameOfEach A B D S T A' B' D' S' T' → SameOfEach A' B' D' S' T' A B D S T →
    SameVerdict (D × S) B (D' × S') B'
same_disjunction to from = record {
  yes_to = λ h. (to.defined_to h.0, to.some_yes_to h.1);
  yes_from = λ h. (from.defined_to h.0, from.some_yes_to h.1);
  no_to = to.each_no_to;
  no_from = from.each_no_to;
}

-- quantifiers over one range, where the body has one verdict at each value of it
module _ {Range Range' Y N Y' N' : Value → Type 0} (there : (v : Value) → Range v → Range' v) (back : (v : Value) → Range' v → Range v)
    (same : (v : Value) → Range v → SameVerdict (Y v) (N v) (Y' v) (N' v)) where
  pub same_some : SameVerdict (SomeInRange Range Y) (NoneInRange Range Y × (SomeInRange Range N ⊎ IsEmptyRange Range))
      (SomeInRange Range' Y') (NoneInRange Range' Y' × (SomeInRange Range' N' ⊎ IsEmptyRange Range'))
  same_some = record {
    yes_to = some_moves _ _ _ _ there (λ v in_range. (same v in_range).yes_to);
    yes_from = some_moves _ _ _ _ back (λ v in_range. (same v (back v in_range)).yes_from);
    no_to = λ h.
        (none_moves _ _ _ _ back (λ v in_range. (same v (back v in_range)).yes_from) h.0, some_or_empty_moves _ _ _ _ there back (λ v in_range. (same v in_range).no_to) h.1);
    no_from = λ h.
        (none_moves _ _ _ _ there (λ v in_range. (same v in_range).yes_to) h.0, some_or_empty_moves _ _ _ _ back there (λ v in_range. (same v (back v in_range)).no_from) h.1);
  }

  pub same_every : SameVerdict (NoneInRange Range N × (SomeInRange Range Y ⊎ IsEmptyRange Range)) (SomeInRange Range N)
      (NoneInRange Range' N' × (SomeInRange Range' Y' ⊎ IsEmptyRange Range')) (SomeInRange Range' N')
  same_every = record {
    yes_to = λ h.
        (none_moves _ _ _ _ back (λ v in_range. (same v (back v in_range)).no_from) h.0, some_or_empty_moves _ _ _ _ there back (λ v in_range. (same v in_range).yes_to) h.1);
    yes_from = λ h.
        (none_moves _ _ _ _ there (λ v in_range. (same v in_range).no_to) h.0, some_or_empty_moves _ _ _ _ back there (λ v in_range. (same v (back v in_range)).yes_from) h.1);
    no_to = some_moves _ _ _ _ there (λ v in_range. (same v in_range).no_to);
    no_from = some_moves _ _ _ _ back (λ v in_range. (same v (back v in_range)).no_from);
  }
