use Rattle.std.proofs.Common.{◌≡◌, ℕ, zero, suc, ⊎_elim, false, List, [], ◌∷◌, Contains, slice_get, Some, refl, sym, subst, ◌∙◌, arith}
use Rattle.std.proofs.lemmas.Option.{none-some, same_Some}
use Rattle.ms_arena.specs.Bits.{with_bit}
use Rattle.ms_arena.specs.Diagram.{Bits, leaf_of}
use Rattle.ms_arena.proofs.Paths.{leaf_of-leaf}
use Rattle.ms_diagram.proofs.ListLemmas.{Contains-cases, Contains-first, Contains-none, Contains-rest}
use Rattle.ms_project.specs.Subsets.{next_of}
use Rattle.ms_project.specs.Subsetting.{IsReachedNumber, Subsetting, from_start, from_set, paired, sets_at}
use Rattle.ms_project.specs.inner.Examples.{of_one_state}
use Rattle.ms_project.specs.inner.Later.{subsetting_later_itself}
use Rattle.ms_project.proofs.examples.worked_sets.Goals as goal

-- each state leads to the one state
next_one : (sets : List (List ℕ)) (from : ℕ) (bits : Bits) → leaf_of [] (next_of (paired (of_one_state sets)) from) bits ≡ 0
next_one sets zero bits = leaf_of-leaf [] bits 0
next_one sets (suc from) bits = leaf_of-leaf [] bits 0

only_zero : (item : ℕ) → Contains (0 ∷ []) item → 0 ≡ item
only_zero item inside = ⊎_elim (λ same. sym same) (λ none. absurd (Contains-none item none)) (Contains-cases 0 [] item inside)

pub returns-clause-alone : goal.returns-clause-alone
returns-clause-alone c =
    let none : Bits = λ place. false in
    from_start none 0 (
      0 ∷ [],
      refl,
      record {
        rising = λ place less. absurd (omega (arith, less));
        all = λ item there. subst (Contains (0 ∷ [])) (sym (leaf_of-leaf [] (with_bit none 0 there.0) 0) ∙ there.1) (Contains-first 0 []);
        only = λ item inside. (false, leaf_of-leaf [] (with_bit none 0 false) 0 ∙ only_zero item inside);
      },
    )

-- so a number that is reached has a set with no other state
only_state : (sets : List (List ℕ)) (number : ℕ) → IsReachedNumber (of_one_state sets) number → (set : List ℕ) × (slice_get sets number ≡ Some set) × ((state : ℕ) → Contains set state → state ≡ 0)
only_state sets _ (from_start bits number there) =
    (there.0, there.1, λ state inside. let by = there.2.only state inside in sym by.1 ∙ leaf_of-leaf [] (with_bit bits 0 by.0) 0)
only_state sets _ (from_set before bits number was there) =
    let from = only_state sets before was in
    let found = subst (λ at. sets_at (paired (of_one_state sets)) 0 sets at bits number) from.1 there in
    (found.0, found.1, λ state inside. let by = found.2.only state inside in sym by.3 ∙ next_one sets by.0 (with_bit bits 0 by.1))

pub returns-clause-no_set : goal.returns-clause-no_set
returns-clause-no_set c = λ reached. let found = only_state ((0 ∷ []) ∷ []) 1 reached in none-some found.0 found.1

pub returns-clause-no_state : goal.returns-clause-no_state
returns-clause-no_state c = λ reached.
    let found = only_state ((0 ∷ []) ∷ (0 ∷ 1 ∷ []) ∷ []) 1 reached in
    let one = found.2 1 (subst (λ (set : List ℕ). Contains set 1) (same_Some (0 ∷ 1 ∷ []) found.0 found.1) (Contains-rest 0 (1 ∷ []) 1 (Contains-first 1 []))) in
    omega (arith, one)

pub returns-clause-begun : goal.returns-clause-begun
returns-clause-begun c =
    let none : Subsetting = of_one_state [] in
    record {
      found = none;
      outer = [];
      behind = record {
        later = subsetting_later_itself none;
        numbering = record {
          numbering = record { no_repeats = λ one two item here there. absurd (none-some item here); small = omega arith };
          rising = λ number set held. absurd (none-some set held);
        };
        members = λ number set held. absurd (none-some set held);
        reached = λ number within. absurd (omega (arith, within));
        ordered = record {
          earlier_low = λ place node held. absurd (none-some node held);
          earlier_high = λ place node held. absurd (none-some node held);
          rising_low = λ place node held. absurd (none-some node held);
          rising_high = λ place node held. absurd (none-some node held);
        };
        reduced = record {
          ends_differ = λ place node held. absurd (none-some node held);
          distinct = λ one two node first second. absurd (none-some node first);
        };
        needed = λ place node held. absurd (none-some node held);
      };
      many = omega arith;
    }
