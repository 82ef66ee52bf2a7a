-- How states of a machine are told apart.
use Rattle.std.proofs.Common.{◌≡◌, ◌≢◌, ℕ, zero, suc, Bool, true, false, not, [], ◌∷◌, refl, sym, subst, arith}
use Rattle.std.proofs.lemmas.List.Elements.{All-cons, All-nil}
use Rattle.ms_dfa_explore.specs.declared.small.TrackBits.{TrackBits}
use Rattle.ms_dfa_explore.specs.Small.{TransitionTable}
use Rattle.ms_basic.specs.Sets.{is_same}
use Rattle.ms_basic.specs.inner.Apart.{AreApart, AreOf}

-- the bits of one operand, and of two
abbrev pub one_bit : Bool → TrackBits
one_bit bit = record { first = bit; second = false; third = false }

abbrev pub two_bits : Bool → Bool → TrackBits
two_bits bit other = record { first = bit; second = other; third = false }

pub of_one : (bit : Bool) → AreOf 1 (one_bit bit)
of_one bit zero past = absurd (omega (arith, past))
of_one bit (suc zero) past = refl
of_one bit (suc (suc zero)) past = refl
of_one bit (suc (suc (suc more))) past = refl

pub of_two : (bit other : Bool) → AreOf 2 (two_bits bit other)
of_two bit other zero past = absurd (omega (arith, past))
of_two bit other (suc zero) past = absurd (omega (arith, past))
of_two bit other (suc (suc zero)) past = refl
of_two bit other (suc (suc (suc more))) past = refl

-- a bit is the same as itself, and not as the other
pub is_same_itself : (bit : Bool) → is_same bit bit ≡ true
is_same_itself true = refl
is_same_itself false = refl

pub not_same_other : (bit : Bool) → is_same (not bit) bit ≡ false
not_same_other true = refl
not_same_other false = refl

module _ (count : ℕ) (table : TransitionTable) where
  -- states of different signs are apart
  pub now : (one other : ℕ) → table.sign one ≢ table.sign other → AreApart count table one other
  now one other differ = ([], All-nil (AreOf count), differ)

  pub turned : (one other : ℕ) → AreApart count table one other → AreApart count table other one
  turned one other rest = (rest.0, rest.1, λ same. rest.2 (sym same))

  pub moved : (one other next further : ℕ) → one ≡ next → other ≡ further → AreApart count table next further → AreApart count table one other
  moved one other next further is also rest =
      subst (λ state. AreApart count table state other) (sym is) (subst (λ state. AreApart count table next state) (sym also) rest)

  -- and so are those from which a letter leads to states that are apart
  pub by_letter : (bits : TrackBits) → AreOf count bits → (one other next further : ℕ) → table.step one bits ≡ next → table.step other bits ≡ further
      → AreApart count table next further → AreApart count table one other
  by_letter bits of one other next further leads also rest =
      let onward = moved (table.step one bits) (table.step other bits) next further leads also rest in
      (bits ∷ onward.0, All-cons (AreOf count) bits onward.0 of onward.1, onward.2)
