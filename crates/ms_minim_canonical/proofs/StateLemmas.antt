-- States of two canonical contents with the same signs have one residual where they have one number: the first states lead to
-- states with one residual at the same places, so the next that is seen is one of both (Myhill, 1957; Nerode, 1958).
use Rattle.std.proofs.Common.{◌≡◌, ℕ, zero, suc, ◌<◌, ◌≤◌, ⊎_elim, Bool, List, [], ◌∷◌, length, take, slice_get, Some, sym, ap, subst, ◌∙◌, arith}
use Rattle.std.specs.List.{flat_map}
use Rattle.std.proofs.lemmas.Bool.{cases_lt}
use Rattle.ms_list.specs.declared.word.Word.{Word}
use Rattle.ms_arena.specs.Diagram.{leaf_of}
use Rattle.ms_arena.specs.Leaves.{leaves_within}
use Rattle.ms_arena.proofs.Lists.{slice_get-held}
use Rattle.ms_logic_words.specs.Canonical.{IsCanonical}
use Rattle.ms_logic_words.specs.Content.{StateOf, Content, IsWordOver, AreLetters, is_in_letters, is_truth_value, first_state, state_after, last_state, sign_at}
use Rattle.ms_dfa.proofs.GatheredLemmas.{length-gathered}
use Rattle.ms_dfa.proofs.OwnMeaningLemmas.{last_within}
use Rattle.ms_logic_words.specs.Residual.{HaveEqualSigns}
use Rattle.ms_minim.proofs.LettersLemmas.{over-with_letters, sign_of-with_letters, with_letters}
use Rattle.ms_minim_canonical.proofs.ContentLemmas.{IsClosed-content, truth_for, letter_for, first_state-for, next_state-for, sharing, valid-named, next_followed}
use Rattle.ms_minim_canonical.proofs.FirstSightLemmas.{IsMatching, paired-unseen, own_place}
use Rattle.ms_minim_canonical.specs.inner.Renumbering.{ArePaired}
use Rattle.ms_minim_canonical.proofs.Paired.{paired-append, paired-at, paired-flat_map, paired-length, paired-take}
use Rattle.ms_minim_canonical.proofs.ShapeLemmas.{AreAlike, AreComparable}
use Rattle.ms_minim_canonical.proofs.WalkLemmas.{paired-leaves}
use Rattle.ms_minim_canonical.proofs.SightLemmas.{first_numbers, in_time, leaves_of, leaves_to, sights}

-- the same letters lead from both states to one sign
pub record HaveOneResidual {Sign : Type 0} (one other : Content Sign) (i j : ℕ) : Type 0 where
  pub within : i < length one.states
  pub within_too : j < length other.states
  pub signs : (letters : List (List Bool)) → AreLetters one.variables letters → sign_at one (state_after one i letters) ≡ sign_at other (state_after other j letters)

module _ {Sign : Type 0} (one rest : Content Sign) (canonical : IsCanonical one) (canonical_too : IsCanonical (sharing one rest)) (signs : HaveEqualSigns one (sharing one rest)) where
  abbrev other : Content Sign
  other = sharing one rest

  abbrev pub Residual : ℕ → ℕ → Type 0
  Residual = HaveOneResidual one other

  pub IsMatching-residual : IsMatching Residual
  IsMatching-residual = record {
    right = λ i j k first second.
        canonical_too.states_differ j k first.within_too second.within_too (λ letters are. sym (first.signs letters are) ∙ second.signs letters are);
    left = λ i j k first second.
        canonical.states_differ i j first.within second.within (λ letters are. first.signs letters are ∙ sym (second.signs letters are));
  }

  -- a word leads to states with one residual
  pub residual_last : (word : Word) → IsWordOver one.variables word → Residual (last_state one word) (last_state other word)
  residual_last word over = record {
    within = last_within one (IsClosed-content one canonical.rules) word;
    within_too = last_within other (IsClosed-content other canonical_too.rules) word;
    signs = λ letters are.
        sym (sign_of-with_letters one word letters) ∙ sym (signs (with_letters word letters) (over-with_letters one.variables word letters over are))
        ∙ sign_of-with_letters other word letters;
  }

  -- and so do the starts
  pub alike_start : AreAlike one.nodes rest.nodes Residual one.start rest.start
  alike_start bits =
      let word : Word = record { truth = truth_for one canonical.rules bits; letters = [] } in
      let over : IsWordOver one.variables word = record { truth = length-gathered is_truth_value one.variables bits 0; letters = tt } in
      subst (λ i. Residual i (leaf_of rest.nodes rest.start bits)) (first_state-for one canonical.rules bits)
      (subst (Residual (first_state one word.truth)) (first_state-for other canonical_too.rules bits) (residual_last word over))

  -- and states with one residual
  pub alike_next : (i j : ℕ) (state state_too : StateOf Sign) → Residual i j → slice_get one.states i ≡ Some state → slice_get rest.states j ≡ Some state_too
      → AreAlike one.nodes rest.nodes Residual state.next state_too.next
  alike_next i j state state_too residual held held_too bits =
      let letter = letter_for one canonical.rules bits in
      let own = next_state-for one canonical.rules i state held bits in
      let too = next_state-for other canonical_too.rules j state_too held_too bits in
      record {
        within = (next_followed one canonical.rules i state held).states bits;
        within_too = (next_followed other canonical_too.rules j state_too held_too).states bits;
        signs = λ letters are.
            ap (λ n. sign_at one (state_after one n letters)) (sym own)
            ∙ residual.signs (letter ∷ letters) (length-gathered is_in_letters one.variables bits 0, are)
            ∙ ap (λ n. sign_at other (state_after other n letters)) too;
      }

  pub comparable : AreComparable one.nodes rest.nodes Residual
  comparable = record {
    ordered = canonical.rules.ordered;
    reduced = canonical.reduced;
    ordered_too = canonical_too.rules.ordered;
    reduced_too = canonical_too.reduced;
    matching = IsMatching-residual;
  }

  -- the first states have one residual, each with its number
  abbrev pub AgreeTo : ℕ → Type 0
  AgreeTo count = (i : ℕ) → i < count → Residual i i

  as_many : (count : ℕ) → AgreeTo count → count ≤ length rest.states
  as_many zero agree = omega arith
  as_many (suc count) agree = let last = (agree count (omega arith)).within_too in omega (arith, last)

  pub paired_leaves_of : (state state_too : StateOf Sign) → (i : ℕ) → Residual i i → slice_get one.states i ≡ Some state → slice_get rest.states i ≡ Some state_too
      → ArePaired Residual (leaves_of one state) (leaves_of other state_too)
  paired_leaves_of state state_too i residual held held_too =
      paired-leaves one.nodes rest.nodes Residual comparable (length one.nodes) (length rest.nodes) state.next state_too.next
      (valid-named one state.next (canonical.rules.next_named i state held)) (omega arith)
      (valid-named other state_too.next (canonical_too.rules.next_named i state_too held_too)) (omega arith)
      (alike_next i i state state_too residual held held_too)

  paired_to : (count : ℕ) → count ≤ length one.states → AgreeTo count → ArePaired Residual (leaves_to one count) (leaves_to other count)
  paired_to count within agree =
      paired-append Residual (leaves_within one.nodes (length one.nodes) one.start) (leaves_within rest.nodes (length rest.nodes) rest.start)
      (flat_map (leaves_of one) (take count one.states)) (flat_map (leaves_of other) (take count rest.states))
      (paired-leaves one.nodes rest.nodes Residual comparable (length one.nodes) (length rest.nodes) one.start rest.start
      (valid-named one one.start canonical.rules.start_named) (omega arith) (valid-named other rest.start canonical_too.rules.start_named) (omega arith) alike_start)
      (paired-flat_map (λ state state_too. ArePaired Residual (leaves_of one state) (leaves_of other state_too)) Residual (leaves_of one) (leaves_of other) (λ state state_too paired. paired)
      (take count one.states) (take count rest.states)
      (paired-take (λ state state_too. ArePaired Residual (leaves_of one state) (leaves_of other state_too)) count one.states rest.states within (as_many count agree)
      (λ place state state_too less held held_too. paired_leaves_of state state_too place (agree place less) held held_too)))

  -- and so has the next, which both first see behind them
  agree_next : (count : ℕ) → count < length one.states → AgreeTo count → Residual count count
  agree_next count within agree =
      let paired = paired-unseen Residual IsMatching-residual [] [] (leaves_to one count) (leaves_to other count) tt (paired_to count (omega (arith, within)) agree) in
      let long = paired-length Residual (sights one canonical count) (sights other canonical_too count) paired in
      let early = in_time one canonical count within in
      let held = slice_get-held (sights one canonical count) count early in
      let held_too = slice_get-held (sights other canonical_too count) count (omega (arith, long, early)) in
      let own : held.0 ≡ count = own_place (length one.states) (sights one canonical count) (first_numbers one canonical count) count held.0 held.1 in
      let too : held_too.0 ≡ count = own_place (length rest.states) (sights other canonical_too count) (first_numbers other canonical_too count) count held_too.0 held_too.1 in
      let related = paired-at Residual (sights one canonical count) (sights other canonical_too count) paired count held.0 held_too.0 held.1 held_too.1 in
      subst (Residual count) too (subst (λ n. Residual n held_too.0) own related)

  agree_to : (count : ℕ) → count ≤ length one.states → AgreeTo count
  agree_to zero within i less = absurd (omega arith)
  agree_to (suc count) within i less =
      let before = agree_to count (omega arith) in
      ⊎_elim (λ earlier. before i earlier)
      (λ last.
      let same : count ≡ i = omega (arith, less, last) in
      subst (λ n. Residual n n) same (agree_next count (omega arith) before))
      (cases_lt i count)

  pub agree : AgreeTo (length one.states)
  agree = agree_to (length one.states) (omega arith)

  -- there are no more states in the second
  pub as_many_states : length one.states ≡ length rest.states
  as_many_states = ⊎_elim
      (λ less.
      let reached = canonical_too.states_reached (length one.states) less in
      let residual = residual_last reached.0 reached.1 in
      let is : last_state other reached.0 ≡ length one.states = reached.2 in
      let same = IsMatching-residual.right (last_state one reached.0) (last_state one reached.0) (last_state other reached.0) (agree (last_state one reached.0) residual.within) residual in
      let within = residual.within in
      absurd (omega (arith, is, same, within)))
      (λ few. let many = as_many (length one.states) agree in omega (arith, few, many))
      (cases_lt (length one.states) (length rest.states))
