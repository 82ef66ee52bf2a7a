-- Environments that give variables the same values have the same shortest word.
use Rattle.std.proofs.Common.{◌≡◌, ℕ, ◌≤◌, List, slice_get, Some, refl, sym, subst, arith}
use Rattle.std.proofs.lemmas.List.{length-map}
use Rattle.ms_list.specs.declared.word.Word.{Word}
use Rattle.ms_logic.specs.declared.mode.Mode.{Mode}
use Rattle.ms_logic.specs.Assignment.{Env, Variable, IsAssignment, value_at}
use Rattle.ms_logic_words.specs.Content.{shortest_word}
use Rattle.ms_logic.specs.First.{length_of}
use Rattle.ms_logic.specs.Lists.{AreRising}
use Rattle.ms_logic_words.specs.Word.{Encodes}
use Rattle.ms_logic_words.proofs.WordLaws.{length_is_least, word_is_unique}
use Rattle.ms_dfa.specs.Narrow.{narrowed, narrowed_letter, ReadsThrough}
use Rattle.ms_dfa.proofs.NarrowLemmas.{narrowed_assigned, narrowed_encodes}
use Rattle.ms_dfa_explore.specs.Tracks.{places_among}
use Rattle.ms_dfa_explore.proofs.AmongLemmas.{leads_to, reads_through_places}

-- the second gives the variables what the first gives them
pub record Agrees (vs : List Variable) (e f : Env) : Type 0 where
  pub universe : f.universe ≡ e.universe
  pub values : (place : ℕ) (v : Variable) → slice_get vs place ≡ Some v → value_at v.order v.name f ≡ value_at v.order v.name e

pub agrees_back : (vs : List Variable) (e f : Env) → Agrees vs e f → Agrees vs f e
agrees_back vs e f agrees = record { universe = sym agrees.universe; values = λ place v held. sym (agrees.values place v held) }

module _ (mode : Mode) (vs : List Variable) (rising : AreRising vs) where
  abbrev own : List ℕ
  own = places_among vs vs

  reads : (e f : Env) → Agrees vs e f → ReadsThrough own vs vs f e
  reads e f agrees = record { universe = agrees.universe; values = λ place v held. (v, leads_to vs vs rising rising (λ w among. among) place v held, refl, agrees.values place v held) }

  -- a word that encodes the first encodes the second
  pub encodes_agreeing : (e f : Env) → Agrees vs e f → (word : Word) → Encodes vs word e → Encodes vs word f
  encodes_agreeing e f agrees word encodes =
      let same : narrowed own vs vs word ≡ word
      = word_is_unique vs (narrowed own vs vs word) word e (narrowed_encodes own vs vs e e (reads_through_places vs vs rising rising (λ w among. among) e) word encodes) encodes
      (length-map word.letters (narrowed_letter own vs vs)) in
      subst (λ w. Encodes vs w f) same (narrowed_encodes own vs vs f e (reads e f agrees) word encodes)

  -- the second is an assignment where the first is one
  pub assigned_agreeing : (e f : Env) → Agrees vs e f → IsAssignment mode vs e → IsAssignment mode vs f
  assigned_agreeing e f agrees assigned = narrowed_assigned own vs vs f e (reads e f agrees) mode assigned

  no_longer : (e f : Env) → Agrees vs e f → IsAssignment mode vs e → IsAssignment mode vs f → length_of vs f ≤ length_of vs e
  no_longer e f agrees assigned_e assigned_f =
      let least = length_is_least mode vs e assigned_e in
      let other = (length_is_least mode vs f assigned_f).2 (shortest_word vs e) (encodes_agreeing e f agrees (shortest_word vs e) least.0) in
      let long = least.1 in
      omega (arith, other, long)

  pub shortest-agreeing : (e f : Env) → Agrees vs e f → IsAssignment mode vs e → shortest_word vs f ≡ shortest_word vs e
  shortest-agreeing e f agrees assigned =
      let assigned_f = assigned_agreeing e f agrees assigned in
      let first = length_is_least mode vs e assigned in
      let second = length_is_least mode vs f assigned_f in
      let less = no_longer e f agrees assigned assigned_f in
      let more = no_longer f e (agrees_back vs e f agrees) assigned_f assigned in
      let long = first.1 in
      let long_f = second.1 in
      word_is_unique vs (shortest_word vs f) (shortest_word vs e) f second.0 (encodes_agreeing e f agrees (shortest_word vs e) first.0) (omega (arith, less, more, long, long_f))
