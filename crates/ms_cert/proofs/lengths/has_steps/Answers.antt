use Rattle.std.proofs.Common.{◌≡◌, ℕ, ◌+◌, ◌≤◌, length, slice_get, refl, sym, ap, subst, ◌∙◌, arith, ⊎_elim}
use Rattle.std.proofs.lemmas.Bool.{cases_lt, false≢true}
use Rattle.std.proofs.lemmas.Option.{same_Some, slice_get_within}
use Rattle.ms_dfa.specs.Files.{content_of_file}
use Rattle.ms_dfa.specs.declared.plain.FileState.{FileState}
use Rattle.ms_list.specs.declared.word.Word.{Word}
use Rattle.ms_dfafile_outside.proofs.ContentLemmas.{valid-part}
use Rattle.ms_dfafile_outside.proofs.FileLemmas.{length-states, state-at, state_of}
use Rattle.ms_cert.specs.inner.Lengths.{most_at}
use Rattle.ms_cert.proofs.LengthsLemmas.{known-before}
use Rattle.ms_cert.proofs.ListLemmas.{get-item}
use Rattle.ms_arena.specs.Diagram.{IsBefore}
use Rattle.ms_cert.proofs.lengths.has_steps.Goals as goal

pub most_at-requires : goal.most_at-requires
most_at-requires c =
    let plain = c.args.plain.now in
    let s = c.get.result.now in
    let named = c.requires.content.next_named c.loop-state.state (state_of s) (state-at plain c.loop-state.state s c.get.ensures) in
    known-before (content_of_file plain) c.args.words.now c.args.known.now s.next (c.requires.count ∙ sym (length-states plain)) named
    (subst (λ (n : ℕ). IsBefore n s.next) (sym c.requires.known.long) (valid-part (content_of_file plain) s.next named))

pub returns-then-saturating_sub-len : goal.returns-then-saturating_sub-len
returns-then-saturating_sub-len c = (
  λ no. absurd (false≢true no),
  λ steps.
      let word = c.index-words-state.result in
      let held = get-item c.args.words.now c.loop-state.state word c.loop-state-test.true c.index-words-state.is in
      let few = steps c.loop-state.state word c.get.result.now held c.get.ensures in
      absurd (omega (arith, few, c.most_at.ensures, c.saturating_sub.ensures, c.len.ensures, c.if-saturating_sub-len.true)),
)

pub loop-state-preserved : goal.loop-state-preserved
loop-state-preserved c = λ place word state less held held_state. ⊎_elim
    (λ before. c.loop-state.invariant place word state before held held_state)
    (λ past.
    let here : place ≡ c.loop-state.state = omega arith in
    let own = c.index-words-state.result in
    let own_held = get-item c.args.words.now c.loop-state.state own c.loop-state-test.true c.index-words-state.is in
    let same : own ≡ word = same_Some own word (sym own_held ∙ ap (slice_get c.args.words.now) (sym here) ∙ held) in
    let same_state : c.get.result.now ≡ state = same_Some c.get.result.now state (sym c.get.ensures ∙ ap (slice_get c.args.plain.now.states) (sym here) ∙ held_state) in
    let few : most_at c.args.words.now c.args.known.now c.get.result.now.next ≤ length own.letters + 1 = omega (arith, c.most_at.ensures, c.saturating_sub.ensures, c.len.ensures, c.if-saturating_sub-len.false) in
    subst (λ (w : Word). most_at c.args.words.now c.args.known.now state.next ≤ length w.letters + 1) same
    (subst (λ (s : FileState). most_at c.args.words.now c.args.known.now s.next ≤ length own.letters + 1) same_state few))
    (cases_lt place c.loop-state.state)

pub returns : goal.returns
returns c = (
  λ yes place word state held held_state.
      let within = slice_get_within c.args.words.now place word held in
      c.loop-state.invariant place word state (omega (arith, within, c.loop-state-test.false)) held held_state,
  λ steps. refl,
)
