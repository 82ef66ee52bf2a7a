use Rattle.std.proofs.Common.{◌≡◌, ℕ, ◌+◌, ◌<◌, length, slice_get, Some, sym, subst, arith}
use Rattle.std.proofs.lemmas.Option.{slice_get_within}
use Rattle.ms_list.specs.declared.word.Word.{Word}
use Rattle.ms_dfa.specs.Files.{content_of_file}
use Rattle.ms_dfa.specs.declared.plain.Plain.{Plain}
use Rattle.ms_logic_words.specs.Content.{bits_at}
use Rattle.ms_dfafile_outside.proofs.FileLemmas.{length-states, state-at, state_of}
use Rattle.ms_cert.specs.declared.levels.Found.{Found}
use Rattle.ms_cert.specs.inner.Levels.{AreUpTo, HasBegun, IsKnown, IsWordTo, reached_of}
use Rattle.ms_cert.proofs.BegunLemmas.{begun-few, begun-more, makes-next}
use Rattle.ms_cert.proofs.ListLemmas.{get-item}
use Rattle.ms_cert.proofs.levels.go_on.Goals as goal

-- the state that is next is known
record IsNext (plain : Plain) (found : Found) (done state : ℕ) : Type 0 where
  there : slice_get found.order.items done ≡ Some state
  known : IsKnown (reached_of found) state
  in_words : state < length found.words.items
  in_states : state < length plain.states

next : (plain : Plain) (found : Found) (done state : ℕ) → done < length found.order.items → HasBegun (content_of_file plain) (reached_of found) done → slice_get found.order.items done ≡ Some state → IsNext plain found done state
next plain found done state less begun there =
    let known = begun.reached_so.ordered done state there in
    let within = slice_get_within found.known.items state _ known in
    let words = begun.reached_so.words_count in
    let count = begun.reached_so.known_count in
    record {
      there = there;
      known = known;
      in_words = omega (arith, within, words, count);
      in_states = omega (arith, within, count, length-states plain);
    }

pub index-requires : goal.index-requires
index-requires c =
    let found = c.args.found.now in
    let state = c.index-state.result.now in
    let is = next c.args.plain.now found c.args.done state c.requires.done c.requires.begun (get-item found.order.items c.args.done state c.requires.done c.index-state.ensures) in
    let within = is.in_words in
    omega (arith, within, found.words.ok.0)

pub get-requires : goal.get-requires
get-requires c =
    let found = c.args.found.now in
    let state = c.index-state.result.now in
    let is = next c.args.plain.now found c.args.done state c.requires.done c.requires.begun (get-item found.order.items c.args.done state c.requires.done c.index-state.ensures) in
    is.in_states

pub walk-requires-clause-named : goal.walk-requires-clause-named
walk-requires-clause-named c =
    let state = c.index-state.result.now in
    c.requires.content.next_named state (state_of c.get.result.now) (state-at c.args.plain.now state c.get.result.now c.get.ensures)

pub walk-requires-clause-makes : goal.walk-requires-clause-makes
walk-requires-clause-makes c =
    let found = c.args.found.now in
    let content = content_of_file c.args.plain.now in
    let state = c.index-state.result.now in
    let is = next c.args.plain.now found c.args.done state c.requires.done c.requires.begun (get-item found.order.items c.args.done state c.requires.done c.index-state.ensures) in
    let held = get-item found.words.items state c.index.result.now is.in_words c.index.ensures in
    let to = subst (IsWordTo content state) (sym c.in_ok-copy_word.ensures) (c.requires.begun.reached_so.words state c.index.result.now is.known held) in
    makes-next content c.requires.content c.in_ok-copy_word.field-0 (bits_at c.deref.result.now) state (state_of c.get.result.now) (state-at c.args.plain.now state c.get.result.now c.get.ensures) to

pub walk-requires-clause-level : goal.walk-requires-clause-level
walk-requires-clause-level c =
    let found = c.args.found.now in
    let state = c.index-state.result.now in
    let is = next c.args.plain.now found c.args.done state c.requires.done c.requires.begun (get-item found.order.items c.args.done state c.requires.done c.index-state.ensures) in
    let held = get-item found.words.items state c.index.result.now is.in_words c.index.ensures in
    subst (λ (word : Word). AreUpTo (length word.letters + 1) (reached_of found)) (sym c.in_ok-copy_word.ensures)
    (begun-few (content_of_file c.args.plain.now) (reached_of found) c.args.done state c.index.result.now c.requires.begun is.there held)

pub returns : goal.returns
returns c =
    let found = c.args.found.now in
    let state = c.index-state.result.now in
    let is = next c.args.plain.now found c.args.done state c.requires.done c.requires.begun (get-item found.order.items c.args.done state c.requires.done c.index-state.ensures) in
    let held = get-item found.words.items state c.index.result.now is.in_words c.index.ensures in
    let few = subst (λ (word : Word). AreUpTo (length word.letters + 1) (reached_of c.walk.new.found)) c.in_ok-copy_word.ensures c.in_ok-walk.ensures.level in
    begun-more (content_of_file c.args.plain.now) (reached_of found) (reached_of c.walk.new.found) c.args.done state c.index.result.now (state_of c.get.result.now)
    c.requires.begun is.there held (state-at c.args.plain.now state c.get.result.now c.get.ensures)
    c.in_ok-walk.ensures.reached few c.in_ok-walk.ensures.kept c.in_ok-walk.ensures.leads
