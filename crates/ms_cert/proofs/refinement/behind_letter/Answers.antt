use Rattle.std.proofs.Common.{◌≡◌, ◌≢◌, ◌<◌, ◌++◌, ◌∷◌, [], ℕ, Bool, List, length, slice_get, Some, ap, subst, ◌∙◌, arith}
use Rattle.ms_dfa.specs.Files.{content_of_file}
use Rattle.ms_logic_words.specs.Content.{next_state, state_after}
use Rattle.ms_dfafile_outside.proofs.FileLemmas.{length-states}
use Rattle.ms_cert.specs.inner.Partition.{IsParting, classes_of}
use Rattle.ms_cert.proofs.ListLemmas.{get-item}
use Rattle.ms_cert.proofs.TellingLemmas.{tells-behind}
use Rattle.ms_cert.proofs.refinement.behind_letter.Goals as goal

pub returns-clause-apart : goal.returns-clause-apart
returns-clause-apart c =
    let plain = c.args.round.now.file.now.plain.now in
    let content = content_of_file plain in
    let parts = classes_of c.args.partition.now in
    let is = c.requires.partition in
    let letter = c.args.letter in
    let first = c.state_after-first.result in
    let second = c.state_after-second.result in
    let found = c.index-found.result.now in
    let split = c.parting-split.result in
    let count = is.states_count in
    let first_in = c.state_after-first.ensures.state in
    let second_in = c.state_after-second.ensures.state in
    let pushed : c.push.new.list ≡ letter ∷ [] = c.in_ok-push.ensures.ok ∙ ap (λ (l : List (List Bool)). l ++ letter ∷ []) c.new-letters.ensures in
    let is_first : first ≡ next_state content c.args.one letter = c.state_after-first.ensures.after ∙ ap (state_after content c.args.one) (c.slice.ensures ∙ pushed) in
    let is_second : second ≡ next_state content c.args.other letter = c.state_after-second.ensures.after ∙ ap (state_after content c.args.other) (c.slice-2.ensures ∙ pushed) in
    let held_first : slice_get parts.classes first ≡ Some c.index.result.now = get-item parts.classes first c.index.result.now (omega (arith, first_in, count, length-states plain)) c.index.ensures in
    let held_second : slice_get parts.classes second ≡ Some c.index-2.result.now = get-item parts.classes second c.index-2.result.now (omega (arith, second_in, count, length-states plain)) c.index-2.ensures in
    let parting = λ (differ : c.index.result.now ≢ c.index-2.result.now). subst (λ (parents : List ℕ). IsParting parents c.index.result.now c.index-2.result.now split) c.as_slice.ensures.value (c.parting-split.ensures.parting differ) in
    let within : split < length parts.splitters = let less = c.parting-split.ensures.within in let long = is.splitters_count in omega (arith, less, long, ap length c.as_slice.ensures.value) in
    let letters : c.own.result ≡ letter ∷ found.letters = c.own.ensures ∙ c.in_ok-append_letters.ensures ∙ ap (λ (l : List (List Bool)). l ++ c.slice-3.result.now) pushed ∙ ap (λ (l : List (List Bool)). letter ∷ l) c.slice-3.ensures in
    tells-behind content c.args.one c.args.other parts is c.args.round.now.classes.now letter first second c.index.result.now c.index-2.result.now split found c.own.result c.requires.refines
    c.requires.apart is_first is_second held_first held_second parting (get-item parts.splitters split found within c.index-found.ensures) letters
