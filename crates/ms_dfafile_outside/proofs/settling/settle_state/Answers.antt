use Rattle.std.proofs.Common.{◌≡◌, ◌↔◌, ◌<◌, ◌-◌, ℕ, Bool, IsTrue, List, length, get_or, slice_get, Some, sym, ap, subst, ◌∙◌, arith}
use Rattle.std.proofs.lemmas.Option.{same_Some}
use Rattle.std.proofs.lemmas.Result.{IfOk-weaker}
use Rattle.ms_arena.specs.declared.node.Ref.TheVariants.{Leaf}
use Rattle.ms_dfa.specs.Files.{content_of_file}
use Rattle.ms_dfa.specs.declared.plain.FileSign.{FileSign}
use Rattle.ms_dfa.specs.declared.plain.Plain.{Plain}
use Rattle.ms_logic_words.specs.Content.{NamesPart, StateOf}
use Rattle.ms_dfafile_outside.specs.declared.label.Label.{Label}
use Rattle.ms_dfafile_outside.specs.declared.label.Label.TheVariants.{Seen}
use Rattle.ms_dfafile_outside.specs.inner.Labels.{HasArrived, IsSettled, IsSettledState, orders_in}
use Rattle.ms_dfafile_outside.specs.inner.Numbers.{AreSetsBefore, full_set}
use Rattle.ms_dfafile_outside.proofs.ArrivalLemmas.{differ-told, fit-told}
use Rattle.ms_dfafile_outside.proofs.ComeLemmas.{come-next, come-sign}
use Rattle.ms_dfafile_outside.proofs.FileLemmas.{length-states, rising-file, state-at, state_of}
use Rattle.ms_dfafile_outside.proofs.LabelsLemmas.{Finds-done}
use Rattle.ms_dfafile_outside.proofs.SetsLemmas.{set-full}
use Rattle.ms_dfafile_outside.proofs.settling.settle_state.Goals as goal

named-state : (plain : Plain) (place : ℕ) → place < length plain.states → NamesPart (content_of_file plain) (Leaf place)
named-state plain place within = omega (arith, within, length-states plain)

-- the last of the sets is that of all numbers
all-told : (plain : Plain) (sets : List ℕ) (label : Label) (has_all : Bool) → AreSetsBefore (orders_in (content_of_file plain)) sets → IsTrue has_all ↔ (label ≡ Seen (get_or sets (length sets - 1) 0))
    → IsTrue has_all ↔ (label ≡ Seen (full_set (orders_in (content_of_file plain))))
all-told plain sets label has_all are told =
    let orders = orders_in (content_of_file plain) in
    let last : length sets - 1 ≡ length orders = omega (arith, are.long) in
    subst (λ full. IsTrue has_all ↔ (label ≡ Seen full)) (ap (λ k. get_or sets k 0) last ∙ set-full orders sets are) told

pub returns-then-is_outside-has_all : goal.returns-then-is_outside-has_all
returns-then-is_outside-has_all c marks =
    let plain = c.args.plain.now in
    let content = content_of_file plain in
    let state = c.get-state.result.now in
    let named = named-state plain c.args.place c.requires.named in
    let there = c.requires.labels.come (Leaf c.args.place) c.args.label named c.requires.known in
    differ-told state.sign c.args.label (full_set (orders_in content)) c.is_outside.result c.is_all-has_all.result c.is_outside.ensures
    (all-told plain c.args.sets.now c.args.label c.is_all-has_all.result c.requires.sets c.is_all-has_all.ensures) c.if-is_outside-has_all.true
    (come-sign content c.requires.content (rising-file plain) marks c.args.place c.args.label there.0 (state_of state) (state-at plain c.args.place state c.get-state.ensures) there.1)

pub arrive-requires-clause-named : goal.arrive-requires-clause-named
arrive-requires-clause-named c =
    let plain = c.args.plain.now in
    let state = c.get-state.result.now in
    c.requires.content.next_named c.args.place (state_of state) (state-at plain c.args.place state c.get-state.ensures)

pub arrive-requires-clause-come : goal.arrive-requires-clause-come
arrive-requires-clause-come c =
    let plain = c.args.plain.now in
    let state = c.get-state.result.now in
    let there = c.requires.labels.come (Leaf c.args.place) c.args.label (named-state plain c.args.place c.requires.named) c.requires.known in
    come-next (content_of_file plain) c.requires.content c.args.place c.args.label there.0 (state_of state) (state-at plain c.args.place state c.get-state.ensures) there.1

pub returns : goal.returns
returns c =
    let plain = c.args.plain.now in
    let content = content_of_file plain in
    let state = c.get-state.result.now in
    let new = c.arrive.new.labels in
    let held = state-at plain c.args.place state c.get-state.ensures in
    let sign = fit-told state.sign c.args.label (full_set (orders_in content)) c.is_outside.result c.is_all-has_all.result c.is_outside.ensures
    (all-told plain c.args.sets.now c.args.label c.is_all-has_all.result c.requires.sets c.is_all-has_all.ensures) c.if-is_outside-has_all.false in
    let settled = λ (arrived : HasArrived content new.known.items state.next c.args.label 0) (other : StateOf FileSign) (is : slice_get content.states c.args.place ≡ Some other).
    subst (λ (s : StateOf FileSign). IsSettledState content new.known.items s c.args.label) (same_Some (state_of state) other (sym held ∙ is)) (record { sign = sign; next = arrived }) in
    IfOk-weaker c.arrive.result _ _
    (λ agrees found. Finds-done content c.args.labels.now.known.items new.known.items c.args.labels.now.work new.work
    (HasArrived content new.known.items state.next c.args.label 0) (IsSettled content new.known.items (Leaf c.args.place) c.args.label) agrees settled found)
    c.arrive.ensures
