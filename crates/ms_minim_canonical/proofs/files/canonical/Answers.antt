use Rattle.std.proofs.Common.{◌≡◌, ℕ, List, length, map, slice_get, Some, refl, sym, ap, subst, ◌∙◌, arith}
use Rattle.std.specs.Option.{option_map}
use Rattle.ms_list.specs.declared.word.Word.{Word}
use Rattle.ms_dfa.specs.declared.plain.FileVar.{FileVar}
use Rattle.ms_dfa.specs.declared.state.State.{State}
use Rattle.ms_logic.specs.declared.mode.Mode.{Mode}
use Rattle.ms_logic_words.specs.Canonical.{IsCanonical}
use Rattle.ms_logic_words.specs.Content.{IsWordOver, sign_of, variables_by_place}
use Rattle.ms_dfa.specs.Files.{file_sign, file_states_of}
use Rattle.ms_minim_canonical.specs.inner.Renumbering.{IsRenumbered, LeadsBelow}
use Rattle.ms_minim_canonical.proofs.FewLemmas.{few}
use Rattle.ms_minim_canonical.proofs.FileLemmas.{canonical-made, leads, signs-made}
use Rattle.ms_dfa.proofs.OrdersLemmas.{orders_of, orders-by_place, orders-tracks}
use Rattle.ms_minim_canonical.proofs.files.canonical.Goals as goal

pub renumbered-requires-clause-next : goal.renumbered-requires-clause-next
renumbered-requires-clause-next c =
    let a = c.args.a.now in
    let reduced = c.in-Ok-reduce.reduced in
    subst (λ (states : List State). (place : ℕ) (state : State) → slice_get states place ≡ Some state → LeadsBelow reduced.store.nodes (length states) state.next) (sym c.slice-states.ensures)
    (leads c.args.version c.reading_of.result c.reading_of.ensures a reduced.store.nodes reduced.start reduced.states c.in-Ok-reduce.ensures.reduced a.variables refl)

pub returns-clause-orders : goal.returns-clause-orders
returns-clause-orders c = c.in-Ok.ensures.orders ∙ orders-tracks c.tracks.result.now ∙ ap orders_of c.tracks.ensures.variables

pub returns-clause-signs : goal.returns-clause-signs
returns-clause-signs c =
    let a = c.args.a.now in
    let reduced = c.in-Ok-reduce.reduced in
    let made = c.in-Ok-renumbered.made in
    let orders = map (λ (v : FileVar). v.order) c.in-Ok.variables in
    let orders_are = c.in-Ok.ensures.orders ∙ orders-tracks c.tracks.result.now ∙ ap orders_of c.tracks.ensures.variables in
    let same : orders_of a.variables ≡ orders_of (variables_by_place orders) = sym orders_are ∙ sym (orders-by_place orders) in
    let renumbered = subst (λ (states : List State). IsRenumbered c.args.version reduced.store.nodes reduced.start states made.start made.states made.nodes) c.slice-states.ensures c.in-Ok-renumbered.ensures in
    subst (λ (mode : Mode). (word : Word) → IsWordOver a.variables word
    → sign_of (record { mode = mode; variables = variables_by_place orders; start = made.start; states = file_states_of made.states; nodes = made.nodes }) word ≡ option_map (file_sign c.args.version) (sign_of a word))
    (sym c.mode.ensures)
    (signs-made c.args.version c.reading_of.result c.reading_of.ensures a reduced.store.nodes reduced.start reduced.states c.in-Ok-reduce.ensures.reduced (variables_by_place orders) same made.start made.states made.nodes renumbered)

pub returns-clause-canonical : goal.returns-clause-canonical
returns-clause-canonical c =
    let a = c.args.a.now in
    let reduced = c.in-Ok-reduce.reduced in
    let made = c.in-Ok-renumbered.made in
    let orders = map (λ (v : FileVar). v.order) c.in-Ok.variables in
    let orders_are = c.in-Ok.ensures.orders ∙ orders-tracks c.tracks.result.now ∙ ap orders_of c.tracks.ensures.variables in
    let same : orders_of a.variables ≡ orders_of (variables_by_place orders) = sym orders_are ∙ sym (orders-by_place orders) in
    let renumbered = subst (λ (states : List State). IsRenumbered c.args.version reduced.store.nodes reduced.start states made.start made.states made.nodes) c.slice-states.ensures c.in-Ok-renumbered.ensures in
    subst (λ (mode : Mode). IsCanonical (record { mode = mode; variables = variables_by_place orders; start = made.start; states = file_states_of made.states; nodes = made.nodes })) (sym c.mode.ensures)
    (canonical-made c.args.version c.reading_of.result c.reading_of.ensures a reduced.store.nodes reduced.start reduced.states c.in-Ok-reduce.ensures.reduced (variables_by_place orders) same made.start made.states made.nodes renumbered)

pub returns-clause-few : goal.returns-clause-few
returns-clause-few c =
    let reduced = c.in-Ok-reduce.reduced in
    let made = c.in-Ok-renumbered.made in
    let renumbered = subst (λ (states : List State). IsRenumbered c.args.version reduced.store.nodes reduced.start states made.start made.states made.nodes) c.slice-states.ensures c.in-Ok-renumbered.ensures in
    let less = few c.args.version reduced.store.nodes reduced.start reduced.states made.start made.states made.nodes renumbered in
    omega (arith, less.0, less.1, c.in-Ok-reduce.ensures.few)
