use Rattle.std.proofs.Common.{ap, sym, subst}
use Rattle.std.proofs.lemmas.List.{length-map}
use Rattle.ms_dfa.specs.Automaton.{variable_of, variables_of}
use Rattle.ms_product.specs.declared.op.Op.TheVariants.{And}
use Rattle.ms_product.specs.Pairing.{Operands, IsPairedIn, IsPairedStore}
use Rattle.ms_dfafile_adopt.specs.inner.OverNumbers.{IsOverNumbers}
use Rattle.ms_dfafile_adopt.specs.Readings.{TellsNumbers}
use Rattle.ms_dfafile_adopt.proofs.OverNumbersLemmas.{IsAutomaton-checked, IsOverNumbers-made, operands_are}
use Rattle.ms_dfafile_adopt.proofs.over_numbers.over_numbers.Goals as goal

pub make-requires : goal.make-requires
make-requires c =
    let said = c.args.said.now in
    let numbers = c.args.numbers.now in
    let vs = variables_of c.args.tracks in
    let left = c.in-Ok.left in
    let right = c.in-Ok-over_tracks.right in
    let are = operands_are said numbers left.automaton.now right.automaton.now left.map right.map vs (variables_of c.tracks.result.now) (variables_of c.slice.result.now) c.in-Ok.ensures.automaton
    c.in-Ok.ensures.map c.tracks.ensures.variables c.in-Ok-over_tracks.ensures.automaton c.in-Ok-over_tracks.ensures.map (ap variables_of c.slice.ensures) in
    let made = c.in-Ok-pair_up.paired in
    let paired = subst (λ (o : Operands). IsPairedIn made.store.nodes And o made.pairs made.start made.states) are c.in-Ok-pair_up.ensures.paired in
    let held = subst (λ (o : Operands). IsPairedStore made.store c.args.limit And o made.pairs) are c.in-Ok-pair_up.ensures.store in
    IsAutomaton-checked said numbers vs c.tracks.ensures.automaton c.states.ensures.automaton c.requires.rising c.requires.sets c.requires.inside
    (subst (λ n. TellsNumbers vs n numbers) (sym (length-map c.args.tracks variable_of)) c.requires.tells) made.pairs paired.numbering paired.are
    made.store.nodes made.start made.states held.store.ordered held.store.reduced paired.starts paired.all paired.follows paired.numbering.small

pub returns-clause-checked : goal.returns-clause-checked
returns-clause-checked c =
    let said = c.args.said.now in
    let numbers = c.args.numbers.now in
    let vs = variables_of c.args.tracks in
    let left = c.in-Ok.left in
    let right = c.in-Ok-over_tracks.right in
    let are = operands_are said numbers left.automaton.now right.automaton.now left.map right.map vs (variables_of c.tracks.result.now) (variables_of c.slice.result.now) c.in-Ok.ensures.automaton
    c.in-Ok.ensures.map c.tracks.ensures.variables c.in-Ok-over_tracks.ensures.automaton c.in-Ok-over_tracks.ensures.map (ap variables_of c.slice.ensures) in
    let made = c.in-Ok-pair_up.paired in
    let paired = subst (λ (o : Operands). IsPairedIn made.store.nodes And o made.pairs made.start made.states) are c.in-Ok-pair_up.ensures.paired in
    let held = subst (λ (o : Operands). IsPairedStore made.store c.args.limit And o made.pairs) are c.in-Ok-pair_up.ensures.store in
    subst (IsOverNumbers said vs) (sym c.make.ensures)
    (IsOverNumbers-made said numbers vs c.tracks.ensures.automaton c.states.ensures.automaton c.requires.rising c.requires.sets c.requires.inside
    (subst (λ n. TellsNumbers vs n numbers) (sym (length-map c.args.tracks variable_of)) c.requires.tells) made.pairs paired.numbering paired.are
    made.store.nodes made.start made.states held.store.ordered held.store.reduced paired.starts paired.all paired.follows)
