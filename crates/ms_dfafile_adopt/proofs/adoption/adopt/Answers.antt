use Rattle.std.proofs.Common.{◌≡◌, ◌+◌, inr, length, ap, sym, subst, ◌∙◌}
use Rattle.ms_basic.specs.Operands.{HaveOneOrder}
use Rattle.ms_dfa_explore.specs.Tracks.{distinct}
use Rattle.ms_rename.specs.Renamed.{HasPartsOf, NeedsAtLeast, Rises, beside_itself, renamed, renamed_meaning, renamed_places}
use Rattle.ms_product.specs.Pairing.{ReachedAreAtLeast}
use Rattle.ms_product.specs.declared.op.Op.TheVariants.{And}
use Rattle.ms_logic_words.specs.declared.sign.Sign.{Sign}
use Rattle.ms_logic_words.specs.Content.{Content}
use Rattle.ms_dfa.specs.Values.{HasValues, own_meaning}
use Rattle.ms_dfafile_adopt.specs.Import.{IsNotImportable}
use Rattle.ms_dfafile_adopt.proofs.FileLemmas.{refused_by}
use Rattle.ms_dfafile_adopt.proofs.PairLemmas.{adopted_values, adopted_variables, long_map, one_order_own}
use Rattle.ms_dfafile_adopt.proofs.adoption.adopt.Goals as goal

pub returns-in-Err-clause-refused : goal.returns-in-Err-clause-refused
returns-in-Err-clause-refused c = c.in-Err.ensures.refused c.args.limit

pub rename-requires-clause-long : goal.rename-requires-clause-long
rename-requires-clause-long c =
    ap length c.slice.ensures
    ∙ long_map c.args.plain.now c.requires.file c.args.used.now.pairs c.requires.different c.in-Ok.places c.in-Ok.ensures.naming c.args.mode c.in-Ok-own_in_mode.own c.states.ensures.automaton
    c.in-Ok-own_in_mode.ensures.signs

pub rename-requires-clause-orders : goal.rename-requires-clause-orders
rename-requires-clause-orders c =
    subst (λ map. HaveOneOrder (renamed map c.in-Ok-own_in_mode.own.variables)) (sym c.slice.ensures)
    (one_order_own c.args.plain.now c.requires.file c.args.used.now.pairs c.requires.different c.in-Ok.places c.in-Ok.ensures.naming c.args.mode c.in-Ok-own_in_mode.own c.states.ensures.automaton
    c.in-Ok-own_in_mode.ensures.signs)

pub returns-in-Ok-rename-clause-variables : goal.returns-in-Ok-rename-clause-variables
returns-in-Ok-rename-clause-variables c =
    let own = c.in-Ok-own_in_mode.own in
    let made = c.in-Ok-rename.made in
    let is = c.in-Ok-rename.ensures in
    adopted_variables c.args.plain.now c.requires.file c.args.used.now.pairs c.requires.different c.in-Ok.places c.in-Ok.ensures.naming c.args.mode own c.states.ensures.automaton
    c.in-Ok-own_in_mode.ensures.signs made is.mode (subst (λ map. made.variables ≡ distinct (renamed map own.variables)) c.slice.ensures is.variables)
    (subst (λ map. HasValues (renamed_meaning map own.variables (own_meaning own)) made) c.slice.ensures is.values)

pub returns-in-Ok-rename-clause-values : goal.returns-in-Ok-rename-clause-values
returns-in-Ok-rename-clause-values c =
    let own = c.in-Ok-own_in_mode.own in
    let made = c.in-Ok-rename.made in
    let is = c.in-Ok-rename.ensures in
    adopted_values c.args.plain.now c.requires.file c.args.used.now.pairs c.requires.different c.in-Ok.places c.in-Ok.ensures.naming c.args.mode own c.states.ensures.automaton
    c.in-Ok-own_in_mode.ensures.signs made is.mode (subst (λ map. made.variables ≡ distinct (renamed map own.variables)) c.slice.ensures is.variables)
    (subst (λ map. HasValues (renamed_meaning map own.variables (own_meaning own)) made) c.slice.ensures is.values)

pub returns-in-Ok-rename-clause-size : goal.returns-in-Ok-rename-clause-size
returns-in-Ok-rename-clause-size c =
    let own = c.in-Ok-own_in_mode.own in
    let made = c.in-Ok-rename.made in
    record {
      own = own;
      agrees = c.in-Ok-own_in_mode.ensures.signs;
      automaton = c.states.ensures.automaton;
      least = c.in-Ok-own_in_mode.ensures.least;
      places = c.in-Ok.places;
      naming = c.in-Ok.ensures.naming;
      variables = subst (λ map. made.variables ≡ distinct (renamed map own.variables)) c.slice.ensures c.in-Ok-rename.ensures.variables;
      in_order = subst (λ map. Rises map → HasPartsOf own made) c.slice.ensures c.in-Ok-rename.ensures.same;
      turned = subst (λ map. ¬ Rises map → ReachedAreAtLeast (length made.nodes + length made.states) And (beside_itself own (renamed_places map own.variables))) c.slice.ensures
          c.in-Ok-rename.ensures.size;
    }

pub returns-clause-refused : goal.returns-clause-refused
returns-clause-refused c =
    let plain = c.args.plain.now in
    let used = c.args.used.now in
    let own = c.in-Ok-own_in_mode.own in
    let cause = NeedsAtLeast c.args.limit c.in-Ok-own_in_mode.own (renamed_places c.slice.result.now c.in-Ok-own_in_mode.own.variables) in
    subst (IsNotImportable plain used c.args.mode c.args.limit) (sym c.refused.ensures)
    (refused_by (Content Sign) cause plain used c.args.mode c.args.limit c.in-Err-rename.fault c.in-Ok.ensures.fits
    (λ short. inr (record {
      own = own;
      agrees = c.in-Ok-own_in_mode.ensures.signs;
      automaton = c.states.ensures.automaton;
      least = c.in-Ok-own_in_mode.ensures.least;
      places = c.in-Ok.places;
      naming = c.in-Ok.ensures.naming;
      short = subst (λ map. NeedsAtLeast c.args.limit own (renamed_places map own.variables)) c.slice.ensures short;
    }))
    c.in-Err-rename.ensures.nodes)
