use Rattle.std.proofs.Common.{inl, inr, ⊎_elim, List, [], refl, sym, subst, ◌∙◌, rules}
use Rattle.ms_dfa.specs.Automaton.{variables_of}
use Rattle.ms_dfa.specs.declared.track.Track.{Track}
use Rattle.ms_basic.specs.Operands.{HaveOneOrder}
use Rattle.ms_product.specs.Combined.{HaveEqualOrders}
use Rattle.ms_build.specs.inner.Lacked.{IsLacked}
use Rattle.ms_build.specs.Wider.{IsWider}
use Rattle.ms_build.proofs.WiderLemmas.{IsOver-lacked, IsWider-none, free_orders, number_orders, one_order, widening_then}
use Rattle.ms_logic_words.specs.Residual.{IsLeast}
use Rattle.ms_build.specs.Short.{IsWideShort, WideningLacks}
use Rattle.ms_build.proofs.RefusalLemmas.{fault_more}
use Rattle.ms_build.proofs.wider.over_tracks.Goals as goal
use Rattle.ms_logic_words.specs.Content.{Content}
use Rattle.ms_logic_words.specs.declared.sign.Sign.{Sign}
use Rattle.ms_logic.specs.Lists.{AreRising}

pub lacked_tracks-requires-clause-own : goal.lacked_tracks-requires-clause-own
lacked_tracks-requires-clause-own c = subst AreRising (sym c.tracks.ensures.variables) c.tracks.ensures.automaton.rising

pub with_free-requires-clause-orders : goal.with_free-requires-clause-orders
with_free-requires-clause-orders c =
    let part = c.args.part in
    let wanted = variables_of c.args.tracks.now in
    let is = subst (λ own. IsLacked own wanted c.in-Ok.lacked) c.tracks.ensures.variables c.in-Ok.ensures in
    subst (λ (tracks : List Track). HaveEqualOrders part.variables (variables_of tracks)) (sym c.slice.ensures) (free_orders part wanted c.requires.rising c.requires.among c.in-Ok.lacked is)

pub with_each-requires-clause-one : goal.with_each-requires-clause-one
with_each-requires-clause-one c =
    let part = c.args.part in
    let wanted = variables_of c.args.tracks.now in
    let is = subst (λ own. IsLacked own wanted c.in-Ok.lacked) c.tracks.ensures.variables c.in-Ok.ensures in
    subst (λ (tracks : List Track). HaveOneOrder (variables_of tracks)) (sym c.slice-2.ensures) (one_order part wanted c.requires.rising c.requires.among c.in-Ok.lacked is)

pub with_each-requires-clause-orders : goal.with_each-requires-clause-orders
with_each-requires-clause-orders c =
    let part = c.args.part in
    let wanted = variables_of c.args.tracks.now in
    let is = subst (λ own. IsLacked own wanted c.in-Ok.lacked) c.tracks.ensures.variables c.in-Ok.ensures in
    let first = subst (λ (tracks : List Track). IsWider part (variables_of tracks) c.in_ok-wide.wide) c.slice.ensures c.in_ok-wide.ensures.wider in
    subst (λ (tracks : List Track). HaveEqualOrders c.in_ok-wide.wide.variables (variables_of tracks)) (sym c.slice-2.ensures)
    (number_orders part wanted c.requires.rising c.requires.among c.in-Ok.lacked is c.in_ok-wide.wide first)

pub returns-clause-over : goal.returns-clause-over
returns-clause-over c =
    let part = c.args.part in
    let wanted = variables_of c.args.tracks.now in
    let is = subst (λ own. IsLacked own wanted c.in-Ok.lacked) c.tracks.ensures.variables c.in-Ok.ensures in
    let first = subst (λ (tracks : List Track). IsWider part (variables_of tracks) c.in_ok-wide.wide) c.slice.ensures c.in_ok-wide.ensures.wider in
    let second = subst (λ (tracks : List Track). IsWider c.in_ok-wide.wide (variables_of tracks) c.in_ok-made.made) c.slice-2.ensures c.in_ok-made.ensures.wider in
    IsOver-lacked part wanted c.requires.rising c.requires.among c.in-Ok.lacked is c.in_ok-wide.wide first c.in_ok-made.made c.states.ensures.automaton c.states-2.ensures.automaton second

pub returns-clause-least : goal.returns-clause-least
returns-clause-least c =
    ⊎_elim (λ last. ⊎_elim (λ first. inl (last ∙ first)) (λ few. inr (subst IsLeast (sym last) few)) c.in_ok-wide.ensures.least) inr c.in_ok-made.ensures.least

pub returns-in_err-wide-clause-nodes : goal.returns-in_err-wide-clause-nodes
returns-in_err-wide-clause-nodes c =
    let part = c.args.part in
    let limit = c.args.plan.now.limit in
    let wanted = variables_of c.args.tracks.now in
    let is = subst (λ own. IsLacked own wanted c.in-Ok.lacked) c.tracks.ensures.variables c.in-Ok.ensures in
    fault_more (Content Sign) (λ refused. IsWideShort limit part (variables_of c.slice.result.now)) (λ refused. WideningLacks limit part wanted) c.in_err-wide.field-0.0 c.from_residual.result (search rules)
    (λ refused short.
    record {
      wide = part;
      automaton = c.tracks.ensures.automaton;
      added = [];
      is_wide = IsWider-none part c.tracks.ensures.automaton;
      least = inl refl;
      next = variables_of c.in-Ok.lacked.free;
      among = λ v. ⊎_elim (λ never. absurd never) (is.free v);
      short = subst (λ (tracks : List Track). IsWideShort limit part (variables_of tracks)) c.slice.ensures short;
    })
    c.in_err-wide.ensures.nodes

pub returns-in_err-made-clause-nodes : goal.returns-in_err-made-clause-nodes
returns-in_err-made-clause-nodes c =
    let part = c.args.part in
    let wide = c.in_ok-wide.wide in
    let limit = c.args.plan.now.limit in
    let wanted = variables_of c.args.tracks.now in
    let is = subst (λ own. IsLacked own wanted c.in-Ok.lacked) c.tracks.ensures.variables c.in-Ok.ensures in
    let first = subst (λ (tracks : List Track). IsWider part (variables_of tracks) wide) c.slice.ensures c.in_ok-wide.ensures.wider in
    fault_more (Content Sign) (λ refused. WideningLacks limit wide (variables_of c.slice-2.result.now)) (λ refused. WideningLacks limit part wanted) c.in_err-made.field-0.0 c.from_residual-in_err-made.result (search rules)
    (λ refused why.
    let lacks = subst (λ (tracks : List Track). WideningLacks limit wide (variables_of tracks)) c.slice-2.ensures why in
    widening_then limit part wide wanted (variables_of c.in-Ok.lacked.free) (variables_of c.in-Ok.lacked.numbers) c.states.ensures.automaton first c.in_ok-wide.ensures.least is.free is.numbers lacks)
    c.in_err-made.ensures.nodes
