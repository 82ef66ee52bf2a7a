use Rattle.std.proofs.Common.{◌≡◌, inr, List, length, sym, subst, ◌∙◌, rules}
use Rattle.std.proofs.lemmas.Bool.{eqb-true}
use Rattle.std.proofs.lemmas.List.{nil_from_length}
use Rattle.ms_dfa.specs.Automaton.{variables_of}
use Rattle.ms_dfa.specs.declared.track.Track.{Track}
use Rattle.ms_build.specs.Wider.{IsWider}
use Rattle.ms_build.proofs.WiderLemmas.{IsWider-none, wider_by}
use Rattle.ms_logic_words.specs.Content.{Content}
use Rattle.ms_logic_words.specs.declared.sign.Sign.{Sign}
use Rattle.ms_product.specs.Pairing.{AreAtLeast, operands_of}
use Rattle.ms_product.specs.declared.op.Op.{Op}
use Rattle.ms_rename.specs.Whole.{IsSmallWhole}
use Rattle.ms_build.specs.Short.{IsWideShort}
use Rattle.ms_build.proofs.RefusalLemmas.{fault_more}
use Rattle.ms_build.proofs.wider.with_free.Goals as goal

pub returns-then-is_empty-clause-wider : goal.returns-then-is_empty-clause-wider
returns-then-is_empty-clause-wider c =
    let none = nil_from_length c.args.tracks.now (eqb-true (length c.args.tracks.now) 0 (sym c.is_empty.ensures ∙ c.if-is_empty.true)) in
    subst (λ (tracks : List Track). IsWider c.args.part (variables_of tracks) c.args.part) (sym none) (IsWider-none c.args.part c.states.ensures.automaton)

pub returns-in-Ok-clause-wider : goal.returns-in-Ok-clause-wider
returns-in-Ok-clause-wider c =
    wider_by c.args.part c.in_ok-wide.wide (variables_of c.args.tracks.now) c.in-Ok.made c.requires.orders c.in_ok-wide.ensures.mode c.in_ok-wide.ensures.variables c.in_ok-wide.ensures.values
    c.in-Ok.ensures.mode c.in-Ok.ensures.variables c.in-Ok.ensures.signs

pub returns-in-Ok-clause-least : goal.returns-in-Ok-clause-least
returns-in-Ok-clause-least c = inr c.in-Ok.ensures.least

pub returns-in_err-wide-clause-nodes : goal.returns-in_err-wide-clause-nodes
returns-in_err-wide-clause-nodes c =
    let limit = c.args.plan.now.limit in
    let free = variables_of c.args.tracks.now in
    fault_more (Content Sign) (λ refused. (refused ≡ limit) × ((other : Content Sign) × IsSmallWhole free other × AreAtLeast limit Op.And (operands_of c.args.part other))) (λ refused. IsWideShort limit c.args.part free)
    c.in_err-wide.field-0.0 c.from_residual.result (search rules) (λ refused why. inr why.1) c.in_err-wide.ensures.nodes
