use Rattle.std.proofs.Common.{◌≡◌, ◌<◌, ◌⊎◌, [], ◌∷◌, rules}
use Rattle.ms_dfa.specs.Automaton.{variable_of}
use Rattle.ms_logic_words.specs.Content.{Content}
use Rattle.ms_logic_words.specs.declared.sign.Sign.{Sign}
use Rattle.ms_product.specs.Pairing.{AreAtLeast, operands_of}
use Rattle.ms_product.specs.declared.op.Op.{Op}
use Rattle.ms_rename.specs.Whole.{IsSmallWhole}
use Rattle.ms_build.specs.Short.{IsWideShort}
use Rattle.ms_build.proofs.RefusalLemmas.{fault_more}
use Rattle.ms_build.proofs.WiderLemmas.{wider_by}
use Rattle.ms_build.proofs.wider.with_one.Goals as goal

pub returns-in-Ok-clause-wider : goal.returns-in-Ok-clause-wider
returns-in-Ok-clause-wider c =
    wider_by c.args.part.now c.in_ok-wide.wide (variable_of c.args.track ∷ []) c.in-Ok.made c.requires.orders c.in_ok-wide.ensures.mode c.in_ok-wide.ensures.variables c.in_ok-wide.ensures.values
    c.in-Ok.ensures.mode c.in-Ok.ensures.variables c.in-Ok.ensures.signs

pub returns-in_err-wide-clause-nodes : goal.returns-in_err-wide-clause-nodes
returns-in_err-wide-clause-nodes c =
    let limit = c.args.plan.now.limit in
    let next = variable_of c.args.track ∷ [] in
    fault_more (Content Sign) (λ refused. (refused ≡ limit) × ((limit < 32) ⊎ ((other : Content Sign) × IsSmallWhole next other × AreAtLeast limit Op.And (operands_of c.args.part.now other))))
    (λ refused. IsWideShort limit c.args.part.now next) c.in_err-wide.field-0.0 c.from_residual.result (search rules) (λ refused why. why.1) c.in_err-wide.ensures.nodes
