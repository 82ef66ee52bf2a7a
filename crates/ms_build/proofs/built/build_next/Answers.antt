use Rattle.std.proofs.Common.{length, subst, rules}
use Rattle.ms_build.specs.Built.{IsBuiltAt}
use Rattle.ms_build.proofs.FormLemmas.{AreBuilt-pushed}
use Rattle.ms_build.specs.Short.{NodeLacks}
use Rattle.ms_build.proofs.RefusalLemmas.{fault_more, refused_more}
use Rattle.ms_build.proofs.built.build_next.Goals as goal
use Rattle.ms_logic_words.specs.Content.{Content}
use Rattle.ms_logic_words.specs.declared.sign.Sign.{Sign}

pub returns-clause-built : goal.returns-clause-built
returns-clause-built c =
    let made = c.in_ok-made.made in
    AreBuilt-pushed c.args.plan.now c.args.automata.now.items made c.push_automaton.new.automata.items c.push_automaton.result c.push_automaton.ensures.pushed c.requires.built
    (subst (λ list. IsBuiltAt c.args.plan.now (length list) made) c.as_slice.ensures.value c.in_ok-made.ensures.built)

pub returns-in_err-made-clause-nodes : goal.returns-in_err-made-clause-nodes
returns-in_err-made-clause-nodes c =
    fault_more (Content Sign) (λ refused. NodeLacks c.args.plan.now (length c.as_slice.result.now)) (λ refused. NodeLacks c.args.plan.now (length c.args.automata.now.items)) c.in_err-made.field-0.0 c.from_residual.result (search rules)
    (λ refused lacks. subst (λ list. NodeLacks c.args.plan.now (length list)) c.as_slice.ensures.value lacks) c.in_err-made.ensures.nodes

pub returns-clause-nodes : goal.returns-clause-nodes
returns-clause-nodes c =
    refused_more (λ refused. ⊥) (λ refused. NodeLacks c.args.plan.now (length c.args.automata.now.items)) c.push_automaton.result (λ refused never. absurd never) c.push_automaton.ensures.nodes
