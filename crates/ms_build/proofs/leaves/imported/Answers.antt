use Rattle.std.proofs.Common.{Ok, ◌≡◌, ◌<◌, ◌+◌, inl, inr, length, ap, sym, subst, ◌∙◌, rules}
use Rattle.std.proofs.lemmas.Option.{same_Some}
use Rattle.ms_basic.specs.Operands.{HaveOneOrder}
use Rattle.ms_logic_words.specs.Content.{Content}
use Rattle.ms_logic_words.specs.declared.sign.Sign.{Sign}
use Rattle.ms_rename.specs.Renamed.{renamed}
use Rattle.ms_build.proofs.ChildLemmas.{as_long, one_order}
use Rattle.ms_build.proofs.ImportLemmas.{imported_by}
use Rattle.ms_rename.specs.Renamed.{NeedsAtLeast, Rises, renamed_places}
use Rattle.ms_build.specs.Short.{ImportLacks, IsFewestOf}
use Rattle.ms_build.proofs.RefusalLemmas.{fault_more}
use Rattle.ms_build.proofs.leaves.imported.Goals as goal

pub rename-requires-clause-long : goal.rename-requires-clause-long
rename-requires-clause-long c =
    let is = c.requires.import in
    let content = c.get-automaton.result.now in
    let same : is.0 ≡ content = same_Some is.0 content (sym is.1 ∙ c.get-automaton.ensures) in
    let few = c.in_ok-few.few in
    let variables = c.in_ok-few.ensures.variables ∙ ap (λ (d : Content Sign). d.variables) (sym same) ∙ is.3.1 in
    ap length c.slice.ensures ∙ as_long c.args.orders.now c.args.variables.now is.3.0 is.3.2 few variables

pub rename-requires-clause-orders : goal.rename-requires-clause-orders
rename-requires-clause-orders c =
    let is = c.requires.import in
    let content = c.get-automaton.result.now in
    let same : is.0 ≡ content = same_Some is.0 content (sym is.1 ∙ c.get-automaton.ensures) in
    let few = c.in_ok-few.few in
    let variables = c.in_ok-few.ensures.variables ∙ ap (λ (d : Content Sign). d.variables) (sym same) ∙ is.3.1 in
    subst (λ map. HaveOneOrder (renamed map few.variables)) (sym c.slice.ensures) (one_order c.args.orders.now c.args.variables.now is.3.0 is.3.2 few variables)

pub returns-clause-import : goal.returns-clause-import
returns-clause-import c =
    let plan = c.args.plan.now in
    let is = c.requires.import in
    let content = c.get-automaton.result.now in
    let same : is.0 ≡ content = same_Some is.0 content (sym is.1 ∙ c.get-automaton.ensures) in
    let variables = ap (λ (d : Content Sign). d.variables) (sym same) ∙ is.3.1 in
    let mode = ap (λ (d : Content Sign). d.mode) (sym same) ∙ is.2 in
    let few = c.in_ok-few.ensures in
    imported_by plan.imports.now plan.mode c.args.orders.now c.args.number content c.get-automaton.ensures c.states.ensures.automaton mode is.3.0 variables
    c.in_ok-few.few c.states-2.ensures.automaton few.mode few.variables few.signs c.args.variables.now is.3.2 c.slice.result.now
    c.slice.ensures (Ok c.in_ok-made.made) c.in_ok-made.ensures.mode c.in_ok-made.ensures.variables c.in_ok-made.ensures.values

pub returns-clause-least : goal.returns-clause-least
returns-clause-least c rises =
    let few = c.in_ok-few.ensures in
    c.in_ok-made.ensures.least (subst Rises (sym c.slice.ensures) rises) (record { fewest = few.fewest; reached = few.reached; differ = few.differ })

pub returns-in_err-few-clause-nodes : goal.returns-in_err-few-clause-nodes
returns-in_err-few-clause-nodes c =
    let plan = c.args.plan.now in
    let content = c.get-automaton.result.now in
    fault_more (Content Sign) (λ refused. (refused ≡ plan.limit) × (plan.limit < length content.nodes + length content.states)) (λ refused. ImportLacks plan c.args.number c.args.variables.now) c.in_err-few.field-0.0 c.from_residual.result (search rules)
    (λ refused why. record { content = content; here = c.get-automaton.ensures; automaton = c.states.ensures.automaton; short = inl why.1 }) c.in_err-few.ensures.nodes

pub returns-in_err-made-clause-nodes : goal.returns-in_err-made-clause-nodes
returns-in_err-made-clause-nodes c =
    let plan = c.args.plan.now in
    let few = c.in_ok-few.few in
    let made = c.in_ok-few.ensures in
    let fewest : IsFewestOf c.get-automaton.result.now few
    = record {
      automaton = c.states-2.ensures.automaton;
      mode_is = made.mode;
      variables = made.variables;
      signs = made.signs;
      least = record { fewest = made.fewest; reached = made.reached; differ = made.differ };
    } in
    fault_more (Content Sign) (λ refused. (refused ≡ plan.limit) × NeedsAtLeast plan.limit few (renamed_places c.slice.result.now few.variables)) (λ refused. ImportLacks plan c.args.number c.args.variables.now)
    c.in_err-made.field-0.0 c.from_residual-in_err-made.result (search rules)
    (λ refused why.
    record {
      content = c.get-automaton.result.now;
      here = c.get-automaton.ensures;
      automaton = c.states.ensures.automaton;
      short = inr (few, fewest, subst (λ map. NeedsAtLeast plan.limit few (renamed_places map few.variables)) c.slice.ensures why.1);
    })
    c.in_err-made.ensures.nodes
