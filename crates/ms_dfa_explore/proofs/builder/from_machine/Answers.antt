use Rattle.std.proofs.Common.{◌≡◌, ◌+◌, ◌≤◌, length, Ok, Err, refl, ap, subst, sym, ◌∙◌, arith}
use Rattle.ms_dfa.specs.Automaton.{variables_of}
use Rattle.ms_logic_words.specs.Content.{Content, sign_of}
use Rattle.ms_logic_words.specs.declared.sign.Sign.{Sign}
use Rattle.ms_dfa_explore.specs.Small.{HasStatesOf}
use Rattle.ms_dfa_explore.specs.declared.builder.Known.{Known}
use Rattle.ms_dfa_explore.proofs.RunLemmas.{length-states_of}
use Rattle.ms_dfa_explore.proofs.TableLemmas.{sign_of_table, IsAutomaton-table, Explores-known, few_nodes, few_variables, found_of, places_over, refused_small, states_of_table}
use Rattle.ms_dfa_explore.proofs.builder.from_machine.Goals as goal

pub returns-in-Err-explore-clause-nodes : goal.returns-in-Err-explore-clause-nodes
returns-in-Err-explore-clause-nodes g c =
    let known = c.explore.new.machine in
    let variables = variables_of c.args.tracks in
    let few = few_variables c.args.tracks c.requires.few in
    let same : variables_of c.slice.result.now ≡ variables = ap variables_of c.slice.ensures in
    let explores = Explores-known (λ (k : Known _). g.M.SmallMachine.table k.machine) (λ k. k.reads) (record { machine = c.args.machine; reads = c.in-Ok.reads }) known variables
    c.new-store.result c.explore.new.store c.explore.new.states (Err c.in-Err-explore.fault) c.in-Err-explore.ensures.later (c.in-Ok.ensures ∙ ap places_over same) c.in-Err-explore.ensures.explored in
    let table = g.M.SmallMachine.table c.args.machine in
    refused_small (Content Sign) c.new-store.result c.explore.new.store (found_of table (places_over variables)) c.explore.new.states c.in-Err-explore.fault table.states c.args.limit
    explores (λ never. never) (few_nodes table variables c.new-store.result c.explore.new.store c.explore.new.states (Err c.in-Err-explore.fault) few (ap length c.new-store.ensures.empty) explores)
    (sym c.new-store.ensures.limit) refl

pub make-requires : goal.make-requires
make-requires g c =
    let known = c.explore.new.machine in
    let variables = variables_of c.args.tracks in
    let few = few_variables c.args.tracks c.requires.few in
    let same : variables_of c.slice.result.now ≡ variables = ap variables_of c.slice.ensures in
    let explores = Explores-known (λ (k : Known _). g.M.SmallMachine.table k.machine) (λ k. k.reads) (record { machine = c.args.machine; reads = c.in-Ok.reads }) known variables
    c.new-store.result c.explore.new.store c.explore.new.states (Ok c.in-Ok-explore.start) c.in-Ok-explore.ensures.later (c.in-Ok.ensures ∙ ap places_over same) c.in-Ok-explore.ensures.explored in
    IsAutomaton-table (g.M.SmallMachine.table c.args.machine) variables c.requires.closed few c.explore.new.store.nodes c.args.mode c.in-Ok-explore.start c.explore.new.states
    explores.grows.store.ordered explores.grows.store.reduced explores.start explores.all explores.follows c.requires.rising c.requires.tells
    (omega (arith, explores.within, explores.grows.store.small))

pub returns-clause-signs : goal.returns-clause-signs
returns-clause-signs g c =
    let known = c.explore.new.machine in
    let variables = variables_of c.args.tracks in
    let few = few_variables c.args.tracks c.requires.few in
    let same : variables_of c.slice.result.now ≡ variables = ap variables_of c.slice.ensures in
    let explores = Explores-known (λ (k : Known _). g.M.SmallMachine.table k.machine) (λ k. k.reads) (record { machine = c.args.machine; reads = c.in-Ok.reads }) known variables
    c.new-store.result c.explore.new.store c.explore.new.states (Ok c.in-Ok-explore.start) c.in-Ok-explore.ensures.later (c.in-Ok.ensures ∙ ap places_over same) c.in-Ok-explore.ensures.explored in
    λ word over.
    ap (λ (content : Content Sign). sign_of content word) c.make.ensures
    ∙ sign_of_table (g.M.SmallMachine.table c.args.machine) variables c.requires.closed few c.explore.new.store.nodes c.args.mode c.in-Ok-explore.start
    c.explore.new.states explores.grows.store.ordered explores.grows.store.reduced explores.start explores.all explores.follows word over

pub returns-clause-within : goal.returns-clause-within
returns-clause-within g c =
    let known = c.explore.new.machine in
    let variables = variables_of c.args.tracks in
    let few = few_variables c.args.tracks c.requires.few in
    let same : variables_of c.slice.result.now ≡ variables = ap variables_of c.slice.ensures in
    let explores = Explores-known (λ (k : Known _). g.M.SmallMachine.table k.machine) (λ k. k.reads) (record { machine = c.args.machine; reads = c.in-Ok.reads }) known variables
    c.new-store.result c.explore.new.store c.explore.new.states (Ok c.in-Ok-explore.start) c.in-Ok-explore.ensures.later (c.in-Ok.ensures ∙ ap places_over same) c.in-Ok-explore.ensures.explored in
    let counted = length-states_of c.explore.new.states in
    let all = explores.all in
    let at_limit = explores.grows.limit ∙ c.new-store.ensures.limit in
    subst (λ (content : Content Sign). length content.nodes + length content.states ≤ c.args.limit) (sym c.make.ensures) (omega (arith, counted, all, at_limit, explores.within))

pub returns-clause-states : goal.returns-clause-states
returns-clause-states g c =
    let known = c.explore.new.machine in
    let variables = variables_of c.args.tracks in
    let few = few_variables c.args.tracks c.requires.few in
    let same : variables_of c.slice.result.now ≡ variables = ap variables_of c.slice.ensures in
    let explores = Explores-known (λ (k : Known _). g.M.SmallMachine.table k.machine) (λ k. k.reads) (record { machine = c.args.machine; reads = c.in-Ok.reads }) known variables
    c.new-store.result c.explore.new.store c.explore.new.states (Ok c.in-Ok-explore.start) c.in-Ok-explore.ensures.later (c.in-Ok.ensures ∙ ap places_over same) c.in-Ok-explore.ensures.explored in
    let table = g.M.SmallMachine.table c.args.machine in
    subst (HasStatesOf table variables) (sym c.make.ensures)
    (states_of_table table variables c.requires.closed few c.explore.new.store.nodes c.args.mode c.in-Ok-explore.start
    c.explore.new.states explores.grows.store.ordered explores.grows.store.reduced explores.start explores.all explores.follows)
