use Rattle.std.proofs.Common.{Ok, ap, arith, ◌∙◌}
use Rattle.ms_diagram.specs.Store.{Contents}
use Rattle.ms_logic_words.specs.declared.sign.Sign.{Sign}
use Rattle.ms_logic_words.specs.Content.{Content}
use Rattle.ms_minim.specs.declared.reduction.Reduced.{Reduced}
use Rattle.ms_minim.specs.SignReading.{read_content}
use Rattle.ms_minim.specs.inner.Quotient.{Quotienting}
use Rattle.ms_minim.proofs.FewestLemmas.{quotient_of, explores_of, IsReducedOf-made}
use Rattle.ms_minim.proofs.NeededLemmas.{refused_needs, refused_unread}
use Rattle.ms_minim.proofs.NodeLemmas.{few_nodes, refused_quotient}
use Rattle.ms_minim.proofs.ReadingLemmas.{refused-read}
use Rattle.ms_minim.proofs.reduction.reduce.Goals as goal

pub returns-in-Err-explored-clause-nodes : goal.returns-in-Err-explored-clause-nodes
returns-in-Err-explored-clause-nodes c =
    let a = c.args.a.now in
    let content = read_content c.args.reading a in
    let seen = c.explore-explored.new.machine.quotient in
    let same = ap (λ (q : Quotienting). q.content) c.explore-explored.ensures.later.same ∙ c.in-Ok.ensures.automaton ∙ c.new-reader.ensures in
    let quotient = quotient_of content seen same _ _ c.quotient.view_is c.quotient.invariant in
    refused-read Reduced c.args.reading a c.args.limit c.in-Err-explored.fault
    (refused_quotient content seen.classes seen.members _ seen.pairs quotient (Content Sign) c.reserve.new.self c.explore-explored.new.store c.args.limit (ap (λ (s : Contents). s.nodes) c.reserve.ensures ∙ c.new-store.ensures.empty) (ap (λ (s : Contents). s.limit) c.reserve.ensures ∙ c.new-store.ensures.limit) c.explore-explored.new.states
    c.in-Err-explored.fault (explores_of content seen same c.reserve.new.self c.explore-explored.new.store c.explore-explored.new.states _ c.in-Err-explored.ensures.explored))

pub returns-in-Err-explored-clause-needs : goal.returns-in-Err-explored-clause-needs
returns-in-Err-explored-clause-needs c =
    let a = c.args.a.now in
    let content = read_content c.args.reading a in
    let seen = c.explore-explored.new.machine.quotient in
    let same = ap (λ (q : Quotienting). q.content) c.explore-explored.ensures.later.same ∙ c.in-Ok.ensures.automaton ∙ c.new-reader.ensures in
    let quotient = quotient_of content seen same _ _ c.quotient.view_is c.quotient.invariant in
    refused_unread Reduced c.args.reading a c.args.limit c.in-Err-explored.fault
    (refused_needs content seen.classes seen.members _ seen.pairs quotient (Content Sign) c.reserve.new.self c.explore-explored.new.store c.args.limit (ap (λ (s : Contents). s.nodes) c.reserve.ensures ∙ c.new-store.ensures.empty)
    (ap (λ (s : Contents). s.limit) c.reserve.ensures ∙ c.new-store.ensures.limit) c.explore-explored.new.states c.in-Err-explored.fault
    (explores_of content seen same c.reserve.new.self c.explore-explored.new.store c.explore-explored.new.states _ c.in-Err-explored.ensures.explored))

pub returns-clause-reduced : goal.returns-clause-reduced
returns-clause-reduced c =
    let content = read_content c.args.reading c.args.a.now in
    let seen = c.explore-explored.new.machine.quotient in
    let same = ap (λ (q : Quotienting). q.content) c.explore-explored.ensures.later.same ∙ c.in-Ok.ensures.automaton ∙ c.new-reader.ensures in
    let quotient = quotient_of content seen same _ _ c.quotient.view_is c.quotient.invariant in
    let explores = explores_of content seen same c.reserve.new.self c.explore-explored.new.store c.explore-explored.new.states (Ok c.in-Ok-explored.start) c.in-Ok-explored.ensures.explored in
    IsReducedOf-made content seen.classes seen.members _ seen.pairs quotient c.explore-explored.new.store.nodes c.in-Ok-explored.start c.explore-explored.new.states explores.grows.store.ordered explores.grows.store.reduced
    explores.start explores.all explores.follows
    (few_nodes content seen.classes seen.members _ seen.pairs quotient c.reserve.new.self c.explore-explored.new.store (ap (λ (s : Contents). s.nodes) c.reserve.ensures ∙ c.new-store.ensures.empty) explores.grows)

pub returns-clause-few : goal.returns-clause-few
returns-clause-few c =
    let content = read_content c.args.reading c.args.a.now in
    let seen = c.explore-explored.new.machine.quotient in
    let same = ap (λ (q : Quotienting). q.content) c.explore-explored.ensures.later.same ∙ c.in-Ok.ensures.automaton ∙ c.new-reader.ensures in
    let explores = explores_of content seen same c.reserve.new.self c.explore-explored.new.store c.explore-explored.new.states (Ok c.in-Ok-explored.start) c.in-Ok-explored.ensures.explored in
    let within = explores.within in
    let all = explores.all in
    let limit = explores.grows.limit in
    let given = ap (λ (s : Contents). s.limit) c.reserve.ensures ∙ c.new-store.ensures.limit in
    omega (arith, within, all, limit, given)

pub explore-explored-requires-clause-ready : goal.explore-explored-requires-clause-ready
explore-explored-requires-clause-ready c = c.in-Ok.ensures.ready c.reserve.new.self.nodes
