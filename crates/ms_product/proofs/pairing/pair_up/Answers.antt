use Rattle.std.proofs.Common.{◌≡◌, Ok, Err, refl, sym, ap, subst, ◌∙◌, arith}
use Rattle.ms_product.specs.declared.pairing.Paired.{Paired}
use Rattle.ms_product.specs.Pairing.{Operands, Pairing, AreReachedPairs, IsPairedIn, IsPairedStore}
use Rattle.ms_product.proofs.CombineSteps.{AreReached-seen, AreStates-seen, Explores-seen, IsNumbering-seen}
use Rattle.ms_product.proofs.SizeLemmas.{IsPairedStore-grown, reached_at, refused_at}
use Rattle.ms_product.proofs.pairing.pair_up.Goals as goal

pub returns-in-Err-clause-nodes : goal.returns-in-Err-clause-nodes
returns-in-Err-clause-nodes c =
    let operands : Operands = record { left = c.args.left.automaton.now; left_map = c.args.left.map; right = c.args.right.automaton.now; right_map = c.args.right.map } in
    let seen = c.explore-explored.new.machine.product in
    let explores = Explores-seen c.args.op operands _ _ seen refl refl c.explore-explored.ensures.later c.product.view_is c.new-store.result c.explore-explored.new.store c.explore-explored.new.states
    (Err c.in-Err.fault) (c.in-Err.ensures.explored) in
    let are = AreStates-seen c.args.op operands _ _ seen refl refl c.explore-explored.ensures.later c.product.view_is c.product.invariant.0 in
    let numbering = IsNumbering-seen c.args.op operands _ _ seen refl refl c.explore-explored.ensures.later c.product.view_is c.len.ensures.numbering in
    let held = IsPairedStore-grown c.args.op operands c.args.limit seen.pairs c.new-store.result c.explore-explored.new.store c.new-store.ensures.empty c.new-store.ensures.limit explores.grows in
    refused_at c.args.op operands c.args.limit seen.pairs c.explore-explored.new.store held numbering are Paired c.new-store.result c.new-store.ensures.limit c.explore-explored.new.states c.in-Err.fault explores

pub returns-in-Err-clause-reached_nodes : goal.returns-in-Err-clause-reached_nodes
returns-in-Err-clause-reached_nodes c =
    let operands : Operands = record { left = c.args.left.automaton.now; left_map = c.args.left.map; right = c.args.right.automaton.now; right_map = c.args.right.map } in
    let seen = c.explore-explored.new.machine.product in
    let explores = Explores-seen c.args.op operands _ _ seen refl refl c.explore-explored.ensures.later c.product.view_is c.new-store.result c.explore-explored.new.store c.explore-explored.new.states
    (Err c.in-Err.fault) (c.in-Err.ensures.explored) in
    let are = AreStates-seen c.args.op operands _ _ seen refl refl c.explore-explored.ensures.later c.product.view_is c.product.invariant.0 in
    let numbering = IsNumbering-seen c.args.op operands _ _ seen refl refl c.explore-explored.ensures.later c.product.view_is c.len.ensures.numbering in
    let held = IsPairedStore-grown c.args.op operands c.args.limit seen.pairs c.new-store.result c.explore-explored.new.store c.new-store.ensures.empty c.new-store.ensures.limit explores.grows in
    let reached = AreReached-seen c.args.op operands _ _ seen refl refl c.explore-explored.ensures.later c.product.view_is c.product.invariant.1 in
    reached_at c.args.op operands c.args.limit seen.pairs c.explore-explored.new.store held numbering are reached Paired c.new-store.result c.explore-explored.new.states c.in-Err.fault explores

pub returns-clause-paired : goal.returns-clause-paired
returns-clause-paired c =
    let operands : Operands = record { left = c.args.left.automaton.now; left_map = c.args.left.map; right = c.args.right.automaton.now; right_map = c.args.right.map } in
    let seen = c.explore-explored.new.machine.product in
    let explores = Explores-seen c.args.op operands _ _ seen refl refl c.explore-explored.ensures.later c.product.view_is c.new-store.result c.explore-explored.new.store c.explore-explored.new.states
    (Ok c.in-Ok.start) (c.in-Ok.ensures.explored) in
    let are = AreStates-seen c.args.op operands _ _ seen refl refl c.explore-explored.ensures.later c.product.view_is c.product.invariant.0 in
    let numbering = IsNumbering-seen c.args.op operands _ _ seen refl refl c.explore-explored.ensures.later c.product.view_is c.len.ensures.numbering in
    let pairs_are : c.product.inside.pairs ≡ seen.pairs = ap (λ (p : Pairing). p.pairs) c.product.view_is in
    subst (λ pairs. IsPairedIn c.explore-explored.new.store.nodes c.args.op operands pairs c.in-Ok.start c.explore-explored.new.states) (sym pairs_are)
    (record { starts = explores.start; all = explores.all; follows = explores.follows; numbering = numbering; are = are })

pub returns-clause-reached : goal.returns-clause-reached
returns-clause-reached c =
    let operands : Operands = record { left = c.args.left.automaton.now; left_map = c.args.left.map; right = c.args.right.automaton.now; right_map = c.args.right.map } in
    let seen = c.explore-explored.new.machine.product in
    let reached = AreReached-seen c.args.op operands _ _ seen refl refl c.explore-explored.ensures.later c.product.view_is c.product.invariant.1 in
    let pairs_are : c.product.inside.pairs ≡ seen.pairs = ap (λ (p : Pairing). p.pairs) c.product.view_is in
    subst (λ pairs. AreReachedPairs operands pairs) (sym pairs_are) reached

pub returns-clause-store : goal.returns-clause-store
returns-clause-store c =
    let operands : Operands = record { left = c.args.left.automaton.now; left_map = c.args.left.map; right = c.args.right.automaton.now; right_map = c.args.right.map } in
    let seen = c.explore-explored.new.machine.product in
    let explores = Explores-seen c.args.op operands _ _ seen refl refl c.explore-explored.ensures.later c.product.view_is c.new-store.result c.explore-explored.new.store c.explore-explored.new.states
    (Ok c.in-Ok.start) (c.in-Ok.ensures.explored) in
    let pairs_are : c.product.inside.pairs ≡ seen.pairs = ap (λ (p : Pairing). p.pairs) c.product.view_is in
    subst (λ pairs. IsPairedStore c.explore-explored.new.store c.args.limit c.args.op operands pairs) (sym pairs_are)
    (IsPairedStore-grown c.args.op operands c.args.limit seen.pairs c.new-store.result c.explore-explored.new.store c.new-store.ensures.empty c.new-store.ensures.limit explores.grows)

pub returns-clause-within : goal.returns-clause-within
returns-clause-within c =
    let operands : Operands = record { left = c.args.left.automaton.now; left_map = c.args.left.map; right = c.args.right.automaton.now; right_map = c.args.right.map } in
    let seen = c.explore-explored.new.machine.product in
    let explores = Explores-seen c.args.op operands _ _ seen refl refl c.explore-explored.ensures.later c.product.view_is c.new-store.result c.explore-explored.new.store c.explore-explored.new.states
    (Ok c.in-Ok.start) (c.in-Ok.ensures.explored) in
    let all = explores.all in
    let at_limit = explores.grows.limit ∙ c.new-store.ensures.limit in
    omega (arith, all, at_limit, explores.within)
