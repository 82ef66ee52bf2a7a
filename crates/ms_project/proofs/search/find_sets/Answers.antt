use Rattle.std.proofs.Common.{ℕ, List, refl, ap, subst}
use Rattle.ms_project.specs.declared.search.SetsFound.{SetsFound}
use Rattle.ms_project.specs.Subsetting.{Subsetting, IsLaterSubsetting, begun}
use Rattle.ms_project.proofs.SearchSteps.{found_sets, refused_sets, sets_found}
use Rattle.ms_project.proofs.search.find_sets.Goals as goal

pub returns-in-Err-clause-nodes : goal.returns-in-Err-clause-nodes
returns-in-Err-clause-nodes c =
    let product = c.args.product in
    let at_first : Subsetting = begun product.body.now product.store.now product.start product.states c.args.bound c.args.back in
    let seen = c.explore-explored.new.machine.subsets in
    let later = subst (λ (sets : List (List ℕ)). IsLaterSubsetting (record at_first { sets = sets }) seen) c.new.ensures c.explore-explored.ensures.later in
    refused_sets SetsFound at_first _ seen c.subsets.view_is later c.requires.ready refl c.args.limit c.requires.small c.new-store.result c.explore-explored.new.store
    c.new-store.ensures.empty c.new-store.ensures.limit c.len-2.ensures.numbering c.explore-explored.new.states c.in-Err.fault c.in-Err.ensures.explored

pub returns-clause-found : goal.returns-clause-found
returns-clause-found c =
    let product = c.args.product in
    let at_first : Subsetting = begun product.body.now product.store.now product.start product.states c.args.bound c.args.back in
    let seen = c.explore-explored.new.machine.subsets in
    let later = subst (λ (sets : List (List ℕ)). IsLaterSubsetting (record at_first { sets = sets }) seen) c.new.ensures c.explore-explored.ensures.later in
    sets_found SetsFound at_first _ seen c.subsets.view_is later c.requires.ready refl c.args.limit c.requires.small c.new-store.result c.explore-explored.new.store
    c.new-store.ensures.empty c.new-store.ensures.limit c.len-2.ensures.numbering c.explore-explored.new.states
    _ (ap (λ (v : Subsetting). v.sets) c.subsets.view_is) c.len.ensures.store c.in-Ok.start c.in-Ok.ensures.explored

pub returns-clause-size : goal.returns-clause-size
returns-clause-size c =
    let product = c.args.product in
    let at_first : Subsetting = begun product.body.now product.store.now product.start product.states c.args.bound c.args.back in
    let seen = c.explore-explored.new.machine.subsets in
    let later = subst (λ (sets : List (List ℕ)). IsLaterSubsetting (record at_first { sets = sets }) seen) c.new.ensures c.explore-explored.ensures.later in
    let explores = c.in-Ok.ensures.explored in
    found_sets SetsFound at_first _ seen c.subsets.view_is later c.requires.ready refl c.args.limit c.requires.small c.new-store.result c.explore-explored.new.store
    c.new-store.ensures.empty c.new-store.ensures.limit c.len-2.ensures.numbering c.explore-explored.new.states explores.grows explores.all
