use Rattle.std.proofs.Common.{◌<◌, ℕ, List, length, get_or, ap, ◌∙◌, arith}
use Rattle.std.proofs.lemmas.List.{get_or_default}
use Rattle.std.proofs.lemmas.Option.{slice_get-get_or}
use Rattle.ms_best.specs.declared.graph.Vertex.TheVariants.{Goal}
use Rattle.ms_best.specs.inner.Graph.{distance_by}
use Rattle.ms_best.proofs.Searching.{lowered_to}
use Rattle.ms_best.proofs.distance.look_at.Goals as goal

pub returns-in-Ok-clause-search : goal.returns-in-Ok-clause-search
returns-in-Ok-clause-search c = λ due search.
    lowered_to c.args.graph.now c.args.far c.args.distances.now.items c.args.nearer.now.items c.args.place due
    (get_or c.args.graph.now c.args.place Goal) c.distance-smaller.result c.push_back.new.self.items search
    (slice_get-get_or c.args.graph.now c.args.place Goal c.requires.within)
    (c.distance-smaller.ensures ∙ ap (λ (distances : List ℕ). distance_by c.args.far distances (get_or c.args.graph.now c.args.place Goal)) c.deref.ensures.value)
    (let within : c.args.place < length c.args.distances.now.items = rw c.requires.count c.requires.within in
    omega (arith, c.if-index-smaller.false, c.index.ensures, get_or_default c.args.distances.now.items c.args.place c.index.result.now c.args.far within))
    c.in-Ok.ensures.items
