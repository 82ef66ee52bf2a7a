use Rattle.std.proofs.Common.{get_or, nat_eq, sym}
use Rattle.std.proofs.lemmas.Bool.{eqb-true}
use Rattle.std.proofs.lemmas.Option.{slice_get-get_or}
use Rattle.ms_diagram.specs.Relabel.{IsRelabelled}
use Rattle.ms_diagram.proofs.TableLemmas.{EachEntry-found}
use Rattle.ms_diagram.proofs.RelabelLemmas.{covered_leaf, Builds-relabelled, Builds-mapped, relabelling_split}
use Rattle.ms_diagram.proofs.relabel.RelabellingWalk.visit.Goals as goal

pub bounds-self-value : goal.bounds-self-value
bounds-self-value g c =
    covered_leaf c.args.store.now.nodes c.args.self.now.map.now c.args.item c.in-Leaf.value c.in-Leaf.is c.requires.fits.1

pub returns-in-Leaf-clause-visited : goal.returns-in-Leaf-clause-visited
returns-in-Leaf-clause-visited g c =
    let map = c.args.self.now.map.now in
    let builds = Builds-mapped c.args.store.now map c.args.item c.in-Leaf.value (get_or map c.in-Leaf.value 0) c.requires.store c.in-Leaf.is
    (slice_get-get_or map c.in-Leaf.value 0 (covered_leaf c.args.store.now.nodes map c.args.item c.in-Leaf.value c.in-Leaf.is c.requires.fits.1)) in
    record { valid = builds.valid; meets = builds.function }

pub returns-in-Some-clause-visited : goal.returns-in-Some-clause-visited
returns-in-Some-clause-visited g c =
    let map = c.args.self.now.map.now in
    let builds = Builds-relabelled c.args.store.now map c.args.item c.in-Inner.place c.in-Some.made c.requires.store c.in-Inner.is
    (EachEntry-found (IsRelabelled c.args.store.now.nodes map) nat_eq c.in-Inner.place eqb-true (g.T.Notes.entries c.args.notes.now) c.in-Some.made
    (sym c.in-Some.ensures.answer) c.requires.table) in
    record { valid = builds.valid; meets = builds.function }

pub returns-in_default-clause-visited : goal.returns-in_default-clause-visited
returns-in_default-clause-visited g c = (
  sym c.in-Inner.is,
  relabelling_split (λ s. s.map.now) c.args.self.now c.args.store.now.nodes c.args.item c.in-Inner.place c.in-Inner.is c.node-node.result c.node-node.ensures.held c.requires.fits,
)
