use Rattle.std.proofs.Common.{false, nat_eq, sym}
use Rattle.std.proofs.lemmas.Bool.{eqb-true}
use Rattle.ms_diagram.specs.Bring.{IsBrought}
use Rattle.ms_diagram.proofs.TableLemmas.{EachEntry-found}
use Rattle.ms_diagram.proofs.BringLemmas.{node_renamed, Builds-brought, Builds-same_leaf, bringing_split}
use Rattle.ms_diagram.proofs.bring.BringingWalk.visit.Goals as goal

pub bounds-self-node : goal.bounds-self-node
bounds-self-node g c =
    node_renamed c.args.self.now.from.now.nodes c.node-node.ensures.store.ordered c.args.self.now.map.now c.args.item c.in-Inner.place c.in-Inner.is
    c.node-node.result c.node-node.ensures.held false c.requires.fits.1

pub returns-in-Leaf-clause-visited : goal.returns-in-Leaf-clause-visited
returns-in-Leaf-clause-visited g c =
    let builds = Builds-same_leaf c.args.self.now.from.now.nodes c.args._store.now c.args.self.now.map.now c.args.item c.in-Leaf.value c.requires.store c.in-Leaf.is in
    record { valid = builds.valid; meets = builds.function }

pub returns-in-Some-clause-visited : goal.returns-in-Some-clause-visited
returns-in-Some-clause-visited g c =
    let origin = c.args.self.now.from.now.nodes in
    let map = c.args.self.now.map.now in
    let builds = Builds-brought origin c.args._store.now map c.args.item c.in-Inner.place c.in-Some.made c.requires.store c.in-Inner.is
    (EachEntry-found (IsBrought origin map c.args._store.now.nodes) nat_eq c.in-Inner.place eqb-true (g.T.Notes.entries c.args.notes.now) c.in-Some.made
    (sym c.in-Some.ensures.answer) c.requires.table) in
    record { valid = builds.valid; meets = builds.function }

pub returns-in_default-clause-visited : goal.returns-in_default-clause-visited
returns-in_default-clause-visited g c = (
  sym c.in-Inner.is,
  bringing_split (λ s. s.from.now.nodes) (λ s. s.map.now) c.args.self.now c.args._store.now.nodes c.args.item c.in-Inner.place c.in-Inner.is
      c.node-node.result c.node-node.ensures.store.ordered c.node-node.ensures.held c.requires.fits,
)
