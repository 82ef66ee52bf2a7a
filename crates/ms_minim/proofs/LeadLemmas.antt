-- A diagram of an automaton stays the same through the map that leaves each place where it is.
use Rattle.std.proofs.Common.{◌≡◌, ℕ, ◌<◌, Result, Ok, Err, OnOk, List, length, slice_get, slice_index, sym, ap, subst, ◌∙◌, arith}
use Rattle.std.proofs.lemmas.Option.{slice_get_within}
use Rattle.ms_arena.specs.declared.node.Ref.{Ref}
use Rattle.ms_arena.specs.declared.node.Node.{Node}
use Rattle.ms_arena.specs.Diagram.{Bits, leaf_of, IsOrdered}
use Rattle.ms_arena.specs.Reach.{IsTested}
use Rattle.ms_arena.specs.Target.{Meets, Extends}
use Rattle.ms_arena.proofs.ReachLemmas.{leaf_of-tested}
use Rattle.ms_diagram.specs.Bring.{read_through, RenamedLeaf, Renames}
use Rattle.ms_diagram.specs.Relabel.{MappedLeaf}
use Rattle.ms_logic_words.specs.declared.sign.Sign.{Sign}
use Rattle.ms_logic_words.specs.Content.{Content}
use Rattle.ms_logic.specs.Assignment.{Variable}
use Rattle.ms_logic.specs.Lists.{AreRising}
use Rattle.ms_dfa_explore.specs.Tracks.{place_of, places_among}
use Rattle.ms_dfa_explore.proofs.AmongLemmas.{one_place, leads_to}
use Rattle.ms_arena.proofs.Lists.{slice_get-held}
use Rattle.std.proofs.lemmas.List.{length-map}
use Rattle.std.specs.Prelude.{IsTrue}
use Rattle.ms_arena.proofs.Appending.{slice_get-extends}
use Rattle.ms_diagram.specs.Table.{AreBrought, ArePaired}
use Rattle.ms_diagram.proofs.TableGrowth.{AreBrought-grow, AreBrought-origin_grows, AreRelabelled-grow}
use Rattle.ms_minim.specs.declared.classes.LeadTables.{LeadTables}
use Rattle.ms_minim.specs.declared.origins.Origins.{Origins}
use Rattle.ms_minim.specs.declared.quotient.QuotientTables.{QuotientTables}
use Rattle.ms_minim.specs.inner.Image.{AreImages}
use Rattle.ms_minim.specs.inner.Lead.{AreLed, AreNumbered, IsGrownFrom}
use Rattle.ms_minim.specs.inner.Origin.{AreOrigins}
use Rattle.ms_minim.proofs.ImageLemmas.{AreImages-grow}
use Rattle.ms_minim.specs.inner.Partition.{IsIdentity, IsRoot}

-- what is tested is read through the map
pub Renames-identity : (nodes : List Node) (root : Ref) (count : ℕ) (map : List ℕ) → IsIdentity count map → ((var : ℕ) → IsTested nodes root var → var < count) → Renames nodes map root
Renames-identity nodes root count map identity below = record {
  long = λ var tested. (let within = below var tested in let long = identity.long in omega (arith, within, long));
  rising = λ one two first second less. (
      let one_is = identity.same one (below one first) in
      let two_is = identity.same two (below two second) in
      omega (arith, one_is, two_is, less));
}

module _ (content : Content Sign) (ordered : IsOrdered content.nodes) (root : Ref) (is : IsRoot content root) (map : List ℕ) (identity : IsIdentity (length content.variables) map) where
  pub tested_within : (var : ℕ) → IsTested content.nodes root var → var < length content.variables
  tested_within var tested = let at = is.1.tests var tested in slice_get_within content.variables var at.0 at.1

  pub identity_leaf : (bits : Bits) → leaf_of content.nodes root (read_through map bits) ≡ leaf_of content.nodes root bits
  identity_leaf bits =
      leaf_of-tested content.nodes ordered root (read_through map bits) bits is.1.valid (λ var tested. ap bits (identity.same var (tested_within var tested)))

  pub Renames-root : (nodes : List Node) → nodes ≡ content.nodes → Renames nodes map root
  Renames-root nodes same = subst (λ list. Renames list map root) (sym same) (Renames-identity content.nodes root (length content.variables) map identity tested_within)

  -- brought into another store, it has the same leaves; then their classes
  pub Meets-led : (from : List Node) → from ≡ content.nodes → (classes : List ℕ) (middle : List Node) (states : Ref) → Meets middle (RenamedLeaf from map root) states
      → (new : List Node) (made : Ref) → Meets new (MappedLeaf middle classes states) made → Meets new (MappedLeaf content.nodes classes root) made
  Meets-led from same classes middle states brought new made relabelled bits =
      let leaf : leaf_of middle states bits ≡ leaf_of content.nodes root bits = brought bits ∙ ap (λ list. leaf_of list root (read_through map bits)) same ∙ identity_leaf bits in
      ap (slice_get classes) (sym leaf) ∙ relabelled bits

-- the places of rising variables among themselves
pub IsIdentity-places : (variables : List Variable) → AreRising variables → IsIdentity (length variables) (places_among variables variables)
IsIdentity-places variables rising = record {
  long = length-map variables (λ (v : Variable). place_of v.name variables);
  same = λ place within.
      let held = slice_get-held variables place within in
      one_place variables rising (slice_index (places_among variables variables) place) place held.0 (leads_to variables variables rising rising (λ v among. among) place held.0 held.1) held.1;
}

-- what has been noted stays right while the other store grows
pub AreLed-grow : (old new : List Node) → IsOrdered old → Extends old new → (content : Content Sign) (places classes : List ℕ) (tables : LeadTables)
    → AreLed content places classes old tables → AreLed content places classes new tables
AreLed-grow old new ordered extends content places classes tables were = record {
  brought = AreBrought-grow old new ordered extends content.nodes places tables.brought were.brought;
  led = AreRelabelled-grow old new ordered extends classes tables.led were.led;
}

-- what is numbered stays right, where the store of the images grows
pub AreNumbered-grown : (content : Content Sign) (places classes : List ℕ) (pairs late_pairs : List (ℕ × ℕ)) (nodes : List Node) (early late : QuotientTables) → IsGrownFrom early late → Extends pairs late_pairs
    → ArePaired late.images.store.nodes late_pairs late.numbered → AreNumbered content places classes pairs nodes early → AreNumbered content places classes late_pairs nodes late
AreNumbered-grown content places classes pairs late_pairs nodes early late grown extends numbered were = record {
  origins = subst (AreOrigins content) (sym grown.origins) were.origins;
  images = subst (λ (origins : Origins). AreImages content.nodes classes origins.nodes.items late.images) (sym grown.origins)
      (subst (λ (list : List Ref). AreImages content.nodes classes early.origins.nodes.items (record { store = late.images.store; list = list })) (sym grown.list)
      (AreImages-grow content.nodes classes early.origins.nodes.items early.images late.images.store grown.extends grown.store were.images));
  numbered = numbered;
  brought = subst (AreBrought late.images.store.nodes places nodes) (sym grown.brought)
      (AreBrought-origin_grows early.images.store.nodes late.images.store.nodes were.images.store.ordered grown.extends nodes places early.brought were.brought);
  settled = λ is state class held.
      slice_get-extends pairs late_pairs extends class (class, 0) (were.settled (subst IsTrue grown.settled is) state class held);
}

-- what holds in any case holds where a call succeeds
pub OnOk-always : {A E : Type 0} → (result : Result A E) (fact : Type 0) → fact → OnOk result fact
OnOk-always (Ok made) fact holds = holds
OnOk-always (Err fault) fact holds = tt
