-- What has been noted while diagrams of an automaton are led to the classes of its states, and when it is right.
use Rattle.std.specs.Prelude.{◌≡◌, ℕ, List, IsTrue}
use Rattle.ms_arena.specs.declared.node.Node.{Node}
use Rattle.ms_arena.specs.Target.{Extends}
use Rattle.ms_diagram.specs.Store.{IsStore}
use Rattle.ms_diagram.specs.Table.{AreBrought, ArePaired, AreRelabelled}
use Rattle.ms_logic_words.specs.declared.sign.Sign.{Sign}
use Rattle.ms_logic_words.specs.Content.{Content}
use Rattle.ms_minim.specs.inner.Image.{AreImages}
use Rattle.ms_minim.specs.inner.Origin.{AreOrigins}
use Rattle.ms_minim.specs.inner.Quotient.{HaveOwnNumbers, Quotienting}
use Rattle.ms_minim.specs.declared.classes.LeadTables.{LeadTables}
use Rattle.ms_minim.specs.declared.signatures.SignatureTables.{SignatureTables}
use Rattle.ms_minim.specs.declared.quotient.QuotientTables.{QuotientTables}

-- of the nodes of the automaton what they have become in another store, and of the nodes of that what they have become with
-- classes at their leaves
pub record AreLed (content : Content Sign) (places classes : List ℕ) (nodes : List Node) (tables : LeadTables) : Type 0 where
  pub brought : AreBrought content.nodes places nodes tables.brought
  pub led : AreRelabelled nodes classes tables.led

-- and of these what they have become with the numbers of the chosen classes
pub record AreChosen (content : Content Sign) (places classes splitters : List ℕ) (nodes : List Node) (tables : SignatureTables) : Type 0 where
  pub lead : AreLed content places classes nodes tables.lead
  pub chosen : AreRelabelled nodes splitters tables.chosen

-- from where nodes and states are reached, and the images of the nodes by classes; what these have become with the numbers of the
-- classes of a quotient; and what these have become in the store of the answer
pub record AreNumbered (content : Content Sign) (places classes : List ℕ) (pairs : List (ℕ × ℕ)) (nodes : List Node) (tables : QuotientTables) : Type 0 where
  pub origins : AreOrigins content tables.origins
  pub images : AreImages content.nodes classes tables.origins.nodes.items tables.images
  pub numbered : ArePaired tables.images.store.nodes pairs tables.numbered
  pub brought : AreBrought tables.images.store.nodes places nodes tables.brought
  pub settled : IsTrue tables.settled → HaveOwnNumbers classes pairs

-- more may be in the store of the images, and more may be numbered
pub record IsGrownFrom (early late : QuotientTables) : Type 0 where
  pub origins : late.origins ≡ early.origins
  pub list : late.images.list ≡ early.images.list
  pub extends : Extends early.images.store.nodes late.images.store.nodes
  pub store : IsStore late.images.store.nodes late.images.store.limit
  pub brought : late.brought ≡ early.brought
  pub settled : late.settled ≡ early.settled

-- the same of a quotient under way
abbrev pub AreNoted : Quotienting → List Node → QuotientTables → Type 0
AreNoted quotient nodes tables = AreNumbered quotient.content quotient.places quotient.classes quotient.pairs nodes tables
