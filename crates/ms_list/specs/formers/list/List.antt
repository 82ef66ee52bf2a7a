-- A list may hold the type that holds it: how its items lie in it, for a type that contains lists of itself.
use mathlib.Core.Path.{◌≡◌, refl, sym}
use mathlib.Core.List.{List as Sequence, []}
use mathlib.Core.Former.{Former, this, list, via, children}
use base.Stored.{code_map}
use denote.RattleType.{RattleType}
use denote.HoleLaws.{Alike}
use denote.HolePlaces.{Recodes, struct_places, laid}
use denote.Hole.Carrier.{listed, list-listed}
use denote.Hole.Fix.{over}
use denote.Param.Weighed.{Weighed, w_list}
use denote.Model.Placed.{view_places}
use Rattle.std.specs.formers.vec.Vec as vec
use Rattle.std.specs.declared.alloc.Global.{Global}
use Rattle.std.specs.contracts.alloc.Global as heap
use Rattle.std.specs.contracts.impls.GlobalAllocator.TheImpl.{ghosts}
use Rattle.ms_list.specs.declared.list.List.TheInside.{Inside}
use Rattle.ms_list.specs.declared.list.List.TheView.{view, invariant}
use Rattle.ms_list.specs.contracts.list.List as owned
use Rattle.ms_list.specs.contracts.list.List.TheInside as fields

-- a list of values of a type holds them as a sequence does
abbrev pub the_former : Former {0} → Former {0}
the_former item = list item

-- the largest measure among the items
abbrev pub the_weighed : {item : Former {0}} → Weighed item → Weighed (the_former item)
the_weighed weights = w_list weights

-- a list may be empty, so a type that contains itself through lists alone has values
pub the_empty : Sequence ⊥
the_empty = []

abbrev pub the_items : (Item : Type 0) → Sequence Item → Sequence Item
the_items Item sequence = sequence

pub the_items_listed : (Item : Type 0) (sequence : Sequence Item) → listed _ (children (the_former this) Item sequence) ≡ the_items Item sequence
the_items_listed Item sequence = list-listed Item sequence

-- the one field, a vector, as a function of the type of its items
abbrev held_fields : Former {0}
held_fields = via (vec.the_former this Global) Inside (λ Item inside. inside.items) (λ Item vector. record { items = vector }) (λ Item inside. refl) (λ Item vector. refl)

module _ (Here There : RattleType) (translate : Here.Denot → There.Denot) where
  -- a list lies in memory alike for two types that lie alike
  pub the_places : Alike Here There translate → Alike (owned.the_row Here) (owned.the_row There) ((the_former this).map Here.Denot There.Denot translate)
  the_places alike =
      view_places held_fields (list this) view (λ X Y k u. refl) (λ X u. refl) Here.Denot There.Denot translate (owned.the_row Here).coded (owned.the_row There).coded
      (invariant Here.Denot) (invariant There.Denot) (λ u p q. refl) (λ u p q. refl) (λ u e. tt) (λ u e. tt)
      (over (fields.the_row Here)) (over (fields.the_row There))
      (struct_places (fields.the_type Here) (fields.the_type There) (vec.mapped translate, tt) _ (λ d. refl) refl
      (laid _ _ _ (vec.the_places heap.the_row ghosts Here There translate alike), tt))

  -- a list is coded by the codes of its items
  pub the_codes_placed : Recodes Here There translate → Recodes (owned.the_row Here) (owned.the_row There) ((the_former this).map Here.Denot There.Denot translate)
  the_codes_placed recoded sequence = sym (code_map Here.coded.code There.coded.code translate (λ item. sym (recoded item)) sequence)
