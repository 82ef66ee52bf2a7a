-- A box may hold the type that holds it: where its value lies, for a type that contains boxes of itself.
use mathlib.Core.Path.{refl}
use mathlib.Core.Former.{Former, this, const, pair, via}
use base.Stored.{gnil}
use base.Fml.{ftrue}
use denote.RattleType.{RattleType}
use denote.Memory.{part_of}
use denote.RawPtr.{Ptr}
use denote.Sharing.{nothing}
use denote.HoleLaws.{Alike}
use denote.HolePlaces.{Recodes, struct_places, laid, one_value}
use denote.Hole.Fix.{over}
use denote.Param.Weighed.{Weighed}
use denote.Model.Placed.{view_places}
use Rattle.std.specs.declared.boxed.Box.{Box}
use Rattle.std.specs.contracts.boxed.Box as std_box
use Rattle.std.specs.declared.alloc.Global.{Global}
use Rattle.std.specs.contracts.alloc.Global as heap
use Rattle.std.specs.contracts.impls.GlobalAllocator.TheImpl.{ghosts}
use Rattle.ms_list.specs.declared.boxed.Boxed.TheInside.{Inside}
use Rattle.ms_list.specs.declared.boxed.Boxed.TheView.{view, invariant}
use Rattle.ms_list.specs.contracts.boxed.Boxed as owned
use Rattle.ms_list.specs.contracts.boxed.Boxed.TheInside as fields

-- a box of a type holds one value of it
abbrev pub the_former : Former {0} → Former {0}
the_former held = held

abbrev pub the_weighed : {held : Former {0}} → Weighed held → Weighed (the_former held)
the_weighed weight = weight

-- the one field: a pointer, an allocator and the value
abbrev held_fields : Former {0}
held_fields = via (pair (const (Ptr × Global)) this) Inside
    (λ Held inside. ((inside.inner.ptr, inside.inner.alloc), inside.inner.value))
    (λ Held parts. record { inner = record { ptr = parts.0.0; alloc = parts.0.1; value = parts.1 } })
    (λ Held inside. refl) (λ Held parts. refl)

-- the same place on the heap, with another value in it
abbrev holding : {Old New : Type 0} → Box Old Global → New → Box New Global
holding place value = record { ptr = place.ptr; alloc = place.alloc; value = value }

abbrev row_of_box : RattleType → RattleType
row_of_box Held = std_box.the_row Held heap.the_row ghosts

module _ (Here There : RattleType) (translate : Here.Denot → There.Denot) where
  -- std's box lies alike for two types that lie alike
  std_places : Alike Here There translate → Alike (row_of_box Here) (row_of_box There) (λ place. holding place (translate place.value))
  unfolding part_of
  std_places alike = record {
    mir_same = λ i. (row_of_box (one_value Here (alike.mir_same i) (λ _. ftrue) (λ _ _. nothing) gnil)).mir;
    own_same = λ place i. (row_of_box (one_value Here (alike.mir_same i) (alike.own_same place.value i) (alike.shr_same place.value i) gnil)).own_val (holding place tt);
    shr_same = λ place i. (row_of_box (one_value Here (alike.mir_same i) (alike.own_same place.value i) (alike.shr_same place.value i) gnil)).shr_at (holding place tt);
  }

  pub the_places : Alike Here There translate → Alike (owned.the_row Here) (owned.the_row There) ((the_former this).map Here.Denot There.Denot translate)
  the_places alike =
      view_places held_fields this view (λ X Y k u. refl) (λ X u. refl) Here.Denot There.Denot translate (owned.the_row Here).coded (owned.the_row There).coded
      (invariant Here.Denot) (invariant There.Denot) (λ u p q. refl) (λ u p q. refl) (λ u e. tt) (λ u e. tt)
      (over (fields.the_row Here)) (over (fields.the_row There))
      (struct_places (fields.the_type Here) (fields.the_type There) ((λ place. holding place (translate place.value)), tt) _ (λ d. refl) refl (laid _ _ _ (std_places alike), tt))

  pub the_codes_placed : Recodes Here There translate → Recodes (owned.the_row Here) (owned.the_row There) ((the_former this).map Here.Denot There.Denot translate)
  the_codes_placed recoded value = recoded value
