use Rattle.std.proofs.Common.{◌<◌, nat_eq, length, map, Some, refl, sym, ap, subst, ◌∙◌}
use Rattle.std.specs.Cmp.Lexicographic.{pointwise}
use Rattle.std.specs.Option.{option_map}
use Rattle.std.proofs.lemmas.Option.{slice_get-map}
use Rattle.ms_diagram.specs.Numbering.{Numbers}
use Rattle.ms_diagram.proofs.Keys.{numbered}
use Rattle.ms_diagram.proofs.ListLemmas.{same_set, set_itself}
use Rattle.ms_diagram.proofs.SetLemmas.{IsSetNumbering-numbers}
use Rattle.ms_diagram.proofs.sets.Sets.number.Goals as goal

pub returns-clause-number : goal.returns-clause-number
returns-clause-number c =
    let stored = c.in-Ok.ensures.stored in
    slice_get-map (λ set. set.items) c.insert_full.new.self.keys c.in-Ok.number
    ∙ ap (option_map (λ set. set.items)) stored.1
    ∙ ap Some (sym (same_set c.args.set.items stored.0.items stored.2))

pub returns-clause-numbers : goal.returns-clause-numbers
returns-clause-numbers c =
    let set = c.args.set in
    let keys = c.self.inside.sets.keys in
    subst (λ old. Numbers old (map (λ key. key.items) c.insert_full.new.self.keys) set.items) c.self.view_is
    (numbered (λ key. key.items) (λ key. pointwise nat_eq set.items key.items) set.items
    (λ key same. sym (same_set set.items key.items same))
    (λ key is. ap (pointwise nat_eq set.items) is ∙ set_itself set.items)
    keys c.insert_full.new.self.keys set refl c.in-Ok.ensures.keys)

pub invariant_of-self-2 : goal.invariant_of-self-2
invariant_of-self-2 c =
    let set = c.args.set in
    let keys = c.self.inside.sets.keys in
    let old = map (λ key. key.items) keys in
    let new = map (λ key. key.items) c.insert_full.new.self.keys in
    IsSetNumbering-numbers old new set.items c.self.invariant c.requires.rising
    (subst (λ list. length list < 4294967295) (sym c.self.view_is) c.requires.room)
    (subst (λ list. Numbers list new set.items) (sym c.self.view_is) (returns-clause-numbers c))

pub returns-clause-numbering : goal.returns-clause-numbering
returns-clause-numbering c = invariant_of-self-2 c
