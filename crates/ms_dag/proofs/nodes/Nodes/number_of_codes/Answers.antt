use Rattle.std.proofs.Common.{◌≡◌, nat_eq, slice_get, Some, sym, ap, ◌∙◌}
use Rattle.std.specs.Cmp.Lexicographic.{pointwise}
use Rattle.std.specs.Option.{option_map}
use Rattle.std.proofs.lemmas.Option.{slice_get-map}
use Rattle.ms_diagram.proofs.Keys.{numbered}
use Rattle.ms_diagram.proofs.ListLemmas.{same_set, set_itself}
use Rattle.ms_dag.specs.inner.Codes.{codes_of_entry}
use Rattle.ms_dag.proofs.nodes.Nodes.number_of_codes.Goals as goal

pub returns-clause-numbers : goal.returns-clause-numbers
returns-clause-numbers c =
    let key = c.into_vec.result in
    let shows : key.items ≡ codes_of_entry c.args.entry.now = c.into_vec.ensures ∙ c.in_ok-codes.ensures in
    numbered (λ k. k.items) (λ k. pointwise nat_eq key.items k.items) (codes_of_entry c.args.entry.now)
    (λ k same. sym (same_set key.items k.items same) ∙ shows) (λ k is. ap (pointwise nat_eq key.items) (is ∙ sym shows) ∙ set_itself key.items)
    c.args.self.now.keys.keys c.insert_full.new.self.keys key shows c.in-Ok.ensures.keys

pub returns-clause-number : goal.returns-clause-number
returns-clause-number c =
    let key = c.into_vec.result in
    let stored = c.in-Ok.ensures.stored in
    let same : c.in-Ok-try_from.number ≡ c.in-Ok.number = c.in-Ok-try_from.ensures.1 in
    ap (slice_get _) same
    ∙ slice_get-map (λ k. k.items) c.insert_full.new.self.keys c.in-Ok.number ∙ ap (option_map (λ k. k.items)) stored.1
    ∙ ap Some (sym (same_set key.items stored.0.items stored.2) ∙ c.into_vec.ensures ∙ c.in_ok-codes.ensures)
