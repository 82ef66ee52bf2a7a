use Rattle.std.proofs.Common.{◌≡◌, ◌<◌, length, get_or, Some, sym, ap, subst, ◌∙◌}
use Rattle.std.specs.Option.{option_map}
use Rattle.std.proofs.lemmas.List.{length-map}
use Rattle.std.proofs.lemmas.Option.{slice_get-map, slice_get-get_or}
use Rattle.ms_diagram.proofs.sets.Sets.get.Goals as goal

pub returns-clause-rising : goal.returns-clause-rising
returns-clause-rising c =
    let keys = c.self.inside.sets.keys in
    let found = c.index-as_slice-i.result in
    let within : c.args.i < length keys = subst (λ n. c.args.i < n) (length-map keys (λ set. set.items)) (subst (λ list. c.args.i < length list) (sym c.self.view_is) c.requires) in
    let is : found ≡ get_or keys c.args.i found = subst (λ list. found ≡ get_or list c.args.i found) c.as_slice.ensures.keys c.index-as_slice-i.is in
    c.self.invariant.rising c.args.i c.as_slice-2.result.now
    (slice_get-map (λ set. set.items) keys c.args.i ∙ ap (option_map (λ set. set.items)) (slice_get-get_or keys c.args.i found within ∙ ap Some (sym is))
    ∙ ap Some (sym c.as_slice-2.ensures.value))
