-- One more item of a list that is gone through by number.
use Rattle.std.proofs.Common.{◌≡◌, ℕ, ◌+◌, List, [], ◌∷◌, ◌++◌, take, slice_get, Some, ap, ◌∙◌}
use Rattle.std.specs.Prelude.{map as map_list}
use Rattle.std.proofs.lemmas.List.{map_more}
use Rattle.std.proofs.lemmas.Option.{slice_get_within, get_or_from_slice_get}

pub map-take_more : {A B : Type 0} (f : A → B) (xs : List A) (i : ℕ) (x : A) → slice_get xs i ≡ Some x → map_list f (take (i + 1) xs) ≡ map_list f (take i xs) ++ f x ∷ []
map-take_more f xs i x held = map_more f xs i x (slice_get_within xs i x held) ∙ ap (λ y. map_list f (take i xs) ++ f y ∷ []) (get_or_from_slice_get xs i x x held)
