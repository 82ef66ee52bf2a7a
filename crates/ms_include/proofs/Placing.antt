-- Declarations put in place one after the other.
use Rattle.std.proofs.Common.{◌≡◌, ℕ, ◌+◌, ◌<◌, length, get_or, take, drop, map, List, [], ◌∷◌, ◌++◌, append_assoc, inl, inr, refl, sym, ap, ◌∙◌, subst}
use Rattle.std.proofs.lemmas.List.{append-nil, drop_more, map-id, take-append-drop}
use Rattle.ms_edge.specs.declared.refusal.Refusal.{Refusal}
use Rattle.ms_logic.specs.declared.source.Item.{Item}
use Rattle.ms_include.specs.declared.begun.Begun.{Begun}
use Rattle.ms_include.specs.Include.{Loading, Stopping, Becomes, AllBecome, Stops, OneStops, include_of}

-- one more declaration
pub and-one : (L : Loading) (chain : List Begun) (read between after : List (List ℕ)) (xs : List Item) (x : Item) (made one : List Item) →
    AllBecome L chain read xs between made → Becomes L chain between x (include_of x.decl) after one → AllBecome L chain read (xs ++ x ∷ []) after (made ++ one)
and-one L chain read between after [] x made one (same, none) become =
    (after, one, [], subst (λ r. Becomes L chain r x (include_of x.decl) after one) same become, (refl, refl), ap (λ m. m ++ one) none ∙ sym (append-nil one))
and-one L chain read between after (first ∷ more) x made one (mid, a, rest, becomes, all, is) become =
    (mid, a, rest ++ one, becomes, and-one L chain mid between after more x rest one all become, ap (λ m. m ++ one) is ∙ append_assoc a rest one)

-- the declaration behind those is refused
pub then-stops : (L : Loading) (S : Stopping) (chain : List Begun) (read between after : List (List ℕ)) (xs : List Item) (x : Item) (ys : List Item) (made : List Item) (refusal : Refusal) →
    AllBecome L chain read xs between made → Stops S chain between (include_of x.decl) refusal after → OneStops L S chain read (xs ++ x ∷ ys) refusal after
then-stops L S chain read between after [] x ys made refusal (same, none) stops =
    inl (subst (λ r. Stops S chain r (include_of x.decl) refusal after) same stops)
then-stops L S chain read between after (first ∷ more) x ys made refusal (mid, a, rest, becomes, all, is) stops =
    inr (mid, a, becomes, then-stops L S chain mid between after more x ys rest refusal all stops)

-- those so far, the next one, and the rest
pub split : (all xs : List Item) (x : Item) → map (λ y. y) xs ≡ take (length xs) all → (length xs < length all) × (x ≡ get_or all (length xs) x) →
    all ≡ xs ++ x ∷ drop (length xs + 1) all
split all xs x so_far (below, is) =
    sym (take-append-drop (length xs) all)
    ∙ (ap (λ l. l ++ drop (length xs) all) (sym so_far ∙ map-id xs)
    ∙ ap (λ l. xs ++ l) (drop_more all (length xs) x below ∙ ap (λ y. y ∷ drop (length xs + 1) all) (sym is)))
