-- Lists of variables, and of tracks that have them.
use Rattle.std.proofs.Common.{◌≡◌, ℕ, zero, suc, ◌+◌, ◌<◌, inl, inr, ⊎_elim, List, [], ◌∷◌, ◌++◌, get_or, length, take, slice_get, Some, refl, ap, subst, ◌∙◌}
use Rattle.std.specs.Option.{option_map}
use Rattle.std.proofs.lemmas.List.{take_more}
use Rattle.std.proofs.lemmas.Option.{none-some, slice_get_within, slice_get-map, slice_get-get_or, get_or_from_slice_get}
use Rattle.ms_dfa.specs.declared.track.Track.{Track}
use Rattle.ms_dfa.specs.Automaton.{variable_of, variables_of}
use Rattle.ms_dfa_explore.proofs.AmongLemmas.{among_at}
use Rattle.ms_logic.specs.Assignment.{Variable}
use Rattle.ms_logic.specs.Lists.{AreRising, IsAmong}
use Rattle.ms_build.proofs.WholeLemmas.{rising_above}

-- the variables of a list up to a place are some of it
pub taken-among : (i : ℕ) (vs : List Variable) (v : Variable) → IsAmong (take i vs) v → IsAmong vs v
taken-among zero vs v among = absurd among
taken-among (suc i) [] v among = absurd among
taken-among (suc i) (w ∷ vs) v among = ⊎_elim inl (λ there. inr (taken-among i vs v there)) among

-- and with the one at the place one more
pub taken-next : (vs : List Variable) (i : ℕ) (v : Variable) → slice_get vs i ≡ Some v → take (i + 1) vs ≡ take i vs ++ v ∷ []
taken-next vs i v held = take_more vs i v (slice_get_within vs i v held) ∙ ap (λ (w : Variable). take i vs ++ w ∷ []) (get_or_from_slice_get vs i v v held)

-- in a rising list those before a variable are below it
pub taken_below : (vs : List Variable) (i : ℕ) (v : Variable) → AreRising vs → slice_get vs i ≡ Some v → (u : Variable) → IsAmong (take i vs) u → u.name < v.name
taken_below [] i v rising held u among = absurd (none-some v held)
taken_below (w ∷ vs) zero v rising held u among = absurd among
taken_below (w ∷ vs) (suc i) v rising held u among = ⊎_elim
    (λ here. subst (λ (x : Variable). x.name < v.name) here (rising_above w vs rising v (among_at vs i v held)))
    (λ there. taken_below vs i v rising.1 held u there)
    among

-- a rising list with one more variable above all
pub rising-more : (vs : List Variable) (w : Variable) → AreRising vs → ((u : Variable) → IsAmong vs u → u.name < w.name) → AreRising (vs ++ w ∷ [])
rising-more [] w rising below = (tt, tt)
rising-more (v ∷ []) w rising below = (below v (inl refl), (tt, tt))
rising-more (v ∷ x ∷ vs) w rising below = (rising.0, rising-more (x ∷ vs) w rising.1 (λ u there. below u (inr there)))

-- the variable of a track
pub variable_at_place : (tracks : List Track) (place : ℕ) (default : Track) → place < length tracks → slice_get (variables_of tracks) place ≡ Some (variable_of (get_or tracks place default))
variable_at_place tracks place default less = slice_get-map variable_of tracks place ∙ ap (option_map variable_of) (slice_get-get_or tracks place default less)
