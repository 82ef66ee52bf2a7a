-- Tracks that agree in the orders of their variables.
use Rattle.std.proofs.Common.{◌≡◌, ℕ, ◌+◌, ◌<◌, List, drop, get_or, length, Some, ⊎_elim, sym, ap, subst, ◌∙◌}
use Rattle.std.specs.Option.{option_map}
use Rattle.std.proofs.lemmas.List.{drop_more}
use Rattle.std.proofs.lemmas.Option.{slice_get-get_or, slice_get-map}
use Rattle.ms_logic.specs.Assignment.{Variable}
use Rattle.ms_dfa.specs.declared.track.Track.{Track}
use Rattle.ms_dfa.specs.Automaton.{variable_of, variables_of}
use Rattle.ms_logic.specs.Lists.{IsAmong}
use Rattle.ms_dfa_explore.proofs.AmongLemmas.{among_at}
use Rattle.ms_product.specs.Combined.{HaveEqualOrders}

-- no track of the list has this one's variable with another order
abbrev pub AgreesWith : Track → List Track → Type 0
AgreesWith track tracks = (w : Variable) → IsAmong (variables_of tracks) w → track.variable ≡ w.name → variable_of track ≡ w

-- one track more
pub AgreesWith-more : (track other : Track) (tracks : List Track) (i : ℕ) → i < length tracks → get_or tracks i other ≡ other
    → (track.variable ≡ other.variable → track.order ≡ other.order) → AgreesWith track (drop (i + 1) tracks) → AgreesWith track (drop i tracks)
AgreesWith-more track other tracks i within is passes later =
    subst (AgreesWith track) (sym (drop_more tracks i other within)) (λ w. ⊎_elim
    (λ here name.
    let held : other ≡ get_or tracks i other = sym is in
    let first : variable_of other ≡ w = subst (λ (t : Track). variable_of t ≡ w) is here in
    let same_name : track.variable ≡ other.variable = name ∙ sym (λ i. (first i).name) in
    let order = passes same_name in
    let same : variable_of track ≡ variable_of other = (λ i. record { name = same_name i; order = order i }) in
    same ∙ first)
    (λ there name. later w there name))

pub HaveEqualOrders-more : (left right : List Track) (any : Track) (i : ℕ) → i < length left → AgreesWith (get_or left i any) right
    → HaveEqualOrders (variables_of (drop (i + 1) left)) (variables_of right) → HaveEqualOrders (variables_of (drop i left)) (variables_of right)
HaveEqualOrders-more left right any i within agrees later =
    subst (λ (ts : List Track). HaveEqualOrders (variables_of ts) (variables_of right)) (sym (drop_more left i any within)) (λ v w. ⊎_elim
    (λ here there name. sym here ∙ agrees w there ((λ i. (here i).name) ∙ name))
    (λ behind there name. later v w behind there name))

-- a track that stands in a list is one of it
pub contains-there : (tracks : List Track) (i : ℕ) (any track : Track) → i < length tracks → (get_or tracks i any).variable ≡ track.variable → (get_or tracks i any).order ≡ track.order
    → IsAmong (variables_of tracks) (variable_of track)
contains-there tracks i any track within same_variable same_order =
    let same : variable_of (get_or tracks i any) ≡ variable_of track = λ k. record { name = same_variable k; order = same_order k } in
    among_at (variables_of tracks) i (variable_of track) (slice_get-map variable_of tracks i ∙ ap (option_map variable_of) (slice_get-get_or tracks i any within) ∙ ap Some same)

-- each track of a list is one of another
abbrev pub AreAllAmong : List Track → List Track → Type 0
AreAllAmong some all = (v : Variable) → IsAmong (variables_of some) v → IsAmong (variables_of all) v

pub AreAllAmong-more : (some all : List Track) (any : Track) (i : ℕ) → i < length some → IsAmong (variables_of all) (variable_of (get_or some i any)) → AreAllAmong (drop (i + 1) some) all
    → AreAllAmong (drop i some) all
AreAllAmong-more some all any i within held later =
    subst (λ (ts : List Track). AreAllAmong ts all) (sym (drop_more some i any within))
    (λ v. ⊎_elim (λ here. subst (IsAmong (variables_of all)) here held) (λ there. later v there))
