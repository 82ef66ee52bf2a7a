-- Look-ups of names in scope.
use Rattle.std.proofs.Common.{◌≡◌, ℕ, ◌+◌, ◌-◌, ◌*◌, ◌<◌, ◌≤◌, zero, suc, true, false, cond, Bool, List, [], ◌∷◌, ◌++◌, length, get_or, take, drop, refl, sym, ◌∙◌, ap, arith}
use Rattle.std.proofs.lemmas.Slice.Eq.{bytes_eq-Decides}
use Rattle.std.specs.Str.{bytes_eq}
use Rattle.ms_logic.specs.declared.mode.Order.TheVariants.{Two}
use Rattle.ms_logic.specs.declared.mode.Quant.{Quant}
use Rattle.ms_logic.specs.Tree.{Form, unrestricted}
use Rattle.ms_logic.specs.Tree as sets
use Rattle.ms_presburger.specs.Sets.{Scope, over_sets, with_variable}
use Rattle.ms_presburger.specs.Source.{place_of}
use Rattle.ms_presburger.specs.declared.scope.Bindings.{Bindings}
use Rattle.ms_presburger.specs.inner.Scopes.{IsAsIn, bound_in, hidden_by, variable_in, wrapped}

-- lists

take-next : (names : List (List ℕ)) (i : ℕ) (d : List ℕ) → i < length names → take (suc i) names ≡ take i names ++ get_or names i d ∷ []
take-next [] i d below = absurd (omega (arith, below))
take-next (x ∷ names) zero d below = refl
take-next (x ∷ names) (suc i) d below = ap (λ (l : List (List ℕ)). x ∷ l) (take-next names i d (omega (arith, below)))

length-taken : (names : List (List ℕ)) (i : ℕ) → i < length names → length (take i names) ≡ i
length-taken [] i below = absurd (omega (arith, below))
length-taken (x ∷ names) zero below = refl
length-taken (x ∷ names) (suc i) below = ap (λ n. suc n) (length-taken names i (omega (arith, below)))

pub take-whole : (names : List (List ℕ)) (i : ℕ) → length names ≤ i → take i names ≡ names
take-whole [] zero past = refl
take-whole [] (suc i) past = refl
take-whole (x ∷ names) zero past = absurd (omega (arith, past))
take-whole (x ∷ names) (suc i) past = ap (λ (l : List (List ℕ)). x ∷ l) (take-whole names i (omega (arith, past)))

pub drop-whole : (names : List (List ℕ)) → drop (length names) names ≡ []
drop-whole [] = refl
drop-whole (x ∷ names) = drop-whole names

-- free names

-- the names from a place on: the first of them, or one behind it
place-from : (names : List (List ℕ)) (i : ℕ) (d other : List ℕ) → i < length names →
    place_of (drop i names) other ≡ cond (bytes_eq (get_or names i d) other) 0 (suc (place_of (drop (suc i) names) other))
place-from [] i d other below = absurd (omega (arith, below))
place-from (x ∷ names) zero d other below = refl
place-from (x ∷ names) (suc i) d other below = place-from names i d other (omega (arith, below))

moved-by : (i p : ℕ) (t : Bool) → cond t i (suc i + p) ≡ i + cond t 0 (suc p)
moved-by i p true = omega arith
moved-by i p false = omega arith

-- one name more, from behind
pub free-next : (names : List (List ℕ)) (i : ℕ) (name : List ℕ) (before after : Bindings) → i < length names → name ≡ get_or names i name →
    ((other : List ℕ) → variable_in before other ≡ suc i + place_of (drop (suc i) names) other) → IsAsIn (with_variable name i (variable_in before)) after →
    (other : List ℕ) → variable_in after other ≡ i + place_of (drop i names) other
free-next names i name before after below is known set other =
    let here = place-from names i name other below in
    set other ∙ ap (λ n. cond (bytes_eq name other) i n) (known other)
    ∙ (moved-by i (place_of (drop (suc i) names) other) (bytes_eq name other)
    ∙ ap (λ n. i + n) (ap (λ (n : List ℕ). cond (bytes_eq n other) 0 (suc (place_of (drop (suc i) names) other))) is ∙ sym here))

-- bound names

-- one more bound name
bound_in-more : (x : ℕ) (scope : Scope) (bound : List (List ℕ)) (b name : List ℕ) → bound_in x scope (bound ++ b ∷ []) name ≡ cond (bytes_eq b name) (x + 2 * length bound) (bound_in x scope bound name)
bound_in-more x scope [] b name = let same : x ≡ x + 2 * 0 = omega arith in ap (λ n. cond (bytes_eq b name) n (scope name)) same
bound_in-more x scope (y ∷ bound) b name =
    let same : x + 2 + 2 * length bound ≡ x + 2 * suc (length bound) = omega arith in
    bound_in-more (x + 2) (with_variable y x scope) bound b name ∙ ap (λ n. cond (bytes_eq b name) n (bound_in (x + 2) (with_variable y x scope) bound name)) same

hidden-more : (x : ℕ) (scope : Scope) (bound : List (List ℕ)) (b : List ℕ) → hidden_by x scope (bound ++ b ∷ []) ≡ hidden_by x scope bound ++ bound_in x scope bound b ∷ []
hidden-more x scope [] b = refl
hidden-more x scope (y ∷ bound) b = ap (λ (l : List ℕ). scope y ∷ l) (hidden-more (x + 2) (with_variable y x scope) bound b)

pub length-hidden : (x : ℕ) (scope : Scope) (names : List (List ℕ)) → length (hidden_by x scope names) ≡ length names
length-hidden x scope [] = refl
length-hidden x scope (name ∷ names) = ap (λ n. suc n) (length-hidden (x + 2) (with_variable name x scope) names)

taken-next : (names : List (List ℕ)) (i : ℕ) (name : List ℕ) → i < length names → name ≡ get_or names i name → take (i + 1) names ≡ take i names ++ name ∷ []
taken-next names i name below is =
    let next : i + 1 ≡ suc i = omega arith in
    ap (λ n. take n names) next ∙ (take-next names i name below ∙ ap (λ (n : List ℕ). take i names ++ n ∷ []) (sym is))

-- one more bound name that is looked at
bound_in-next : (x : ℕ) (scope : Scope) (names : List (List ℕ)) (i : ℕ) (name other : List ℕ) → i < length names → name ≡ get_or names i name →
    bound_in x scope (take (i + 1) names) other ≡ cond (bytes_eq name other) (x + 2 * i) (bound_in x scope (take i names) other)
bound_in-next x scope names i name other below is =
    ap (λ (l : List (List ℕ)). bound_in x scope l other) (taken-next names i name below is)
    ∙ (bound_in-more x scope (take i names) name other
    ∙ ap (λ n. cond (bytes_eq name other) (x + 2 * n) (bound_in x scope (take i names) other)) (length-taken names i below))

pub bind-next : (x : ℕ) (scope : Scope) (names : List (List ℕ)) (i : ℕ) (name : List ℕ) (before after : Bindings) → i < length names → name ≡ get_or names i name →
    IsAsIn (bound_in x scope (take i names)) before → IsAsIn (with_variable name (x + 2 * i) (variable_in before)) after → IsAsIn (bound_in x scope (take (i + 1) names)) after
bind-next x scope names i name before after below is known set other =
    set other ∙ (ap (λ n. cond (bytes_eq name other) (x + 2 * i) n) (known other) ∙ sym (bound_in-next x scope names i name other below is))

pub hide-next : (x : ℕ) (scope : Scope) (names : List (List ℕ)) (i : ℕ) (name : List ℕ) (before : Bindings) (hidden : List ℕ) (variable : ℕ) → i < length names → name ≡ get_or names i name →
    IsAsIn (bound_in x scope (take i names)) before → hidden ≡ hidden_by x scope (take i names) → variable ≡ variable_in before name →
    hidden ++ variable ∷ [] ≡ hidden_by x scope (take (i + 1) names)
hide-next x scope names i name before hidden variable below is known so_far here =
    ap (λ (h : List ℕ). h ++ variable ∷ []) so_far
    ∙ (ap (λ n. hidden_by x scope (take i names) ++ n ∷ []) (here ∙ known name)
    ∙ (sym (hidden-more x scope (take i names) name) ∙ sym (ap (hidden_by x scope) (taken-next names i name below is))))

hidden-at : (x : ℕ) (scope : Scope) (names : List (List ℕ)) (i : ℕ) (d : ℕ) (e : List ℕ) → i < length names →
    get_or (hidden_by x scope names) i d ≡ bound_in x scope (take i names) (get_or names i e)
hidden-at x scope [] i d e below = absurd (omega (arith, below))
hidden-at x scope (y ∷ names) zero d e below = refl
hidden-at x scope (y ∷ names) (suc i) d e below = hidden-at (x + 2) (with_variable y x scope) names i d e (omega (arith, below))

as-before : (scope : Scope) (name other : List ℕ) (n : ℕ) (t : Bool) → bytes_eq name other ≡ t → cond t (scope name) (cond t n (scope other)) ≡ scope other
as-before scope name other n true same = ap scope ((bytes_eq-Decides name other).0 same)
as-before scope name other n false apart = refl

-- one name less is bound
pub unbind-next : (x : ℕ) (scope : Scope) (names : List (List ℕ)) (i : ℕ) (name : List ℕ) (variable d : ℕ) (before after : Bindings) → i < length names → name ≡ get_or names i name →
    variable ≡ get_or (hidden_by x scope names) i d → IsAsIn (bound_in x scope (take (suc i) names)) before → IsAsIn (with_variable name variable (variable_in before)) after →
    IsAsIn (bound_in x scope (take i names)) after
unbind-next x scope names i name variable d before after below is had known set other =
    let own = had ∙ (hidden-at x scope names i d name below ∙ ap (bound_in x scope (take i names)) (sym is)) in
    let next : suc i ≡ i + 1 = omega arith in
    let there = known other ∙ (ap (λ n. bound_in x scope (take n names) other) next ∙ bound_in-next x scope names i name other below is) in
    set other
    ∙ (ap (λ n. cond (bytes_eq name other) n (variable_in before other)) own
    ∙ (ap (λ n. cond (bytes_eq name other) (bound_in x scope (take i names) name) n) there
    ∙ as-before (bound_in x scope (take i names)) name other (x + 2 * i) (bytes_eq name other) refl))

-- a table that shows what another shows
pub as-in-both : (scope : Scope) (before after : Bindings) → IsAsIn scope before → IsAsIn (variable_in before) after → IsAsIn scope after
as-in-both scope before after known kept name = kept name ∙ known name

-- sets bound one after the other
pub over-wrapped : (q : Quant) (names : List (List ℕ)) (f : Scope → ℕ → Form) (scope : Scope) (x : ℕ) → wrapped q (length names) x (f (bound_in x scope names) (x + 2 * length names)) ≡ over_sets q names f scope x
over-wrapped q [] f scope x = let same : x + 2 * 0 ≡ x = omega arith in ap (λ n. f scope n) same
over-wrapped q (name ∷ names) f scope x =
    let same : x + 2 * suc (length names) ≡ x + 2 + 2 * length names = omega arith in
    ap (λ n. sets.quantified q Two x unrestricted (wrapped q (length names) (x + 2) (f (bound_in (x + 2) (with_variable name x scope) names) n))) same
    ∙ ap (λ g. sets.quantified q Two x unrestricted g) (over-wrapped q names f (with_variable name x scope) (x + 2))

-- one more set around
pub wrapped-step : (q : Quant) (count left x : ℕ) (f : Form) → 0 < left → left ≤ count →
    sets.quantified q Two (x + 2 * (left - 1)) unrestricted (wrapped q (count - left) (x + 2 * left) f) ≡ wrapped q (count - (left - 1)) (x + 2 * (left - 1)) f
wrapped-step q count left x f more within =
    let next : suc (count - left) ≡ count - (left - 1) = omega (arith, more, within) in
    let place : x + 2 * left ≡ x + 2 * (left - 1) + 2 = omega (arith, more) in
    ap (λ n. sets.quantified q Two (x + 2 * (left - 1)) unrestricted (wrapped q (count - left) n f)) place ∙ ap (λ n. wrapped q n (x + 2 * (left - 1)) f) next
