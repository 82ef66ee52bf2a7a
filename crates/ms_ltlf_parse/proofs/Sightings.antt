-- What is held for each name, with one name more.
use Rattle.std.proofs.Common.{◌≡◌, ℕ, suc, ◌<◌, ◌≤◌, false, List, [], ◌∷◌, ◌++◌, length, Option, Some, None, sym, ap, ◌∙◌, inl, inr, arith, length-append, lt-ltb, ltb-true}
use Rattle.std.specs.Prelude.{bytes_eq, nat_lt, if◌then◌else◌}
use Rattle.std.proofs.lemmas.Bool.{cases_Bool, cases_lt, false≢true}
use Rattle.std.proofs.lemmas.Slice.Eq.{bytes_eq-Decides}
use Rattle.ms_ltlf_parse.specs.Grammar.{Names}
use Rattle.ms_ltlf_parse.specs.Reading.{place}
use Rattle.ms_ltlf_parse.specs.inner.Sights.{place_among, IsTable}
use Rattle.ms_ltlf_parse.proofs.Names.{place-append, place-new, place-most, place-here, place-further}

pub among_some : (names : Names) (n : List ℕ) → place names n < length names → place_among names n ≡ Some (place names n)
among_some names n h = ap (λ b. if b then Some (place names n) else None) (lt-ltb (place names n) (length names) h)

pub among_none : (names : Names) (n : List ℕ) → length names ≤ place names n → place_among names n ≡ None
among_none names n h =
    elim (cases_Bool (nat_lt (place names n) (length names))) [
      | inl e ↦ absurd (omega (arith, ltb-true (place names n) (length names) e))
      | inr e ↦ ap (λ b. if b then Some (place names n) else None) e
    ]

pub none_among : (names : Names) (n : List ℕ) → place_among names n ≡ None → length names ≤ place names n
none_among names n none =
    elim (cases_lt (place names n) (length names)) [
      | inl h ↦ let there : Some (place names n) ≡ None = sym (among_some names n h) ∙ none in let never : ⊥ = cc in absurd never
      | inr h ↦ h
    ]

place-other : (ms : Names) (m n : List ℕ) → bytes_eq n m ≡ false → length ms ≤ place ms n → place (ms ++ m ∷ []) n ≡ suc (length ms)
place-other [] m n apart h = place-further m [] n apart
place-other (k ∷ ms) m n apart h =
    elim (cases_Bool (bytes_eq n k)) [
      | inl e ↦ absurd (omega (arith, place-here k ms n e))
      | inr e ↦
          let large : length ms ≤ place ms n = omega (arith, place-further k ms n e) in
          place-further k (ms ++ m ∷ []) n e ∙ ap suc (place-other ms m n apart large)
    ]

apart_other : (m n : List ℕ) → bytes_eq m n ≡ false → bytes_eq n m ≡ false
apart_other m n e =
    elim (cases_Bool (bytes_eq n m)) [
      | inl same ↦ absurd (false≢true (sym e ∙ (bytes_eq-Decides m n).1 (sym ((bytes_eq-Decides n m).0 same))))
      | inr apart ↦ apart
    ]

among_more : (names : Names) (m n : List ℕ) → bytes_eq n m ≡ false → place_among (names ++ m ∷ []) n ≡ place_among names n
among_more names m n apart =
    elim (cases_lt (place names n) (length names)) [
      | inl h ↦
          let same = place-append names (m ∷ []) n h in
          let there : place (names ++ m ∷ []) n < length (names ++ m ∷ []) = omega (arith, same, length-append names (m ∷ [])) in
          among_some (names ++ m ∷ []) n there ∙ ap (λ i. Some i) same ∙ sym (among_some names n h)
      | inr h ↦
          let past : length (names ++ m ∷ []) ≤ place (names ++ m ∷ []) n = omega (arith, place-other names m n apart h, length-append names (m ∷ [])) in
          among_none (names ++ m ∷ []) n past ∙ sym (among_none names n h)
    ]

pub table_more : (held held' : List ℕ → Option ℕ) (names : Names) (m : List ℕ) (i : ℕ) → IsTable held names → held m ≡ None → i ≡ length names
    → ((n : List ℕ) → held' n ≡ (if bytes_eq m n then Some i else held n)) → IsTable held' (names ++ m ∷ [])
table_more held held' names m i table none last noted n =
    elim (cases_Bool (bytes_eq m n)) [
      | inl e ↦
          let same : m ≡ n = (bytes_eq-Decides m n).0 e in
          let new = place-new names m (none_among names m (sym (table m) ∙ none)) in
          let there : place (names ++ m ∷ []) m < length (names ++ m ∷ []) = omega (arith, new, length-append names (m ∷ [])) in
          noted n ∙ ap (λ b. if b then Some i else held n) e ∙ ap (λ j. Some j) (last ∙ sym new) ∙ sym (among_some (names ++ m ∷ []) m there) ∙ ap (place_among (names ++ m ∷ [])) same
      | inr e ↦ noted n ∙ ap (λ b. if b then Some i else held n) e ∙ table n ∙ sym (among_more names m n (apart_other m n e))
    ]

-- a name that is not there has the next place
pub next_place : (held : List ℕ → Option ℕ) (names : Names) (m : List ℕ) → IsTable held names → held m ≡ None → length names ≡ place names m
next_place held names m table none =
    let past = none_among names m (sym (table m) ∙ none) in
    omega (arith, place-most names m)
