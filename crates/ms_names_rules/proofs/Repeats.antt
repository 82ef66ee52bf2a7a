-- Names that stand twice in a list.
use Rattle.std.proofs.Common.{rules, ◌≡◌, ℕ, ◌+◌, ◌-◌, ◌<◌, length, get_or, drop, List, [], ◌∷◌, map, Option, Some, None, is_some, option_copied, Bor, refl, sym, ap, ◌∙◌, arith}
use Rattle.std.specs.Prelude.{Bool, true, false, if◌then◌else◌, bytes_eq}
use Rattle.std.proofs.lemmas.List.{drop_more}
use Rattle.ms_logic.specs.declared.source.Bound.{Bound, out-Bound}
use Rattle.ms_logic.specs.declared.source.Form.{the_lemmas}
use Rattle.ms_logic.specs.declared.source.LetPart.{LetPart, out-LetPart}
use Rattle.ms_names_rules.specs.declared.meaning.Meaning.{Meaning}
use Rattle.ms_names_rules.specs.Rules.{first_name_twice, is_name_among}
use Rattle.ms_names_rules.specs.Scope.{meaning_among, Bytes}
use Rattle.ms_parse_grammar.specs.View.{variable_of, part_of}

choose : (b : Bool) (m : Meaning) (outer : Bool) (meaning : Option Meaning) → outer ≡ is_some meaning →
    (if b then true else outer) ≡ is_some (if b then Some m else meaning)
choose true m outer meaning same = refl
choose false m outer meaning same = same

-- a name is among those of a table exactly where it has a meaning there
pub among-is_some : (names : List (Bytes × Meaning)) (n : Bytes) →
    is_name_among n (map (λ entry. entry.0) names) ≡ is_some (meaning_among names n)
among-is_some [] n = refl
among-is_some (e ∷ outer) n =
    choose (bytes_eq e.0 n) e.1 (is_name_among n (map (λ entry. entry.0) outer)) (meaning_among outer n) (among-is_some outer n)

pub is_some-copied : (lent : Option (Bor Meaning)) → is_some lent ≡ is_some (option_copied lent)
is_some-copied None = refl
is_some-copied (Some m) = refl

-- the next item of a slice
pub next : {A : Type 0} (xs : List A) (i : ℕ) (x : A) → i < length xs → x ≡ get_or xs i x → drop i xs ≡ x ∷ drop (i + 1) xs
next xs i x below is = drop_more xs i x below ∙ ap (λ y. y ∷ drop (i + 1) xs) (sym is)

pub bound_at-out : (v : Bound) → (variable_of v).at ≡ (out-Bound v).at
bound_at-out v = search (rules, the_lemmas)

pub bound_name-out : (v : Bound) → (variable_of v).name ≡ (out-Bound v).name
bound_name-out v = search (rules, the_lemmas)

pub part_at-out : (p : LetPart) → (part_of p).at ≡ (out-LetPart p).at
part_at-out p = search (rules, the_lemmas)

pub part_name-out : (p : LetPart) → (part_of p).name ≡ (out-LetPart p).name
part_name-out p = search (rules, the_lemmas)

-- the names from a place on
from-place : (names : List Bytes) (i : ℕ) (n : Bytes) → 0 < i → i - 1 < length names → n ≡ get_or names (i - 1) n →
    drop (i - 1) names ≡ n ∷ drop i names
from-place names i n some below is =
    let on : i - 1 + 1 ≡ i = omega (arith, some) in
    next names (i - 1) n below is ∙ ap (λ j. n ∷ drop j names) on

-- with one more name in front
pub behind-next : (names behind after : List Bytes) (i : ℕ) (n : Bytes) → 0 < i → i - 1 < length names → n ≡ get_or names (i - 1) n →
    behind ≡ drop i names → after ≡ n ∷ behind → after ≡ drop (i - 1) names
behind-next names behind after i n some below is so added =
    added ∙ (ap (λ more. n ∷ more) so ∙ sym (from-place names i n some below is))

pub found-next : (names behind : List Bytes) (found : Option Bytes) (i : ℕ) (n : Bytes) (b : Bool) →
    0 < i → i - 1 < length names → n ≡ get_or names (i - 1) n →
    behind ≡ drop i names → found ≡ first_name_twice (drop i names) → b ≡ is_name_among n behind →
    (if b then Some n else found) ≡ first_name_twice (drop (i - 1) names)
found-next names behind found i n b some below is so before among =
    ap (λ c. if c then Some n else found) (among ∙ ap (is_name_among n) so)
    ∙ (ap (λ f. if is_name_among n (drop i names) then Some n else f) before
    ∙ ap first_name_twice (sym (from-place names i n some below is)))
