-- The table of names: what is found in it, and what it becomes with one entry more or less.
use Rattle.std.proofs.Common.{◌≡◌, ℕ, ◌-◌, ◌<◌, List, [], ◌∷◌, ◌++◌, length, map, take, reverse, get_or, Option, Some, None, refl, sym, subst, ap, ◌∙◌, arith}
use Rattle.std.specs.Prelude.{bytes_eq, string_bytes, Bool, true, false, if◌then◌else◌}
use Rattle.std.proofs.lemmas.List.{length-reverse, length_push, map-append, reverse-append, take_at}
use Rattle.std.proofs.lemmas.Grind.{common_steps}
use Rattle.std.proofs.lemmas.Slice.Eq.{bytes_eq-Decides}
use Rattle.ms_names_rules.specs.Scope.{meaning_among, Bytes}
use Rattle.ms_names_scopes.specs.declared.names.Entry.{Entry}
use Rattle.ms_names_scopes.specs.inner.Numbers.{Numbered}
use Rattle.ms_names_scopes.specs.inner.Table.{entry_numbers, flat, innermost, number_of, KnowHidden, IsTable, IsNoted, named_meaning}

pub innermost-below : (r : List Entry) (n : Bytes) (i : ℕ) → innermost r n ≡ Some i → i < length r
innermost-below [] n i h = grind arith
innermost-below (e ∷ outer) n i h = grind (arith, innermost-below outer n i)

pub innermost-none : (r : List Entry) (n : Bytes) → innermost r n ≡ None → meaning_among (map named_meaning r) n ≡ None
innermost-none [] n h = refl
innermost-none (e ∷ outer) n h = grind (arith, innermost-none outer n)

pub innermost-some : (r : List Entry) (n : Bytes) (i : ℕ) (d : Entry) → innermost r n ≡ Some i →
    Some (get_or (reverse r) i d).meaning ≡ meaning_among (map named_meaning r) n
innermost-some [] n i d h = grind arith
innermost-some (e ∷ outer) n i d h = grind (arith, common_steps, innermost-some outer n i d, innermost-below outer n i)

reverse-more : (entries : List Entry) (e : Entry) → reverse (entries ++ e ∷ []) ≡ e ∷ reverse entries
reverse-more entries e = reverse-append entries (e ∷ [])

flat-noted : (b : Bool) (place : Option ℕ) (held : Option (Option ℕ)) →
    flat (if b then Some place else held) ≡ (if b then place else flat held)
flat-noted true place held = refl
flat-noted false place held = refl

-- with one more entry
pub IsTable-more : (held noted : Bytes → Option (Option ℕ)) (numbers more : Numbered) (entries : List Entry) (e : Entry) →
    IsTable held numbers entries → e.hidden ≡ flat (held (string_bytes e.name)) →
    IsNoted held noted (string_bytes e.name) (Some (length entries)) → more ≡ numbers ++ number_of e.meaning ∷ [] →
    IsTable noted more (entries ++ e ∷ [])
IsTable-more held noted numbers more entries e table hides is_noted is_more =
    let P : List Entry → Type 0 = KnowHidden in
    record {
      found = λ n.
          ap flat (is_noted n) ∙ (flat-noted (bytes_eq (string_bytes e.name) n) (Some (length entries)) (held n)
          ∙ (ap (λ i. if bytes_eq (string_bytes e.name) n then i else flat (held n)) (ap Some (sym (length-reverse entries)))
          ∙ (ap (λ i. if bytes_eq (string_bytes e.name) n then Some (length (reverse entries)) else i) (table.found n)
          ∙ ap (λ r. innermost r n) (sym (reverse-more entries e)))));
      hidden = subst P (sym (reverse-more entries e)) (hides ∙ table.found (string_bytes e.name), table.hidden);
      numbered = is_more ∙ (ap (λ ns. ns ++ number_of e.meaning ∷ []) table.numbered ∙ sym (map-append (λ f. number_of f.meaning) entries (e ∷ [])));
    }

choose-hidden : (b : Bool) (outer : List Entry) (n : Bytes) (place : Option ℕ) →
    (b ≡ true → place ≡ innermost outer n) →
    (if b then place else (if b then Some (length outer) else innermost outer n)) ≡ innermost outer n
choose-hidden true outer n place same = same refl
choose-hidden false outer n place same = refl

bytes_eq-same : (a : Bytes) → bytes_eq a a ≡ true
bytes_eq-same a = (bytes_eq-Decides a a).1 refl

-- the name of the innermost entry has a place
pub IsTable-named : (held : Bytes → Option (Option ℕ)) (numbers : Numbered) (all entries : List Entry) (e : Entry) →
    IsTable held numbers all → all ≡ entries ++ e ∷ [] → held (string_bytes e.name) ≡ None → ⊥
IsTable-named held numbers all entries e table are absent =
    let found : None ≡ innermost (e ∷ reverse entries) (string_bytes e.name) =
    ap flat (sym absent) ∙ (table.found (string_bytes e.name) ∙ ap (λ r. innermost r (string_bytes e.name)) (ap reverse are ∙ reverse-more entries e)) in
    let there : innermost (e ∷ reverse entries) (string_bytes e.name) ≡ Some (length (reverse entries)) =
    ap (λ b. if b then Some (length (reverse entries)) else innermost (reverse entries) (string_bytes e.name)) (bytes_eq-same (string_bytes e.name)) in
    let never : None ≡ Some (length (reverse entries)) = found ∙ there in
    cc

-- the numbers without the last
fewer-numbers : (numbers : Numbered) (all entries : List Entry) (e : Entry) → numbers ≡ entry_numbers all → all ≡ entries ++ e ∷ [] →
    take (length numbers - 1) numbers ≡ entry_numbers entries
fewer-numbers numbers all entries e are_numbers are =
    let own = entry_numbers entries in
    let split : numbers ≡ own ++ number_of e.meaning ∷ [] = are_numbers ∙ (ap entry_numbers are ∙ map-append (λ f. number_of f.meaning) entries (e ∷ [])) in
    let count : length own ≡ length (own ++ number_of e.meaning ∷ []) - 1 = omega (arith, length_push own (number_of e.meaning)) in
    ap (λ ns. take (length ns - 1) ns) split ∙ take_at own (number_of e.meaning ∷ []) (length (own ++ number_of e.meaning ∷ []) - 1) count

-- without the innermost entry
pub IsTable-less : (held noted : Bytes → Option (Option ℕ)) (numbers fewer : Numbered) (all entries : List Entry) (e : Entry) →
    IsTable held numbers all → all ≡ entries ++ e ∷ [] → IsNoted held noted (string_bytes e.name) e.hidden →
    fewer ≡ take (length numbers - 1) numbers → IsTable noted fewer entries
IsTable-less held noted numbers fewer all entries e table are is_noted is_fewer =
    let P : List Entry → Type 0 = KnowHidden in
    let known : KnowHidden (e ∷ reverse entries) = subst P (ap reverse are ∙ reverse-more entries e) table.hidden in
    record {
      found = λ n.
          ap flat (is_noted n) ∙ (flat-noted (bytes_eq (string_bytes e.name) n) e.hidden (held n)
          ∙ (ap (λ i. if bytes_eq (string_bytes e.name) n then e.hidden else i) (table.found n ∙ ap (λ r. innermost r n) (ap reverse are ∙ reverse-more entries e))
          ∙ choose-hidden (bytes_eq (string_bytes e.name) n) (reverse entries) n e.hidden
          (λ same. known.0 ∙ ap (λ m. innermost (reverse entries) m) ((bytes_eq-Decides (string_bytes e.name) n).0 same))));
      hidden = known.1;
      numbered = is_fewer ∙ fewer-numbers numbers all entries e table.numbered are;
    }
