-- The derived `==` on keys is equality.
use Rattle.std.proofs.Common.{◌≡◌, true, sym, ap, ◌∙◌, ⊎_elim}
use Rattle.std.proofs.lemmas.Bool.{and_parts, and_from, both_ways, cases_Bool}
use Rattle.std.specs.Cmp.{IsEquivalence}
use Rattle.ms_arena.specs.contracts.node.RefPartialEq.TheImpl as of_ref
use Rattle.ms_arena.proofs.Equality.{same_ref, ref_itself}
use Rattle.ms_cache.specs.declared.key.Key.{Key}
use Rattle.ms_cache.specs.Key.{is_key}

-- keys that compare equal are equal
pub same_key : (one two : Key) → is_key one two ≡ true → one ≡ two
same_key one two same =
    let parts = and_parts (of_ref.eq-value.it one.left two.left) (of_ref.eq-value.it one.right two.right) same in
    let left = same_ref one.left two.left parts.0 in
    let right = same_ref one.right two.right parts.1 in
    λ i. record { left = left i; right = right i }

-- a key compares equal to itself
pub key_itself : (key : Key) → is_key key key ≡ true
key_itself key = and_from (of_ref.eq-value.it key.left key.left) (of_ref.eq-value.it key.right key.right) (ref_itself key.left) (ref_itself key.right)

-- so the `==` of keys has the laws of an equality
pub key_laws : IsEquivalence is_key
key_laws = record {
  refl = key_itself;
  symm = λ one two. ⊎_elim
      (λ equal. let same = same_key one two equal in ap (λ key. is_key key two) same ∙ ap (λ key. is_key two key) (sym same))
      (λ differs. differs ∙ sym (⊎_elim (λ equal. absurd (both_ways (is_key one two) differs (ap (λ key. is_key one key) (same_key two one equal) ∙ key_itself one)))
      (λ no. no) (cases_Bool (is_key two one))))
      (cases_Bool (is_key one two));
  congr = λ one two three equal. ap (λ key. is_key key three) (same_key one two equal);
}
