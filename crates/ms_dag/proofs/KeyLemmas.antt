-- A node has the number that its codes have.
use Rattle.std.proofs.Common.{◌≡◌, ℕ, ◌==◌, true, false, if◌then◌else◌, List, [], ◌∷◌, ◌++◌, length, map, slice_get, Option, Some, None, Result, Ok, Err, IfOk, refl, sym, ◌∙◌, ap, subst, inl, inr, ⊎_elim, arith}
use Rattle.std.proofs.lemmas.Bool.Decides.{nat_tests}
use Rattle.std.proofs.lemmas.List.{length-map, map-append}
use Rattle.std.proofs.lemmas.Option.{slice_get-map, slice_get_within, same_Some}
use Rattle.std.specs.Option.{option_map}
use Rattle.ms_arena.proofs.Lists.{slice_get-push, slice_get-pushed}
use Rattle.ms_diagram.specs.Numbering.{Numbers}
use Rattle.ms_dag.specs.declared.node.Entry.{Entry}
use Rattle.ms_dag.specs.inner.Codes.{codes_of_entry}
use Rattle.ms_dag.proofs.CodeLemmas.{same_codes}

-- the item, by what stands for it
pub item_of : {X Y : Type 0} (f : X → Y) (o : Option X) (y : Y) → option_map f o ≡ Some y → (x : X) × (o ≡ Some x) × (f x ≡ y)
item_of f None y is = absurd (let never : ⊥ = cc in never)
item_of f (Some x) y is = (x, refl, same_Some _ _ is)

-- an entry has a number, and the table is kept
pub record Kept (entries new : List Entry) (next : List (List ℕ)) (entry : Entry) (n : ℕ) : Type 0 where
  pub still_keyed : next ≡ map codes_of_entry new
  pub numbers : Numbers entries new entry
  pub number : slice_get new n ≡ Some entry

module _ (entries new : List Entry) (keys next : List (List ℕ)) (entry : Entry) (n : ℕ) (keyed : keys ≡ map codes_of_entry entries) (at : slice_get next n ≡ Some (codes_of_entry entry))
    (is : new ≡ (if n == length entries then entries ++ entry ∷ [] else entries)) where
  long : length keys ≡ length entries
  long = ap length keyed ∙ length-map entries codes_of_entry

  -- the entry with a key
  entry_at : slice_get keys n ≡ Some (codes_of_entry entry) → slice_get entries n ≡ Some entry
  entry_at held =
      let found = item_of codes_of_entry (slice_get entries n) (codes_of_entry entry) (sym (slice_get-map codes_of_entry entries n) ∙ ap (λ list. slice_get list n) (sym keyed) ∙ held) in
      found.1 ∙ ap Some (same_codes found.0 entry found.2)

  pub kept : Numbers keys next (codes_of_entry entry) → Kept entries new next entry n
  kept (inl same) =
      let held : slice_get keys n ≡ Some (codes_of_entry entry) = ap (λ list. slice_get list n) (sym same) ∙ at in
      let below = slice_get_within keys n (codes_of_entry entry) held in
      let length_is = long in
      let passed : (n == length entries) ≡ false = grind (arith, nat_tests) in
      let unchanged : new ≡ entries = is ∙ ap (λ b. if b then entries ++ entry ∷ [] else entries) passed in
      record {
        still_keyed = same ∙ keyed ∙ ap (map codes_of_entry) (sym unchanged);
        numbers = inl unchanged;
        number = ap (λ list. slice_get list n) unchanged ∙ entry_at held;
      }
  kept (inr added) =
      let w = codes_of_entry entry in
      let held : slice_get (keys ++ w ∷ []) n ≡ Some w = ap (λ list. slice_get list n) (sym added.1) ∙ at in
      let last : n ≡ length keys = ⊎_elim (λ earlier. absurd (added.0 n earlier)) (λ behind. behind.0) (slice_get-pushed keys w n w held) in
      let length_is = long in
      let passed : (n == length entries) ≡ true = grind (arith, nat_tests) in
      let grown : new ≡ entries ++ entry ∷ [] = is ∙ ap (λ b. if b then entries ++ entry ∷ [] else entries) passed in
      record {
        still_keyed = added.1 ∙ ap (λ list. list ++ w ∷ []) keyed ∙ sym (map-append codes_of_entry entries (entry ∷ [])) ∙ ap (map codes_of_entry) (sym grown);
        numbers = inr ((λ place there. added.0 place (ap (λ list. slice_get list place) keyed ∙ slice_get-map codes_of_entry entries place ∙ ap (option_map codes_of_entry) there)), grown);
        number = ap (λ list. slice_get list n) grown ∙ ap (slice_get (entries ++ entry ∷ [])) (last ∙ long) ∙ slice_get-push entries entry;
      }

-- where one result is Ok only as another is, what each says of its value
pub both_ok : {E F : Type 0} (r : Result ℕ E) (w : Result ℕ F) (K P Q R : ℕ → Type 0) → IfOk r (λ given. w ≡ Ok given) → IfOk r K → IfOk w P → IfOk w Q → ((given : ℕ) → K given → P given → Q given → R given) → IfOk r R
both_ok {E} {F} (Ok given) w K P Q R same known first second so =
    let At : (ℕ → Type 0) → Result ℕ F → Type 0 = λ fact v. IfOk v fact in so given known (subst (At P) same first) (subst (At Q) same second)
both_ok (Err e) w K P Q R same known first second so = tt
