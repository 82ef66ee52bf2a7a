-- Fields: bytes above the blank, with a byte behind them that is none of these.
use Rattle.std.proofs.Common.{◌≡◌, ◌≢◌, ℕ, ◌<◌, ◌≤◌, ◌⊎◌, true, false, List, [], ◌∷◌, ◌++◌, length, take, drop, get_or, sym, ap, subst, ◌∙◌, arith, append_assoc, ⊎_elim, get_or-drop, add-zero, length-drop}
use Rattle.std.specs.List.{list_all, prefix_len}
use Rattle.std.proofs.lemmas.List.{take-append-drop}
use Rattle.ms_text.proofs.Bytes.{Stops, one_run, prefix_passes, prefix_stops}
use Rattle.ms_dfafile.specs.inner.Reading.{is_field_byte, IsField, ended}

-- the byte that ends a field, and what stands behind it
pub ended-append : (end : ℕ) (text rest : List ℕ) → ended end text ++ rest ≡ text ++ end ∷ rest
ended-append end text rest = append_assoc text (end ∷ []) rest

-- two fields in front of the same bytes are one
pub ended-one : (end : ℕ) (one two rest other : List ℕ) → is_field_byte end ≡ false → IsField one → IsField two → ended end one ++ rest ≡ ended end two ++ other → (one ≡ two) × (rest ≡ other)
ended-one end one two rest other ends is_one is_two same =
    let parts = one_run is_field_byte one two (end ∷ rest) (end ∷ other) is_one is_two ends ends (sym (ended-append end one rest) ∙ same ∙ ended-append end two other) in
    (parts.0, ap (λ (bytes : List ℕ). drop 1 bytes) parts.1)

begins_at : (end : ℕ) (bytes rest : List ℕ) (n : ℕ) → drop n bytes ≡ end ∷ rest → (n < length bytes) × (get_or bytes n 0 ≡ end)
begins_at end bytes rest n cut =
    (omega (arith, length-drop n bytes, ap length cut), ap (λ k. get_or bytes k 0) (sym (add-zero n)) ∙ sym (get_or-drop n bytes 0 0) ∙ ap (λ (left : List ℕ). get_or left 0 0) cut)

-- where the run of a field's bytes is not ended by the byte, no field is
pub no_field : (end : ℕ) (bytes : List ℕ) (n : ℕ) → is_field_byte end ≡ false → n ≡ prefix_len is_field_byte bytes → (length bytes ≤ n) ⊎ (get_or bytes n 0 ≢ end)
    → (text rest : List ℕ) → IsField text → bytes ≢ ended end text ++ rest
no_field end bytes n ends run apart text rest is_field begins =
    let whole : take n bytes ++ drop n bytes ≡ text ++ end ∷ rest = take-append-drop n bytes ∙ begins ∙ ended-append end text rest in
    let front = subst (λ k. list_all is_field_byte (take k bytes) ≡ true) (sym run) (prefix_passes is_field_byte bytes) in
    let stop = subst (λ k. Stops is_field_byte (drop k bytes)) (sym run) (prefix_stops is_field_byte bytes) in
    let parts = one_run is_field_byte (take n bytes) text (drop n bytes) (end ∷ rest) front is_field stop ends whole in
    let at_end = begins_at end bytes rest n parts.1 in
    ⊎_elim (λ past. let never : ⊥ = omega (arith, at_end.0) in never) (λ other. other at_end.1) apart
