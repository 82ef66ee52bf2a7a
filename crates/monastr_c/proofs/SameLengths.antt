-- When two files have the same lengths.
use Rattle.std.proofs.Common.{◌≡◌, ℕ, Decides, ◌&&◌, nat_eq, ap, ◌∙◌}
use Rattle.std.proofs.lemmas.Bool.Decides.{Decides-and, Decides-eqb, Decides-like}
use Rattle.monastr_c.specs.declared.request.FileLengths.{FileLengths}

-- the comparison of both lengths decides it
pub lengths-Decides : (a b : FileLengths) → Decides (nat_eq a.name b.name && nat_eq a.content b.content) (a ≡ b)
lengths-Decides a b =
    Decides-like _ (λ (w : (a.name ≡ b.name) × (a.content ≡ b.content)). same w.0 w.1) (λ (e : a ≡ b). (ap (λ (l : FileLengths). l.name) e, ap (λ (l : FileLengths). l.content) e))
    (Decides-and _ _ (Decides-eqb a.name b.name) (Decides-eqb a.content b.content))
  where
    same : a.name ≡ b.name → a.content ≡ b.content → a ≡ b
    same names contents =
        let lengths : ℕ → ℕ → FileLengths = λ name content. record { name = name; content = content } in
        ap (λ name. lengths name a.content) names ∙ ap (λ content. lengths b.name content) contents
