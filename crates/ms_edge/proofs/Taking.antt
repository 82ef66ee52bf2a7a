-- What a sink has taken after one piece and then another.
use Rattle.std.proofs.Common.{◌≡◌, ℕ, List, ◌+◌, ◌++◌, take, drop, ◌-◌, length, Option, Some, None, refl, ap, sym, ◌∙◌}
use Rattle.std.proofs.Math.Seq.{take-add, take-length}
use Rattle.std.proofs.lemmas.List.{append_assoc, length-drop}
use Rattle.ms_edge.specs.Sink.{grown}

-- two pieces one after the other are their sum
pub grown-grown : (taken : Option (List ℕ)) (front back : List ℕ) → grown (grown taken front) back ≡ grown taken (front ++ back)
grown-grown None front back = refl
grown-grown (Some taken) front back = ap (λ bytes. Some bytes) (append_assoc taken front back)

-- all that is left behind a place
pub take-rest : (bytes : List ℕ) (done : ℕ) → take (length bytes - done) (drop done bytes) ≡ drop done bytes
take-rest bytes done = ap (λ (count : ℕ). take count (drop done bytes)) (sym (length-drop done bytes)) ∙ take-length (drop done bytes)

-- the front of the bytes, and then the front of the piece that is left
pub grown-take-piece : (taken : Option (List ℕ)) (done count : ℕ) (bytes : List ℕ) → grown (grown taken (take done bytes)) (take count (take (length bytes - done) (drop done bytes))) ≡ grown taken (take (done + count) bytes)
grown-take-piece taken done count bytes =
    rw (take-rest bytes done) (grown-grown taken (take done bytes) (take count (drop done bytes)) ∙ ap (grown taken) (sym (take-add done count bytes)))
