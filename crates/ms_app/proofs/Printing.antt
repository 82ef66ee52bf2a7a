-- A text that is printed in pieces.
use Rattle.std.proofs.Common.{◌≡◌, ℕ, zero, suc, ◌+◌, ◌<◌, List, [], ◌∷◌, ◌++◌, length, take, Option, None, Some, refl, sym, ap, ◌∙◌, arith}
use Rattle.std.proofs.lemmas.List.{length-append}
use Rattle.ms_edge.specs.Sink.{grown}

behind : (xs ys zs : List ℕ) → (xs ++ ys) ++ zs ≡ xs ++ (ys ++ zs)
behind [] ys zs = refl
behind (x ∷ xs) ys zs = ap (λ l. x ∷ l) (behind xs ys zs)

grown_both : (a : Option (List ℕ)) (front more : List ℕ) → grown (grown a front) more ≡ grown a (front ++ more)
grown_both None front more = refl
grown_both (Some taken) front more = ap Some (behind taken front more)

-- two pieces are one
pub grown_twice : (a b c : Option (List ℕ)) (front more : List ℕ) → b ≡ grown a front → c ≡ grown b more → c ≡ grown a (front ++ more)
grown_twice a b c front more one two = two ∙ ap (λ taken. grown taken more) one ∙ grown_both a front more

take_front : (bytes rest : List ℕ) (k : ℕ) → k < length bytes → take k (bytes ++ rest) ≡ take k bytes
take_front [] rest k less = absurd (omega (arith, less))
take_front (x ∷ bytes) rest zero less = refl
take_front (x ∷ bytes) rest (suc k) less = ap (λ l. x ∷ l) (take_front bytes rest k (omega (arith, less)))

take_behind : (front xs : List ℕ) (k : ℕ) → take (length front + k) (front ++ xs) ≡ front ++ take k xs
take_behind [] xs k = let none : length {A = ℕ} [] + k ≡ k = omega arith in ap (λ n. take n xs) none
take_behind (x ∷ front) xs k =
    let next : length (x ∷ front) + k ≡ suc (length front + k) = omega arith in
    ap (λ n. take n (x ∷ (front ++ xs))) next ∙ ap (λ l. x ∷ l) (take_behind front xs k)

-- a text of which some was printed, and not all
abbrev pub IsInPart : Option (List ℕ) → Option (List ℕ) → List ℕ → Type 0
IsInPart a c text = (count : ℕ) × (count < length text) × (c ≡ grown a (take count text))

-- its first piece was printed in part
pub first_part : (a c : Option (List ℕ)) (bytes rest : List ℕ) (k : ℕ) → k < length bytes → c ≡ grown a (take k bytes) → IsInPart a c (bytes ++ rest)
first_part a c bytes rest k less is =
    let long = length-append bytes rest in
    (k, omega (arith, less, long), is ∙ ap (grown a) (sym (take_front bytes rest k less)))

-- or a later one, behind others
pub later_part : (a b c : Option (List ℕ)) (front bytes rest : List ℕ) (k : ℕ) → b ≡ grown a front → k < length bytes → c ≡ grown b (take k bytes) → IsInPart a c (front ++ (bytes ++ rest))
later_part a b c front bytes rest k one less two =
    let long = length-append front (bytes ++ rest) in
    let more = length-append bytes rest in (
      length front + k,
      omega (arith, less, long, more),
      grown_twice a b c front (take k bytes) one two ∙ ap (grown a) (ap (λ l. front ++ l) (sym (take_front bytes rest k less)) ∙ sym (take_behind front (bytes ++ rest) k)),
    )
