-- Lists with a sign between their items, and behind each.
use Rattle.std.proofs.Common.{◌≡◌, List, [], ◌∷◌, ◌++◌, refl, sym, ap, ◌∙◌, append_assoc, append-nil}
use Rattle.std.specs.Prelude.{flat_map}
use Rattle.ms_presburger_parse.specs.Grammar.{separated, HasOne}
use Rattle.ms_presburger_parse.specs.Symbol.{Symbol}

-- the symbols of the items, with the sign behind each
abbrev pub terminated : {A : Type 0} → Symbol → (A → List Symbol) → List A → List Symbol
terminated sign said [] = []
terminated sign said (x ∷ xs) = said x ++ sign ∷ terminated sign said xs

turned : {A : Type 0} (sign : Symbol) (said : A → List Symbol) (xs : List A) → flat_map (λ y. sign ∷ said y) xs ++ sign ∷ [] ≡ sign ∷ terminated sign said xs
turned sign said [] = refl
turned sign said (x ∷ xs) =
    ap (λ y. sign ∷ y) (append_assoc (said x) (flat_map (λ y. sign ∷ said y) xs) (sign ∷ [])) ∙ ap (λ y. sign ∷ (said x ++ y)) (turned sign said xs)

-- one more sign behind the items
pub separated-sign : {A : Type 0} (sign : Symbol) (said : A → List Symbol) (xs : List A) → HasOne xs → terminated sign said xs ≡ separated sign said xs ++ sign ∷ []
separated-sign sign said [] some = absurd some
separated-sign sign said (x ∷ xs) some =
    sym (append_assoc (said x) (flat_map (λ y. sign ∷ said y) xs) (sign ∷ []) ∙ ap (λ y. said x ++ y) (turned sign said xs))

behind-last : {A : Type 0} (sign : Symbol) (said : A → List Symbol) (xs : List A) (last : A) → flat_map (λ y. sign ∷ said y) (xs ++ last ∷ []) ≡ sign ∷ (terminated sign said xs ++ said last)
behind-last sign said [] last = ap (λ y. sign ∷ y) (append-nil (said last))
behind-last sign said (x ∷ xs) last =
    ap (λ y. sign ∷ (said x ++ y)) (behind-last sign said xs last) ∙ ap (λ y. sign ∷ y) (sym (append_assoc (said x) (sign ∷ terminated sign said xs) (said last)))

-- one more item behind the signs
pub separated-last : {A : Type 0} (sign : Symbol) (said : A → List Symbol) (xs : List A) (last : A) → separated sign said (xs ++ last ∷ []) ≡ terminated sign said xs ++ said last
separated-last sign said [] last = append-nil (said last)
separated-last sign said (x ∷ xs) last =
    ap (λ y. said x ++ y) (behind-last sign said xs last) ∙ sym (append_assoc (said x) (sign ∷ terminated sign said xs) (said last))

-- one more item with its sign
pub terminated-last : {A : Type 0} (sign : Symbol) (said : A → List Symbol) (xs : List A) (last : A) → terminated sign said (xs ++ last ∷ []) ≡ (terminated sign said xs ++ said last) ++ sign ∷ []
terminated-last sign said [] last = refl
terminated-last sign said (x ∷ xs) last =
    ap (λ y. said x ++ (sign ∷ y)) (terminated-last sign said xs last)
    ∙ ap (λ y. said x ++ (sign ∷ y)) (append_assoc (terminated sign said xs) (said last) (sign ∷ []))
    ∙ sym (append_assoc (said x) (sign ∷ terminated sign said xs) (said last ++ sign ∷ []))
    ∙ sym (append_assoc (said x ++ sign ∷ terminated sign said xs) (said last) (sign ∷ []))
