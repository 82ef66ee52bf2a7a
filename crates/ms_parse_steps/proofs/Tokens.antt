-- Names apart from others, and what stands before a token.
use Rattle.std.proofs.Common.{◌≡◌, ◌≢◌, ℕ, zero, suc, List, [], ◌∷◌, ◌++◌, take, drop, false, bytes_eq, refl, sym, ap, ◌∙◌, subst}
use Rattle.std.proofs.lemmas.Bool.{false≢true}
use Rattle.std.proofs.lemmas.Slice.Eq.{bytes_eq-Decides}
use Rattle.ms_list.specs.declared.at.At.{At}
use Rattle.ms_parse_grammar.specs.Symbol.{Symbol, name, Placed, placed}
use Rattle.ms_parse_steps.specs.inner.Punctuations.{IsNot}
use Rattle.ms_parse_steps.specs.inner.Terminals.{NoName}

pub not_named : (n : List ℕ) (ts : List Placed) → NoName ts → IsNot (name n) ts
not_named n [] none = tt
not_named n (placed (name m) a ∷ ts) none = absurd none
not_named n (placed _ a ∷ ts) none = λ e. let never : ⊥ = cc in never

pub not_this : (s t : Symbol) (at : At) (ts g : List Placed) → ts ≡ placed s at ∷ g → s ≢ t → IsNot t ts
not_this s t at ts g next other = subst (IsNot t) (sym next) other

pub cut : (xs : List Placed) (i : ℕ) → xs ≡ take i xs ++ drop i xs
cut [] zero = refl
cut [] (suc i) = refl
cut (x ∷ xs) zero = refl
cut (x ∷ xs) (suc i) = ap (λ ys. x ∷ ys) (cut xs i)

pub name_apart : (n m : List ℕ) → bytes_eq n m ≡ false → name n ≢ name m
name_apart n m other same = let equal : n ≡ m = cc in false≢true (sym other ∙ (bytes_eq-Decides n m).1 equal)
