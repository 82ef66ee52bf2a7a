-- The names in a scope with one more variable.
use Rattle.std.proofs.Common.{◌≡◌, ℕ, ◌+◌, ◌-◌, ◌<◌, ◌≤◌, ◌==◌, ◌&&◌, Bool, cond, List, [], ◌∷◌, ◌++◌, length, take, get_or, refl, sym, ap, ◌∙◌, arith}
use Rattle.std.proofs.lemmas.List.{take_more}
use Rattle.ms_logic.specs.declared.mode.Order.{Order}
use Rattle.ms_logic_core.specs.Spread.{Names, is_order, named, own_names}
use Rattle.ms_lower.specs.declared.scope.Named.{Named}
use Rattle.ms_lower.specs.inner.Scope.{names_in, names_over}

names_over-append : (names : Names) (scope : List Named) (n : Named) → names_over names (scope ++ n ∷ []) ≡ named n.order n.variable n.name (names_over names scope)
names_over-append names [] n = refl
names_over-append names (m ∷ scope) n = names_over-append (named m.order m.variable m.name names) scope n

pub names_in-append : (scope : List Named) (n : Named) → names_in (scope ++ n ∷ []) ≡ named n.order n.variable n.name (names_in scope)
names_in-append scope n = names_over-append own_names scope n

-- the last of the first variables
pub name_at : (scope : List Named) (i : ℕ) (n : Named) (o : Order) (x : ℕ) → i < length scope → n ≡ get_or scope i n →
    names_in (take (i + 1) scope) o x ≡ cond (is_order n.order o && (x == n.variable)) n.name (names_in (take i scope) o x)
name_at scope i n o x below is =
    let taken : take (i + 1) scope ≡ take i scope ++ n ∷ [] = take_more scope i n below ∙ ap (λ m. take i scope ++ m ∷ []) (sym is) in
    ap (λ l. names_in l o x) taken ∙ ap (λ names. let k : ℕ = names o x in k) (names_in-append (take i scope) n)

-- the same, going down
pub name_before : (scope items : List Named) (i : ℕ) (n : Named) (o : Order) (x : ℕ) (test : Bool) → items ≡ scope → 0 < i → i ≤ length scope → n ≡ get_or items (i - 1) n →
    test ≡ (is_order n.order o && (x == n.variable)) → names_in (take i scope) o x ≡ cond test n.name (names_in (take (i - 1) scope) o x)
name_before scope items i n o x test same positive within is tested =
    let step : i - 1 + 1 ≡ i = omega arith in
    ap (λ j. names_in (take j scope) o x) (sym step)
    ∙ (name_at scope (i - 1) n o x (omega arith) (is ∙ ap (λ l. get_or l (i - 1) n) same)
    ∙ ap (λ b. cond b n.name (names_in (take (i - 1) scope) o x)) (sym tested))
