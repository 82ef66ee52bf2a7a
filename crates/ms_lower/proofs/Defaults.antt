-- The names inside a default restriction, and lists of variables that are entered.
use Rattle.std.proofs.Common.{◌≡◌, ℕ, suc, ◌+◌, ◌-◌, ◌<◌, ◌≤◌, List, [], ◌∷◌, ◌++◌, length, map, take, drop, drop-cons, get_or, refl, sym, ap, ◌∙◌, arith}
use Rattle.ms_logic.specs.declared.checked.Param.{Param}
use Rattle.ms_logic_core.specs.Spread.{Names, default_names, named}
use Rattle.ms_logic.specs.Tree.{Declaration}
use Rattle.ms_logic.specs.View.{declaration_of}
use Rattle.ms_lower.specs.declared.scope.Named.{Named}
use Rattle.ms_lower.specs.inner.Scope.{all_named, default_over, names_in}
use Rattle.ms_lower.proofs.Parts.{map-more}
use Rattle.ms_lower.proofs.Scopes.{names_in-append}

pub default_over_same : (ds : List Declaration) (x : ℕ) (names : Names) → default_over ds x names names ≡ default_names ds x names
default_over_same [] x names = refl
default_over_same (d ∷ ds) x names = ap (named d.variable.order d.variable.name (names d.variable.order x)) (default_over_same ds x names)

pub all_named-append : (ns later : List Named) (base : Names) → all_named (ns ++ later) base ≡ all_named ns (all_named later base)
all_named-append [] later base = refl
all_named-append (n ∷ ns) later base = ap (named n.order n.variable n.name) (all_named-append ns later base)

default_over-append : (ds : List Declaration) (d : Declaration) (x : ℕ) (names base : Names) →
    default_over (ds ++ d ∷ []) x names base ≡ default_over ds x names (named d.variable.order d.variable.name (names d.variable.order x) base)
default_over-append [] d x names base = refl
default_over-append (e ∷ ds) d x names base = ap (named e.variable.order e.variable.name (names e.variable.order x)) (default_over-append ds d x names base)

-- one parameter more
pub default_more : (ns made : List Named) (params : List Param) (i : ℕ) (p : Param) (x name : ℕ) (names : Names) → i < length params → p ≡ get_or params i p →
    ((base : Names) → all_named ns base ≡ default_over (map declaration_of (take i params)) x names base) → name ≡ names p.order x → made ≡ ns ++ (record { order = p.order; variable = p.variable; name = name }) ∷ [] →
    (base : Names) → all_named made base ≡ default_over (map declaration_of (take (i + 1) params)) x names base
default_more ns made params i p x name names below is before name_is made_is base =
    ap (λ l. all_named l base) made_is
    ∙ (all_named-append ns ((record { order = p.order; variable = p.variable; name = name }) ∷ []) base
    ∙ (before (named p.order p.variable name base)
    ∙ (ap (λ k. default_over (map declaration_of (take i params)) x names (named p.order p.variable k base)) name_is
    ∙ (sym (default_over-append (map declaration_of (take i params)) (declaration_of p) x names base)
    ∙ ap (λ ds. default_over ds x names base) (sym (map-more declaration_of params i p below is))))))

-- one more is entered, going down
pub named_before : (scope made : List Named) (outer : Names) (ns : List Named) (i : ℕ) (n d : Named) → 0 < i → i ≤ length ns → n ≡ get_or ns (i - 1) d →
    names_in scope ≡ all_named (drop i ns) outer → made ≡ scope ++ n ∷ [] → names_in made ≡ all_named (drop (i - 1) ns) outer
named_before scope made outer ns i n d positive within is names made_is =
    let next : suc (i - 1) ≡ i = omega arith in
    let split : drop (i - 1) ns ≡ n ∷ drop i ns = drop-cons ns (i - 1) d (omega arith) ∙ (ap (λ m. m ∷ drop (suc (i - 1)) ns) (sym is) ∙ ap (λ k. n ∷ drop k ns) next) in
    ap names_in made_is ∙ (names_in-append scope n ∙ (ap (named n.order n.variable n.name) names ∙ ap (λ l. all_named l outer) (sym split)))
