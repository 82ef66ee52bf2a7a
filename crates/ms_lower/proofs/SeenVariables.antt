-- Variables that are seen, and roots over them.
use Rattle.std.proofs.Common.{◌≡◌, ℕ, ◌+◌, ◌-◌, ◌<◌, ◌≤◌, ◌==◌, cond, max, min, List, [], ◌∷◌, ◌++◌, length, map, take, get_or, refl, sym, ap, ap₂, ◌∙◌, arith, append-nil, append_assoc}
use Rattle.std.proofs.lemmas.Bool.{eq-eqb, ne_eqb}
use Rattle.std.proofs.lemmas.List.{map-append, take_more}
use Rattle.ms_logic.specs.declared.checked.ExportUse.{ExportUse}
use Rattle.ms_logic_core.specs.declared.core_formula.Core.{Core}
use Rattle.ms_logic_core.specs.declared.core_formula.Root as code
use Rattle.ms_logic_core.specs.CoreForm.{core_form_of}
use Rattle.ms_logic_core.specs.Spread.{own_names, spread_under}
use Rattle.ms_logic.specs.Assignment.{Variable}
use Rattle.ms_logic_core.specs.Roots.{first_free}
use Rattle.ms_logic.specs.Tree.{Form}
use Rattle.ms_logic.specs.View.{forms}
use Rattle.ms_lower.specs.declared.scope.Named.{Named}
use Rattle.ms_lower.specs.declared.tables.Tables.{Tables}
use Rattle.ms_lower.specs.NumberedRoots.{NumberedRoot, above_all, numbering_over, order_seen, renumbered_root, root_of, root_over, roots_among, roots_in, seen_over, with_orders}
use Rattle.ms_lower.proofs.Callees.{variables_same}
use Rattle.ms_lower.specs.Numbering.{Numbering, number_at, numbering_of, renumbered, variables_at}
use Rattle.ms_lower.specs.Callees.{callees_in, spread_in}
use Rattle.ms_lower.specs.inner.Scope.{names_in}
use Rattle.ms_lower.proofs.Parts.{map-more}

pub seen_over-append : (outer : List Variable) (scope : List Named) (n : Named) → seen_over outer (scope ++ n ∷ []) ≡ record { name = n.variable; order = n.order } ∷ seen_over outer scope
seen_over-append outer [] n = refl
seen_over-append outer (m ∷ scope) n = seen_over-append (record { name = m.variable; order = m.order } ∷ outer) scope n

-- the order of a variable, going down
order_at : (scope : List Named) (i : ℕ) (n : Named) (x : ℕ) → i < length scope → n ≡ get_or scope i n →
    order_seen (seen_over [] (take (i + 1) scope)) x ≡ cond (x == n.variable) n.order (order_seen (seen_over [] (take i scope)) x)
order_at scope i n x below is =
    let taken : take (i + 1) scope ≡ take i scope ++ n ∷ [] = take_more scope i n below ∙ ap (λ m. take i scope ++ m ∷ []) (sym is) in
    ap (λ l. order_seen (seen_over [] l) x) taken ∙ ap (λ seen. order_seen seen x) (seen_over-append [] (take i scope) n)

order_before : (scope items : List Named) (i : ℕ) (n : Named) (x : ℕ) → items ≡ scope → 0 < i → i ≤ length scope → n ≡ get_or items (i - 1) n →
    order_seen (seen_over [] (take i scope)) x ≡ cond (x == n.variable) n.order (order_seen (seen_over [] (take (i - 1) scope)) x)
order_before scope items i n x same positive within is =
    let step : i - 1 + 1 ≡ i = omega arith in
    ap (λ j. order_seen (seen_over [] (take j scope)) x) (sym step) ∙ order_at scope (i - 1) n x (omega arith) (is ∙ ap (λ l. get_or l (i - 1) n) same)

pub order_here : (scope items : List Named) (i : ℕ) (n : Named) (x : ℕ) → items ≡ scope → 0 < i → i ≤ length scope → n ≡ get_or items (i - 1) n → x ≡ n.variable →
    n.order ≡ order_seen (seen_over [] (take i scope)) x
order_here scope items i n x same positive within is here =
    sym (order_before scope items i n x same positive within is ∙ ap (λ b. cond b n.order (order_seen (seen_over [] (take (i - 1) scope)) x)) (eq-eqb x n.variable here))

pub order_not_here : (scope items : List Named) (i : ℕ) (n : Named) (x : ℕ) → items ≡ scope → 0 < i → i ≤ length scope → n ≡ get_or items (i - 1) n → (x ≡ n.variable → ⊥) →
    order_seen (seen_over [] (take (i - 1) scope)) x ≡ order_seen (seen_over [] (take i scope)) x
order_not_here scope items i n x same positive within is other =
    sym (order_before scope items i n x same positive within is ∙ ap (λ b. cond b n.order (order_seen (seen_over [] (take (i - 1) scope)) x)) (ne_eqb x n.variable other))

pub first_free_above : (seen : List Variable) (xs : List ℕ) → above_all xs ≡ first_free (with_orders seen xs)
first_free_above seen [] = refl
first_free_above seen (x ∷ xs) = ap (max (x + 1)) (first_free_above seen xs)

pub roots_among-append : (tables : Tables) (exports : List ExportUse) (seen : List Variable) (fs : List Form) (f : Form) → roots_among tables exports seen (forms (fs ++ f ∷ [])) ≡ roots_among tables exports seen (forms fs) ++ roots_in tables exports seen f
roots_among-append tables exports seen [] f = append-nil (roots_in tables exports seen f)
roots_among-append tables exports seen (g ∷ fs) f = ap (λ l. roots_in tables exports seen g ++ l) (roots_among-append tables exports seen fs f) ∙ sym (append_assoc (roots_in tables exports seen g) (roots_among tables exports seen (forms fs)) (roots_in tables exports seen f))

-- the roots of one formula more
pub roots-more : {A : Type 0} (view : A → Form) (tables : Tables) (exports : List ExportUse) (seen : List Variable) (fs : List A) (i : ℕ) (f : A) (before one made : List code.Root) → i < length fs → f ≡ get_or fs i f →
    map root_of before ≡ map (renumbered_root tables) (roots_among tables exports seen (forms (map view (take i fs)))) →
    map root_of one ≡ map (renumbered_root tables) (roots_in tables exports seen (view f)) → made ≡ before ++ one →
    map root_of made ≡ map (renumbered_root tables) (roots_among tables exports seen (forms (map view (take (i + 1) fs))))
roots-more view tables exports seen fs i f before one made below is before_is one_is made_is =
    let front = roots_among tables exports seen (forms (map view (take i fs))) in
    ap (map root_of) made_is
    ∙ (map-append root_of before one
    ∙ (ap₂ (λ l k. l ++ k) before_is one_is
    ∙ (sym (map-append (renumbered_root tables) front (roots_in tables exports seen (view f)))
    ∙ (ap (map (renumbered_root tables)) (sym (roots_among-append tables exports seen (map view (take i fs)) (view f)))
    ∙ ap (λ l. map (renumbered_root tables) (roots_among tables exports seen (forms l))) (sym (map-more view fs i f below is))))))

-- a root with its numbers and its core formula
pub root_made : (tables own : Tables) (f : Form) (vs : List Variable) (numbers : List ℕ) (core : Core) (scope : List Named) (free : ℕ) → own.globals ≡ tables.globals → own.predicates.now ≡ tables.predicates.now → own.imports.now ≡ tables.imports.now → callees_in own ≡ callees_in tables →
    own.kept ≡ min tables.globals free → numbers ≡ map (λ v. number_at own.kept own.globals v.order v.name) vs →
    core_form_of core ≡ spread_in own f (names_in scope) free → scope ≡ [] → free ≡ first_free vs →
    (let root : code.Root = record { variables = numbers; core = core } in root_of root) ≡ renumbered_root tables (root_over tables f vs)
root_made tables own f vs numbers core scope free globals predicates imports callees kept numbers_are core_is empty free_is =
    let n : numbering_of own ≡ numbering_over tables vs =
    ap₂ (λ k g. let n : Numbering = record { number = number_at k g; imported = variables_at own } in n) (kept ∙ ap (min tables.globals) free_is) globals
    ∙ ap (λ f. let n : Numbering = record { number = number_at (min tables.globals (first_free vs)) tables.globals; imported = f } in n) (variables_same tables own predicates imports) in
    ap (λ l. let r : NumberedRoot = record { variables = l; formula = core_form_of core } in r) (numbers_are ∙ ap (λ m. map (λ v. m.number v.order v.name) vs) n)
    ∙ ap (λ g. let r : NumberedRoot = record { variables = map (λ v. (numbering_over tables vs).number v.order v.name) vs; formula = g } in r)
    (core_is
    ∙ (ap (λ s. spread_in own f (names_in s) free) empty
    ∙ (ap (spread_in own f own_names) free_is
    ∙ (ap (λ m. renumbered m (spread_under (callees_in own) f own_names (first_free vs))) n
    ∙ ap (λ c. renumbered (numbering_over tables vs) (spread_under c f own_names (first_free vs))) callees))))
