-- What the number of a predicate stands for.
use Rattle.std.proofs.Common.{◌≡◌, ℕ, zero, suc, ◌+◌, ◌-◌, ◌<◌, ◌≤◌, cond, nat_lt, min, List, [], ◌∷◌, ◌++◌, length, map, take, slice_get, Some, None, inl, inr, refl, sym, ap, ap₂, subst, ◌∙◌, arith}
use Rattle.std.proofs.lemmas.Bool.{eq-eqb, le-ltb, lt-ltb, ne_eqb, cases_lt}
use Rattle.std.proofs.lemmas.Option.{none-some, same_Some}
use Rattle.std.proofs.lemmas.List.{length-map, take-map}
use Rattle.std.specs.List.{zip}
use Rattle.std.specs.Option.{option_map}
use Rattle.ms_logic.specs.declared.checked.MapPair.{MapPair}
use Rattle.ms_logic.specs.declared.checked.Param.{Param}
use Rattle.ms_logic.specs.declared.checked.Predicate as code
use Rattle.ms_logic.specs.View.{declaration_of, predicate_of}
use Rattle.ms_logic.specs.declared.mode.Order.{Order}
use Rattle.ms_logic.specs.declared.mode.Order.TheVariants.{Zero}
use Rattle.ms_logic.specs.Assignment.{Variable}
use Rattle.ms_logic_core.specs.CoreForm.{imported}
use Rattle.ms_logic_core.specs.Spread.{Callees, Names, default_names, spread_under}
use Rattle.ms_logic.specs.Tree.{Declaration, Predicate}
use Rattle.ms_logic_core.specs.Calls.{calling_with, calling_with_all}
use Rattle.ms_lower.specs.declared.tables.Tables.{Tables}
use Rattle.ms_lower.specs.Bodies.{callees_before}
use Rattle.ms_lower.specs.Callees.{callable, callees_in, callees_of_uses}
use Rattle.ms_lower.specs.Numbering.{Numbering, number_at, numbering_of, renumbered, variable_of_pair, variables_at, variables_of_call, variables_of_use}

-- the numbers of the variables that stand for those of an import
zip_numbered : (number : Order → ℕ → ℕ) (names : Names) (vs : List Variable) →
    map (λ p. number p.1.order p.0) (zip (map (λ v. names v.order v.name) vs) vs) ≡ map (λ v. number v.order (names v.order v.name)) vs
zip_numbered number names [] = refl
zip_numbered number names (v ∷ vs) = ap (λ l. number v.order (names v.order v.name) ∷ l) (zip_numbered number names vs)

pairs_numbered : (number : Order → ℕ → ℕ) (names : Names) (pairs : List MapPair) →
    map (λ v. number v.order (names v.order v.name)) (map variable_of_pair pairs) ≡ map (λ pair. number pair.order (names pair.order pair.variable)) pairs
pairs_numbered number names [] = refl
pairs_numbered number names (p ∷ pairs) = ap (λ l. number p.order (names p.order p.variable) ∷ l) (pairs_numbered number names pairs)

pub get-beyond : {A : Type 0} (xs : List A) (i : ℕ) → length xs ≤ i → slice_get xs i ≡ None
get-beyond [] i beyond = refl
get-beyond (y ∷ xs) zero beyond = absurd (omega (arith, beyond))
get-beyond (y ∷ xs) (suc i) beyond = get-beyond xs i (omega (arith, beyond))

-- an import has the variables of its table; where it is none of the source it has none
pub import_numbered : (tables : Tables) (i : ℕ) (names : Names) (pairs : List MapPair) (found : List Variable) → map variable_of_pair pairs ≡ variables_of_use (slice_get tables.imports.now i) →
    found ≡ variables_of_use (slice_get tables.imports.now i) →
    map (λ pair. number_at tables.kept tables.globals pair.order (names pair.order pair.variable)) pairs
    ≡ map (λ p. number_at tables.kept tables.globals p.1.order p.0) (zip (map (λ v. names v.order v.name) found) (variables_at tables i))
import_numbered tables i names pairs found is same =
    let number = number_at tables.kept tables.globals in
    let own = variables_of_use (slice_get tables.imports.now i) in
    let call = variables_of_call (option_map predicate_of (slice_get tables.predicates.now (i - length tables.imports.now))) in
    let numbered : (vs : List Variable) → List ℕ = λ vs. map (λ p. number p.1.order p.0) (zip (map (λ v. names v.order v.name) vs) (variables_at tables i)) in
    sym (pairs_numbered number names pairs) ∙ ap (map (λ v. number v.order (names v.order v.name))) is
    ∙ elim (cases_lt i (length tables.imports.now)) [
      | inl within ↦
          sym (zip_numbered number names own)
          ∙ ap (λ b. map (λ p. number p.1.order p.0) (zip (map (λ v. names v.order v.name) own) (cond b own call))) (sym (lt-ltb i (length tables.imports.now) within))
      | inr beyond ↦
          let none : own ≡ [] = ap variables_of_use (get-beyond tables.imports.now i beyond) in
          ap (map (λ v. number v.order (names v.order v.name))) none ∙ sym (ap numbered none)
    ]
    ∙ sym (ap numbered same)

imported_with_all : (count : ℕ) (c : Callees) (number : ℕ) (ps : List Predicate) → (calling_with_all count c number ps).imported ≡ c.imported
imported_with_all count c number [] = refl
imported_with_all count c number (p ∷ ps) = imported_with_all count (calling_with count c number p) (number + 1) ps

pub imported_in : (tables : Tables) (i : ℕ) → (callees_in tables).imported i ≡ variables_of_use (slice_get tables.imports.now i)
imported_in tables i =
    ap (λ f. let vs : List Variable = f i in vs) (imported_with_all (length tables.imports.now) (callees_of_uses tables.imports.now) 0 (map predicate_of (callable tables)))

-- what the number stands for is the same
pub record SameAt (c d : Callees) (number : ℕ) : Type 0 where
  pub parameters : c.parameters number ≡ d.parameters number
  pub body : c.body number ≡ d.body number
  pub default : c.default number ≡ d.default number

same-after : (c d e : Callees) (number : ℕ) → SameAt c d number → SameAt d e number → SameAt c e number
same-after c d e number one other = record { parameters = one.parameters ∙ other.parameters; body = one.body ∙ other.body; default = one.default ∙ other.default }

module _ (imports : ℕ) where
  -- the number stands for a predicate, of which a call is an import; as a default restriction its body is read with the callees before it
  pub record IsCallee (c before : Callees) (number : ℕ) (q : Predicate) : Type 0 where
    pub parameters : c.parameters number ≡ map (λ declared. declared.variable.name) q.parameters
    pub body : c.body number ≡ (λ names free. imported (imports + number) (map (λ declared. names declared.variable.order declared.variable.name) q.parameters ++ free ∷ []))
    pub default : c.default number ≡ (λ x names free. spread_under before q.body (default_names q.parameters x names) free)

  other_number : (c : Callees) (number p : ℕ) (q : Predicate) → (p ≡ number → ⊥) → SameAt (calling_with imports c number q) c p
  other_number c number p q other = record {
    parameters = ap (λ b. cond b (map (λ declared. declared.variable.name) q.parameters) (c.parameters p)) (ne_eqb p number other);
    body = ap (λ b. cond b (λ names free. imported (imports + number) (map (λ declared. names declared.variable.order declared.variable.name) q.parameters ++ free ∷ [])) (c.body p)) (ne_eqb p number other);
    default = ap (λ b. cond b (λ x names free. spread_under c q.body (default_names q.parameters x names) free) (c.default p)) (ne_eqb p number other);
  }

  below_count : (c : Callees) (count : ℕ) (ps : List Predicate) (p : ℕ) → p < count → SameAt (calling_with_all imports c count ps) c p
  below_count c count [] p below = record { parameters = refl; body = refl; default = refl }
  below_count c count (q ∷ ps) p below =
      same-after (calling_with_all imports (calling_with imports c count q) (count + 1) ps) (calling_with imports c count q) c p (below_count (calling_with imports c count q) (count + 1) ps p (omega arith))
      (other_number c count p q (λ same. omega (arith, same)))

  beyond_count : (c : Callees) (count : ℕ) (ps : List Predicate) (p : ℕ) → count + length ps ≤ p → SameAt (calling_with_all imports c count ps) c p
  beyond_count c count [] p beyond = record { parameters = refl; body = refl; default = refl }
  beyond_count c count (q ∷ ps) p beyond =
      same-after (calling_with_all imports (calling_with imports c count q) (count + 1) ps) (calling_with imports c count q) c p (beyond_count (calling_with imports c count q) (count + 1) ps p (omega arith))
      (other_number c count p q (λ same. omega (arith, same)))

  own_number : (c : Callees) (number : ℕ) (q : Predicate) → IsCallee (calling_with imports c number q) c number q
  own_number c number q = record {
    parameters = ap (λ b. cond b (map (λ declared. declared.variable.name) q.parameters) (c.parameters number)) (eq-eqb number number refl);
    body = ap (λ b. cond b (λ names free. imported (imports + number) (map (λ declared. names declared.variable.order declared.variable.name) q.parameters ++ free ∷ [])) (c.body number)) (eq-eqb number number refl);
    default = ap (λ b. cond b (λ x names free. spread_under c q.body (default_names q.parameters x names) free) (c.default number)) (eq-eqb number number refl);
  }

  callee_within : (c : Callees) (count : ℕ) (ps : List Predicate) (k : ℕ) (q : Predicate) → slice_get ps k ≡ Some q →
      IsCallee (calling_with_all imports c count ps) (calling_with_all imports c count (take k ps)) (count + k) q
  callee_within c count [] k q is = absurd (none-some q is)
  callee_within c count (r ∷ ps) zero q is =
      let same = same_Some r q is in
      let own = own_number c count r in
      let kept = below_count (calling_with imports c count r) (count + 1) ps count (omega arith) in
      let at : count + 0 ≡ count = omega arith in
      subst (λ p. IsCallee (calling_with_all imports (calling_with imports c count r) (count + 1) ps) c p q) (sym at)
      (subst (IsCallee (calling_with_all imports (calling_with imports c count r) (count + 1) ps) c count) same
      (record { parameters = kept.parameters ∙ own.parameters; body = kept.body ∙ own.body; default = kept.default ∙ own.default }))
  callee_within c count (r ∷ ps) (suc k) q is =
      let at : count + 1 + k ≡ count + suc k = omega arith in
      subst (λ p. IsCallee (calling_with_all imports (calling_with imports c count r) (count + 1) ps) (calling_with_all imports (calling_with imports c count r) (count + 1) (take k ps)) p q) at
      (callee_within (calling_with imports c count r) (count + 1) ps k q is)

names_are : (params : List Param) → map (λ q. q.variable) params ≡ map (λ declared. declared.variable.name) (map declaration_of params)
names_are [] = refl
names_are (p ∷ params) = ap (λ l. p.variable ∷ l) (names_are params)

-- the same for the tables of a source

get-map : {A B : Type 0} (f : A → B) (xs : List A) (i : ℕ) (x : A) → slice_get xs i ≡ Some x → slice_get (map f xs) i ≡ Some (f x)
get-map f [] i x is = absurd (none-some x is)
get-map f (y ∷ xs) zero x is = ap (λ z. Some (f z)) (same_Some y x is)
get-map f (y ∷ xs) (suc i) x is = get-map f xs i x is

get-none : {A : Type 0} (xs : List A) (i : ℕ) → slice_get xs i ≡ None → length xs ≤ i
get-none [] i is = omega arith
get-none (y ∷ xs) zero is = absurd (none-some y (sym is))
get-none (y ∷ xs) (suc i) is = let k = get-none xs i is in omega arith

pub callee_at : (tables : Tables) (p : ℕ) (known : code.Predicate) → slice_get (callable tables) p ≡ Some known → IsCallee (length tables.imports.now) (callees_in tables) (callees_before tables p) p (predicate_of known)
callee_at tables p known is =
    let imports = length tables.imports.now in
    let base = callees_of_uses tables.imports.now in
    let ps = callable tables in
    let at : 0 + p ≡ p = omega arith in
    subst (λ k. IsCallee imports (callees_in tables) (calling_with_all imports base 0 (map predicate_of (take p ps))) k (predicate_of known)) at
    (subst (λ before. IsCallee imports (callees_in tables) (calling_with_all imports base 0 before) (0 + p) (predicate_of known)) (take-map predicate_of p ps)
    (callee_within imports base 0 (map predicate_of ps) p (predicate_of known) (get-map predicate_of ps p known is)))

pub callee_nowhere : (tables : Tables) (p : ℕ) → slice_get (callable tables) p ≡ None → SameAt (callees_in tables) (callees_of_uses tables.imports.now) p
callee_nowhere tables p is =
    let long = get-none (callable tables) p is in
    let same = length-map (callable tables) predicate_of in
    beyond_count (length tables.imports.now) (callees_of_uses tables.imports.now) 0 (map predicate_of (callable tables)) p (omega arith)

pub take_twice : {A : Type 0} (xs : List A) (m n : ℕ) → take (min m n) xs ≡ take n (take m xs)
take_twice xs zero n = let none : min zero n ≡ 0 = omega arith in ap (λ k. take k xs) none ∙ take_none n
  where
    take_none : {A : Type 0} (n : ℕ) → [] ≡ take n (let xs : List A = [] in xs)
    take_none zero = refl
    take_none (suc n) = refl
take_twice xs (suc m) zero = let none : min (suc m) zero ≡ 0 = omega arith in ap (λ k. take k xs) none
take_twice [] (suc m) (suc n) = let least : min (suc m) (suc n) ≡ suc (min m n) = omega arith in ap (λ k. take k []) least
take_twice (x ∷ xs) (suc m) (suc n) = let least : min (suc m) (suc n) ≡ suc (min m n) = omega arith in ap (λ k. take k (x ∷ xs)) least ∙ ap (λ l. x ∷ l) (take_twice xs m n)

-- the callees before a number, in the tables in which those before it may be called
pub before_same : (tables before : Tables) (p : ℕ) → before.callable ≡ min tables.callable p → before.predicates.now ≡ tables.predicates.now → before.imports.now ≡ tables.imports.now →
    callees_in before ≡ callees_before tables p
before_same tables before p callable_is predicates imports =
    let there : callable before ≡ take p (callable tables) = ap₂ (λ k ps. take k ps) callable_is predicates ∙ take_twice tables.predicates.now tables.callable p in
    ap (λ is. calling_with_all (length is) (callees_of_uses is) 0 (map predicate_of (callable before))) imports
    ∙ ap (λ ps. calling_with_all (length tables.imports.now) (callees_of_uses tables.imports.now) 0 (map predicate_of ps)) there

-- numbers do not depend on which predicates may be called

pub variables_same : (tables own : Tables) → own.predicates.now ≡ tables.predicates.now → own.imports.now ≡ tables.imports.now → variables_at own ≡ variables_at tables
variables_same tables own predicates imports =
    ap₂ (λ ps is.
    let f : ℕ → List Variable = λ i. cond (nat_lt i (length is)) (variables_of_use (slice_get is i)) (variables_of_call (option_map predicate_of (slice_get ps (i - length is)))) in f) predicates imports

pub numbering_same : (tables before : Tables) → before.kept ≡ tables.kept → before.globals ≡ tables.globals → before.predicates.now ≡ tables.predicates.now → before.imports.now ≡ tables.imports.now →
    numbering_of before ≡ numbering_of tables
numbering_same tables before kept globals predicates imports =
    ap₂ (λ k g. let n : Numbering = record { number = number_at k g; imported = variables_at before } in n) kept globals
    ∙ ap (λ f. let n : Numbering = record { number = number_at tables.kept tables.globals; imported = f } in n) (variables_same tables before predicates imports)

pub no_parameters : (tables : Tables) (p : ℕ) → slice_get (callable tables) p ≡ None → (callees_in tables).parameters p ≡ []
no_parameters tables p is = (callee_nowhere tables p is).parameters

pub parameters_are : (tables : Tables) (p : ℕ) (known : code.Predicate) → slice_get (callable tables) p ≡ Some known → map (λ q. q.variable) known.params ≡ (callees_in tables).parameters p
parameters_are tables p known is = names_are known.params ∙ sym (callee_at tables p known is).parameters

-- a call of a predicate is an import of the numbers of its parameters and of the first number that is free
params_numbered : (n : Numbering) (names : Names) (params : List Param) (free : ℕ) →
    map (λ p. n.number p.order (names p.order p.variable)) params ++ n.number Zero free ∷ []
    ≡ map (λ p. n.number p.1.order p.0)
    (zip (map (λ (d : Declaration). names d.variable.order d.variable.name) (map declaration_of params) ++ free ∷ []) (map (λ (d : Declaration). d.variable) (map declaration_of params) ++ (record { name = 0; order = Zero }) ∷ []))
params_numbered n names [] free = refl
params_numbered n names (p ∷ params) free = ap (λ l. n.number p.order (names p.order p.variable) ∷ l) (params_numbered n names params free)

pub call_numbered : (tables : Tables) (p : ℕ) (known : code.Predicate) (names : Names) (free number last : ℕ) (numbers : List ℕ) → slice_get (callable tables) p ≡ Some known → slice_get tables.predicates.now p ≡ Some known →
    number ≡ length tables.imports.now + p → numbers ≡ map (λ q. number_at tables.kept tables.globals q.order (names q.order q.variable)) known.params → last ≡ number_at tables.kept tables.globals Zero free →
    imported number (numbers ++ last ∷ []) ≡ renumbered (numbering_of tables) ((callees_in tables).body p names free)
call_numbered tables p known names free number last numbers is held number_is numbers_are last_is =
    let n = numbering_of tables in
    let imports = length tables.imports.now in
    let given : List ℕ = map (λ (d : Declaration). names d.variable.order d.variable.name) (map declaration_of known.params) ++ free ∷ [] in
    let behind : imports + p - imports ≡ p = omega arith in
    let beyond : nat_lt (imports + p) imports ≡ _ = le-ltb (imports + p) imports (omega arith) in
    let variables : variables_at tables (imports + p) ≡ variables_of_call (Some (predicate_of known)) =
    ap (λ b. cond b (variables_of_use (slice_get tables.imports.now (imports + p))) (variables_of_call (option_map predicate_of (slice_get tables.predicates.now (imports + p - imports))))) beyond
    ∙ ap (λ k. variables_of_call (option_map predicate_of (slice_get tables.predicates.now k))) behind
    ∙ ap (λ o. variables_of_call (option_map predicate_of o)) held in
    ap₂ (λ i xs. imported i xs) number_is (ap₂ (λ xs x. xs ++ x ∷ []) numbers_are last_is ∙ params_numbered n names known.params free)
    ∙ ap (λ vs. imported (imports + p) (map (λ q. n.number q.1.order q.0) (zip given vs))) (sym variables)
    ∙ ap (λ b. renumbered n (b names free)) (sym (callee_at tables p known is).body)
