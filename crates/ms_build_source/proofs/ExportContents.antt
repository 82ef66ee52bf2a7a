-- Two contents of files are one where their parts are.
use Rattle.std.proofs.Common.{◌≡◌, ◌≢◌, List, [], ◌∷◌, map, take, drop, slice_get, refl, sym, ap, ap₂}
use Rattle.std.proofs.lemmas.Option.{none-some, same_Some}
use Rattle.ms_dfa.specs.Files.{content_of_file, file_sign, file_states_of}
use Rattle.ms_dfa.specs.declared.plain.FileState.{FileState}
use Rattle.ms_dfa.specs.declared.plain.FileVar.{FileVar}
use Rattle.ms_dfa.specs.declared.plain.FileVersion.{FileVersion}
use Rattle.ms_dfa.specs.declared.plain.Plain.{Plain}
use Rattle.ms_logic_words.specs.declared.sign.Sign.{Sign}
use Rattle.ms_logic_words.specs.declared.sign.Sign.TheVariants.{Yes, No, Undefined, Outside}

-- signs that are not Outside and are one sign in a file are one
pub same_filed : (version : FileVersion) (first second : Sign) → first ≢ Outside → second ≢ Outside → file_sign version first ≡ file_sign version second → first ≡ second
same_filed version Yes Yes one two same = refl
same_filed version No No one two same = refl
same_filed version Undefined Undefined one two same = refl
same_filed version Outside second one two same = absurd (one refl)
same_filed version first Outside one two same = absurd (two refl)
same_filed version Yes No one two same = let never : ⊥ = cc in absurd never
same_filed version Yes Undefined one two same = let never : ⊥ = cc in absurd never
same_filed version No Yes one two same = let never : ⊥ = cc in absurd never
same_filed version No Undefined one two same = let never : ⊥ = cc in absurd never
same_filed version Undefined Yes one two same = let never : ⊥ = cc in absurd never
same_filed version Undefined No one two same = let never : ⊥ = cc in absurd never

-- a state of a file by what its content says of it
state_back : (x y : FileState) → file_states_of (x ∷ []) ≡ file_states_of (y ∷ []) → x ≡ y
state_back x y is =
    let first = same_Some _ _ (ap (λ l. slice_get l 0) is) in
    λ i. record { sign = (first i).sign; next = (first i).next }

states_back : (xs ys : List FileState) → file_states_of xs ≡ file_states_of ys → xs ≡ ys
states_back [] [] is = refl
states_back [] (y ∷ ys) is = absurd (none-some _ (ap (λ l. slice_get l 0) is))
states_back (x ∷ xs) [] is = absurd (none-some _ (sym (ap (λ l. slice_get l 0) is)))
states_back (x ∷ xs) (y ∷ ys) is = ap₂ (λ z zs. z ∷ zs) (state_back x y (ap (λ l. take 1 l) is)) (states_back xs ys (ap (λ l. drop 1 l) is))

-- variables by their orders and their names
variables_back : (xs ys : List FileVar) → map (λ v. v.order) xs ≡ map (λ v. v.order) ys → map (λ v. v.name) xs ≡ map (λ v. v.name) ys → xs ≡ ys
variables_back [] [] orders names = refl
variables_back [] (y ∷ ys) orders names = absurd (none-some y.order (ap (λ l. slice_get l 0) orders))
variables_back (x ∷ xs) [] orders names = absurd (none-some x.order (sym (ap (λ l. slice_get l 0) orders)))
variables_back (x ∷ xs) (y ∷ ys) orders names =
    let order = same_Some x.order y.order (ap (λ l. slice_get l 0) orders) in
    let name = same_Some x.name y.name (ap (λ l. slice_get l 0) names) in
    let first : x ≡ y = λ i. record { order = order i; name = name i } in
    ap₂ (λ z zs. z ∷ zs) first (variables_back xs ys (ap (λ l. drop 1 l) orders) (ap (λ l. drop 1 l) names))

-- contents of one list of variables and one content are one
pub plain_back : (p q : Plain) → p.version ≡ q.version → map (λ v. v.order) p.variables ≡ map (λ v. v.order) q.variables → map (λ v. v.name) p.variables ≡ map (λ v. v.name) q.variables → content_of_file p ≡ content_of_file q → p ≡ q
plain_back p q version orders names is =
    let variables = variables_back p.variables q.variables orders names in
    let states = states_back p.states q.states (ap (λ c. c.states) is) in
    λ i. record { version = version i; mode = (is i).mode; variables = variables i; start = (is i).start; states = states i; nodes = (is i).nodes }
