-- A renaming whose numbers rise reads the variables in their order.
use Rattle.std.proofs.Common.{◌≡◌, ℕ, suc, ◌+◌, ◌<◌, true, leb, if◌then◌else◌, List, [], ◌∷◌, length, map, slice_index, refl, sym, ap, subst, ◌∙◌, arith}
use Rattle.std.specs.List.{zip}
use Rattle.std.proofs.lemmas.Bool.{le-leb}
use Rattle.ms_dfa.proofs.OrdersLemmas.{orders_of}
use Rattle.ms_logic.specs.Assignment.{Variable}
use Rattle.ms_logic_measures.specs.CallMeasures.{HasReachedParts, LeadsToReferences, in_order_of, inserted, sorted}
use Rattle.ms_logic_starts.proofs.RisingLemmas.{rising_distinct}
use Rattle.ms_logic_words.specs.Content.{Content}
use Rattle.ms_logic_words.specs.declared.sign.Sign.{Sign}
use Rattle.ms_rename.specs.Renamed.{Rises, renamed}
use Rattle.ms_rename.proofs.LeastLemmas.{renamed-orders}
use Rattle.ms_rename.proofs.OrderLemmas.{distinct-same, renamed-rising}
use Rattle.ms_calls.specs.Renamings.{RisingRenamesHaveFewParts}
use Rattle.ms_calls.proofs.Own.{as_read}
use Rattle.ms_calls.proofs.Positions.{few_same, other}

rises_behind : (x : ℕ) (xs : List ℕ) → Rises (x ∷ xs) → Rises xs
rises_behind x xs rises i within =
    let next : suc i + 1 ≡ suc (i + 1) = omega arith in
    subst (λ n. slice_index (x ∷ xs) (suc i) < slice_index (x ∷ xs) n) next (rises (suc i) (omega (arith, within)))

first_stays : (x : ℕ) (v : Variable) (xs : List ℕ) (vs : List Variable) → Rises (x ∷ xs) → inserted x v (zip xs vs) ≡ (x, v) ∷ zip xs vs
first_stays x v [] vs rises = refl
first_stays x v (y ∷ xs) [] rises = refl
first_stays x v (y ∷ xs) (w ∷ vs) rises =
    let less : x < y = rises 0 (omega arith) in
    let test : leb x y ≡ true = le-leb x y (omega (arith, less)) in
    ap (λ b. if b then (x, v) ∷ ((y, w) ∷ zip xs vs) else (y, w) ∷ inserted x v (zip xs vs)) test

sorted_same : (numbers : List ℕ) (vs : List Variable) → Rises numbers → sorted (zip numbers vs) ≡ zip numbers vs
sorted_same [] vs rises = refl
sorted_same (x ∷ xs) [] rises = refl
sorted_same (x ∷ xs) (v ∷ vs) rises = ap (inserted x v) (sorted_same xs vs (rises_behind x xs rises)) ∙ first_stays x v xs vs rises

seconds : (numbers : List ℕ) (vs : List Variable) → length numbers ≡ length vs → map (λ (p : ℕ × Variable). p.1) (zip numbers vs) ≡ vs
seconds [] [] long = refl
seconds [] (v ∷ vs) long = absurd (omega (arith, long))
seconds (x ∷ xs) [] long = absurd (omega (arith, long))
seconds (x ∷ xs) (v ∷ vs) long = ap (λ (list : List Variable). v ∷ list) (seconds xs vs (omega (arith, long)))

in_order_same : (numbers : List ℕ) (vs : List Variable) → length numbers ≡ length vs → Rises numbers → in_order_of numbers vs ≡ vs
in_order_same numbers vs long rises = ap (map (λ (p : ℕ × Variable). p.1)) (sorted_same numbers vs rises) ∙ seconds numbers vs long

pub rising_renames_have_few_parts : RisingRenamesHaveFewParts
rising_renames_have_few_parts content made numbers automaton is_made long rises variables parts m r measure n counted =
    let names_are : made.variables ≡ renamed numbers content.variables = variables ∙ distinct-same (renamed numbers content.variables) (renamed-rising numbers content.variables rises) in
    let own = rising_distinct made.variables is_made.rising in
    let same : orders_of content.variables ≡ orders_of made.variables = sym (renamed-orders numbers content.variables long) ∙ ap orders_of (sym names_are) in
    let is = as_read content automaton in
    let whole : made ≡ other content is made.mode made.variables own same
    = λ i. record { mode = made.mode; variables = made.variables; start = parts.start i; states = parts.states i; nodes = parts.nodes i } in
    let mine = subst (λ (c : Content Sign). HasReachedParts c n) whole counted in
    let read = subst (λ list. LeadsToReferences content list m) (in_order_same numbers content.variables long rises) measure.made in
    few_same content is made.mode made.variables own same m n read mine
