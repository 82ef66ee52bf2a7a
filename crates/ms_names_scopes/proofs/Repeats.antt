-- Names that stand twice in a list.
use Rattle.std.proofs.Common.{◌≡◌, ℕ, ◌+◌, ◌<◌, length, get_or, drop, List, [], ◌∷◌, ◌++◌, append_assoc, sym, subst, ap, ap₂, ◌∙◌, take}
use Rattle.std.proofs.lemmas.List.{append-nil}
use Rattle.ms_list.specs.declared.at.At.{At}
use Rattle.ms_logic.specs.declared.checked.MapPair.{MapPair}
use Rattle.ms_logic.specs.declared.source.Bound.{Bound, out-Bound}
use Rattle.ms_logic.specs.declared.source.LetPart.{LetPart, out-LetPart}
use Rattle.ms_logic.specs.declared.source.Rename.{Rename}
use Rattle.ms_names_rules.specs.declared.fault.Fault.{Fault}
use Rattle.ms_names_rules.specs.declared.meaning.Reading.{Reading}
use Rattle.ms_names_rules.specs.Reads.{readings_of_renames, readings_of_variable}
use Rattle.ms_names_rules.specs.Rules.{faults_of_bounds, faults_of_parts, faults_of_renames, faults_of_repeat, faults_of_variable, with_names_of_bounds, with_names_of_parts}
use Rattle.ms_names_rules.specs.Scope.{Scope, meaning_of, Bytes}
use Rattle.ms_names_rules.specs.Uses.{pair_of, pairs_of}
use Rattle.ms_parse_grammar.specs.Tree.{Parts, Variables}
use Rattle.ms_parse_grammar.specs.View.{variable_of, variables_of, part_of, parts_of}
use Rattle.ms_names_rules.proofs.Repeats.{bound_at-out, bound_name-out, next, part_at-out, part_name-out}
use Rattle.ms_names_scopes.specs.inner.Found.{Found, with_faults, noted}
use Rattle.ms_names_scopes.proofs.Findings.{first_with-append}
use Rattle.ms_names_rules.proofs.Operands.{parts-more, variables-more}

-- some faults and then some more
pub faults-faults : (s : Found) (fs gs : List Fault) → with_faults (with_faults s fs) gs ≡ with_faults s (fs ++ gs)
faults-faults s fs gs = ap (λ known. record s { first = known }) (sym (first_with-append s.first fs gs))

-- the names of a list were looked at: what is found after them, and which they are
pub record AreSeen (s : Found) (faults : List Fault) (names : List Bytes) (t : Found) (seen : List Bytes) : Type 0 where
  pub state : t ≡ with_faults s faults
  pub seen_is : seen ≡ names

one-seen : (s t u : Found) (fs : List Fault) (names seen more : List Bytes) (at : At) (n : Bytes) → AreSeen s fs names t seen → u ≡ with_faults t (faults_of_repeat at n seen) → more ≡ n ∷ seen →
    AreSeen s (fs ++ faults_of_repeat at n names) (n ∷ names) u more
one-seen s t u fs names seen more at n before checked added = record {
  state =
      checked
      ∙ (ap (λ there. with_faults there (faults_of_repeat at n seen)) before.state
      ∙ (faults-faults s fs (faults_of_repeat at n seen) ∙ ap (λ ns. with_faults s (fs ++ faults_of_repeat at n ns)) before.seen_is));
  seen_is = added ∙ ap (λ ns. n ∷ ns) before.seen_is;
}

-- the variables of a list and one more
abbrev pub BoundsSeen : Found → List Bytes → Variables → Found → List Bytes → Type 0
BoundsSeen s earlier vs t seen = AreSeen s (faults_of_bounds earlier vs) (with_names_of_bounds earlier vs) t seen

pub bounds-seen : (s t u : Found) (earlier seen more : List Bytes) (vs : List Bound) (i : ℕ) (v : Bound) → i < length vs → v ≡ get_or vs i v → BoundsSeen s earlier (variables_of (take i vs)) t seen →
    u ≡ with_faults t (faults_of_repeat (out-Bound v).at (out-Bound v).name seen) → more ≡ (out-Bound v).name ∷ seen → BoundsSeen s earlier (variables_of (take (i + 1) vs)) u more
bounds-seen s t u earlier seen more vs i v below is before checked added =
    let V = variables_of (take i vs) in
    subst (λ all. BoundsSeen s earlier all u more) (variables-more vs i v below is)
    (one-seen s t u (faults_of_bounds earlier V) (with_names_of_bounds earlier V) seen more (variable_of v).at (variable_of v).name before
    (checked ∙ ap₂ (λ a n. with_faults t (faults_of_repeat a n seen)) (sym (bound_at-out v)) (sym (bound_name-out v)))
    (added ∙ ap (λ n. n ∷ seen) (sym (bound_name-out v))))

-- the same in a `let`
abbrev pub PartsSeen : Found → Parts → Found → List Bytes → Type 0
PartsSeen s ps t seen = AreSeen s (faults_of_parts [] ps) (with_names_of_parts [] ps) t seen

pub parts-seen : (s t u : Found) (seen more : List Bytes) (ps : List LetPart) (i : ℕ) (p : LetPart) → i < length ps → p ≡ get_or ps i p → PartsSeen s (parts_of (take i ps)) t seen →
    u ≡ with_faults t (faults_of_repeat (out-LetPart p).at (out-LetPart p).name seen) → more ≡ (out-LetPart p).name ∷ seen → PartsSeen s (parts_of (take (i + 1) ps)) u more
parts-seen s t u seen more ps i p below is before checked added =
    let P = parts_of (take i ps) in
    subst (λ all. PartsSeen s all u more) (parts-more ps i p below is)
    (one-seen s t u (faults_of_parts [] P) (with_names_of_parts [] P) seen more (part_of p).at (part_of p).name before
    (checked ∙ ap₂ (λ a n. with_faults t (faults_of_repeat a n seen)) (sym (part_at-out p)) (sym (part_name-out p)))
    (added ∙ ap (λ n. n ∷ seen) (sym (part_name-out p))))

-- some faults and readings, and then some more
pub noted-noted : (s : Found) (fs gs : List Fault) (rs more : List Reading) → noted (noted s fs rs) gs more ≡ noted s (fs ++ gs) (rs ++ more)
noted-noted s fs gs rs more = λ i. record s {
  first = sym (first_with-append s.first fs gs) i;
  reads = append_assoc s.reads rs more i;
}

-- faults alone
faults-noted : (s : Found) (fs gs : List Fault) (rs : List Reading) → noted (with_faults s fs) gs rs ≡ noted s (fs ++ gs) rs
faults-noted s fs gs rs = ap (λ known. record s { first = known; reads = s.reads ++ rs }) (sym (first_with-append s.first fs gs))

-- nothing more
pub noted-none : (s : Found) → s ≡ noted s [] []
noted-none s = λ i. record s { reads = sym (append-nil s.reads) i }

-- after a pair of an import, the faults and the readings of the others are left
pub renames-next : (s t u v : Found) (lefts rights : List Bytes) (rs : List Rename) (i : ℕ) (r : Rename) → i < length rs → r ≡ get_or rs i r →
    t ≡ with_faults s (faults_of_repeat r.at r.left lefts) →
    u ≡ noted t (faults_of_variable r.at_right r.right (meaning_of t.scope r.right)) (readings_of_variable (meaning_of t.scope r.right)) →
    v ≡ with_faults u (faults_of_repeat r.at_right r.right rights) →
    noted v (faults_of_renames s.scope (r.left ∷ lefts) (r.right ∷ rights) (drop (i + 1) rs)) (readings_of_renames s.scope (drop (i + 1) rs))
    ≡ noted s (faults_of_renames s.scope lefts rights (drop i rs)) (readings_of_renames s.scope (drop i rs))
renames-next s t u v lefts rights rs i r below is left variable right =
    let m = meaning_of s.scope r.right in
    let fs = faults_of_repeat r.at r.left lefts in
    let gs = faults_of_variable r.at_right r.right m in
    let hs = faults_of_repeat r.at_right r.right rights in
    let more = faults_of_renames s.scope (r.left ∷ lefts) (r.right ∷ rights) (drop (i + 1) rs) in
    let reads = readings_of_renames s.scope (drop (i + 1) rs) in
    let P : Found → Type 0 = λ there. u ≡ noted there (faults_of_variable r.at_right r.right (meaning_of there.scope r.right)) (readings_of_variable (meaning_of there.scope r.right)) in
    let Q : Found → Type 0 = λ there. v ≡ with_faults there hs in
    let found : v ≡ with_faults (noted (with_faults s fs) gs (readings_of_variable m)) hs = subst Q (subst P left variable) right in
    ap (λ there. noted there more reads) found
    ∙ (faults-noted (noted (with_faults s fs) gs (readings_of_variable m)) hs more reads
    ∙ (noted-noted (with_faults s fs) gs (hs ++ more) (readings_of_variable m) reads
    ∙ (faults-noted s fs (gs ++ (hs ++ more)) (readings_of_variable m ++ reads)
    ∙ ap (λ rest. noted s (faults_of_renames s.scope lefts rights rest) (readings_of_renames s.scope rest)) (sym (next rs i r below is)))))

-- after a pair of an import, the pairs of the others are left
pub pairs-next : (a : Scope) (t : Found) (before after : List MapPair) (rs : List Rename) (i : ℕ) (r : Rename) → i < length rs → r ≡ get_or rs i r →
    t.scope ≡ a → after ≡ before ++ pair_of r.left (meaning_of t.scope r.right) →
    after ++ pairs_of a (drop (i + 1) rs) ≡ before ++ pairs_of a (drop i rs)
pairs-next a t before after rs i r below is same added =
    ap (λ pairs. pairs ++ pairs_of a (drop (i + 1) rs)) (added ∙ ap (λ there. before ++ pair_of r.left (meaning_of there r.right)) same)
    ∙ (append_assoc before (pair_of r.left (meaning_of a r.right)) (pairs_of a (drop (i + 1) rs))
    ∙ ap (λ rest. before ++ pairs_of a rest) (sym (next rs i r below is)))
