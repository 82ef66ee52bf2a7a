-- Readings, and what they lead to through predicates.
use Rattle.std.proofs.Common.{◌≡◌, ℕ, zero, suc, ◌+◌, ◌-◌, ◌<◌, ◌≤◌, Bool, true, false, if◌then◌else◌, ◌==◌, nat_eq, List, [], ◌∷◌, ◌++◌, length, get_or, take, reverse, sym, subst, refl, ap, ◌∙◌, arith}
use Rattle.std.proofs.lemmas.List.{get_or_default, take_all}
use Rattle.std.proofs.lemmas.Bool.Decides.{nat_tests}
use Rattle.std.specs.BTreeSet as ordered
use Rattle.std.specs.Ordering.{nat_cmp}
use Rattle.std.specs.Prelude.{nat_lt, ◌&&◌}
use Rattle.indexmap.specs.IndexSet.{contains}
use Rattle.ms_names_rules.specs.declared.meaning.Reading.TheVariants.{Variable, Predicate}
use Rattle.ms_names_rules.specs.inner.Free.{Readings}
use Rattle.ms_names_rules.specs.Reads.{reads_predicate, with_predicates}
use Rattle.ms_names_rules.proofs.FreeVariables.{flip, from-last, length-earlier, predicate-more, predicate-same, variable-more, variable-same}
use Rattle.ms_names_scopes.specs.declared.free.Read.{Read}
use Rattle.ms_names_scopes.specs.inner.Read.{IsLastRead, NoneIsRead, Tells}
use Rattle.ms_names_rules.proofs.Growth.{past}
use Rattle.ms_names_scopes.specs.inner.Found.{noted}

pub Tells-variable : (old new : Read) (x : ℕ) (rs : Readings) →
    ((k : ℕ) → contains nat_eq new.variables k ≡ (if x == k then true else contains nat_eq old.variables k)) →
    ((k : ℕ) → ordered.contains nat_cmp new.waiting k ≡ ordered.contains nat_cmp old.waiting k) → new.left ≡ old.left →
    Tells old rs → Tells new (rs ++ Variable x ∷ [])
Tells-variable old new x rs noted same left tells = record {
  variables = λ k.
      noted k ∙ (flip x k (contains nat_eq old.variables k)
      ∙ (ap (λ b. if k == x then true else b) (tells.variables k) ∙ variable-more k x rs));
  waiting = λ k.
      same k ∙ (tells.waiting k ∙ (ap (λ n. nat_lt k n && reads_predicate k rs) (sym left)
      ∙ ap (λ b. nat_lt k new.left && b) (predicate-same k x rs)));
}

waits-more : (p k left : ℕ) (b : Bool) → p < left → (if p == k then true else (nat_lt k left && b)) ≡ (nat_lt k left && (if k == p then true else b))
waits-more p k left true below = grind (arith, nat_tests)
waits-more p k left false below = grind (arith, nat_tests)

waits-same : (p k left : ℕ) (b : Bool) → left ≤ p → (nat_lt k left && b) ≡ (nat_lt k left && (if k == p then true else b))
waits-same p k left true past = grind (arith, nat_tests)
waits-same p k left false past = grind (arith, nat_tests)

-- one predicate more, which waits
pub Tells-waiting : (old new : Read) (p : ℕ) (rs : Readings) → p < old.left →
    ((k : ℕ) → contains nat_eq new.variables k ≡ contains nat_eq old.variables k) →
    ((k : ℕ) → ordered.contains nat_cmp new.waiting k ≡ (if p == k then true else ordered.contains nat_cmp old.waiting k)) → new.left ≡ old.left →
    Tells old rs → Tells new (rs ++ Predicate p ∷ [])
Tells-waiting old new p rs below same noted left tells = record {
  variables = λ k. same k ∙ (tells.variables k ∙ variable-same k p rs);
  waiting = λ k.
      noted k ∙ (ap (λ b. if p == k then true else b) (tells.waiting k)
      ∙ (waits-more p k old.left (reads_predicate k rs) below
      ∙ (ap (λ n. nat_lt k n && (if k == p then true else reads_predicate k rs)) (sym left)
      ∙ ap (λ b. nat_lt k new.left && b) (predicate-more k p rs))));
}

-- one predicate more, which is left no more
pub Tells-passed : (read : Read) (p : ℕ) (rs : Readings) → read.left ≤ p → Tells read rs → Tells read (rs ++ Predicate p ∷ [])
Tells-passed read p rs past tells = record {
  variables = λ k. tells.variables k ∙ variable-same k p rs;
  waiting = λ k.
      tells.waiting k ∙ (waits-same p k read.left (reads_predicate k rs) past
      ∙ ap (λ b. nat_lt k read.left && b) (predicate-more k p rs));
}

-- the last predicate of those that are left
with_predicates-last : (predicates : List Readings) (p : ℕ) (more rs : Readings) → p < length predicates → more ≡ get_or predicates p more →
    with_predicates (reverse (take (p + 1) predicates)) rs ≡ with_predicates (reverse (take p predicates)) (if reads_predicate p rs then rs ++ more else rs)
with_predicates-last predicates p more rs below is =
    ap (λ left. with_predicates left rs) (from-last predicates p more below is)
    ∙ ap (λ k. with_predicates (reverse (take p predicates)) (if reads_predicate k rs then rs ++ more else rs)) (length-earlier predicates p below)

-- predicates that are not read add nothing
with_predicates-unread : (predicates : List Readings) (from count end : ℕ) (rs : Readings) →
    end ≡ from + count → end ≤ length predicates → NoneIsRead from end rs →
    with_predicates (reverse (take end predicates)) rs ≡ with_predicates (reverse (take from predicates)) rs
with_predicates-unread predicates from zero end rs is within unread =
    let same : end ≡ from = omega arith in ap (λ n. with_predicates (reverse (take n predicates)) rs) same
with_predicates-unread predicates from (suc count) end rs is within unread =
    let p = from + count in
    let next_is : end ≡ p + 1 = omega arith in
    let below : p < length predicates = omega arith in
    let more = get_or predicates p [] in
    let fewer : NoneIsRead from p rs = λ q after before. unread q after (omega arith) in
    ap (λ n. with_predicates (reverse (take n predicates)) rs) next_is
    ∙ (with_predicates-last predicates p more rs below (get_or_default predicates p [] more below)
    ∙ (ap (λ b. with_predicates (reverse (take p predicates)) (if b then rs ++ more else rs)) (unread p (omega arith) (omega arith))
    ∙ with_predicates-unread predicates from count p rs refl (omega arith) fewer))

-- what is held, where the predicates that are left give the end
pub record Reached (read : Read) (predicates : List Readings) (end : Readings) : Type 0 where
  pub all : Readings
  pub tells : Tells read all
  pub within : read.left ≤ length predicates
  pub same : with_predicates (reverse (take read.left predicates)) all ≡ end

pub Reached-first : (read : Read) (predicates : List Readings) (rs : Readings) → read.left ≡ length predicates → Tells read rs →
    Reached read predicates (with_predicates (reverse predicates) rs)
Reached-first read predicates rs left tells = record {
  all = rs;
  tells = tells;
  within = omega arith;
  same = ap (λ rest. with_predicates (reverse rest) rs) (take_all read.left predicates (omega arith));
}

-- the last predicate that is read is followed
pub Reached-next : (old mid new : Read) (predicates : List Readings) (p : ℕ) (more end : Readings) → more ≡ get_or predicates p more →
    ((rs : Readings) → Tells old rs → IsLastRead p old.left rs) →
    ((rs : Readings) → Tells old rs → Tells mid rs) → mid.left ≡ p →
    ((rs : Readings) → Tells mid rs → Tells new (rs ++ more)) → new.left ≡ mid.left →
    Reached old predicates end → Reached new predicates end
Reached-next old mid new predicates p more end is last kept at_last added left reached =
    let here = last reached.all reached.tells in
    let below : p < length predicates = omega (arith, here.below, reached.within) in
    let count : old.left ≡ (p + 1) + (old.left - (p + 1)) = omega (arith, here.below) in
    record {
      all = reached.all ++ more;
      tells = added reached.all (kept reached.all reached.tells);
      within = omega arith;
      same =
          ap (λ n. with_predicates (reverse (take n predicates)) (reached.all ++ more)) (left ∙ at_last)
          ∙ (ap (λ b. with_predicates (reverse (take p predicates)) (if b then reached.all ++ more else reached.all)) (sym here.read)
          ∙ (sym (with_predicates-last predicates p more reached.all below is)
          ∙ (sym (with_predicates-unread predicates (p + 1) (old.left - (p + 1)) old.left reached.all count reached.within here.behind)
          ∙ reached.same)));
    }

-- no predicate is left that is read
pub Reached-last : (old new : Read) (predicates : List Readings) (end : Readings) →
    ((rs : Readings) → Tells old rs → Tells new rs) → ((rs : Readings) → Tells old rs → NoneIsRead 0 old.left rs) →
    Reached old predicates end → Tells new end
Reached-last old new predicates end kept none reached =
    let count : old.left ≡ 0 + old.left = omega arith in
    let same : end ≡ reached.all =
    sym reached.same ∙ with_predicates-unread predicates 0 old.left old.left reached.all count reached.within (none reached.all reached.tells) in
    subst (Tells new) (sym same) (kept reached.all reached.tells)
