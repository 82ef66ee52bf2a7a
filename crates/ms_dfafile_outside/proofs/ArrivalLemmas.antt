-- What the code finds of an arrival, and of a state.
use Rattle.std.proofs.Common.{◌≡◌, ◌≢◌, ◌↔◌, ℕ, ◌≤◌, inr, ⊎_elim, Bool, true, false, IsTrue, List, length, slice_get, get_or, refl, sym, ap, arith}
use Rattle.std.proofs.Math.Bool.{beq}
use Rattle.std.proofs.lemmas.Bool.{false≢true}
use Rattle.std.proofs.lemmas.List.{length-map}
use Rattle.ms_arena.specs.declared.node.Ref.{Ref}
use Rattle.ms_arena.specs.declared.node.Ref.TheVariants.{Leaf, Inner}
use Rattle.ms_arena.proofs.Lists.{slice_get-held}
use Rattle.ms_dfa.specs.declared.plain.FileSign.{FileSign}
use Rattle.ms_dfa.specs.declared.plain.FileSign.TheVariants as signs
use Rattle.ms_logic_words.specs.Content.{Content, IsContent, NamesPart}
use Rattle.ms_dfafile_outside.specs.declared.label.Label.{Label}
use Rattle.ms_dfafile_outside.specs.declared.label.Label.TheVariants.{Seen}
use Rattle.ms_dfafile_outside.specs.inner.Labels.{HasNoGap, first_of, first_tested, orders_in}
use Rattle.ms_dfafile_outside.specs.inner.Numbers.{AreSetsBefore, rank}
use Rattle.ms_dfafile_outside.proofs.SetsLemmas.{set-ranks}

module _ (content : Content FileSign) where
  first-within : IsContent content → (reference : Ref) → NamesPart content reference → first_tested content reference ≤ length content.variables
  first-within rules (Leaf state) named = omega arith
  first-within rules (Inner place) named =
      let held = slice_get-held content.nodes place named in
      let first : first_of (length content.variables) (slice_get content.nodes place) ≡ held.0.var = ap (first_of (length content.variables)) held.1 in
      let less = rules.variables place held.0 held.1 in omega (arith, first, less)

  all-orders : length (orders_in content) ≡ length content.variables
  all-orders = length-map content.variables (λ v. v.order)

  no_gap-seen : (reference : Ref) (label : Label) (level set : ℕ) → label ≡ Seen set → HasNoGap content reference label level → rank (orders_in content) (first_tested content reference) ≤ rank (orders_in content) level
  no_gap-seen reference label level set seen gap = ⊎_elim (λ lost. let never : ⊥ = cc in absurd never) (λ least. least) gap

  -- comparing the sets before two variables tells whether there is a gap
  pub gap-told : (reference : Ref) (label : Label) (level first set : ℕ) (sets : List ℕ) → IsContent content → NamesPart content reference → AreSetsBefore (orders_in content) sets → level ≤ length content.variables
      → first ≡ first_tested content reference → label ≡ Seen set → (get_or sets first 0 ≤ get_or sets level 0) ↔ HasNoGap content reference label level
  gap-told reference label level first set sets rules named are within is seen =
      let bound = first-within rules reference named in
      let told = set-ranks (orders_in content) sets first level are (omega (arith, all-orders, bound, is)) (omega (arith, all-orders, within)) in
      let same : rank (orders_in content) first ≡ rank (orders_in content) (first_tested content reference) = ap (rank (orders_in content)) is in (
        λ less. inr (let least = told.0 less in omega (arith, least, same)),
        λ gap. let least = no_gap-seen reference label level set seen gap in told.1 (omega (arith, least, same)),
      )

-- a sign and a label that do not fit
pub differ-told : (sign : FileSign) (label : Label) (full : ℕ) (is_outside has_all : Bool) → IsTrue is_outside ↔ (sign ≡ signs.Outside) → IsTrue has_all ↔ (label ≡ Seen full) → beq is_outside has_all ≡ true
    → (sign ≡ signs.Outside) ↔ (label ≢ Seen full) → ⊥
differ-told sign label full true true outside all same rule = rule.0 (outside.0 refl) (all.0 refl)
differ-told sign label full false false outside all same rule =
    let partial : label ≢ Seen full = λ is. false≢true (all.1 is) in false≢true (outside.1 (rule.1 partial))
differ-told sign label full true false outside all same rule = false≢true same
differ-told sign label full false true outside all same rule = false≢true same

-- and those that do
pub fit-told : (sign : FileSign) (label : Label) (full : ℕ) (is_outside has_all : Bool) → IsTrue is_outside ↔ (sign ≡ signs.Outside) → IsTrue has_all ↔ (label ≡ Seen full) → beq is_outside has_all ≡ false
    → (sign ≡ signs.Outside) ↔ (label ≢ Seen full)
fit-told sign label full true true outside all differ = absurd (false≢true (sym differ))
fit-told sign label full false false outside all differ = absurd (false≢true (sym differ))
fit-told sign label full true false outside all differ = (λ is full_is. false≢true (all.1 full_is), λ partial. outside.0 refl)
fit-told sign label full false true outside all differ = (λ is full_is. false≢true (outside.1 is), λ partial. absurd (partial (all.0 refl)))
