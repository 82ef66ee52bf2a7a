-- A file whose bytes are told is read as these alone, and bytes that have tokens have no fault.
use Rattle.std.proofs.Common.{◌≡◌, ℕ, List, length, Option, None, Some, refl, sym, ap, subst, ◌∙◌, arith}
use Rattle.std.proofs.lemmas.Option.{none-some, same_Some}
use Rattle.ms_edge.specs.Counts.{Rose}
use Rattle.ms_edge.specs.declared.refusal.Refusal.{Refusal}
use Rattle.ms_edge.specs.declared.refusal.Refusal.TheVariants.{Memory}
use Rattle.ms_edge.specs.declared.refusal.Refusal.TheVariants as refusals
use Rattle.ms_edge.specs.Files.{Holding, Holds, HoldsMoreThan, Lacks, Seen}
use Rattle.ms_include.specs.File.{AreBytes, IsUnread, source_limit}
use Rattle.ms_text.specs.Fault.{IsCause}
use Rattle.ms_text.specs.TokenList.{IsTokenList}
use Rattle.ms_text.specs.declared.token.Token.{Token}
use Rattle.ms_text.proofs.OneFault.{no_fault}

-- where the holding is told, a file has its bytes alone
module _ (holding : Holding) (held : Option Holding) (told : held ≡ Some holding) (name : List ℕ) where
  held-there : (bytes : List ℕ) → AreBytes held name bytes → holding name ≡ Some bytes
  held-there bytes are = subst (λ h. Holds h name bytes) told are.holds

  pub one-bytes : (bytes others : List ℕ) → AreBytes held name bytes → AreBytes held name others → bytes ≡ others
  one-bytes bytes others are are' = same_Some bytes others (sym (held-there bytes are) ∙ held-there others are')

  not-lacking : (bytes : List ℕ) → AreBytes held name bytes → Lacks held name → ⊥
  not-lacking bytes are lacks = none-some bytes (sym (subst (λ h. Lacks h name) told lacks) ∙ held-there bytes are)

  not-too-long : (bytes : List ℕ) → AreBytes held name bytes → HoldsMoreThan held name source_limit → ⊥
  not-too-long bytes are more =
      let found = subst (λ h. HoldsMoreThan h name source_limit) told more in
      let same : bytes ≡ found.0 = same_Some bytes found.0 (sym (held-there bytes are) ∙ found.1) in
      omega (arith, are.within, found.2, ap (λ l. length l) same)

-- it is not read for want of memory alone
pub read : (seen : Seen) (holding : Holding) (name bytes : List ℕ) → seen.before.held ≡ Some holding → ¬ Rose seen.before.faults seen.after.faults → AreBytes seen.before.held name bytes
    → (refusal : Refusal) → IsUnread seen None name refusal → refusal ≡ Memory
read seen holding name bytes told works are (refusals.FileMissing at missing) why = absurd (not-lacking holding seen.before.held told name bytes are why.2)
read seen holding name bytes told works are (refusals.FileSize other most) why = absurd (not-too-long holding seen.before.held told name bytes are why.2)
read seen holding name bytes told works are (refusals.ReadFault other) why = absurd (works why.1)
read seen holding name bytes told works are refusal why = absurd why

-- bytes that have tokens are refused for want of memory alone
pub not-caused : (bytes : List ℕ) (tokens : List Token) (refusal : Refusal) → IsTokenList 0 bytes tokens → IsCause 0 bytes refusal → refusal ≡ Memory
not-caused bytes tokens (refusals.Word at b) are why = absurd (no_fault 0 bytes tokens why.1.0 at.place _ are why.1.1)
not-caused bytes tokens (refusals.NumberTooLarge at) are why = absurd (no_fault 0 bytes tokens why.1.0 at.place _ are why.1.1)
not-caused bytes tokens (refusals.Unclosed at) are why = absurd (no_fault 0 bytes tokens why.1.0 at.place _ are why.1.1)
not-caused bytes tokens refusals.Memory are why = refl
not-caused bytes tokens refusal are why = absurd why
