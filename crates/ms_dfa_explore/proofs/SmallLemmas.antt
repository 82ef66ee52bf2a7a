-- The bits of a word as the bits of tracks, and the targets of a machine of known states.
use Rattle.std.proofs.Common.{◌≡◌, ℕ, ◌<◌, Bool, ◌-◌, ◌==◌, true, false, List, Ok, [], ◌∷◌, length, take, drop, slice_index_or, refl, sym, ap, subst, ◌∙◌, arith}
use Rattle.std.proofs.lemmas.Bool.{eqb-true}
use Rattle.std.proofs.lemmas.List.{take_all}
use Rattle.ms_arena.specs.declared.node.Ref.{Ref}
use Rattle.ms_arena.specs.declared.node.Ref.TheVariants.{Leaf}
use Rattle.ms_arena.specs.Bits.{with_bit, AgreeAbove}
use Rattle.ms_arena.specs.Diagram.{Bits, leaf_of}
use Rattle.ms_arena.proofs.BitsLemmas.{with_bit-same, AgreeAbove-with_bit}
use Rattle.ms_arena.proofs.Needs.{IsPart}
use Rattle.ms_arena.proofs.Paths.{leaf_of-leaf}
use Rattle.ms_diagram.specs.Growth.{Builds}
use Rattle.ms_diagram.specs.Store.{Contents, IsStore}
use Rattle.ms_diagram.proofs.Building.{Builds-found}
use Rattle.ms_logic.specs.FiniteSet.{IsRising, IsBelowFirst}
use Rattle.ms_dfa_explore.specs.declared.small.TrackBits.{TrackBits}
use Rattle.ms_dfa_explore.specs.Small.{with_bit_at, read_tracks, Tabulated}

-- a track before the first of others is before those behind it
below_later : (low first : ℕ) (more : List ℕ) → low < first → IsBelowFirst first more → IsBelowFirst low more
below_later low first [] less below = tt
below_later low first (second ∷ more) less below = omega (arith, less, below)

-- bits that agree above a track are read alike by the later ones
pub read_tracks-above : (low : ℕ) (tracks : List ℕ) (given : TrackBits) (one two : Bits) → IsBelowFirst low tracks → IsRising tracks → AgreeAbove low one two
    → read_tracks tracks given one ≡ read_tracks tracks given two
read_tracks-above low [] given one two below rising agree = refl
read_tracks-above low (track ∷ tracks) given one two below rising agree =
    ap (λ bit. read_tracks tracks (with_bit_at given track bit) one) (agree track below)
    ∙ read_tracks-above low tracks (with_bit_at given track (two track)) one two (below_later low track tracks below rising.0) rising.1 agree

module _ (lead : TrackBits → ℕ) (track : ℕ) (tracks : List ℕ) (given : TrackBits) (bit : Bool) (rising : IsRising (track ∷ tracks)) where
  -- with the bit of the first track given, a part of the target is left
  pub Tabulated-part : IsPart (Tabulated lead (track ∷ tracks) given) (Tabulated lead tracks (with_bit_at given track bit)) track bit
  Tabulated-part = record {
    fixes = λ bits number there.
        there
        ∙ ap lead (sym (
        ap (λ b. read_tracks tracks (with_bit_at given track b) (with_bit bits track bit)) (with_bit-same bits track bit)
        ∙ read_tracks-above track tracks (with_bit_at given track bit) (with_bit bits track bit) bits rising.0 rising.1 (AgreeAbove-with_bit track track bits bit (omega arith))));
    single = λ bits one two first second. first ∙ sym second;
    blind = λ one two number agree there. there ∙ ap lead (read_tracks-above track tracks (with_bit_at given track bit) one two rising.0 rising.1 agree);
  }

-- a list that is not empty is its first item before the others
pub first_before : (tracks : List ℕ) → (length tracks == 0) ≡ false → tracks ≡ slice_index_or tracks 0 0 ∷ take (length tracks - 1) (drop 1 tracks)
first_before [] some = let never : ⊥ = cc in absurd never
first_before (track ∷ tracks) some =
    let same : length (track ∷ tracks) - 1 ≡ length tracks = omega arith in ap (λ list. track ∷ list) (sym (ap (λ n. take n tracks) same ∙ take_all (length tracks) tracks (omega arith)))

-- the same for a list, its first track and the others
pub Tabulated-first : (lead : TrackBits → ℕ) (tracks more : List ℕ) (track : ℕ) (given chosen : TrackBits) (bit : Bool) → tracks ≡ track ∷ more → chosen ≡ with_bit_at given track bit
    → IsRising tracks → IsPart (Tabulated lead tracks given) (Tabulated lead more chosen) track bit
Tabulated-first lead tracks more track given chosen bit is same rising =
    subst (λ list. IsPart (Tabulated lead list given) (Tabulated lead more chosen) track bit) (sym is)
    (subst (λ bits. IsPart (Tabulated lead (track ∷ more) given) (Tabulated lead more bits) track bit) (sym same) (Tabulated-part lead track more given bit (subst IsRising is rising)))

-- over no track the target is the number that is led to
pub Tabulated-none : (lead : TrackBits → ℕ) (tracks : List ℕ) (given : TrackBits) (bits : Bits) (number : ℕ) → length tracks ≡ 0 → number ≡ lead given → Tabulated lead tracks given bits number
Tabulated-none lead [] given bits number none is = is
Tabulated-none lead (track ∷ tracks) given bits number none is = absurd (omega (arith, none))

-- so the leaf of that number is built
pub Builds-tabulated_none : (store : Contents) (lead : TrackBits → ℕ) (tracks : List ℕ) (given : TrackBits) (number : ℕ) (made : Ref) → IsStore store.nodes store.limit
    → (length tracks == 0) ≡ true → number ≡ lead given → made ≡ Leaf number → Builds store store (Tabulated lead tracks given) ⊥ (Ok made)
Builds-tabulated_none store lead tracks given number made is none led same =
    subst (λ (r : Ref). Builds store store (Tabulated lead tracks given) ⊥ (Ok r)) (sym same)
    (Builds-found store (Tabulated lead tracks given) ⊥ (Leaf number) is tt (λ bits.
    Tabulated-none lead tracks given bits (leaf_of store.nodes (Leaf number) bits) (eqb-true (length tracks) 0 none) (leaf_of-leaf store.nodes bits number ∙ led)))
