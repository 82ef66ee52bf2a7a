-- Imports that are taken one after the other.
use Rattle.std.proofs.Common.{◌≡◌, ◌⊎◌, inl, inr, ℕ, zero, suc, ◌+◌, ◌<◌, length, map, get_or, slice_get, take, List, [], ◌∷◌, ◌++◌, Option, Some, refl, sym, ap, ◌∙◌, subst, arith}
use Rattle.std.proofs.lemmas.List.{length-take-le, take_more}
use Rattle.std.proofs.lemmas.Option.{slice_get_read}
use Rattle.ms_edge.specs.declared.refusal.Refusal.{Refusal}
use Rattle.ms_edge.specs.declared.refusal.Refusal.TheVariants.{Memory, Nodes}
use Rattle.ms_dfa.specs.declared.plain.Plain.{Plain}
use Rattle.ms_edge.specs.Files.{FilesTold, Holding, OnlyRead, between}
use Rattle.ms_dfafile.specs.File.{IsFile}
use Rattle.ms_dfafile_adopt.specs.Import.{IsNotImportable}
use Rattle.ms_dfafile_adopt_parts.proofs.Adoptions.{lacking_adoptions}
use Rattle.ms_dfafile_imports.specs.Adopted.{AreAdopted}
use Rattle.ms_dfafile_imports.specs.Imports.{AreImported, EachImported, HaveOneContent, IsNotTaken, IsUnimported}
use Rattle.ms_dfafile_imports.specs.inner.Taken.{AreHeld, AreKept, AreNoted, AreTaken, IsRefusedAt, IsTaken, OneIsTaken, Table, refused_at}
use Rattle.ms_dfafile_imports.proofs.Later.{refused-later}
use Rattle.ms_logic.specs.declared.checked.ImportUse.{ImportUse}
use Rattle.ms_logic.specs.declared.checked.MapPair.{MapPair}
use Rattle.ms_names_checked.specs.Names.{AreDifferent}
use Rattle.ms_logic.specs.declared.mode.Mode.{Mode}
use Rattle.ms_logic_words.specs.declared.sign.Sign.{Sign}
use Rattle.ms_logic_words.specs.Content.{Content}

-- what was taken stays taken while more contents are noted
taken-kept : (limit : ℕ) (mode : Mode) (old new : Table) (uses : List ImportUse) (contents : List (Content Sign)) → AreKept old new → AreTaken limit mode old uses contents → AreTaken limit mode new uses contents
taken-kept limit mode old new [] [] kept h = tt
taken-kept limit mode old new [] (content ∷ contents) kept h = h
taken-kept limit mode old new (used ∷ uses) [] kept h = h
taken-kept limit mode old new (used ∷ uses) (content ∷ contents) kept h = (
  record { plain = h.0.plain; noted = kept used.name h.0.plain h.0.noted; importable = h.0.importable; adopted = h.0.adopted },
  taken-kept limit mode old new uses contents kept h.1,
)

taken-more : (limit : ℕ) (mode : Mode) (table : Table) (uses : List ImportUse) (used : ImportUse) (contents : List (Content Sign)) (content : Content Sign) → AreTaken limit mode table uses contents → IsTaken limit mode table used content
    → AreTaken limit mode table (uses ++ used ∷ []) (contents ++ content ∷ [])
taken-more limit mode table [] used [] content h one = (one, tt)
taken-more limit mode table [] used (c ∷ cs) content h one = absurd h
taken-more limit mode table (u ∷ us) used [] content h one = absurd h
taken-more limit mode table (u ∷ us) used (c ∷ cs) content h one = (h.0, taken-more limit mode table us used cs content h.1 one)

-- one import more
pub taken-next : (limit kept_limit : ℕ) (mode kept_mode : Mode) (old new : Table) (uses : List ImportUse) (i : ℕ) (used : ImportUse) (before after : List (Content Sign)) → kept_limit ≡ limit → kept_mode ≡ mode → AreKept old new → i < length uses
    → used ≡ get_or uses i used → AreTaken limit mode old (take i uses) before → OneIsTaken kept_limit kept_mode new used before after → AreTaken limit mode new (take (i + 1) uses) after
taken-next limit kept_limit mode kept_mode old new uses i used before after same_limit same kept within is h (content, behind, one) =
    subst (AreTaken limit mode new (take (i + 1) uses)) (sym behind)
    (subst (λ us. AreTaken limit mode new us (before ++ content ∷ [])) (ap (λ u. take i uses ++ u ∷ []) is ∙ sym (take_more uses i used within))
    (taken-more limit mode new (take i uses) used before content (taken-kept limit mode old new (take i uses) before kept h) (subst (λ m. IsTaken limit m new used content) same (subst (λ n. IsTaken n kept_mode new used content) same_limit one))))

-- the contents of the files of what was taken
abbrev ContentsAre : ℕ → Option Holding → Mode → Table → List ImportUse → List (Content Sign) → Type 0
ContentsAre limit held mode table uses contents = (plains : List Plain) × EachImported held mode uses plains × AreNoted table uses plains × AreAdopted limit mode uses plains contents

contents-are : (limit : ℕ) (held : Option Holding) (mode : Mode) (table : Table) (uses : List ImportUse) (contents : List (Content Sign)) → AreHeld held table → AreTaken limit mode table uses contents → ContentsAre limit held mode table uses contents
contents-are limit held mode table [] [] each h = ([], tt, tt, tt)
contents-are limit held mode table [] (content ∷ contents) each h = absurd h
contents-are limit held mode table (used ∷ uses) [] each h = absurd h
contents-are limit held mode table (used ∷ uses) (content ∷ contents) each h =
    let rest = contents-are limit held mode table uses contents each h.1 in (
      h.0.plain ∷ rest.0,
      (record { is_held = each used.name h.0.plain h.0.noted; importable = h.0.importable }, rest.1),
      (h.0.noted, rest.2),
      (h.0.adopted, rest.3),
    )

noted-at : (table : Table) (uses : List ImportUse) (plains : List Plain) (i : ℕ) (used : ImportUse) (plain : Plain) → AreNoted table uses plains → slice_get uses i ≡ Some used → slice_get plains i ≡ Some plain
    → table used.name ≡ Some plain
noted-at table [] plains i used plain h at is = let never : ⊥ = cc in absurd never
noted-at table (u ∷ us) [] i used plain h at is = absurd h
noted-at table (u ∷ us) (p ∷ ps) zero used plain h at is =
    let same : u ≡ used = cc in
    let content : p ≡ plain = cc in
    ap (λ k. table k.name) (sym same) ∙ h.0 ∙ ap Some content
noted-at table (u ∷ us) (p ∷ ps) (suc i) used plain h at is = noted-at table us ps i used plain h.1 at is

one-some : (one other : Plain) → Some one ≡ Some other → one ≡ other
one-some one other is = cc

one-content : (table : Table) (uses : List ImportUse) (plains : List Plain) → AreNoted table uses plains → HaveOneContent uses plains
one-content table uses plains h i j one other p q at_i at_j same is_p is_q =
    one-some p q (sym (noted-at table uses plains i one p h at_i is_p) ∙ ap table same ∙ noted-at table uses plains j other q h at_j is_q)

-- imports that are taken are imported
pub taken-imported : (limit : ℕ) (held : Option Holding) (mode : Mode) (table : Table) (uses : List ImportUse) (contents : List (Content Sign)) → AreHeld held table → AreTaken limit mode table uses contents
    → (plains : List Plain) × AreImported held mode uses plains × AreAdopted limit mode uses plains contents
taken-imported limit held mode table uses contents each h =
    let all = contents-are limit held mode table uses contents each h in
    (all.0, record { each = all.1; once = one-content table uses all.0 all.2 }, all.3)

-- each import that is taken has an automaton
taken-long : (limit : ℕ) (mode : Mode) (table : Table) (uses : List ImportUse) (contents : List (Content Sign)) → AreTaken limit mode table uses contents → length contents ≡ length uses
taken-long limit mode table [] [] h = refl
taken-long limit mode table [] (content ∷ contents) h = absurd h
taken-long limit mode table (used ∷ uses) [] h = absurd h
taken-long limit mode table (used ∷ uses) (content ∷ contents) h = ap suc (taken-long limit mode table uses contents h.1)

-- why a file is not imported, with the number of the import in the place of 0; where it lacks nodes, the limit is below each budget of it
at-place : (plain : Plain) (used : ImportUse) (mode : Mode) (limit place : ℕ) (refusal : Refusal) → IsFile plain → AreDifferent (map (λ (pair : MapPair). pair.name) used.pairs) → IsNotImportable plain used mode limit refusal → IsNotTaken plain used mode limit place (refused_at place refusal)
at-place plain used mode limit place (Nodes step named) file apart why =
    (refl, (refl, why.1, why.2, why.3), lacking_adoptions mode plain used.pairs limit file why.2.1 apart why.3)
at-place plain used mode limit place refusal file apart why = why

pub not-taken : (plain : Plain) (used : ImportUse) (mode : Mode) (limit place : ℕ) (refusal made : Refusal) → IsFile plain → AreDifferent (map (λ (pair : MapPair). pair.name) used.pairs)
    → IsNotImportable plain used mode limit refusal → (made ≡ Memory) ⊎ (made ≡ refused_at place refusal)
    → (made ≡ Memory) ⊎ IsNotTaken plain used mode limit place made
not-taken plain used mode limit place refusal made file apart why (inl memory) = inl memory
not-taken plain used mode limit place refusal made file apart why (inr is) = inr (subst (IsNotTaken plain used mode limit place) (sym is) (at-place plain used mode limit place refusal file apart why))

-- an import that fails, behind those that are taken
pub refused-at : (start one two : FilesTold) (mode kept_mode : Mode) (limit kept_limit : ℕ) (table : Table) (imports uses : List ImportUse) (i : ℕ) (used : ImportUse) (contents : List (Content Sign)) (refusal : Refusal)
    → uses ≡ imports → kept_mode ≡ mode → kept_limit ≡ limit → OnlyRead start one → AreHeld start.held table → i < length uses → used ≡ get_or uses i used → AreTaken limit mode table (take i uses) contents
    → (refusal ≡ Memory) ⊎ IsRefusedAt (between one two) kept_mode kept_limit (length contents) used refusal → (refusal ≡ Memory) ⊎ IsUnimported (between start two) mode limit imports refusal
refused-at start one two mode kept_mode limit kept_limit table imports uses i used contents refusal are mode_is limit_is read each within is h (inl memory) = inl memory
refused-at start one two mode kept_mode limit kept_limit table imports uses i used contents refusal are mode_is limit_is read each within is h (inr why) =
    let before = taken-imported limit start.held mode table (take i uses) contents each h in
    let long : length contents ≡ i = taken-long limit mode table (take i uses) contents h ∙ length-take-le i uses (omega (arith, within)) in
    let here = subst (λ m. IsRefusedAt (between one two) m limit i used refusal) mode_is (subst (λ n. IsRefusedAt (between one two) kept_mode n i used refusal) limit_is (subst (λ p. IsRefusedAt (between one two) kept_mode kept_limit p used refusal) long why)) in
    inr (subst (λ us. IsUnimported (between start two) mode limit us refusal) are (record {
      place = i;
      used = used;
      here = slice_get_read uses (length uses) i used refl within is;
      earlier = before.0;
      taken = before.1;
      why = refused-later start one two mode limit i used refusal read here;
    }))
