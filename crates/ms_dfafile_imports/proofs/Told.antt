-- Where files are told, the contents of imports are fixed, and an import that can be taken is refused for its nodes alone, or
-- for want of memory.
use Rattle.std.proofs.Common.{◌≡◌, ℕ, zero, suc, ◌⊎◌, inl, inr, length, slice_get, List, [], ◌∷◌, Option, Some, None, refl, ap, ◌∙◌, subst, arith}
use Rattle.ms_dfafile_adopt.specs.Import.{IsImportable, ShowsOpen}
use Rattle.ms_dfa.specs.Files.{content_of_file}
use Rattle.ms_dfa.specs.declared.plain.FileSign.{FileSign}
use Rattle.ms_dfa.specs.declared.plain.Plain.{Plain}
use Rattle.ms_dfafile.proofs.FileLemmas.{one_content}
use Rattle.ms_dfafile.specs.File.{IsSpelled}
use Rattle.ms_edge.specs.Counts.{Rose}
use Rattle.ms_edge.specs.declared.refusal.Refusal.{Refusal}
use Rattle.ms_edge.specs.declared.refusal.Refusal.TheVariants.{FileSize, ImportMissing, ImportMode, ImportOpen, ImportText, ImportVars, Memory, Nodes, ReadFault}
use Rattle.ms_list.specs.declared.word.Word.{Word}
use Rattle.ms_edge.specs.Files.{Holding, HoldsMoreThan, Lacks, Seen}
use Rattle.ms_dfafile_imports.specs.Imports.{EachImported, IsHeld, IsImported, IsMisfit, IsNoAutomaton, IsNotTaken, IsUnread, automaton_limit}
use Rattle.ms_dfafile_imports.specs.Laws.{IsWantOfRoom, ToldImportsHaveOneContent, ToldImportsWantRoom}
use Rattle.ms_logic.specs.declared.checked.ImportUse.{ImportUse}
use Rattle.ms_logic.specs.declared.mode.Mode.{Mode}
use Rattle.ms_logic.specs.declared.mode.Mode.TheVariants.{Ws1s}
use Rattle.ms_logic_words.specs.Content.{Content, IsOpen}

same-bytes : (found : Option (List ℕ)) (one other : List ℕ) → found ≡ Some one → found ≡ Some other → one ≡ other
same-bytes found one other is_one is_other = cc

no-bytes : (found : Option (List ℕ)) (bytes : List ℕ) → found ≡ None → found ≡ Some bytes → ⊥
no-bytes found bytes none some = cc

-- a file that is told has one content
pub held-once : (holding : Holding) (name : List ℕ) (one other : Plain) → IsHeld (Some holding) name one → IsHeld (Some holding) name other → one ≡ other
held-once holding name one other h k =
    one_content h.bytes one other h.spelled (subst (λ bytes. IsSpelled bytes other) (same-bytes (holding name) k.bytes h.bytes k.holds h.holds) k.spelled)

each-once : (holding : Holding) (mode : Mode) (uses : List ImportUse) (plains others : List Plain) → EachImported (Some holding) mode uses plains → EachImported (Some holding) mode uses others → plains ≡ others
each-once holding mode [] [] [] h k = refl
each-once holding mode [] [] (q ∷ qs) h k = absurd k
each-once holding mode [] (p ∷ ps) others h k = absurd h
each-once holding mode (used ∷ uses) [] others h k = absurd h
each-once holding mode (used ∷ uses) (p ∷ ps) [] h k = absurd k
each-once holding mode (used ∷ uses) (p ∷ ps) (q ∷ qs) h k =
    let first = held-once holding used.name p q h.0.is_held k.0.is_held in
    ap (λ r. r ∷ ps) first ∙ ap (λ rs. q ∷ rs) (each-once holding mode uses ps qs h.1 k.1)

-- the contents of imports are fixed by what the files hold
pub imported-once : ToldImportsHaveOneContent
imported-once held holding mode uses plains others told h k =
    each-once holding mode uses plains others (subst (λ s. EachImported s mode uses plains) told h.each) (subst (λ s. EachImported s mode uses others) told k.each)

-- the content of one import
imported-at : (held : Option Holding) (mode : Mode) (uses : List ImportUse) (plains : List Plain) (i : ℕ) (used : ImportUse) → EachImported held mode uses plains → slice_get uses i ≡ Some used
    → (plain : Plain) × IsImported held mode used plain
imported-at held mode [] plains i used h at = let never : ⊥ = cc in absurd never
imported-at held mode (u ∷ us) [] i used h at = absurd h
imported-at held mode (u ∷ us) (p ∷ ps) zero used h at = let same : u ≡ used = cc in (p, subst (λ k. IsImported held mode k p) same h.0)
imported-at held mode (u ∷ us) (p ∷ ps) (suc i) used h at = imported-at held mode us ps i used h.1 at

-- a word that shows it says that the content is open
shown-open : (content : Content FileSign) (word : Word) → content.mode ≡ Ws1s → ShowsOpen content word → IsOpen content
shown-open content word numbers (e, assignment, encodes, changes) =
    record { numbers = numbers; e = e; word = word; assignment = assignment; encodes = encodes; changes = changes }

-- an import that can be taken is not refused for its file
unread-never : (seen : Seen) (holding : Holding) (mode : Mode) (used : ImportUse) (plain : Plain) (refusal : Refusal) → seen.before.held ≡ Some holding → (Rose seen.before.faults seen.after.faults → ⊥)
    → IsImported (Some holding) mode used plain → IsUnread seen used refusal → ⊥
unread-never seen holding mode used plain (ImportMissing at name) told calm h why =
    no-bytes (holding used.name) h.is_held.bytes (subst (λ held. Lacks held used.name) told why.2) h.is_held.holds
unread-never seen holding mode used plain (FileSize name limit) told calm h why =
    let more = subst (λ held. HoldsMoreThan held used.name automaton_limit) told why.2 in
    let same = same-bytes (holding used.name) more.0 h.is_held.bytes more.1 h.is_held.holds in
    omega (arith, more.2, h.is_held.within, ap length same)
unread-never seen holding mode used plain (ReadFault name) told calm h why = calm why.1
unread-never seen holding mode used plain refusal told calm h why = why

spelled-never : (holding : Holding) (mode : Mode) (used : ImportUse) (plain : Plain) (refusal : Refusal) → IsImported (Some holding) mode used plain → IsNoAutomaton (Some holding) used refusal → ⊥
spelled-never holding mode used plain (ImportText at name) h (at_is, name_is, (bytes, holds, within, none)) =
    none plain (subst (λ b. IsSpelled b plain) (same-bytes (holding used.name) h.is_held.bytes bytes h.is_held.holds holds) h.is_held.spelled)
spelled-never holding mode used plain refusal h why = absurd why

fitting : (mode : Mode) (limit place : ℕ) (used : ImportUse) (plain : Plain) (refusal : Refusal) → IsImportable plain mode used.pairs → IsNotTaken plain used mode limit place refusal → IsWantOfRoom limit refusal
fitting mode limit place used plain (ImportMode at name) h why = absurd (why.2 h.mode_is)
fitting mode limit place used plain (ImportVars at name) h why = absurd (why.3 h.variables)
fitting mode limit place used plain (ImportOpen at name count word) h why =
    absurd (h.settled (shown-open (content_of_file plain) word (why.2.0 ∙ why.3) why.4.shows))
fitting mode limit place used plain (Nodes step named) h why = inr (step, ap (Nodes step) why.1.1)
fitting mode limit place used plain Memory h why = inl refl
fitting mode limit place used plain refusal h why = absurd why

refused-for-room : (seen : Seen) (holding : Holding) (mode : Mode) (limit place : ℕ) (used : ImportUse) (plain : Plain) (refusal : Refusal) → seen.before.held ≡ Some holding
    → (Rose seen.before.faults seen.after.faults → ⊥) → IsImported (Some holding) mode used plain
    → IsUnread seen used refusal ⊎ IsNoAutomaton seen.before.held used refusal ⊎ IsMisfit seen.before.held mode limit place used refusal → IsWantOfRoom limit refusal
refused-for-room seen holding mode limit place used plain refusal told calm h (inl unread) = absurd (unread-never seen holding mode used plain refusal told calm h unread)
refused-for-room seen holding mode limit place used plain refusal told calm h (inr (inl none)) =
    absurd (spelled-never holding mode used plain refusal h (subst (λ held. IsNoAutomaton held used refusal) told none))
refused-for-room seen holding mode limit place used plain refusal told calm h (inr (inr misfit)) =
    let known = subst (λ held. IsMisfit held mode limit place used refusal) told misfit in
    let same = held-once holding used.name known.0 plain known.1 h.is_held in
    fitting mode limit place used plain refusal h.importable (subst (λ p. IsNotTaken p used mode limit place refusal) same known.2)

-- where files are told and no read failed, imports that can be taken are refused for want of room alone
pub imported-refused : ToldImportsWantRoom
imported-refused seen holding mode limit uses plains refusal told calm h why =
    let one = imported-at seen.before.held mode uses plains why.place why.used h.each why.here in
    refused-for-room seen holding mode limit why.place why.used one.0 refusal told calm (subst (λ held. IsImported held mode why.used one.0) told one.1) why.why
