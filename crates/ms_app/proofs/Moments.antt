-- What is loaded and imported does not depend on what comes of the files afterwards.
use Rattle.std.proofs.Common.{ℕ, zero, suc, inl, inr, ⊎_elim, List, [], ◌∷◌, ◌++◌, take, Option, Some, None, subst}
use Rattle.ms_dfa.specs.declared.plain.Plain.{Plain}
use Rattle.ms_edge.specs.Files.{FilesTold, HoldsMoreThan, Lacks, OnlyRead, between}
use Rattle.ms_list.specs.declared.at.At.{At}
use Rattle.ms_edge.specs.declared.refusal.Refusal.{Refusal}
use Rattle.ms_edge.specs.declared.refusal.Refusal.TheVariants.{FileSize, ImportMissing, ReadFault}
use Rattle.ms_dfafile_imports.specs.Imports.{AreImported, IsMisfit, IsNoAutomaton, IsUnimported, IsUnread, automaton_limit}
use Rattle.ms_include.specs.Include.{AllBecome, Becomes, Loading, Loads, and_next, include_of, greatest_depth}
use Rattle.ms_include.specs.declared.begun.Begun.{Begun}
use Rattle.ms_include.specs.Load.{IsLoaded, files_of}
use Rattle.ms_logic.specs.declared.checked.Checked.{Checked}
use Rattle.ms_logic.specs.declared.checked.ImportUse.{ImportUse}
use Rattle.ms_logic.specs.declared.mode.Mode.{Mode}
use Rattle.ms_logic.specs.declared.source.Item.{Item}
use Rattle.ms_logic.specs.declared.source.Loaded.{Loaded}
use Rattle.ms_app.specs.Source.{IsAccepted, file_of}
use Rattle.ms_app.proofs.Compared.{rose_within}

-- one loading gives what another does
abbrev Gives : Loading → Loading → Type 0
Gives L K = (chain : List Begun) (read : List (List ℕ)) (name : List ℕ) (after : List (List ℕ)) (items : List Item) → L chain read name after items → K chain read name after items

one_moved : (L K : Loading) → Gives L K → (chain : List Begun) (read : List (List ℕ)) (x : Item) (named : Option (At × List ℕ)) (after : List (List ℕ)) (items : List Item) → Becomes L chain read x named after items
    → Becomes K chain read x named after items
one_moved L K gives chain read x None after items becomes = becomes
one_moved L K gives chain read x (Some (at, name)) after items (inl ended) = inl ended
one_moved L K gives chain read x (Some (at, name)) after items (inr (new, loads)) = inr (new, gives chain read name after items loads)

all_moved : (L K : Loading) → Gives L K → (chain : List Begun) (read : List (List ℕ)) (xs : List Item) (after : List (List ℕ)) (items : List Item) → AllBecome L chain read xs after items
    → AllBecome K chain read xs after items
all_moved L K gives chain read [] after items become = become
all_moved L K gives chain read (x ∷ xs) after items (next, one, rest, becomes, all, is) =
    (next, one, rest, one_moved L K gives chain read x (include_of x.decl) next one becomes, all_moved L K gives chain next xs after rest all, is)

module _ (first other last : FilesTold) (base : ℕ) where
  loads_moved : (room : ℕ) → Gives (Loads (files_of (between first other) base) room) (Loads (files_of (between first last) base) room)
  loads_moved zero chain read name after items loads = absurd loads
  loads_moved (suc deeper) chain read name after items (source, short, is, header, become) = (
    source,
    short,
    is,
    header,
    all_moved (Loads (files_of (between first other) base) deeper) (Loads (files_of (between first last) base) deeper) (loads_moved deeper) (and_next (files_of (between first other) base) chain read name)
        (read ++ name ∷ []) source.items after items become,
  )

  loaded_before : (name : List ℕ) (loaded : Loaded) → IsLoaded (files_of (between first other) base) name loaded → IsLoaded (files_of (between first last) base) name loaded
  loaded_before name loaded is = record {
    source = is.source;
    is = is.is;
    mode = is.mode;
    items = all_moved (Loads (files_of (between first other) base) greatest_depth) (Loads (files_of (between first last) base) greatest_depth) (loads_moved greatest_depth)
        (and_next (files_of (between first other) base) [] [] name) (name ∷ []) is.source.items loaded.files loaded.items is.items;
  }

  pub accepted_before : (name : List ℕ) (loaded : Loaded) (checked : Checked) → IsAccepted (file_of (between first other) base name) loaded checked → IsAccepted (file_of (between first last) base name) loaded checked
  accepted_before name loaded checked is = record { is_loaded = loaded_before name loaded is.is_loaded; accepted = is.accepted; typed = is.typed }

-- files that were only read hold what they held
module _ (first middle last : FilesTold) (reads : OnlyRead first middle) where
  pub imported_before : (mode : Mode) (uses : List ImportUse) (plains : List Plain) → AreImported middle.held mode uses plains → AreImported first.held mode uses plains
  imported_before mode uses plains are = subst (λ held. AreImported held mode uses plains) reads.held are

  unread_before : (used : ImportUse) (refusal : Refusal) → IsUnread (between middle last) used refusal → IsUnread (between first last) used refusal
  unread_before used (ImportMissing at name) (is_at, is_name, lacks, rose) =
      (is_at, is_name, subst (λ held. Lacks held used.name) reads.held lacks, rose_within first.absences middle.absences last.absences reads.counts.absences rose)
  unread_before used (FileSize name limit) (is_name, is_limit, more, rose) =
      (is_name, is_limit, subst (λ held. HoldsMoreThan held used.name automaton_limit) reads.held more, rose_within first.overlongs middle.overlongs last.overlongs reads.counts.overlongs rose)
  unread_before used (ReadFault name) (is_name, rose) = (is_name, rose_within first.faults middle.faults last.faults reads.counts.faults rose)
  unread_before used refusal why = absurd why

  pub unimported_before : (mode : Mode) (limit : ℕ) (uses : List ImportUse) (refusal : Refusal) → IsUnimported (between middle last) mode limit uses refusal → IsUnimported (between first last) mode limit uses refusal
  unimported_before mode limit uses refusal is = record {
    place = is.place;
    used = is.used;
    here = is.here;
    earlier = is.earlier;
    taken = subst (λ held. AreImported held mode (take is.place uses) is.earlier) reads.held is.taken;
    why = ⊎_elim (λ unread. inl (unread_before is.used refusal unread))
        (λ other. ⊎_elim (λ none. inr (inl (subst (λ held. IsNoAutomaton held is.used refusal) reads.held none)))
        (λ misfit. inr (inr (subst (λ held. IsMisfit held mode limit is.place is.used refusal) reads.held misfit))) other)
        is.why;
  }
