-- What a whole source loads as, and whether a load of it is refused.
use Rattle.std.proofs.Common.{◌≡◌, ℕ, inl, inr, List, [], ◌∷◌, Some, None, sym, ap, ◌∙◌, subst}
use Rattle.ms_edge.specs.Files.{Seen}
use Rattle.ms_list.specs.declared.at.At.{At}
use Rattle.ms_edge.specs.declared.refusal.Refusal.{Refusal}
use Rattle.ms_edge.specs.declared.refusal.Refusal.TheVariants.{Memory}
use Rattle.ms_logic.specs.declared.mode.Mode.{Mode}
use Rattle.ms_logic.specs.declared.source.Item.{Item}
use Rattle.ms_logic.specs.declared.source.Loaded.{Loaded}
use Rattle.ms_logic.specs.declared.source.Source.{Source}
use Rattle.ms_include.specs.Include.{AllBecome, Loads, and_next, greatest_depth}
use Rattle.ms_include.specs.Load.{IsLoaded, IsLoadedText, IsRefusedLoad, IsRefusedText, files_of, first_include, mode_of}
use Rattle.ms_include_laws.specs.Told.{IsFromOutside, TellSame}
use Rattle.ms_include_laws.proofs.of_loads.Files.{one_source_of_file, source_or_none, source_or_unread}
use Rattle.ms_include_laws.proofs.of_loads.Loading.{items_same, items_or_refused}
use Rattle.ms_include_laws.proofs.of_loads.Names.{are_all}
use Rattle.ms_include_laws.proofs.of_loads.Refusals.{one_read, read_or_refused}

-- loaded sources of the same parts are one
same_loaded : (one other : Loaded) → one.mode ≡ other.mode → one.items ≡ other.items → one.files ≡ other.files → one ≡ other
same_loaded one other mode items files =
    ap (λ (m : Mode). let made : Loaded = record { mode = m; items = one.items; files = one.files } in made) mode
    ∙ (ap (λ (is : List Item). let made : Loaded = record { mode = other.mode; items = is; files = one.files } in made) items
    ∙ ap (λ (fs : List (List ℕ)). let made : Loaded = record { mode = other.mode; items = other.items; files = fs } in made) files)

pub one_load : (seen other : Seen) → TellSame seen other → (base : ℕ) (name : List ℕ) (one two : Loaded) → IsLoaded (files_of seen base) name one → IsLoaded (files_of other base) name two → one ≡ two
one_load seen other told base name one two is is' =
    let same : is.source ≡ is'.source = one_source_of_file told.holding seen.before.held other.before.held base name is.source is'.source told.one_told told.other_told is.is is'.is in
    let parts = items_same seen other told base greatest_depth (and_next (files_of seen base) [] [] name) is'.source.items (name ∷ []) one.files two.files one.items two.items
    (subst (λ (s : Source). AllBecome (Loads (files_of seen base) greatest_depth) (and_next (files_of seen base) [] [] name) (name ∷ []) s.items one.files one.items) same is.items) is'.items in
    same_loaded one two (is.mode ∙ (ap (λ (s : Source). mode_of s.header) same ∙ sym is'.mode)) parts.1 parts.0

pub load_or_refused : (seen other : Seen) → TellSame seen other → (base : ℕ) (name : List ℕ) (loaded : Loaded) (refusal : Refusal) (read : List (List ℕ)) →
    IsLoaded (files_of seen base) name loaded → IsRefusedLoad (files_of other base) name refusal read → IsFromOutside other refusal
load_or_refused seen other told base name loaded refusal read is (inl (unread, none)) = source_or_unread seen other told base None name is.source refusal is.is unread
load_or_refused seen other told base name loaded refusal read is (inr (inl (none, own))) =
    inl (source_or_none told.holding seen.before.held other.before.held base name is.source refusal told.one_told told.other_told is.is none)
load_or_refused seen other told base name loaded refusal read is (inr (inr (source, is', stops))) =
    let same : is.source ≡ source = one_source_of_file told.holding seen.before.held other.before.held base name is.source source told.one_told told.other_told is.is is' in
    items_or_refused seen other told base greatest_depth (and_next (files_of seen base) [] [] name) source.items (name ∷ []) loaded.files read loaded.items refusal (are_all (name ∷ []))
    (subst (λ (s : Source). AllBecome (Loads (files_of seen base) greatest_depth) (and_next (files_of seen base) [] [] name) (name ∷ []) s.items loaded.files loaded.items) same is.items) stops

pub one_text : (name bytes : List ℕ) (one other : Loaded) → IsLoadedText name bytes one → IsLoadedText name bytes other → one ≡ other
one_text name bytes one other is is' =
    let same : is.source ≡ is'.source = one_read 0 bytes is.source is'.source is.reads is'.reads in
    same_loaded one other (is.mode ∙ (ap (λ (s : Source). mode_of s.header) same ∙ sym is'.mode)) (is.items ∙ (ap (λ (s : Source). s.items) same ∙ sym is'.items)) (is.files ∙ sym is'.files)

no_include : (at : At) → None ≡ Some at → ⊥
no_include at same = cc

pub text_or_refused : (name bytes : List ℕ) (loaded : Loaded) (refusal : Refusal) → IsLoadedText name bytes loaded → IsRefusedText bytes refusal → refusal ≡ Memory
text_or_refused name bytes loaded refusal is (inl none) = read_or_refused 0 bytes is.source refusal is.reads none
text_or_refused name bytes loaded refusal is (inr (source, at, reads, first, why)) =
    let same : is.source ≡ source = one_read 0 bytes is.source source is.reads reads in
    absurd (no_include at (sym is.alone ∙ (ap (λ (s : Source). first_include s.items) same ∙ first)))
