-- The main file of a load.
use Rattle.std.proofs.Common.{rules, ◌≡◌, ℕ, ◌+◌, ◌⊎◌, inl, inr, List, [], ◌∷◌, ◌++◌, length, drop, None, refl, sym, ap, ◌∙◌, subst, arith}
use Rattle.std.proofs.Math.Seq.{drop-append_seam}
use Rattle.ms_edge.specs.Files.{Seen}
use Rattle.ms_edge.specs.declared.refusal.Refusal.{Refusal}
use Rattle.ms_edge.specs.declared.refusal.Refusal.TheVariants.{Memory}
use Rattle.ms_logic.specs.declared.source.Item.{Item}
use Rattle.ms_logic.specs.declared.source.Loaded.{Loaded}
use Rattle.ms_logic.specs.declared.source.Source.{Source}
use Rattle.ms_include.specs.declared.begun.Begun.{Begun}
use Rattle.ms_include.specs.File.{IsSource, IsNoSource, IsUnread}
use Rattle.ms_include.specs.Include.{and_next, AllBecome, Loads, OneStops, IsRefused, greatest_depth}
use Rattle.ms_include.specs.Load.{mode_of, files_of, IsLoaded, IsRefusedLoad}

-- the names that a load added
only-read : (before after read : List (List ℕ)) → after ≡ before ++ read → drop (length before) after ≡ read
only-read before after read grown = ap (drop (length before)) grown ∙ drop-append_seam before read

-- the chain of the main file
main-chain : (request : Seen) (base number : ℕ) (chain chain' : List Begun) (name : List ℕ) → number ≡ base → chain ≡ [] → chain' ≡ chain ++ record { number = number; name = name } ∷ [] → chain' ≡ and_next (files_of request base) [] [] name
main-chain request base number chain chain' name numbered empty longer =
    let zeroed : number ≡ base + 0 = omega (arith, numbered) in
    longer ∙ (ap (λ c. c ++ record { number = number; name = name } ∷ []) empty ∙ ap (λ n. record { number = n; name = name } ∷ []) zeroed)

pub main-loaded : (request : Seen) (base base' number : ℕ) (chain chain' : List Begun) (before between after read : List (List ℕ)) (name : List ℕ) (source : Source) (loaded : Loaded) (items items' made : List Item) →
    base ≡ length before → base' ≡ base → number ≡ base → chain ≡ [] → chain' ≡ chain ++ record { number = number; name = name } ∷ [] → between ≡ before ++ name ∷ [] →
    IsSource request.before.held number name source → loaded.mode ≡ mode_of source.header → loaded.files ≡ drop base after → loaded.items ≡ items' → items ≡ [] → items' ≡ items ++ made →
    AllBecome (Loads (files_of request base') greatest_depth) chain' (drop base' between) source.items (drop base' after) made →
    IsLoaded (files_of request (length before)) name loaded
main-loaded request base base' number chain chain' before between after read name source loaded items items' made based same numbered empty longer noted is mode names items_are none grown become = record {
  source = source;
  is = subst (λ n. IsSource request.before.held n name source) (numbered ∙ based) is;
  mode = mode;
  items =
      let made_is : made ≡ loaded.items = sym (items_are ∙ (grown ∙ ap (λ l. l ++ made) none)) in
      let read_is : drop base' between ≡ name ∷ [] = ap (λ b. drop b between) (same ∙ based) ∙ only-read before between (name ∷ []) noted in
      let after_is : drop base' after ≡ loaded.files = ap (λ b. drop b after) same ∙ sym names in
      let chain_is = main-chain request (length before) number chain chain' name (numbered ∙ based) empty longer in
      subst (λ b. AllBecome (Loads (files_of request b) greatest_depth) (and_next (files_of request (length before)) [] [] name) (name ∷ []) source.items loaded.files loaded.items) (same ∙ based)
      (subst (λ c. AllBecome (Loads (files_of request base') greatest_depth) c (name ∷ []) source.items loaded.files loaded.items) chain_is
      (subst (λ r. AllBecome (Loads (files_of request base') greatest_depth) chain' r source.items loaded.files loaded.items) read_is
      (subst (λ a. AllBecome (Loads (files_of request base') greatest_depth) chain' (drop base' between) source.items a loaded.items) after_is
      (subst (λ m. AllBecome (Loads (files_of request base') greatest_depth) chain' (drop base' between) source.items (drop base' after) m) made_is become))));
}

-- the main file itself is refused
pub main-unopened : (request : Seen) (base number : ℕ) (before after : List (List ℕ)) (name : List ℕ) (refusal : Refusal) → base ≡ length before → number ≡ base →
    (refusal ≡ Memory) ⊎ (IsUnread request None name refusal × (after ≡ before)) ⊎ (IsNoSource request.before.held number name refusal × (after ≡ before ++ name ∷ [])) →
    (refusal ≡ Memory) ⊎ ((read : List (List ℕ)) × (after ≡ before ++ read) × IsRefusedLoad (files_of request (length before)) name refusal read)
main-unopened request base number before after name refusal based numbered (inl memory) = inl memory
main-unopened request base number before after name refusal based numbered (inr (inl (unread, kept))) = inr ([], kept ∙ sym (search rules), inl (unread, refl))
main-unopened request base number before after name refusal based numbered (inr (inr (none, noted))) =
    inr (name ∷ [], noted, inr (inl (subst (λ n. IsNoSource request.before.held n name refusal) (numbered ∙ based) none, refl)))

-- a declaration of it is refused
pub main-stopped : (request : Seen) (base base' number : ℕ) (chain chain' : List Begun) (before between after added : List (List ℕ)) (name : List ℕ) (source : Source) (refusal : Refusal) →
    base ≡ length before → base' ≡ base → number ≡ base → chain ≡ [] → chain' ≡ chain ++ record { number = number; name = name } ∷ [] → between ≡ before ++ name ∷ [] → after ≡ before ++ added →
    IsSource request.before.held number name source →
    (refusal ≡ Memory) ⊎ OneStops (Loads (files_of request base') greatest_depth) (IsRefused (files_of request base') greatest_depth) chain' (drop base' between) source.items refusal (drop base' after) →
    (refusal ≡ Memory) ⊎ ((read : List (List ℕ)) × (after ≡ before ++ read) × IsRefusedLoad (files_of request (length before)) name refusal read)
main-stopped request base base' number chain chain' before between after added name source refusal based same numbered empty longer noted grown is (inl memory) = inl memory
main-stopped request base base' number chain chain' before between after added name source refusal based same numbered empty longer noted grown is (inr stops) =
    let read_is : drop base' between ≡ name ∷ [] = ap (λ b. drop b between) (same ∙ based) ∙ only-read before between (name ∷ []) noted in
    let after_is : drop base' after ≡ added = ap (λ b. drop b after) (same ∙ based) ∙ only-read before after added grown in
    let chain_is = main-chain request (length before) number chain chain' name (numbered ∙ based) empty longer in
    inr (
      added,
      grown,
      inr (inr (
        source,
        subst (λ n. IsSource request.before.held n name source) (numbered ∙ based) is,
        subst (λ b. OneStops (Loads (files_of request b) greatest_depth) (IsRefused (files_of request b) greatest_depth) (and_next (files_of request (length before)) [] [] name) (name ∷ []) source.items refusal added) (same ∙ based)
            (subst (λ c. OneStops (Loads (files_of request base') greatest_depth) (IsRefused (files_of request base') greatest_depth) c (name ∷ []) source.items refusal added) chain_is
            (subst (λ r. OneStops (Loads (files_of request base') greatest_depth) (IsRefused (files_of request base') greatest_depth) chain' r source.items refusal added) read_is
            (subst (λ a. OneStops (Loads (files_of request base') greatest_depth) (IsRefused (files_of request base') greatest_depth) chain' (drop base' between) source.items refusal a) after_is stops))),
      )),
    )

-- the same for an equal name
pub renamed-refused : (request : Seen) (base : ℕ) (main name : List ℕ) (before after : List (List ℕ)) (refusal : Refusal) → main ≡ name →
    (refusal ≡ Memory) ⊎ ((read : List (List ℕ)) × (after ≡ before ++ read) × IsRefusedLoad (files_of request base) main refusal read) →
    (refusal ≡ Memory) ⊎ ((read : List (List ℕ)) × (after ≡ before ++ read) × IsRefusedLoad (files_of request base) name refusal read)
renamed-refused request base main name before after refusal same =
    subst (λ n. (refusal ≡ Memory) ⊎ ((read : List (List ℕ)) × (after ≡ before ++ read) × IsRefusedLoad (files_of request base) n refusal read)) same

pub renamed-loaded : (request : Seen) (base : ℕ) (main name : List ℕ) (loaded : Loaded) → main ≡ name → IsLoaded (files_of request base) main loaded → IsLoaded (files_of request base) name loaded
renamed-loaded request base main name loaded same = subst (λ n. IsLoaded (files_of request base) n loaded) same
