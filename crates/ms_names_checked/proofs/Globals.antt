-- The globals of a checked source are those that its declarations declare.
use Rattle.std.proofs.Common.{◌≡◌, ℕ, ◌+◌, List, [], ◌∷◌, ◌++◌, map, Option, Some, None, refl, sym, ap, subst, ◌∙◌, append_assoc}
use Rattle.std.specs.Option.{option_map}
use Rattle.ms_list.specs.declared.at.At.{At as Place}
use Rattle.ms_logic.specs.declared.checked.Global.{Global}
use Rattle.ms_logic.specs.declared.mode.Order.{Order}
use Rattle.ms_logic.specs.Tree.{Restriction}
use Rattle.ms_names_rules.specs.Before.{Before, after_bounds}
use Rattle.ms_names_rules.specs.Declarations.{Known, after_declaration}
use Rattle.ms_names_rules.specs.Scope.{Scope, Bytes, count_of_bounds, under_bounds}
use Rattle.ms_parse_grammar.specs.Tree.{Variables, no_variables, and_variable, Declaration, variables, constant, predicate, included, default_restriction, formula, goal, Declared}
use Rattle.ms_names_rules.specs.Typed.{typed_domain}
use Rattle.ms_names_rules.specs.TypedSource.{TypedGlobal, collected, global_of, globals_of, globals_of_bounds}
use Rattle.ms_names_rules.proofs.Fitting.{If}

-- something of each global, by its order and its name
module _ {A : Type 0} (pick : Order → Bytes → A) where
  abbrev pub picked_of_bounds : Variables → List A
  picked_of_bounds no_variables = []
  picked_of_bounds (and_variable vs at o n d) = picked_of_bounds vs ++ pick o n ∷ []

  abbrev pub picked_in : Declaration → List A
  picked_in (variables vs) = picked_of_bounds vs
  picked_in (constant at n is) = []
  picked_in (predicate is_pred at n vs e) = []
  picked_in (included text_at file) = []
  picked_in (default_restriction o n e) = []
  picked_in (formula e) = []
  picked_in (goal name_at title e) = []

  abbrev pub picked_of_globals : List Declared → List A
  picked_of_globals [] = []
  picked_of_globals (d ∷ ds) = picked_in d.declaration ++ picked_of_globals ds

  abbrev pub Have : List (Option TypedGlobal) → List A → Type 0
  Have [] [] = Unit {0}
  Have [] (x ∷ xs) = ⊥
  Have (g ∷ gs) [] = ⊥
  Have (g ∷ gs) (x ∷ xs) = If (λ (there : TypedGlobal). pick there.order there.name ≡ x) g × Have gs xs

  global-has : (at : Place) (item : ℕ) (o : Order) (n : Bytes) (r : Option Restriction) →
      If (λ (there : TypedGlobal). pick there.order there.name ≡ pick o n) (option_map (λ restriction. record { at = at; item = item; order = o; name = n; restriction = restriction }) r)
  global-has at item o n None = tt
  global-has at item o n (Some r) = refl

  bounds-have : (at : Place) (item : ℕ) (s : Scope) (x : ℕ) (b : Before) (vs : Variables) (gs : List (Option TypedGlobal)) (xs : List A) → Have gs xs →
      Have (globals_of_bounds at item s x b vs ++ gs) (picked_of_bounds vs ++ xs)
  bounds-have at item s x b no_variables gs xs h = h
  bounds-have at item s x b (and_variable vs name_at o n d) gs xs h =
      let g = typed_domain (under_bounds s x (and_variable vs name_at o n d)) (after_bounds b vs) o (x + count_of_bounds vs) d in
      let last = option_map (λ restriction. record { at = at; item = item; order = o; name = n; restriction = restriction }) g in
      subst (λ there. Have there ((picked_of_bounds vs ++ pick o n ∷ []) ++ xs)) (sym (append_assoc (globals_of_bounds at item s x b vs) (last ∷ []) gs))
      (subst (Have (globals_of_bounds at item s x b vs ++ last ∷ gs)) (sym (append_assoc (picked_of_bounds vs) (pick o n ∷ []) xs))
      (bounds-have at item s x b vs (last ∷ gs) (pick o n ∷ xs) (global-has at item o n g, h)))

  declaration-has : (k : Known) (at : Place) (item : ℕ) (d : Declaration) (gs : List (Option TypedGlobal)) (xs : List A) → Have gs xs → Have (globals_of k at item d ++ gs) (picked_in d ++ xs)
  declaration-has k at item (variables vs) gs xs h = bounds-have at item k.scope k.globals k.before vs gs xs h
  declaration-has k at item (constant name_at n is) gs xs h = h
  declaration-has k at item (predicate is_pred name_at n vs e) gs xs h = h
  declaration-has k at item (included text_at file) gs xs h = h
  declaration-has k at item (default_restriction o n e) gs xs h = h
  declaration-has k at item (formula e) gs xs h = h
  declaration-has k at item (goal name_at title e) gs xs h = h

  globals-have : (k : Known) (item : ℕ) (ds : List Declared) → Have (collected (λ k item d. globals_of k d.at item d.declaration) k item ds) (picked_of_globals ds)
  globals-have k item [] = tt
  globals-have k item (d ∷ ds) =
      declaration-has k d.at item d.declaration (collected (λ k item d. globals_of k d.at item d.declaration) (after_declaration k d.declaration) (item + 1) ds) (picked_of_globals ds)
      (globals-have (after_declaration k d.declaration) (item + 1) ds)

  kept-have : (gs : List Global) (xs : List A) → Have (map (λ (g : Global). Some (global_of g)) gs) xs → map (λ (g : Global). pick g.order g.name) gs ≡ xs
  kept-have [] [] h = refl
  kept-have [] (x ∷ xs) h = absurd h
  kept-have (g ∷ gs) [] h = absurd h
  kept-have (g ∷ gs) (x ∷ xs) h = ap (λ y. y ∷ map (λ (there : Global). pick there.order there.name) gs) h.0 ∙ ap (λ rest. x ∷ rest) (kept-have gs xs h.1)

  -- the globals that stand for those of a source
  pub globals-picked : (k : Known) (item : ℕ) (ds : List Declared) (gs : List Global) →
      map (λ (g : Global). Some (global_of g)) gs ≡ collected (λ k item d. globals_of k d.at item d.declaration) k item ds → map (λ (g : Global). pick g.order g.name) gs ≡ picked_of_globals ds
  globals-picked k item ds gs same = kept-have gs (picked_of_globals ds) (subst (λ there. Have there (picked_of_globals ds)) (sym same) (globals-have k item ds))

abbrev pub names_in : Declaration → List Bytes
names_in d = picked_in (λ o n. n) d

abbrev pub names_of_bounds : Variables → List Bytes
names_of_bounds vs = picked_of_bounds (λ o n. n) vs

abbrev pub names_of_globals : List Declared → List Bytes
names_of_globals ds = picked_of_globals (λ o n. n) ds

abbrev pub orders_of_globals : List Declared → List Order
orders_of_globals ds = picked_of_globals (λ o n. o) ds
