-- The lists of those that lead to each vertex, as they are filled.
use Rattle.std.proofs.Common.{◌≡◌, ℕ, zero, suc, ◌+◌, ◌<◌, ◌⊎◌, inl, inr, List, [], ◌∷◌, ◌++◌, length, replicate, get_or, slice_get, Some, refl, sym, subst, ◌∙◌, arith, length-set, get_or-set_same, get_or-set_other}
use Rattle.std.specs.List.{Contains}
use Rattle.std.proofs.lemmas.Bool.{cases_eq}
use Rattle.std.proofs.lemmas.List.{length-replicate}
use Rattle.std.proofs.lemmas.List.Elements.{Contains-append_left, Contains-push, Contains-push_cases}
use Rattle.std.proofs.lemmas.Option.{same_Some, slice_get_within}
use Rattle.ms_best.specs.declared.graph.Vertex.{Vertex}
use Rattle.ms_best.specs.declared.graph.Vertex.TheVariants.{Goal, Letter, Choice}
use Rattle.ms_best.specs.inner.Graph.{LeadsTo, IsClosed, ListsUsers, with_user, with_users}

-- the empty list
abbrev nothing : {X : Type 0} → List X
nothing = []

-- where a vertex leads, by its form
pub leads_letter : (vertex : Vertex) (next : ℕ) → vertex ≡ Letter next → LeadsTo vertex next
leads_letter vertex next same = subst (λ (v : Vertex). LeadsTo v next) (sym same) refl

pub leads_low : (vertex : Vertex) (low high : ℕ) → vertex ≡ Choice low high → LeadsTo vertex low
leads_low vertex low high same = subst (λ (v : Vertex). LeadsTo v low) (sym same) (inl refl)

pub leads_high : (vertex : Vertex) (low high : ℕ) → vertex ≡ Choice low high → LeadsTo vertex high
leads_high vertex low high same = subst (λ (v : Vertex). LeadsTo v high) (sym same) (inr refl)

-- the vertices before `done` are in the lists, and no others
pub record Noted (graph : List Vertex) (done : ℕ) (users : List (List ℕ)) : Type 0 where
  pub count : length users ≡ length graph
  pub listed : (i : ℕ) (vertex : Vertex) (place : ℕ) → i < done → slice_get graph i ≡ Some vertex → LeadsTo vertex place → Contains (get_or users place []) i
  pub within : (place i : ℕ) → Contains (get_or users place []) i → i < done

-- what was listed stays so
stays : (users : List (List ℕ)) (place user other i : ℕ) → place < length users → Contains (get_or users other []) i → Contains (get_or (with_user users place user) other []) i
stays users place user other i within there =
    elim (cases_eq other place) [
      | inl same ↦
          (let here : Contains (get_or users place []) i = subst (λ (p : ℕ). Contains (get_or users p []) i) same there in
          subst (λ (p : ℕ). Contains (get_or (with_user users place user) p []) i) (sym same)
          (rw (get_or-set_same users place (get_or users place [] ++ user ∷ []) [] within) (Contains-append_left (get_or users place []) (user ∷ []) i here)))
      | inr differ ↦ rw (get_or-set_other users place other (get_or users place [] ++ user ∷ []) [] differ) there
    ]

-- the new one is listed
added : (users : List (List ℕ)) (place user : ℕ) → place < length users → Contains (get_or (with_user users place user) place []) user
added users place user within =
    rw (get_or-set_same users place (get_or users place [] ++ user ∷ []) [] within) (Contains-push (get_or users place []) user)

-- what is listed then was listed before, or is the new one
listed_cases : (users : List (List ℕ)) (place user other i : ℕ) → place < length users
    → Contains (get_or (with_user users place user) other []) i → Contains (get_or users other []) i ⊎ (user ≡ i)
listed_cases users place user other i within there =
    elim (cases_eq other place) [
      | inl same ↦
          (let here : Contains (get_or (with_user users place user) place []) i
          = subst (λ (p : ℕ). Contains (get_or (with_user users place user) p []) i) same there in
          let pushed : Contains (get_or users place [] ++ user ∷ []) i
          = subst (λ (xs : List ℕ). Contains xs i) (get_or-set_same users place (get_or users place [] ++ user ∷ []) [] within) here in
          elim (Contains-push_cases (get_or users place []) user i pushed) [
            | inl old ↦ inl (subst (λ (p : ℕ). Contains (get_or users p []) i) (sym same) old)
            | inr new ↦ inr new
          ])
      | inr differ ↦ inl (subst (λ (xs : List ℕ). Contains xs i) (get_or-set_other users place other (get_or users place [] ++ user ∷ []) [] differ) there)
    ]

-- empty lists have nothing
empty_at : (n place : ℕ) → get_or (replicate n (nothing {X = ℕ})) place [] ≡ []
empty_at zero place = refl
empty_at (suc n) zero = refl
empty_at (suc n) (suc place) = empty_at n place

nothing_there : (n place i : ℕ) → Contains (get_or (replicate n (nothing {X = ℕ})) place []) i → ⊥
nothing_there n place i there =
    let inside : Contains [] i = subst (λ (xs : List ℕ). Contains xs i) (empty_at n place) there in
    omega (arith, inside.1)

pub noted_none : (graph : List Vertex) → Noted graph 0 (replicate (length graph) (nothing {X = ℕ}))
noted_none graph = record {
  count = length-replicate (length graph) (nothing {X = ℕ});
  listed = λ i vertex place below there leads. absurd (omega (arith, below));
  within = λ place i there. absurd (nothing_there (length graph) place i there);
}

-- one vertex more is noted
noted_more : (graph : List Vertex) (done : ℕ) (vertex : Vertex) (users more : List (List ℕ))
    → Noted graph done users → slice_get graph done ≡ Some vertex → length more ≡ length users
    → ((place i : ℕ) → Contains (get_or users place []) i → Contains (get_or more place []) i)
    → ((place i : ℕ) → Contains (get_or more place []) i → Contains (get_or users place []) i ⊎ (done ≡ i))
    → ((place : ℕ) → LeadsTo vertex place → Contains (get_or more place []) done)
    → Noted graph (done + 1) more
noted_more graph done vertex users more noted there same keeps cases leads = record {
  count = same ∙ noted.count;
  listed = λ i found place below held to.
      elim (cases_eq i done) [
        | inl now ↦
            (let held_now : slice_get graph done ≡ Some found = subst (λ (n : ℕ). slice_get graph n ≡ Some found) now held in
            let is_vertex : found ≡ vertex = same_Some found vertex (sym held_now ∙ there) in
            subst (λ (n : ℕ). Contains (get_or more place []) n) (sym now) (leads place (subst (λ (v : Vertex). LeadsTo v place) is_vertex to)))
        | inr before ↦ keeps place i (noted.listed i found place (omega (arith, before, below)) held to)
      ];
  within = λ place i held.
      elim (cases place i held) [
        | inl old ↦ omega (arith, noted.within place i old)
        | inr new ↦ omega (arith, new)
      ];
}

noted_letter : (graph : List Vertex) (done next : ℕ) (users : List (List ℕ)) → next < length users
    → Noted graph done users → slice_get graph done ≡ Some (Letter next) → Noted graph (done + 1) (with_user users next done)
noted_letter graph done next users within noted there =
    noted_more graph done (Letter next) users (with_user users next done) noted there (length-set users next _)
    (λ place i held. stays users next done place i within held)
    (λ place i held. listed_cases users next done place i within held)
    (λ place leads. subst (λ (p : ℕ). Contains (get_or (with_user users next done) p []) done) leads (added users next done within))

noted_choice : (graph : List Vertex) (done low high : ℕ) (users : List (List ℕ)) → low < length users → high < length users
    → Noted graph done users → slice_get graph done ≡ Some (Choice low high) → Noted graph (done + 1) (with_user (with_user users low done) high done)
noted_choice graph done low high users in_low in_high noted there =
    let first = with_user users low done in
    let in_first : high < length first = rw (length-set users low (get_or users low [] ++ done ∷ [])) in_high in
    noted_more graph done (Choice low high) users (with_user first high done) noted there (length-set first high _ ∙ length-set users low _)
    (λ place i held. stays first high done place i in_first (stays users low done place i in_low held))
    (λ place i held.
    elim (listed_cases first high done place i in_first held) [
      | inl old ↦ listed_cases users low done place i in_low old
      | inr new ↦ inr new
    ])
    (λ place leads.
    elim leads [
      | inl is_low ↦
          stays first high done place done in_first (subst (λ (p : ℕ). Contains (get_or first p []) done) is_low (added users low done in_low))
      | inr is_high ↦ subst (λ (p : ℕ). Contains (get_or (with_user first high done) p []) done) is_high (added first high done in_first)
    ])

pub noted_vertex : (graph : List Vertex) (done : ℕ) (vertex : Vertex) (users : List (List ℕ)) → IsClosed graph → Noted graph done users
    → slice_get graph done ≡ Some vertex → Noted graph (done + 1) (with_users users vertex done)
noted_vertex graph done Goal users closed noted there =
    noted_more graph done Goal users users noted there refl (λ place i held. held) (λ place i held. inl held) (λ place leads. absurd leads)
noted_vertex graph done (Letter next) users closed noted there =
    noted_letter graph done next users (rw noted.count (closed done (Letter next) there next refl)) noted there
noted_vertex graph done (Choice low high) users closed noted there =
    noted_choice graph done low high users (rw noted.count (closed done (Choice low high) there low (inl refl))) (rw noted.count (closed done (Choice low high) there high (inr refl))) noted there

-- once all are noted
pub lists_users : (graph : List Vertex) (users : List (List ℕ)) → Noted graph (length graph) users → ListsUsers graph users
lists_users graph users noted = record {
  count = noted.count;
  listed = λ i vertex place there leads. noted.listed i vertex place (slice_get_within graph i vertex there) there leads;
  within = noted.within;
}
