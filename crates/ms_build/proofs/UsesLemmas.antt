-- Which node is the last that uses another, and what has been built where others are let go.
use Rattle.std.proofs.Common.{◌≡◌, ℕ, ◌+◌, ◌<◌, ◌≤◌, List, [], ◌∷◌, ◌++◌, inl, inr, ⊎_elim, map, take, length, length-set, slice_index, slice_set, get_or, Some, refl, sym, ap, subst, ◌∙◌, arith}
use Rattle.std.specs.Option.{option_map}
use Rattle.std.proofs.lemmas.Bool.{cases_eq}
use Rattle.std.proofs.lemmas.Option.{slice_get_within, slice_get-get_or, slice_get-map}
use Rattle.std.proofs.lemmas.List.Elements.{Contains-append_cases}
use Rattle.ms_arena.proofs.Lists.{slice_get-set_other}
use Rattle.ms_dag.specs.declared.node.Child.{Child}
use Rattle.ms_dag.specs.declared.dag.SharedRoot.{SharedRoot}
use Rattle.ms_dag.specs.Share.{children_of_roots}
use Rattle.ms_logic_words.specs.declared.sign.Sign.{Sign}
use Rattle.ms_logic_words.specs.Content.{Content}
use Rattle.ms_build.specs.declared.plan.Plan.{Plan}
use Rattle.ms_build.specs.Built.{AreBuiltFor, IsUsedFrom, entries_of, roots_of}
use Rattle.ms_build.proofs.ManyLemmas.{take_next}
use Rattle.ms_build.specs.inner.Uses.{AreLastUses, AreNotedUses}

-- of no nodes, nothing is noted
pub noted_none : (last : List ℕ) (step : ℕ) → AreNotedUses last last [] step
noted_none last step = record { count = refl; kept = λ i. omega arith; noted = λ i is. absurd (let never = is.1 in omega (arith, never)) }

-- one node after others
pub noted_more : (one two three xs : List ℕ) (x step : ℕ) → AreNotedUses one two xs step → AreNotedUses two three (x ∷ []) step → AreNotedUses one three (xs ++ x ∷ []) step
noted_more one two three xs x step early late = record {
  count = late.count ∙ early.count;
  kept = λ i. let first = early.kept i in let then = late.kept i in omega (arith, first, then);
  noted = λ i is less.
      let same = early.count in
      let there : i < length two = omega (arith, less, same) in
      ⊎_elim (λ before. let first = early.noted i before less in let then = late.kept i in omega (arith, first, then)) (λ here. late.noted i here there) (Contains-append_cases xs (x ∷ []) i is);
}

-- the next node of a list
pub noted_next : (one two three list : List ℕ) (place x step : ℕ) → take (place + 1) list ≡ take place list ++ x ∷ [] → AreNotedUses one two (take place list) step → AreNotedUses two three (x ∷ []) step
    → AreNotedUses one three (take (place + 1) list) step
noted_next one two three list place x step next early late =
    subst (λ nodes. AreNotedUses one three nodes step) (sym next) (noted_more one two three (take place list) x step early late)

-- the first of the roots, and one more
pub root_next : (roots : List SharedRoot) (place : ℕ) (root : SharedRoot) → place < length roots → root ≡ get_or roots place root
    → take (place + 1) (map (λ (c : Child). c.node) (children_of_roots roots)) ≡ take place (map (λ (c : Child). c.node) (children_of_roots roots)) ++ root.child.node ∷ []
root_next roots place root less is =
    take_next (map (λ (c : Child). c.node) (children_of_roots roots)) place root.child.node
    (slice_get-map (λ (c : Child). c.node) (children_of_roots roots) place
    ∙ ap (option_map (λ (c : Child). c.node)) (slice_get-map (λ (r : SharedRoot). r.child) roots place ∙ ap (option_map (λ (r : SharedRoot). r.child)) (slice_get-get_or roots place root less ∙ ap Some (sym is))))

-- what no later node uses may be let go
pub let_go_of : (plan : Plan) (last : List ℕ) (built : List (Content Sign)) (node : ℕ) (small : Content Sign) → AreLastUses (entries_of plan) (roots_of plan) last → AreBuiltFor plan built
    → length built ≤ length (entries_of plan) → length (entries_of plan) ≤ 4294967295 → node < length built → slice_index last node < length built → AreBuiltFor plan (slice_set built node small)
let_go_of plan last built node small uses are some few within past i content held used = ⊎_elim
    (λ here. absurd (unused (subst (IsUsedFrom (entries_of plan) (roots_of plan) (length built)) here before)))
    (λ other. are i content (sym (slice_get-set_other built node i small other) ∙ held) before)
    (cases_eq i node)
  where
    before : IsUsedFrom (entries_of plan) (roots_of plan) (length built) i
    before = subst (λ count. IsUsedFrom (entries_of plan) (roots_of plan) count i) (length-set built node small) used

    there : node < length last
    there = let all = uses.all in omega (arith, all, some, within)

    unused : IsUsedFrom (entries_of plan) (roots_of plan) (length built) node → ⊥
    unused (inl root) = let end = uses.ends node root there in omega (arith, end, past, some, few)
    unused (inr (k, entry, from, at, child)) =
        let end = uses.children k entry node (slice_get_within (entries_of plan) k entry at) at child there in
        omega (arith, end, past, from)
