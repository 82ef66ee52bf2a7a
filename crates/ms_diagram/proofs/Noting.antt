-- What is left to note, the next task first.
use Rattle.std.proofs.Common.{◌≡◌, ℕ, nat_eq, true, false, List, [], ◌∷◌, ◌++◌, length, slice_get, fold, reverse, Some, sym, ap, subst, ◌∙◌, append_assoc}
use Rattle.std.proofs.lemmas.List.{reverse-append}
use Rattle.std.specs.List.{list_any}
use Rattle.indexmap.specs.IndexSet.{insert_key}
use Rattle.ms_arena.specs.declared.node.Ref.TheVariants.{Leaf, Inner}
use Rattle.ms_arena.specs.declared.node.Node.{Node}
use Rattle.ms_arena.specs.Diagram.{IsValid, IsOrdered}
use Rattle.ms_arena.specs.Leaves.{leaves_within}
use Rattle.ms_arena.proofs.Ends.{end_valid}
use Rattle.ms_diagram.specs.declared.leaves.Task.{Task}
use Rattle.ms_diagram.specs.declared.leaves.Task.TheVariants.{Follow, Note}
use Rattle.ms_diagram.specs.Leaves.{noted, KnowsAll, KnowsPlaces}
use Rattle.ms_diagram.proofs.LeavesLemmas.{leaves_within-node, leaves_within-leaf, noted-append, noted-known, KnowsAll-noted, KnowsPlaces-kept, KnowsPlaces-insert, KnowsPlaces-there}

-- the leaves that are left to note
abbrev pub leaves_ahead : List Node → List Task → List ℕ
leaves_ahead nodes [] = []
leaves_ahead nodes (Follow root ∷ tasks) = leaves_within nodes (length nodes) root ++ leaves_ahead nodes tasks
leaves_ahead nodes (Note place ∷ tasks) = leaves_ahead nodes tasks

-- each place is noted behind its leaves
abbrev pub IsReady : List Node → List ℕ → List Task → Type 0
IsReady nodes seen [] = Unit {0}
IsReady nodes seen (Follow root ∷ tasks) = IsValid nodes root × IsReady nodes (fold noted seen (leaves_within nodes (length nodes) root)) tasks
IsReady nodes seen (Note place ∷ tasks) = KnowsAll seen (leaves_within nodes (length nodes) (Inner place)) × IsReady nodes seen tasks

-- with what is left, all is noted
pub record IsNoting (nodes : List Node) (all seen places : List ℕ) (tasks : List Task) : Type 0 where
  pub comes : fold noted seen (leaves_ahead nodes tasks) ≡ all
  pub known : KnowsPlaces nodes seen places
  pub ready : IsReady nodes seen tasks

pub noting_popped : (nodes : List Node) (all seen places : List ℕ) (tasks rest : List Task) (task : Task) → IsNoting nodes all seen places (reverse tasks)
    → tasks ≡ rest ++ task ∷ [] → IsNoting nodes all seen places (task ∷ reverse rest)
noting_popped nodes all seen places tasks rest task noting is =
    subst (λ (list : List Task). IsNoting nodes all seen places list) (ap (λ (list : List Task). reverse list) is ∙ reverse-append rest (task ∷ [])) noting

module _ (nodes : List Node) (all seen places : List ℕ) (rest : List Task) where
  pub noting_leaf : (value : ℕ) (new : List ℕ) → new ≡ insert_key nat_eq seen value → IsNoting nodes all seen places (Follow (Leaf value) ∷ rest) → IsNoting nodes all new places rest
  noting_leaf value new is noting =
      let own = leaves_within-leaf nodes (length nodes) value in
      subst (λ list. IsNoting nodes all list places rest) (sym is) (record {
        comes = ap (λ xs. fold noted seen (xs ++ leaves_ahead nodes rest)) (sym own) ∙ noting.comes;
        known = KnowsPlaces-kept nodes seen (value ∷ []) places noting.known;
        ready = subst (λ xs. IsReady nodes (fold noted seen xs) rest) own noting.ready.1;
      })

  pub noting_known : (place : ℕ) → list_any (nat_eq place) places ≡ true → IsNoting nodes all seen places (Follow (Inner place) ∷ rest) → IsNoting nodes all seen places rest
  noting_known place there noting =
      let leaves = leaves_within nodes (length nodes) (Inner place) in
      let same = noted-known seen leaves (KnowsPlaces-there nodes seen places place noting.known there) in
      record {
        comes = ap (λ list. fold noted list (leaves_ahead nodes rest)) (sym same) ∙ sym (noted-append seen leaves (leaves_ahead nodes rest)) ∙ noting.comes;
        known = noting.known;
        ready = subst (λ list. IsReady nodes list rest) same noting.ready.1;
      }

  pub noting_opened : IsOrdered nodes → (place : ℕ) (node : Node) → slice_get nodes place ≡ Some node → IsNoting nodes all seen places (Follow (Inner place) ∷ rest)
      → IsNoting nodes all seen places (Follow node.low ∷ Follow node.high ∷ Note place ∷ rest)
  noting_opened ordered place node held noting =
      let own = leaves_within nodes (length nodes) (Inner place) in
      let low = leaves_within nodes (length nodes) node.low in
      let high = leaves_within nodes (length nodes) node.high in
      let ahead = leaves_ahead nodes rest in
      let ends = leaves_within-node nodes ordered place node held in
      let both = ap (fold noted seen) ends ∙ noted-append seen low high in
      record {
        comes = ap (fold noted seen) (sym (append_assoc low high ahead) ∙ ap (λ xs. xs ++ ahead) (sym ends)) ∙ noting.comes;
        known = noting.known;
        ready = (
          end_valid nodes ordered place node held false,
          (
            end_valid nodes ordered place node held true,
            (
              subst (λ list. KnowsAll list own) both (KnowsAll-noted seen own),
              subst (λ list. IsReady nodes list rest) both noting.ready.1,
            ),
          ),
        );
      }

  pub noting_place : (place : ℕ) (new : List ℕ) → new ≡ insert_key nat_eq places place → IsNoting nodes all seen places (Note place ∷ rest) → IsNoting nodes all seen new rest
  noting_place place new is noting = record {
    comes = noting.comes;
    known = KnowsPlaces-insert nodes seen places new place noting.known noting.ready.0 is;
    ready = noting.ready.1;
  }

pub noting_pushed : (nodes : List Node) (all seen places : List ℕ) (rest tasks : List Task) (one two three : Task) → tasks ≡ rest ++ three ∷ two ∷ one ∷ []
    → IsNoting nodes all seen places (one ∷ two ∷ three ∷ reverse rest) → IsNoting nodes all seen places (reverse tasks)
noting_pushed nodes all seen places rest tasks one two three is noting =
    subst (λ (list : List Task). IsNoting nodes all seen places list) (sym (ap (λ (list : List Task). reverse list) is ∙ reverse-append rest (three ∷ two ∷ one ∷ []))) noting
