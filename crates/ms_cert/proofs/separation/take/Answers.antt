use Rattle.std.proofs.Common.{◌≡◌, ◌↔◌, ◌<◌, ℕ, IsTrue, List, [], ◌∷◌, ◌++◌, length, slice_get, slice_index_or, Some, sym, ap, subst, ◌∙◌}
use Rattle.std.proofs.lemmas.Option.{same_Some, slice_get-get_or}
use Rattle.ms_arena.proofs.Lists.{slice_get-push}
use Rattle.ms_dfa.specs.Files.{content_of_file}
use Rattle.ms_cert.specs.inner.Partition.{classes_of}
use Rattle.ms_cert.specs.inner.Separation.{AreWaiting, lists_of}
use Rattle.ms_cert.proofs.ListLemmas.{get-item}
use Rattle.ms_cert.proofs.SeparationLemmas.{takes-leaf}
use Rattle.ms_cert.proofs.WaitingLemmas.{lists-more, members-are, waiting-front}
use Rattle.ms_cert.proofs.separation.take.Goals as goal

-- the class that waits last is there
within-last : (members : List (List ℕ)) (all front : List ℕ) (class : ℕ) → AreWaiting members all → all ≡ front ++ class ∷ [] → class < length members
within-last members all front class are parts = are.within (length front) class (ap (λ (w : List ℕ). slice_get w (length front)) parts ∙ slice_get-push front class)

pub splitter_of-splitter-requires-clause-states : goal.splitter_of-splitter-requires-clause-states
splitter_of-splitter-requires-clause-states c =
    let parts = classes_of c.args.partition.now in
    let class = c.in-Some.class in
    let within = within-last parts.members c.args.waiting.now.items c.pop.new.self.items class c.requires.waiting c.in-Some.ensures.items in
    members-are c.args.file.now.plain.now parts c.requires.partition class c.slice-states.result.now (get-item parts.members class c.index-in-By.result.now within c.index-in-By.ensures ∙ ap Some (sym c.slice-states.ensures))

pub returns-in-At-clause-waiting : goal.returns-in-At-clause-waiting
returns-in-At-clause-waiting c _ =
    let members = c.args.partition.now.members.items in
    waiting-front members c.pop.new.self.items c.in-Some.class (subst (AreWaiting members) c.in-Some.ensures.items c.requires.waiting)

pub returns-in-At-clause-takes : goal.returns-in-At-clause-takes
returns-in-At-clause-takes c =
    let members = c.args.partition.now.members.items in
    let front = c.pop.new.self.items in
    let class = c.in-Some.class in
    let own = c.in-At.own in
    let states = slice_index_or members class [] in
    let within = within-last members c.args.waiting.now.items front class c.requires.waiting c.in-Some.ensures.items in
    let seen : c.slice.result.now ≡ states = c.slice.ensures ∙ same_Some c.index.result.now states (sym (get-item members class c.index.result.now within c.index.ensures) ∙ slice_get-get_or members class [] within) in
    let told = subst (λ (s : List ℕ). IsTrue c.is_only.result ↔ (s ≡ own ∷ [])) seen c.is_only.ensures in
    takes-leaf (content_of_file c.args.file.now.plain.now) c.args.line.now own (lists_of members c.args.waiting.now.items) (lists_of members front) states c.is_only.result c.in-At.is
    (ap (lists_of members) c.in-Some.ensures.items ∙ lists-more members front class) told
